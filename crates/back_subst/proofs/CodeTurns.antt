use Rattle.std.proofs.Common.{◌≡◌, ◌≢◌, ℕ, zero, suc, ◌+◌, ◌<◌, ◌==◌, ◌^◌, ◌||◌, ◌++◌, Bool, true, false, if◌then◌else◌, List, [], ◌∷◌, All, Ok, drop}
use Rattle.std.proofs.Common.{get_or, length, reverse, slice_get, slice_set, IsSomeAnd, take, pos, refl, sym, ap, ◌∙◌, subst, arith}
use Rattle.std.proofs.Math.Seq.{drop-cons}
use Rattle.std.proofs.lemmas.Bool.Decides.{Decides-eqb}
use Rattle.std.proofs.lemmas.List.{append_assoc, take-append-drop, take_more}
use Rattle.edit_line.specs.inner.LineFields.{IsCategorical}
use Rattle.edit_model.proofs.NameLemmas.{false_unless}
use Rattle.edit_model.specs.Parts.{SurveyParts}
use Rattle.edit_model.specs.Rows.{IsOfKind, value_of}
use Rattle.edit_model.specs.declared.field.Field.{Field}
use Rattle.edit_model.specs.declared.field.Kind.{Kind}
use Rattle.edit_model.specs.declared.field.Kind.TheVariants as kind
use Rattle.edit_model.specs.declared.value.Value.{Value}
use Rattle.edit_model.specs.declared.value.Value.TheVariants.{Bad, Code}
use Rattle.edit_line.specs.CodeFields.{TakesCodes, size_from, size_of}
use Rattle.edit_line.specs.Lines.{HaveShape, LineParts, factor}
use Rattle.edit_line.specs.Reductions.{IsIn, lines_of}
use Rattle.edit_line.specs.Shapes.{Categorical, Domain, IsNumerical, Numerical, code_fields, domain_of, has_field, number_fields, shape_of}
use Rattle.edit_line.specs.declared.derived.Derived.{Derived}
use Rattle.edit_line.proofs.BoolLaws.{or_true}
use Rattle.edit_line.proofs.FactorLaws.{factor-numerical}
use Rattle.edit_line.proofs.FieldLists.{there-has}
use Rattle.edit_line.proofs.ShapeLaws.{HasCodes-shape}
use Rattle.edit_model.proofs.RowLaws.{row-set}
use Rattle.edit_line.proofs.Members.{all-in, in-all}
use Rattle.derivation.proofs.CoverLaws.{code-below}
use Rattle.linear_elim.specs.Systems.{system}
use Rattle.linear_elim.proofs.SystemLaws.{HaveShape-system}
use Rattle.linear_elim.proofs.FlatLaws.{system-flat}
use Rattle.categ_combine.specs.Covers.{cover_count}
use Rattle.categ_combine.specs.FailingBoxes.{failing_boxes}
use Rattle.edit_line.proofs.FieldLists.{has-append, has-left}
use Rattle.back_subst.specs.Allowed.{AllowsCode, Completes}
use Rattle.back_subst.specs.Given.{IsGiven, IsGivenCode}
use Rattle.back_subst.specs.inner.Bounds.{DecideFor}
use Rattle.back_subst.specs.inner.Codes.{AreCountableBut, IsFree, boxes_for}
use Rattle.back_subst.specs.inner.UnderWay.{AreBlankBut, AreCodesToGive, IsUnderWay}
use Rattle.edit_model.specs.RowPoints.{code_in}
use Rattle.back_subst.proofs.CodeLaws.{absent-joined}
use Rattle.back_subst.proofs.CodeOrder.{SettlesAlike, other-before, same-left, settled-alike}
use Rattle.linear_elim.proofs.PointLaws.{number-no_code}
use Rattle.back_subst.proofs.FieldPoints.{agrees-held, code-at}
use Rattle.back_subst.proofs.FreeCodes.{allowed-free}
use Rattle.back_subst.proofs.OrderLaws.{order-categorical, order-numerical, parted}
use Rattle.back_subst.proofs.RowSums.{boxes-same}
use Rattle.linear_elim.proofs.ShapeLaws.{derived-shape}
use Rattle.back_subst.proofs.UnderWayLaws.{distinct-apart, own-there, way-turn}
use Rattle.back_subst.proofs.WalkLaws.{AllowsCode-rows, IsGivenCode-same, code-given, completes-rows, decide-turn, has-reverse}

-- One code more is given.

no-size : (f i : ℕ) (shape : List Domain) → f < i → size_from i shape f ≡ 0
no-size f i [] below = refl
no-size f i (Numerical ∷ shape) below = no-size f (suc i) shape (omega arith)
no-size f i (Categorical k ∷ shape) below =
    ap (λ b. if b then k else size_from (suc i) shape f) (false_unless (i == f) (λ e. let same : i ≡ f = (Decides-eqb i f).0 e in absurd (omega arith)))
    ∙ no-size f (suc i) shape (omega arith)

-- a categorical field may be given any of its codes
code-kind-from : (code i f : ℕ) (fields : List Field) → code < size_from i (shape_of fields) (i + f)
    → IsSomeAnd (slice_get fields f) (λ (field : Field). IsOfKind field.kind (Code code))
code-kind-from code i f [] there = absurd (omega arith)
code-kind-from code i zero (field ∷ fields) there = by field.kind there
  where
    own : (i + 0) ≡ i
    own = omega arith

    by : (k : Kind) → code < size_from i (domain_of k ∷ shape_of fields) (i + 0) → IsOfKind k (Code code)
    by (kind.Number scale) h = absurd (omega (arith, h, later))
      where
        later : size_from (suc i) (shape_of fields) (i + 0) ≡ 0
        later = no-size (i + 0) (suc i) (shape_of fields) (omega arith)
    by (kind.Code codes) h =
        subst (λ b. code < (if b then length codes else size_from (suc i) (shape_of fields) (i + 0))) ((Decides-eqb i (i + 0)).1 (sym own)) h
code-kind-from code i (suc f) (field ∷ fields) there =
    code-kind-from code (suc i) f fields (subst (λ n. code < size_from (suc i) (shape_of fields) n) next (by field.kind there))
  where
    next : i + suc f ≡ suc i + f
    next = omega arith

    apart : (i == (i + suc f)) ≡ false
    apart = false_unless (i == (i + suc f)) (λ e. let same : i ≡ i + suc f = (Decides-eqb i (i + suc f)).0 e in absurd (omega arith))

    by : (k : Kind) → code < size_from i (domain_of k ∷ shape_of fields) (i + suc f) → code < size_from (suc i) (shape_of fields) (i + suc f)
    by (kind.Number scale) h = h
    by (kind.Code codes) h = subst (λ b. code < (if b then length codes else size_from (suc i) (shape_of fields) (i + suc f))) apart h

pub code-kind : (fields : List Field) (f code : ℕ) → code < size_of (shape_of fields) f
    → IsSomeAnd (slice_get fields f) (λ (field : Field). IsOfKind field.kind (Code code))
code-kind fields f code below = code-kind-from code 0 f fields (subst (λ n. code < size_of (shape_of fields) n) own below)
  where
    own : f ≡ 0 + f
    own = omega arith

-- ---- a turn of the loop over an order of categorical fields

module _ (survey : SurveyParts) (target : ℕ → Value) (lines : List Derived) (order : List ℕ) (start : List Value)
    (t : AreCodesToGive survey target (lines_of lines) order start) (i : ℕ) (below : i < length order) (so_far : List Value)
    (way : IsUnderWay survey t.edits target t.row (take i order) (drop i order ++ t.numbers) so_far) where
  abbrev shape : List Domain
  shape = shape_of survey.fields

  abbrev g : ℕ
  g = get_or order i 0

  abbrev before : List ℕ
  before = drop (suc i) order

  abbrev numbers : List ℕ
  numbers = reverse t.numbers

  way-here : IsUnderWay survey t.edits target t.row (take i order) (g ∷ (before ++ t.numbers)) so_far
  way-here = subst (λ fs. IsUnderWay survey t.edits target t.row (take i order) (fs ++ t.numbers) so_far) (drop-cons order i 0 below) way

  listed : (k : ℕ) → has_field (g ∷ before) k ≡ true → has_field order k ≡ true
  listed k there =
      ap (λ fs. has_field fs k) (parted order i below) ∙ has-append k (take i order) (g ∷ before) ∙ ap (λ b. has_field (take i order) k || b) there
      ∙ or_true (has_field (take i order) k)

  categorical : (k : ℕ) → has_field (g ∷ before) k ≡ true → has_field (code_fields shape) k ≡ true
  categorical k there = order-categorical survey.fields order t.numbers t.orders k (listed k there)

  pub categorical-here : has_field (code_fields shape) g ≡ true
  categorical-here = categorical g (own-there g before)

  numerical : (k : ℕ) → has_field t.numbers k ≡ true → has_field (number_fields shape) k ≡ true
  numerical k there = order-numerical survey.fields order t.numbers t.orders k there

  pub within-here : g < length so_far
  within-here = (code-at survey.fields so_far g way.is_row categorical-here).1

  kind-here : (code : ℕ) → code < size_of shape g → IsSomeAnd (slice_get survey.fields g) (λ (field : Field). IsOfKind field.kind (Code code))
  kind-here code fits = code-kind survey.fields g code fits

  held-here : (k : ℕ) → k < length so_far → has_field (g ∷ (before ++ t.numbers)) k ≡ false → value_of so_far k ≢ Bad
  held-here k within absent = agrees-held so_far way-here.point k (way-here.completes.agrees k within absent)

  -- each categorical field has a code
  pub takes-codes : (k : ℕ) → IsCategorical shape k → TakesCodes shape k
  takes-codes k there = let fits = code-below shape way-here.point k there
      (HasCodes-shape 0 survey.fields way-here.point way-here.completes.correction.codes) in omega (arith, fits)

  pub shapes-here : All (λ (d : Derived). d.line.shape ≡ shape) lines
  shapes-here = derived-shape shape lines (subst (λ ls. HaveShape shape ls) (sym t.lines_are) (HaveShape-system shape t.edits numbers t.over))

  -- a line of the system reads no field that is changed
  reads-kept : (line : LineParts) → IsIn line (lines_of lines) → (k : ℕ) → factor line k ≢ pos 0 → value_of so_far k ≡ value_of t.row k
  reads-kept line there k some =
      let at = subst (λ ls. IsIn line ls) t.lines_are there in
      let is : line.shape ≡ shape = in-all (λ l. l.shape ≡ shape) line (system t.edits numbers)
      (λ j e j_below. (HaveShape-system shape t.edits numbers t.over j e j_below).same) at in
      let number = subst (λ (s : List Domain). has_field (number_fields s) k ≡ true) is (factor-numerical line k some) in
      way.keeps k (absent number (false_unless (has_field t.numbers k)
      (λ e. some (in-all (λ l. factor l k ≡ pos 0) line (system t.edits numbers)
      (system-flat shape t.edits numbers k t.over (has-reverse k t.numbers ∙ e)) at))))
    where
      absent : has_field (number_fields shape) k ≡ true → has_field t.numbers k ≡ false → has_field (take i order ++ (drop i order ++ t.numbers)) k ≡ false
      absent number outside =
          ap (λ fs. has_field fs k) (sym (append_assoc (take i order) (drop i order) t.numbers) ∙ ap (λ fs. fs ++ t.numbers) (take-append-drop i order))
          ∙ has-append k order t.numbers
          ∙ ap (λ b. b || has_field t.numbers k) (false_unless (has_field order k)
          (λ e. absurd (cc (sym (order-categorical survey.fields order t.numbers t.orders k e) ∙ number-no_code k 0 shape number)))) ∙ outside

  -- a field that is not changed has the value that it had
  kept-value : (k : ℕ) → has_field (code_fields shape) k ≡ true → has_field order k ≡ false → value_of so_far k ≡ value_of t.row k
  kept-value k there absent =
      way.keeps k (ap (λ fs. has_field fs k) (sym (append_assoc (take i order) (drop i order) t.numbers)
      ∙ ap (λ fs. fs ++ t.numbers) (take-append-drop i order))
      ∙ absent-joined k order t.numbers absent (false_unless (has_field t.numbers k) (λ e. absurd (cc (sym there ∙ number-no_code k 0 shape (numerical k e))))))

  -- so its boxes are those of the record before values were given
  boxes-here : failing_boxes (lines_of lines) so_far ≡ Ok t.boxes
  boxes-here = boxes-same t.row so_far 0 (lines_of lines) [] reads-kept ∙ t.made

  -- the record is Bad exactly at the categorical fields that are left
  blank-here : AreBlankBut shape so_far before g
  blank-here k there apart = (
    λ left. way-here.blank k (ap (λ b. (g == k) || b) (has-append k before t.numbers ∙ ap (λ b. b || has_field t.numbers k) left) ∙ or_true (g == k)),
    λ bad. by (has_field before k) refl bad,
  )
    where
      other : (g == k) ≡ false
      other = false_unless (g == k) (λ e. absurd (cc (sym apart ∙ (Decides-eqb k g).1 (sym ((Decides-eqb g k).0 e)))))

      no_number : has_field t.numbers k ≡ false
      no_number = false_unless (has_field t.numbers k) (λ e. absurd (cc (sym there ∙ number-no_code k 0 shape (numerical k e))))

      by : (b : Bool) → has_field before k ≡ b → value_of so_far k ≡ Bad → b ≡ true
      by true e bad = refl
      by false e bad =
          absurd (held-here k (code-at survey.fields so_far k way.is_row there).1
          (ap (λ b. b || has_field (before ++ t.numbers) k) other ∙ absent-joined k before t.numbers e no_number) bad)

  -- each categorical field that is left is eliminated with few pairs
  few-here : AreCountableBut shape so_far before g t.boxes
  few-here first rest k are other left =
      subst (λ bs. cover_count shape bs k < 2 ^ 64) (settled-alike shape t.row so_far order before g first t.boxes alike)
      (t.few first rest k are (listed k (ap (λ b. (g == k) || b) left ∙ or_true (g == k))))
    where
      apart : has_field before g ≡ false
      apart =
          false_unless (has_field before g) (λ e. absurd (cc
          (sym (distinct-apart (take i order) (before ++ t.numbers) g way-here.distinct).1 ∙ has-left g before t.numbers e)))

      alike : (j : ℕ) → has_field first j ≡ true → SettlesAlike shape t.row so_far order before g j
      alike j there = record {
        other = other-before survey.fields order t.numbers t.orders (take i order) g before (parted order i below) apart first k rest are left j there;
        left = same-left survey.fields order t.numbers t.orders (take i order) g before (parted order i below) apart first k rest are left j there;
        kept = λ absent. kept-value j (ap (λ fs. has_field fs j) are ∙ has-left j first (k ∷ rest) there) absent;
      }

  same-fields : (k : ℕ) → has_field (g ∷ (before ++ numbers)) k ≡ has_field (g ∷ (before ++ t.numbers)) k
  same-fields k =
      ap (λ b. (g == k) || b) (has-append k before numbers ∙ ap (λ b. has_field before k || b) (has-reverse k t.numbers) ∙ sym (has-append k before t.numbers))

  -- ---- a code is allowed

  decide-here : DecideFor survey t.edits so_far (g ∷ (before ++ numbers))
  decide-here =
      decide-turn survey t.edits so_far so_far (g ∷ (before ++ t.numbers)) (g ∷ (before ++ numbers)) way-here.decide refl
      (λ k outside. same-fields k ∙ outside) (λ k outside. refl)

  completes-here : Completes survey so_far (g ∷ (before ++ numbers)) way-here.point
  completes-here =
      completes-rows survey (g ∷ (before ++ t.numbers)) (g ∷ (before ++ numbers)) so_far so_far same-fields (refl, λ k outside. refl) way-here.point
      way-here.completes

  before-categorical : (k : ℕ) → has_field before k ≡ true → IsCategorical shape k
  before-categorical k there = categorical k (ap (λ b. (g == k) || b) there ∙ or_true (g == k))

  all-numbers : (fs : List ℕ) → ((k : ℕ) → has_field fs k ≡ true → has_field (number_fields shape) k ≡ true) → All (IsNumerical shape) (reverse fs)
  all-numbers fs each = all-in (IsNumerical shape) (reverse fs) (λ k there. each k (sym (has-reverse k fs) ∙ there-has k (reverse fs) there))

  -- so some code is free
  pub some-here : (left : List ℕ) × AreBlankBut shape so_far left g × (boxes : List (List ℕ)) × (failing_boxes (lines_of lines) so_far ≡ Ok boxes)
      × AreCountableBut shape so_far left g boxes
      × ((code : ℕ) × IsFree shape (boxes_for shape so_far left g boxes) g code)
  some-here = (
    before,
    blank-here,
    t.boxes,
    boxes-here,
    few-here,
    (
      way-here.point.code g,
      (allowed-free survey t.edits so_far g before numbers way.is_row t.over decide-here categorical-here (all-numbers t.numbers numerical)
          before-categorical lines t.lines_are t.boxes boxes-here way-here.point completes-here (way-here.point.code g)).0
          (way-here.point, completes-here, refl),
    ),
  )

  -- a code that is found is one of the field's
  pub kind-found : (target code : ℕ) (boxes : List (List ℕ))
      → ((left : List ℕ) → AreBlankBut shape so_far left g → IsGivenCode (IsFree shape (boxes_for shape so_far left g boxes) g) target code)
      → IsSomeAnd (slice_get survey.fields g) (λ (field : Field). IsOfKind field.kind (Code code))
  kind-found target code boxes free = kind-here code (free before blank-here).is_allowed.0

  -- the code is given
  pub code-turned : (code : ℕ) (boxes : List (List ℕ)) → failing_boxes (lines_of lines) so_far ≡ Ok boxes
      → ((left : List ℕ) → AreBlankBut shape so_far left g → IsGivenCode (IsFree shape (boxes_for shape so_far left g boxes) g) (code_in (target g)) code)
      → IsUnderWay survey t.edits target t.row (take (i + 1) order) (drop (i + 1) order ++ t.numbers) (slice_set so_far g (Code code))
  code-turned code boxes made free =
      let found = free before blank-here in
      subst (λ n. IsUnderWay survey t.edits target t.row (take (i + 1) order) (drop n order ++ t.numbers) (slice_set so_far g (Code code))) next
      (subst (λ fs. IsUnderWay survey t.edits target t.row fs (before ++ t.numbers) (slice_set so_far g (Code code))) (sym (take_more order i 0 below))
      (way-turn survey t.edits target t.row so_far g (before ++ t.numbers) (Code code) within-here (take i order) way-here (given found)
      (row-set survey.fields so_far g (Code code) way.is_row (kind-here code found.is_allowed.0))))
    where
      next : suc i ≡ i + 1
      next = omega arith

      given : IsGivenCode (IsFree shape (boxes_for shape so_far before g boxes) g) (code_in (target g)) code
          → IsGiven survey so_far (g ∷ (before ++ t.numbers)) g (target g) (Code code)
      given found =
          IsGivenCode-same (AllowsCode survey so_far (g ∷ (before ++ numbers)) g) (AllowsCode survey so_far (g ∷ (before ++ t.numbers)) g)
          (code_in (target g)) code
          (AllowsCode-rows survey (g ∷ (before ++ numbers)) (g ∷ (before ++ t.numbers)) so_far so_far (λ k. sym (same-fields k)) (refl, λ k outside. refl) g)
          (code-given survey t.edits so_far way.is_row t.over g before numbers decide-here categorical-here (all-numbers t.numbers numerical)
          before-categorical lines t.lines_are boxes made way-here.point completes-here (code_in (target g)) code found)

-- after the last turn
pub codes-end : (survey : SurveyParts) (target : ℕ → Value) (lines : List Derived) (order : List ℕ) (start so_far : List Value)
    (t : AreCodesToGive survey target (lines_of lines) order start) (i : ℕ) → take i order ≡ order → drop i order ≡ []
    → IsUnderWay survey t.edits target t.row (take i order) (drop i order ++ t.numbers) so_far → IsUnderWay survey t.edits target t.row order t.numbers so_far
codes-end survey target lines order start so_far t i all none way =
    subst (λ fs. IsUnderWay survey t.edits target t.row fs t.numbers so_far) all
    (subst (λ fs. IsUnderWay survey t.edits target t.row (take i order) (fs ++ t.numbers) so_far) none way)
