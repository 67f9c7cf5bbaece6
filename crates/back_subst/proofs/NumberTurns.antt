use Rattle.std.proofs.Common.{◌≡◌, ◌≢◌, ℕ, suc, ◌+◌, ◌<◌, ◌==◌, ◌||◌, ◌++◌, Bool, true, false, List, [], ◌∷◌, All, Option, Some, None, Ok, Err, drop}
use Rattle.std.proofs.Common.{get_or, length, reverse, slice_get, slice_set, IsSomeAnd, take, refl, sym, ap, ◌∙◌, subst, arith}
use Rattle.std.proofs.Math.Seq.{drop-cons}
use Rattle.std.proofs.lemmas.Bool.Decides.{Decides-eqb}
use Rattle.std.proofs.lemmas.List.{append_assoc, reverse-append, take_more}
use Rattle.fraction128.specs.Formulas.{ratio_of}
use Rattle.fraction128.specs.declared.fraction.Fraction.{Fraction}
use Rattle.edit_model.specs.Corrections as corrections
use Rattle.edit_model.specs.FieldSets.{has_number}
use Rattle.edit_model.specs.Parts.{SurveyParts}
use Rattle.edit_model.specs.Rows.{IsOfKind, value_of}
use Rattle.edit_model.specs.declared.field.Field.{Field}
use Rattle.edit_model.specs.declared.field.Kind.{Kind}
use Rattle.edit_model.specs.declared.field.Kind.TheVariants as kind
use Rattle.edit_model.specs.declared.value.Value.{Value}
use Rattle.edit_model.specs.declared.value.Value.TheVariants.{Bad, Number}
use Rattle.edit_line.specs.EditSets.{EditsParts}
use Rattle.edit_line.specs.Lines.{HaveShape}
use Rattle.edit_line.specs.Shapes.{IsNumerical, has_field, number_fields, shape_of}
use Rattle.edit_line.proofs.ShapeLaws.{same_fields}
use Rattle.edit_model.proofs.OrderLaws.{kind-there}
use Rattle.edit_model.proofs.RowLaws.{row-set}
use Rattle.edit_line.specs.declared.derived.Derived.{Derived}
use Rattle.linear_elim.specs.Systems.{chosen_fields, system, system_at, system_of}
use Rattle.linear_elim.proofs.SystemLaws.{chosen-numerical}
use Rattle.back_subst.specs.Allowed.{AllowsNumber}
use Rattle.back_subst.specs.Given.{IsGiven, number_in}
use Rattle.back_subst.specs.NumberWalk.{number_result}
use Rattle.back_subst.specs.inner.Systems.{start_lines, system_left}
use Rattle.back_subst.specs.inner.UnderWay.{AreComputedBy, AreDistinct, AreOrders, IsUnderWay, StopsAmong}
use Rattle.back_subst.proofs.FieldPoints.{number-at}
use Rattle.back_subst.proofs.GivenAlike.{computed-turn}
use Rattle.back_subst.proofs.NumberWalkLaws.{walked-number}
use Rattle.back_subst.proofs.OrderLaws.{chosen-rest, field-numerical, order-numerical, parted}
use Rattle.back_subst.proofs.SystemLines.{system-first}
use Rattle.back_subst.proofs.UnderWayLaws.{distinct-apart, distinct-part, own-there, way-turn}
use Rattle.back_subst.proofs.WalkLaws.{AllowsNumber-rows, IsGivenNumber-same, completes-rows, decide-turn, has-reverse, number-given}

-- One number more is given.

-- a numerical field may be given any number
pub number-kind : (fields : List Field) (f : ℕ) (x : Fraction) → has_field (number_fields (shape_of fields)) f ≡ true
    → IsSomeAnd (slice_get fields f) (λ (field : Field). IsOfKind field.kind (Number x))
number-kind fields f x there =
    by (slice_get fields f) (kind-there corrections.is_numerical fields f
    (ap (λ fs. has_field fs f) (same_fields (corrections.number_fields fields) fields (shape_of fields) refl refl) ∙ there))
  where
    of_kind : (k : Kind) → corrections.is_numerical k ≡ true → IsOfKind k (Number x)
    of_kind (kind.Number scale) is = tt
    of_kind (kind.Code codes) is = absurd (cc)

    by : (o : Option Field) → IsSomeAnd o (λ (field : Field). corrections.is_numerical field.kind ≡ true)
        → IsSomeAnd o (λ (field : Field). IsOfKind field.kind (Number x))
    by None is = absurd is
    by (Some field) is = of_kind field.kind is

-- ---- a turn of the loop over an order of numerical fields

module _ (survey : SurveyParts) (e : EditsParts) (codes order : List ℕ) (orders : AreOrders survey.fields codes order) (i : ℕ) (below : i < length order)
    (target : ℕ → Value) (row so_far : List Value) (given : List ℕ)
    (way : IsUnderWay survey (start_lines e) target row (given ++ take i order) (drop i order) so_far) where
  abbrev f : ℕ
  f = get_or order i 0

  abbrev rest : List ℕ
  rest = drop (suc i) order

  pub numerical-here : has_field (number_fields (shape_of survey.fields)) f ≡ true
  numerical-here = field-numerical survey.fields codes order (take i order) rest f orders (parted order i below)

  way-here : IsUnderWay survey (start_lines e) target row (given ++ take i order) (f ∷ rest) so_far
  way-here = subst (λ fs. IsUnderWay survey (start_lines e) target row (given ++ take i order) fs so_far) (drop-cons order i 0 below) way

  pub blank-here : value_of so_far f ≡ Bad
  blank-here = way-here.blank f (own-there f rest)

  pub within-here : f < length so_far
  within-here = (number-at survey.fields so_far f way.is_row numerical-here).1

  pub kind-here : (x : Fraction) → IsSomeAnd (slice_get survey.fields f) (λ (field : Field). IsOfKind field.kind (Number x))
  kind-here x = number-kind survey.fields f x numerical-here

  apart : has_field rest f ≡ false
  apart = (distinct-apart (given ++ take i order) rest f way-here.distinct).1

  -- the set of those that are left, without this field
  pub left-here : (old left : ℕ) → ((k : ℕ) → has_number old k ≡ has_field (drop i order) k) → has_number left f ≡ false
      → ((k : ℕ) → k ≢ f → has_number left k ≡ has_number old k) → (k : ℕ) → has_number left k ≡ has_field rest k
  left-here old left before out others k = by (f == k) refl
    where
      by : (b : Bool) → (f == k) ≡ b → has_number left k ≡ has_field rest k
      by true own = let same : f ≡ k = (Decides-eqb f k).0 own in ap (λ n. has_number left n) (sym same) ∙ out ∙ sym apart ∙ ap (λ n. has_field rest n) same
      by false own =
          others k (λ same. absurd (cc (sym own ∙ (Decides-eqb f k).1 (sym same)))) ∙ before k ∙ ap (λ fs. has_field fs k) (drop-cons order i 0 below)
          ∙ ap (λ b. b || has_field rest k) own

  module _ (shape_is : e.shape ≡ shape_of survey.fields) (left : ℕ) (left_is : (k : ℕ) → has_number left k ≡ has_field rest k) where
    chosen-is : chosen_fields (shape_of survey.fields) left ≡ reverse rest
    chosen-is = chosen-rest survey.fields codes order (take i order) rest f orders (parted order i below) left left_is

    system-is : system_left e left ≡ system (start_lines e) (reverse rest)
    system-is = ap (λ sh. system (start_lines e) (chosen_fields sh left)) shape_is ∙ ap (λ fs. system (start_lines e) fs) chosen-is

    -- no number of its system leaves the range
    pub system-here : (all : List Derived) → system_of e.lines (reverse order) ≡ Ok all → (lines : List Derived) × (system_at e left ≡ Ok lines)
    system-here all made =
        let (lines, is) = system-first e (reverse rest) (reverse (take i order ++ f ∷ [])) all (ap (λ fs. system_of e.lines fs) (sym reversed) ∙ made) in
        (lines, ap (λ sh. system_of e.lines (chosen_fields sh left)) shape_is ∙ ap (λ fs. system_of e.lines fs) chosen-is ∙ is)
      where
        reversed : reverse order ≡ reverse rest ++ reverse (take i order ++ f ∷ [])
        reversed = ap (λ fs. reverse fs) (parted order i below ∙ sym (append_assoc (take i order) (f ∷ []) rest)) ∙ reverse-append (take i order ++ f ∷ []) rest

    same-fields : (k : ℕ) → has_field (f ∷ reverse rest) k ≡ has_field (f ∷ rest) k
    same-fields k = ap (λ b. (f == k) || b) (has-reverse k rest)

    module _ (over : HaveShape (shape_of survey.fields) (start_lines e)) (x : Fraction)
        (found : number_result (system_left e left) so_far f (number_in (target f)) ≡ Ok (ratio_of x)) where
      given-here : IsGiven survey so_far (f ∷ rest) f (target f) (Number x)
      given-here =
          let (rests, nearest) = walked-number (system (start_lines e) (reverse rest)) so_far f (number_in (target f)) (ratio_of x)
          (ap (λ ls. number_result ls so_far f (number_in (target f))) (sym system-is) ∙ found) in
          IsGivenNumber-same (AllowsNumber survey so_far (f ∷ reverse rest) f) (AllowsNumber survey so_far (f ∷ rest) f) (number_in (target f)) (ratio_of x)
          (λ y above. AllowsNumber-rows survey (f ∷ reverse rest) (f ∷ rest) so_far so_far (λ k. sym (same-fields k)) (refl, λ k outside. refl) f y)
          (number-given survey (start_lines e) so_far way.is_row over f (reverse rest)
          (decide-turn survey (start_lines e) so_far so_far (f ∷ rest) (f ∷ reverse rest) way-here.decide refl (λ k outside. same-fields k ∙ outside)
          (λ k outside. refl))
          numerical-here (subst (λ fs. All (IsNumerical (shape_of survey.fields)) fs) chosen-is (chosen-numerical (shape_of survey.fields) left))
          (has-reverse f rest ∙ apart)
          way-here.point (completes-rows survey (f ∷ rest) (f ∷ reverse rest) so_far so_far same-fields (refl, λ k outside. refl) way-here.point
          way-here.completes) rests (number_in (target f)) (ratio_of x) nearest)

      -- each number is still what its system gives, and this one too
      pub computed-turned : AreComputedBy (start_lines e) target so_far (take i order) (drop i order)
          → AreComputedBy (start_lines e) target (slice_set so_far f (Number x)) (take (i + 1) order) (drop (i + 1) order)
      computed-turned computed =
          subst (λ n. AreComputedBy (start_lines e) target (slice_set so_far f (Number x)) (take (i + 1) order) (drop n order)) next
          (subst (λ fs. AreComputedBy (start_lines e) target (slice_set so_far f (Number x)) fs rest) (sym (take_more order i 0 below))
          (computed-turn survey (start_lines e) over target so_far way-here.is_row f rest x within-here (take i order) numerical-listed apart-done
          (subst (λ fs. AreComputedBy (start_lines e) target so_far (take i order) fs) (drop-cons order i 0 below) computed)
          (ap (λ ls. number_result ls so_far f (number_in (target f))) (sym system-is) ∙ found)))
        where
          next : suc i ≡ i + 1
          next = omega arith

          apart-done : has_field (take i order) f ≡ false
          apart-done = (distinct-apart (take i order) rest f
              (distinct-part given (take i order ++ f ∷ rest) (subst (λ fs. AreDistinct fs) (append_assoc given (take i order) (f ∷ rest))
              way-here.distinct))).0

          numerical-listed : (k : ℕ) → has_field (take i order ++ f ∷ rest) k ≡ true → has_field (number_fields (shape_of survey.fields)) k ≡ true
          numerical-listed k there = order-numerical survey.fields codes order orders k (ap (λ fs. has_field fs k) (parted order i below) ∙ there)

      -- the number is given
      pub number-turned : IsUnderWay survey (start_lines e) target row (given ++ take (i + 1) order) (drop (i + 1) order) (slice_set so_far f (Number x))
      number-turned =
          subst (λ n. IsUnderWay survey (start_lines e) target row (given ++ take (i + 1) order) (drop n order) (slice_set so_far f (Number x))) next
          (subst (λ fs. IsUnderWay survey (start_lines e) target row fs rest (slice_set so_far f (Number x)))
          (append_assoc given (take i order) (f ∷ []) ∙ ap (λ fs. given ++ fs) (sym (take_more order i 0 below)))
          (way-turn survey (start_lines e) target row so_far f rest (Number x) within-here (given ++ take i order) way-here given-here
          (row-set survey.fields so_far f (Number x) way.is_row (kind-here x))))
        where
          next : suc i ≡ i + 1
          next = omega arith

    -- or a number of it leaves the range
    pub number-stopped : (line : ℕ) → AreComputedBy (start_lines e) target so_far (take i order) (drop i order)
        → number_result (system_left e left) so_far f (number_in (target f)) ≡ Err line → StopsAmong survey (start_lines e) target row given order f line
    number-stopped line computed out = record {
      first = take i order;
      rest = rest;
      order_is = parted order i below;
      so_far = so_far;
      way = way-here;
      computed = subst (λ fs. AreComputedBy (start_lines e) target so_far (take i order) fs) (drop-cons order i 0 below) computed;
      stops = ap (λ ls. number_result ls so_far f (number_in (target f))) (sym system-is) ∙ out;
    }

-- after the last turn
pub numbers-end : (survey : SurveyParts) (e : EditsParts) (target : ℕ → Value) (row so_far : List Value) (given order : List ℕ) (i : ℕ)
    → take i order ≡ order → drop i order ≡ []
    → IsUnderWay survey (start_lines e) target row (given ++ take i order) (drop i order) so_far
    → IsUnderWay survey (start_lines e) target row (given ++ order) [] so_far
numbers-end survey e target row so_far given order i all none way =
    subst (λ fs. IsUnderWay survey (start_lines e) target row (given ++ fs) [] so_far) all
    (subst (λ fs. IsUnderWay survey (start_lines e) target row (given ++ take i order) fs so_far) none way)
