use Rattle.std.proofs.Common.{◌≡◌, ◌≢◌, ◌↔◌, inl, inr, ℕ, suc, ◌<◌, ◌==◌, ◌||◌, ◌&&◌, not, Bool, true, false, if◌then◌else◌, List, [], ◌∷◌, ◌++◌, All}
use Rattle.std.proofs.Common.{Result, Ok, Err, length, ℤ, pos, ◌*ℤ◌, refl, sym, ap, ◌∙◌, subst, arith}
use Rattle.std.specs.List.{list_any}
use Rattle.std.proofs.lemmas.Bool.Decides.{Decides-eqb}
use Rattle.edit_line.specs.inner.LineFields.{HasNumbers, IsCategorical}
use Rattle.foundation.specs.Results.{◌>>=◌, fault_as}
use Rattle.edit_model.specs.Parts.{SurveyParts}
use Rattle.edit_model.specs.Points.{HasCodesFrom, IsInDomain, Point}
use Rattle.edit_model.specs.RowPoints.{Agrees}
use Rattle.edit_model.specs.Rows.{IsRow, value_of}
use Rattle.edit_model.specs.Trials.{IsNumberValue}
use Rattle.edit_model.specs.declared.field.Field.{Field}
use Rattle.edit_model.specs.declared.field.Kind.{Kind}
use Rattle.edit_model.specs.declared.field.Kind.TheVariants as kind
use Rattle.edit_model.specs.declared.value.Value.{Value}
use Rattle.edit_line.specs.CodeFields.{size_of, with_code_at}
use Rattle.edit_line.specs.Lines.{AllHold, HaveShape, LineParts, factor}
use Rattle.edit_line.specs.Reductions.{IsIn, lines_of}
use Rattle.edit_line.specs.Shapes.{Categorical, Domain, HasCodes, IsNumerical, Numerical, code_fields, codes_from, domain_of, has_field}
use Rattle.edit_line.specs.Shapes.{number_fields, shape_of}
use Rattle.edit_line.specs.Sums.{AgreesOnLine, fails_at}
use Rattle.edit_line.specs.declared.derived.Derived.{Derived}
use Rattle.edit_line.proofs.Members.{all-in, in-all, in-taken}
use Rattle.edit_line.proofs.ShapeLaws.{HasCodes-shape}
use Rattle.linear_elim.specs.Systems.{system}
use Rattle.linear_elim.proofs.SystemLaws.{HaveShape-system, system-follows, system-lifts}
use Rattle.categ_combine.specs.BoxLists.{Avoids, with_box}
use Rattle.categ_combine.specs.FailingBoxes.{boxes_from, failing_boxes, line_fault}
use Rattle.categ_combine.proofs.AvoidLaws.{failing-avoids}
use Rattle.categ_combine.proofs.CoverLaws.{HaveSets}
use Rattle.derivation.proofs.CoverLaws.{code-below}
use Rattle.edit_line.specs.Sets.{are_subsets}
use Rattle.back_subst.specs.Allowed.{AgreesBut, AllowsCode, Completes}
use Rattle.back_subst.specs.inner.Bounds.{DecideFor}
use Rattle.back_subst.specs.inner.Codes.{boxes_for}
use Rattle.back_subst.specs.inner.UnderWay.{AreDistinct}
use Rattle.back_subst.proofs.CodeDomains.{HasCodes-same, HasCodes-with, code-other, code-own}
use Rattle.edit_line.proofs.FactorLaws.{factor-numerical}
use Rattle.linear_elim.proofs.PointLaws.{no_code-before}
use Rattle.linear_elim.proofs.PointLaws.{number-no_code}
use Rattle.back_subst.proofs.FieldPoints.{Agrees-carried, SameNumber, SameNumber-trans, absent-apart, agrees-held, code-at, number-at, number-listed}
use Rattle.back_subst.proofs.NumberLaws.{code-agreed}
use Rattle.edit_line.proofs.FactorLaws.{at-factors}
use Rattle.back_subst.proofs.SettledBoxes.{HasCodesOf, IsLifted, settled-holds, settled-lifts}
use Rattle.linear_elim.proofs.FlatLaws.{system-flat}

-- The codes that a field may be given are those that no box has, after the other fields are settled.

-- ---- lists
pub absent-left : (f : ℕ) (xs ys : List ℕ) → has_field (xs ++ ys) f ≡ false → (has_field xs f ≡ false) × (has_field ys f ≡ false)
absent-left f [] ys h = (refl, h)
absent-left f (x ∷ xs) ys h = by (x == f) h (absent-left f xs ys)
  where
    by : (b : Bool) → (b || has_field (xs ++ ys) f) ≡ false → (has_field (xs ++ ys) f ≡ false → (has_field xs f ≡ false) × (has_field ys f ≡ false))
        → ((b || has_field xs f) ≡ false) × (has_field ys f ≡ false)
    by true h rest = absurd (cc)
    by false h rest = rest h

pub absent-joined : (f : ℕ) (xs ys : List ℕ) → has_field xs f ≡ false → has_field ys f ≡ false → has_field (xs ++ ys) f ≡ false
absent-joined f [] ys h i = i
absent-joined f (x ∷ xs) ys h i = by (x == f) h (λ k. absent-joined f xs ys k i)
  where
    by : (b : Bool) → (b || has_field xs f) ≡ false → (has_field xs f ≡ false → has_field (xs ++ ys) f ≡ false) → (b || has_field (xs ++ ys) f) ≡ false
    by true h rest = absurd (cc)
    by false h rest = rest h

pub distinct-from : (i : ℕ) (shape : List Domain) → AreDistinct (codes_from i shape)
distinct-from i [] = tt
distinct-from i (Numerical ∷ shape) = distinct-from (suc i) shape
distinct-from i (Categorical k ∷ shape) = (no_code-before i (suc i) shape (omega arith), distinct-from (suc i) shape)

-- ---- each box of a record is the sets of a line
boxes-each : (P : List ℕ → Type 0) (i : ℕ) (lines : List LineParts) (row : List Value) (kept boxes : List (List ℕ))
    → ((l : LineParts) → IsIn l lines → P l.sets) → ((b : List ℕ) → IsIn b kept → P b)
    → boxes_from i lines row kept ≡ Ok boxes → (b : List ℕ) → IsIn b boxes → P b
boxes-each P i [] row kept boxes each all e = λ b there. let same : kept ≡ boxes = cc in all b (subst (λ bs. IsIn b bs) (sym same) there)
boxes-each P i (line ∷ lines) row kept boxes each all e =
    by (fails_at line row) e (λ kept' all' made. boxes-each P (suc i) lines row kept' boxes (λ l there. each l (inr there)) all' made)
  where
    taken : (b : List ℕ) → IsIn b (with_box kept line.sets) → P b
    taken b there = elim (in-taken (list_any (λ c. are_subsets line.sets c) kept) (λ c. not (are_subsets c line.sets)) b line.sets kept there) [
      | inl old ↦ all b old
      | inr same ↦ subst P (sym same) (each line (inl refl))
    ]

    by : (t : Result Bool ℕ) → (fault_as (line_fault i) t >>= (λ fails. boxes_from (suc i) lines row (if fails then with_box kept line.sets else kept)))
        ≡ Ok boxes
        → ((kept' : List (List ℕ)) → ((b : List ℕ) → IsIn b kept' → P b) → boxes_from (suc i) lines row kept' ≡ Ok boxes → (b : List ℕ) → IsIn b boxes
        → P b) → (b : List ℕ) → IsIn b boxes → P b
    by (Err f) made rest = absurd (cc)
    by (Ok true) made rest = rest (with_box kept line.sets) taken made
    by (Ok false) made rest = rest kept all made

-- codes of their domains, for the survey's fields
HasCodes-fields : (i : ℕ) (fields : List Field) (p : Point) → HasCodes i (shape_of fields) p → HasCodesFrom i fields p
HasCodes-fields i [] p held = tt
HasCodes-fields i (field ∷ fields) p held = by field.kind (HasCodes-fields (suc i) fields p) held
  where
    by : (k : Kind) → (HasCodes (suc i) (shape_of fields) p → HasCodesFrom (suc i) fields p) → HasCodes i (domain_of k ∷ shape_of fields) p
        → IsInDomain k (p.code i) × HasCodesFrom (suc i) fields p
    by (kind.Number scale) rest h = (tt, rest h)
    by (kind.Code codes) rest h = (h.0, rest h.1)

module _ (survey : SurveyParts) (edits : List LineParts) (row : List Value) (g : ℕ) (before numbers : List ℕ)
    (is_row : IsRow survey.fields row) (over : HaveShape (shape_of survey.fields) edits) (decide : DecideFor survey edits row (g ∷ (before ++ numbers)))
    (categorical : IsCategorical (shape_of survey.fields) g) (all_numbers : All (IsNumerical (shape_of survey.fields)) numbers)
    (all_codes : (i : ℕ) → has_field before i ≡ true → IsCategorical (shape_of survey.fields) i)
    (derived : List Derived) (derived_are : lines_of derived ≡ system edits numbers) (boxes : List (List ℕ))
    (made : failing_boxes (lines_of derived) row ≡ Ok boxes)
    (p : Point) (completes : Completes survey row (g ∷ (before ++ numbers)) p) where
  abbrev shape : List Domain
  shape = shape_of survey.fields

  held : HasCodes 0 shape p
  held = HasCodes-shape 0 survey.fields p completes.correction.codes

  shapes : (line : LineParts) → IsIn line (system edits numbers) → line.shape ≡ shape
  shapes line there = in-all (λ l. l.shape ≡ shape) line (system edits numbers) (λ k d below. (HaveShape-system shape edits numbers over k d below).same) there

  pub have_sets : HaveSets shape boxes
  have_sets =
      boxes-each (λ b. length b ≡ length (code_fields shape)) 0 (lines_of derived) row [] boxes
      (λ l there. in-all (λ k. length k.sets ≡ length (code_fields shape)) l (system edits numbers)
      (λ k d below. (HaveShape-system shape edits numbers over k d below).sets) (subst (λ ls. IsIn l ls) derived_are there)) (λ b none. absurd none) made

  apart-code : (i : ℕ) → has_field (code_fields shape) i ≡ true → has_field numbers i ≡ false
  apart-code i there = by (has_field numbers i) refl
    where
      by : (b : Bool) → has_field numbers i ≡ b → b ≡ false
      by false e = refl
      by true e = absurd (cc (sym there ∙ number-no_code i 0 shape (number-listed shape numbers i all_numbers e)))

  apart-number : (i : ℕ) → has_field (number_fields shape) i ≡ true → has_field numbers i ≡ false → has_field (g ∷ (before ++ numbers)) i ≡ false
  apart-number i there outside = by (g == i) refl (has_field before i) refl
    where
      by : (a : Bool) → (g == i) ≡ a → (b : Bool) → has_field before i ≡ b → (a || has_field (before ++ numbers) i) ≡ false
      by true e b h =
          absurd (cc (sym (subst (λ j. has_field (code_fields shape) j ≡ true) ((Decides-eqb g i).0 e) categorical) ∙ number-no_code i 0 shape there))
      by false e true h = absurd (cc (sym (all_codes i h) ∙ number-no_code i 0 shape there))
      by false e false h = absent-joined i before numbers h outside

  -- ---- the numbers that stand in a line of the system
  stands : (line : LineParts) → IsIn line (system edits numbers) → (i : ℕ) → factor line i ≢ pos 0
      → (has_field (number_fields shape) i ≡ true) × (has_field numbers i ≡ false)
  stands line there i some =
      (subst (λ (s : List Domain). has_field (number_fields s) i ≡ true) (shapes line there) (factor-numerical line i some), by (has_field numbers i) refl)
    where
      by : (b : Bool) → has_field numbers i ≡ b → b ≡ false
      by false e = refl
      by true e = absurd (some (in-all (λ l. factor l i ≡ pos 0) line (system edits numbers) (system-flat shape edits numbers i over e) there))

  at_lines : (P : LineParts → Type 0) → ((l : LineParts) → IsIn l (system edits numbers) → P l) → All (λ (d : Derived). P d.line) derived
  at_lines P each = all-in (λ (d : Derived). P d.line) derived (λ d there. each d.line (subst (λ ls. IsIn d.line ls) derived_are (in-lines d derived there)))
    where
      in-lines : (d : Derived) (ds : List Derived) → IsIn d ds → IsIn d.line (lines_of ds)
      in-lines d [] none = absurd none
      in-lines d (e ∷ ds) (inl same) = inl (ap (λ (x : Derived). x.line) same)
      in-lines d (e ∷ ds) (inr there) = inr (in-lines d ds there)

  have_numbers : All (λ (d : Derived). HasNumbers row d.line) derived
  have_numbers = at_lines (λ l. HasNumbers row l) (λ l there. at-factors (λ f. IsNumberValue (value_of row f)) l (λ i some.
      let (number, outside) = stands l there i some in
      let (of_number, within) = number-at survey.fields row i is_row number in
      of_number (agrees-held row p i (completes.agrees i within (apart-number i number outside)))))

  -- a point that agrees with the record at the numerical fields that are kept
  avoids-holds : (q : Point) → ((i : ℕ) → has_field (number_fields shape) i ≡ true → has_field numbers i ≡ false → Agrees row q i)
      → AllHold (system edits numbers) q ↔ Avoids shape boxes q
  avoids-holds q agrees =
      let law = failing-avoids shape row q derived boxes (at_lines (λ l. l.shape ≡ shape) shapes) have_numbers
      (at_lines (λ l. AgreesOnLine row q l) (λ l there. at-factors (λ f. Agrees row q f) l
      (λ i some. let (number, outside) = stands l there i some in agrees i number outside))) made in
      (λ hold. law.0 (subst (λ ls. AllHold ls q) (sym derived_are) hold), λ avoids. subst (λ ls. AllHold ls q) derived_are (law.1 avoids))

  -- ---- the record's codes at the fields that are kept
  kept-absent : (i : ℕ) → has_field (code_fields shape) i ≡ true → (i == g) ≡ false → has_field before i ≡ false → has_field (g ∷ (before ++ numbers)) i ≡ false
  kept-absent i there apart outside =
      ap (λ b. b || has_field (before ++ numbers) i) (turned apart) ∙ absent-joined i before numbers outside (apart-code i there)
    where
      turned : (i == g) ≡ false → (g == i) ≡ false
      turned e = by (g == i) refl
        where
          by : (b : Bool) → (g == i) ≡ b → b ≡ false
          by false h = refl
          by true h = absurd (cc (sym e ∙ (Decides-eqb i g).1 (sym ((Decides-eqb g i).0 h))))

  kept-code : (q : Point) → AgreesBut (g ∷ (before ++ numbers)) row q → HasCodesOf shape row before g (code_fields shape) q
  kept-code q agrees i there apart outside =
      let (of_code, within) = code-at survey.fields row i is_row there in
      let here = agrees i within (kept-absent i there apart outside) in
      code-agreed (value_of row i) q i (of_code (agrees-held row q i here)) here

  -- p with the code
  abbrev with_it : ℕ → Point
  with_it code = with_code_at p g code

  pub allowed-avoids : (code : ℕ) → AllowsCode survey row (g ∷ (before ++ numbers)) g code
      → (code < size_of shape g) × Avoids shape (boxes_for shape row before g boxes) (with_it code)
  allowed-avoids code (q, completes_q, is) =
      let q_held : HasCodes 0 shape q = HasCodes-shape 0 survey.fields q completes_q.correction.codes in
      let fits : code < size_of shape g = subst (λ c. c < size_of shape g) is (code-below shape q g categorical q_held) in
      let free : Avoids shape boxes q =
      (avoids-holds q (λ i number outside. completes_q.agrees i (number-at survey.fields row i is_row number).1 (apart-number i number outside))).0
      (system-follows shape edits numbers q over (decide.complete q completes_q.correction completes_q.agrees)) in (
        fits,
        settled-holds shape row before g (code_fields shape) boxes q (with_it code) have_sets (λ i there. there) (distinct-from 0 shape) q_held
            (HasCodes-with shape p g code fits held) (kept-code q completes_q.agrees)
            (λ j there settled. at j there (j == g) refl settled) free,
      )
    where
      at : (j : ℕ) → has_field (code_fields shape) j ≡ true → (b : Bool) → (j == g) ≡ b → (has_field (code_fields shape) j && not b) ≡ false
          → (if b then code else p.code j) ≡ q.code j
      at j there true e settled = sym is ∙ ap (λ k. q.code k) (sym ((Decides-eqb j g).0 e))
      at j there false e settled = absurd (cc (sym settled ∙ ap (λ b. b && true) there))

  pub avoids-allowed : (code : ℕ) → code < size_of shape g → Avoids shape (boxes_for shape row before g boxes) (with_it code)
      → AllowsCode survey row (g ∷ (before ++ numbers)) g code
  avoids-allowed code fits avoids =
      let (q, is) = settled-lifts shape row before g (code_fields shape) boxes (with_it code) have_sets (λ i there. there) (distinct-from 0 shape)
      (HasCodes-with shape p g code fits held)
      (λ i there apart outside. subst (λ c. c < size_of shape i) (kept-code p completes.agrees i there apart outside) (code-below shape p i there held))
      avoids in
      let hold : AllHold (system edits numbers) q = (avoids-holds q (λ i number outside.
      Agrees-carried row p q i (number_code q is i number) (same_number q is i)
      (completes.agrees i (number-at survey.fields row i is_row number).1 (apart-number i number outside)))).1 is.avoids in
      let (r, differs, same_codes, at_r) = system-lifts shape edits numbers q over hold in (
        r,
        record {
          correction = decide.sound r (HasCodes-fields 0 survey.fields r (HasCodes-same shape q r (λ j there. same_codes j) is.held)) at_r;
          agrees = λ i within absent. Agrees-carried row p r i (same_codes i ∙ code_of q is i absent)
              (SameNumber-trans p q r i (same_number q is i) (differs.numbers i (absent-apart i numbers (absent-left i before numbers (tail i absent)).1)))
              (completes.agrees i within absent);
        },
        same_codes g ∙ is.others g (own (has_field (code_fields shape) g)) ∙ code-own p g code,
      )
    where
      Lifted : Point → Type 0
      Lifted q = IsLifted shape row before g (code_fields shape) boxes (with_it code) q

      own : (b : Bool) → (b && not (g == g)) ≡ false
      own b = ap (λ c. b && not c) ((Decides-eqb g g).1 refl) ∙ none b
        where
          none : (b : Bool) → (b && false) ≡ false
          none true = refl
          none false = refl

      tail : (i : ℕ) → has_field (g ∷ (before ++ numbers)) i ≡ false → has_field (before ++ numbers) i ≡ false
      tail i h = by (g == i) h
        where
          by : (b : Bool) → (b || has_field (before ++ numbers) i) ≡ false → has_field (before ++ numbers) i ≡ false
          by true h = absurd (cc)
          by false h = h

      same_number : (q : Point) → Lifted q → (i : ℕ) → SameNumber p q i
      same_number q is i = ap (λ (z : ℤ). z *ℤ p.denominator) (is.numbers i) ∙ ap (λ (z : ℤ). p.numerator i *ℤ z) (sym is.over)

      -- the codes of fields that are not g and not left
      code_of : (q : Point) → Lifted q → (i : ℕ) → has_field (g ∷ (before ++ numbers)) i ≡ false → q.code i ≡ p.code i
      code_of q is i absent = by (has_field (code_fields shape) i) refl
        where
          apart : (i == g) ≡ false
          apart = at (i == g) refl
            where
              at : (b : Bool) → (i == g) ≡ b → b ≡ false
              at false e = refl
              at true e = absurd (cc (sym absent ∙ ap (λ b. b || has_field (before ++ numbers) i) ((Decides-eqb g i).1 (sym ((Decides-eqb i g).0 e)))))

          by : (b : Bool) → has_field (code_fields shape) i ≡ b → q.code i ≡ p.code i
          by true there =
              let outside = (absent-left i before numbers (tail i absent)).0 in
              is.agrees i there apart outside ∙ sym (kept-code p completes.agrees i there apart outside)
          by false none = is.others i (ap (λ b. b && not (i == g)) none) ∙ code-other p g code i apart

      number_code : (q : Point) → Lifted q → (i : ℕ) → has_field (number_fields shape) i ≡ true → q.code i ≡ p.code i
      number_code q is i number =
          let none = number-no_code i 0 shape number in
          is.others i (ap (λ b. b && not (i == g)) none) ∙ code-other p g code i (at (i == g) refl)
        where
          at : (b : Bool) → (i == g) ≡ b → b ≡ false
          at false e = refl
          at true e = absurd (cc (sym (number-no_code i 0 shape number) ∙ ap (λ j. has_field (code_fields shape) j) ((Decides-eqb i g).0 e) ∙ categorical))

  -- where some correction completes the record, a code of the field is allowed exactly where the record's codes with it avoid the
  -- boxes after the other fields are settled
  pub allowed-code : (code : ℕ) → AllowsCode survey row (g ∷ (before ++ numbers)) g code ↔
      ((code < size_of shape g) × Avoids shape (boxes_for shape row before g boxes) (with_it code))
  allowed-code code = (allowed-avoids code, λ h. avoids-allowed code h.0 h.1)
