use Rattle.std.proofs.Common.{◌≡◌, ◌≢◌, inl, inr, ℕ, suc, ◌<◌, ◌==◌, ◌||◌, Bool, true, false, if◌then◌else◌, List, [], ◌∷◌, Option, Some, None}
use Rattle.std.proofs.Common.{Result, length, reverse, slice_set, pos, refl, sym, ap, ◌∙◌, subst, arith}
use lib.IntN.{neg_ℤ}
use Rattle.std.proofs.lemmas.Bool.Decides.{Decides-eqb}
use Rattle.std.specs.Option.{ok_or}
use Rattle.std.specs.Result.{result_ok}
use Rattle.foundation.specs.Results.{◌>>=◌}
use Rattle.foundation.specs.Options.{◌>>?◌}
use Rattle.fraction128.specs.Formulas.{Ratio, divided}
use Rattle.edit_model.proofs.NameLemmas.{false_unless}
use Rattle.edit_model.specs.Parts.{SurveyParts}
use Rattle.edit_model.specs.RowPoints.{code_in}
use Rattle.edit_model.specs.Rows.{IsRow, value_of}
use Rattle.edit_model.specs.declared.value.Value.{Value}
use Rattle.edit_model.specs.declared.value.Value.TheVariants.{Bad}
use Rattle.edit_line.specs.CodeFields.{codes_in}
use Rattle.edit_line.specs.Lines.{HaveShape, LineParts, factor}
use Rattle.edit_line.specs.Reductions.{IsIn}
use Rattle.edit_line.specs.Shapes.{Domain, code_fields, has_field, number_fields, shape_of}
use Rattle.edit_line.specs.Sums.{whole}
use Rattle.edit_line.proofs.FactorLaws.{at-factors}
use Rattle.edit_line.proofs.Members.{in-all}
use Rattle.linear_elim.specs.Systems.{system}
use Rattle.linear_elim.proofs.FlatLaws.{system-flat}
use Rattle.linear_elim.proofs.PointLaws.{map-agree, number-no_code}
use Rattle.linear_elim.proofs.SystemLaws.{HaveShape-system}
use Rattle.back_subst.specs.NumberWalk.{FoundBounds, bound_at, bounds_from, is_bounding, nearest_found, no_bounds, number_result, with_bound}
use Rattle.back_subst.proofs.FieldPoints.{number-at}
use Rattle.back_subst.proofs.Rests.{value-other, value-set}
use Rattle.back_subst.proofs.RowSums.{sum-same}
use Rattle.back_subst.proofs.WalkLaws.{SameBut, has-reverse}

-- Two records with the same values where the lines of a system read them give a field the same number.

module _ (row new : List Value) where
  -- the line reads the same of both, beside a field
  record ReadsSame (line : LineParts) (f : ℕ) : Type 0 where
    pub codes : codes_in line.shape new ≡ codes_in line.shape row
    pub values : (k : ℕ) → factor line k ≢ pos 0 → value_of (slice_set new f Bad) k ≡ value_of (slice_set row f Bad) k

  bound-same : (line : LineParts) (f : ℕ) → ReadsSame line f → bound_at line new f ≡ bound_at line row f
  bound-same line f same =
      ap (λ (r : Result Ratio ℕ). (result_ok r >>? (λ rest. divided rest (neg_ℤ (factor line f)))))
      (sum-same (slice_set row f Bad) (slice_set new f Bad) (number_fields line.shape) line.factors (whole line.constant)
      (at-factors (λ k. value_of (slice_set new f Bad) k ≡ value_of (slice_set row f Bad) k) line same.values))

  bounding-same : (line : LineParts) (f : ℕ) → ReadsSame line f → is_bounding line new f ≡ is_bounding line row f
  bounding-same line f same = rw same.codes refl

  abbrev after : List Value → ℕ → ℕ → LineParts → List LineParts → FoundBounds → Bool → Option Ratio → Result FoundBounds ℕ
  after values f i line lines ends b o =
      if b then (ok_or o i >>= (λ at. bounds_from (suc i) lines values f (with_bound ends line f at i))) else bounds_from (suc i) lines values f ends

  ends-same : (f i : ℕ) (lines : List LineParts) (ends : FoundBounds) → ((line : LineParts) → IsIn line lines → ReadsSame line f)
      → bounds_from i lines new f ends ≡ bounds_from i lines row f ends
  ends-same f i [] ends same = refl
  ends-same f i (line ∷ lines) ends same =
      ap (λ b. after new f i line lines ends b (bound_at line new f)) (bounding-same line f (same line (inl refl)))
      ∙ ap (λ o. after new f i line lines ends (is_bounding line row f) o) (bound-same line f (same line (inl refl)))
      ∙ by (is_bounding line row f) (bound_at line row f) (λ e. ends-same f (suc i) lines e (λ l there. same l (inr there)))
    where
      by : (b : Bool) (o : Option Ratio) → ((e : FoundBounds) → bounds_from (suc i) lines new f e ≡ bounds_from (suc i) lines row f e)
          → after new f i line lines ends b o ≡ after row f i line lines ends b o
      by true None rest = refl
      by true (Some at) rest = rest (with_bound ends line f at i)
      by false o rest = rest ends

-- ---- the system without numerical fields reads none of them

module _ (survey : SurveyParts) (edits : List LineParts) (over : HaveShape (shape_of survey.fields) edits) (f : ℕ) (left : List ℕ)
    (number : has_field (number_fields (shape_of survey.fields)) f ≡ true)
    (numbers : (k : ℕ) → has_field left k ≡ true → has_field (number_fields (shape_of survey.fields)) k ≡ true) (row new : List Value)
    (is_row : IsRow survey.fields row) (same : SameBut (f ∷ left) row new) where
  abbrev shape : List Domain
  shape = shape_of survey.fields

  codes-same : codes_in shape new ≡ codes_in shape row
  codes-same =
      map-agree (λ k. code_in (value_of new k)) (λ k. code_in (value_of row k)) (code_fields shape)
      (λ k there. ap (λ (v : Value). code_in v) (same.1 k (no_number k there)))
    where
      no_number : (k : ℕ) → has_field (code_fields shape) k ≡ true → has_field (f ∷ left) k ≡ false
      no_number k there = false_unless (has_field (f ∷ left) k) (λ e. absurd (cc (sym there ∙ number-no_code k 0 shape (by (f == k) refl e))))
        where
          by : (b : Bool) → (f == k) ≡ b → (b || has_field left k) ≡ true → has_field (number_fields shape) k ≡ true
          by true own h = ap (λ n. has_field (number_fields shape) n) (sym ((Decides-eqb f k).0 own)) ∙ number
          by false own h = numbers k h

  reads : (line : LineParts) → IsIn line (system edits (reverse left)) → ReadsSame row new line f
  reads line there = record {
    codes = ap (λ s. codes_in s new) is ∙ codes-same ∙ ap (λ s. codes_in s row) (sym is);
    values = λ k some. by k (f == k) refl (false_unless (has_field left k) (λ e. absurd (some (flat k e))));
  }
    where
      is : line.shape ≡ shape
      is =
          in-all (λ l. l.shape ≡ shape) line (system edits (reverse left)) (λ j e below. (HaveShape-system shape edits (reverse left) over j e below).same)
          there

      flat : (k : ℕ) → has_field left k ≡ true → factor line k ≡ pos 0
      flat k e =
          in-all (λ l. factor l k ≡ pos 0) line (system edits (reverse left)) (system-flat shape edits (reverse left) k over (has-reverse k left ∙ e)) there

      within : f < length row
      within = (number-at survey.fields row f is_row number).1

      by : (k : ℕ) (b : Bool) → (f == k) ≡ b → has_field left k ≡ false → value_of (slice_set new f Bad) k ≡ value_of (slice_set row f Bad) k
      by k true own none =
          let at : f ≡ k = (Decides-eqb f k).0 own in
          subst (λ n. value_of (slice_set new f Bad) n ≡ value_of (slice_set row f Bad) n) at
          (value-set new f Bad (omega (arith, within, same.0)) ∙ sym (value-set row f Bad within))
      by k false own none =
          let apart : f ≢ k = λ at. absurd (cc (sym own ∙ (Decides-eqb f k).1 at)) in
          value-other new f k Bad apart ∙ same.1 k (ap (λ b. b || has_field left k) own ∙ none) ∙ sym (value-other row f k Bad apart)

  -- so it gives the field the same number, or none at the same line
  pub same-number : (target : Ratio) → number_result (system edits (reverse left)) new f target ≡ number_result (system edits (reverse left)) row f target
  same-number target =
      ap (λ (r : Result FoundBounds ℕ). (r >>= (λ ends. nearest_found ends target))) (ends-same row new f 0 (system edits (reverse left)) no_bounds reads)
