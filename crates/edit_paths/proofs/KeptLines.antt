use Rattle.std.proofs.Common.{◌≡◌, ◌≢◌, ◌&&◌, ℕ, ◌≤◌, Bool, true, false, not, List, All, Ok, length, pos, refl, sym, ap, ◌∙◌, subst}
use Rattle.std.specs.Cmp.Lexicographic.{same_text}
use Rattle.std.specs.List.{filter}
use Rattle.edit_line.specs.inner.LineFields.{HasNumbers}
use Rattle.edit_model.specs.Corrections.{differs_from, path_order}
use Rattle.edit_model.specs.FieldSets.{has_number}
use Rattle.edit_model.specs.Points.{Point}
use Rattle.edit_model.specs.RowPoints.{Agrees}
use Rattle.edit_model.specs.Rows.{is_bad, value_of}
use Rattle.edit_model.specs.declared.value.Value.{Value}
use Rattle.edit_model.specs.declared.value.Value.TheVariants.{Bad, Code, Number}
use Rattle.edit_model.proofs.FieldSetLaws.{has-set_of}
use Rattle.edit_model.proofs.RowLaws.{was-bad}
use Rattle.edit_line.specs.Boxes.{are_whole}
use Rattle.edit_line.specs.Lines.{HasShape, LineHolds, LineParts, amount, factor}
use Rattle.edit_line.specs.Reductions.{IsIn, lines_of}
use Rattle.edit_line.specs.Sets.{AreCodesIn}
use Rattle.edit_line.specs.Shapes.{Domain, HasCodes, IsNumerical, codes_at, has_field, number_fields, shape_of, whole_sets}
use Rattle.edit_line.specs.Sums.{AgreesOnLine, fails_at}
use Rattle.edit_line.specs.declared.derived.Derived.{Derived}
use Rattle.edit_line.proofs.BoolLaws.{and_true}
use Rattle.edit_line.proofs.Enough.{is_enough-Decides}
use Rattle.edit_line.proofs.FactorLaws.{at-factors, factor-numerical, only-AtFactors, only-passes}
use Rattle.edit_line.proofs.FieldLists.{has-filter, has-there, there-has}
use Rattle.edit_line.proofs.Members.{all-in, any-in, in-all, in-any, in-filter, in-filter-out, in-map}
use Rattle.edit_line.proofs.PointCodes.{wholes-inside}
use Rattle.edit_line.proofs.SetLaws.{both_true, is_inside-Decides}
use Rattle.edit_line.proofs.SumCallers.{numbers-held}
use Rattle.edit_line.proofs.SumLaws.{fails_at-truth}
use Rattle.linear_elim.specs.Systems.{system_of}
use Rattle.bound_cert.specs.Paths.{changes, keeps, keeps_bad, kept_set}
use Rattle.edit_paths.specs.Cases.{SearchCase, IsCase, Meets}
use Rattle.edit_paths.specs.Paths.{AgreesAlong, changed_numbers, number_count}
use Rattle.edit_paths.specs.States.{asks_kept}
use Rattle.edit_paths.proofs.CaseSystems.{system-flat, system-follows, system-over}
use Rattle.edit_paths.proofs.LetterLaws.{number-field, numbers-treated}

-- The fields that a path keeps, and the lines of its system that ask something of them alone.

held : (v : Value) → v ≢ Bad → not (is_bad v) ≡ true
held Bad is = absurd (is refl)
held (Code k) is = refl
held (Number x) is = refl

module _ (c : SearchCase) (is : IsCase c) (path : List Bool) where
  abbrev shape : List Domain
  shape = shape_of c.survey.fields

  -- ---- kept fields

  -- a kept field has a value
  pub kept-held : keeps_bad c.survey.fields c.row path ≡ false → (f : ℕ) → has_field (path_order c.survey.fields) f ≡ true → keeps c.survey.fields path f ≡ true
      → value_of c.row f ≢ Bad
  kept-held none f there kept bad =
      cc
      (sym none
      ∙ any-in (λ f. keeps c.survey.fields path f && is_bad (value_of c.row f)) f (path_order c.survey.fields) (has-there f (path_order c.survey.fields) there)
      (ap (λ b. b && is_bad (value_of c.row f)) kept ∙ ap (λ (v : Value). is_bad v) bad))

  -- the set of the kept fields with values has just those that the path keeps
  pub kept-number : keeps_bad c.survey.fields c.row path ≡ false → (f : ℕ) → has_field (path_order c.survey.fields) f ≡ true
      → has_number (kept_set c.survey.fields c.row path) f ≡ keeps c.survey.fields path f
  kept-number none f there =
      has-set_of (filter (λ f. keeps c.survey.fields path f && not (is_bad (value_of c.row f))) (path_order c.survey.fields)) f
      ∙ has-filter (λ f. keeps c.survey.fields path f && not (is_bad (value_of c.row f))) f (path_order c.survey.fields) there
      ∙ by (keeps c.survey.fields path f) refl
    where
      by : (b : Bool) → keeps c.survey.fields path f ≡ b → (b && not (is_bad (value_of c.row f))) ≡ b
      by true kept = held (value_of c.row f) (kept-held none f there kept)
      by false kept = refl

  -- no point agrees with a field that has none
  pub bad-differs : keeps_bad c.survey.fields c.row path ≡ true → (q : Point) → AgreesAlong c path q → ⊥
  bad-differs some q agrees =
      let (f, there, both) = in-any (λ f. keeps c.survey.fields path f && is_bad (value_of c.row f)) (path_order c.survey.fields) some in
      let (kept, bad) = both_true (keeps c.survey.fields path f) _ both in
      cc (sym (ap (λ (v : Value). differs_from v q f) (was-bad (value_of c.row f) bad)) ∙ agrees f (there-has f (path_order c.survey.fields) there) kept)

  pub changed-numerical : All (IsNumerical (shape_of c.survey.fields)) (changed_numbers c path)
  changed-numerical = all-in (IsNumerical shape) (changed_numbers c path) (λ f there. there-has f (number_fields shape)
      (in-filter-out (changes c.survey.fields path) f (number_fields shape) there).0)

  -- ---- a line in which only kept fields stand

  -- each field that stands in the line is kept
  abbrev pub IsKeptAlone : LineParts → Type 0
  IsKeptAlone line = (f : ℕ) → factor line f ≢ pos 0 → keeps c.survey.fields path f ≡ true

  module _ (line : LineParts) (over : HasShape (shape_of c.survey.fields) line) (none : keeps_bad c.survey.fields c.row path ≡ false)
      (kept : IsKeptAlone line) where
    pub standing : (f : ℕ) → factor line f ≢ pos 0 → has_field (number_fields (shape_of c.survey.fields)) f ≡ true
    standing f stands = subst (λ (s : List Domain). has_field (number_fields s) f ≡ true) over.same (factor-numerical line f stands)

    pub line-numbers : HasNumbers c.row line
    line-numbers =
        numbers-held c.survey.fields c.row line over.same is.row
        (at-factors (λ f. value_of c.row f ≢ Bad) line (λ f stands. kept-held none f (number-field c f (standing f stands)) (kept f stands)))

    pub line-agrees : (q : Point) → AgreesAlong c path q → AgreesOnLine c.row q line
    line-agrees q agrees = at-factors (λ f. Agrees c.row q f) line (λ f stands. agrees f (number-field c f (standing f stands)) (kept f stands))

  -- a line that is asked has all codes, and only kept fields
  pub asks-whole : (line : LineParts) → asks_kept c path line ≡ true → (line.sets ≡ whole_sets (shape_of c.survey.fields)) × IsKeptAlone line
  asks-whole line asks =
      let (whole, stands) = both_true (are_whole shape line.sets) _ asks in
      (same_text line.sets (whole_sets shape) (sym whole), λ f apart. only-passes (keeps c.survey.fields path) line f stands apart)

  -- such a line does not hold where a point has the record's values at the kept fields
  pub line-fails : (line : LineParts) → HasShape (shape_of c.survey.fields) line → keeps_bad c.survey.fields c.row path ≡ false → asks_kept c path line ≡ true
      → fails_at line c.row ≡ Ok true
      → (q : Point) → HasCodes 0 (shape_of c.survey.fields) q → AgreesAlong c path q → LineHolds line q → ⊥
  line-fails line over none asks fails q held agrees holds =
      let (sets, kept) = asks-whole line asks in
      let inside : AreCodesIn line.sets (codes_at shape q) = subst (λ (s : List ℕ). AreCodesIn s (codes_at shape q)) (sym sets)
      ((is_inside-Decides (whole_sets shape) (codes_at shape q)).0 (wholes-inside shape q held)) in
      let enough = (is_enough-Decides line.relation (amount line q)).1
      (holds.enough (subst (λ (s : List Domain). AreCodesIn line.sets (codes_at s q)) (sym over.same) inside)) in
      let truth = fails_at-truth line c.row q true (line-numbers line over none kept) (line-agrees line over none kept q agrees) fails in
      cc (truth ∙ ap not enough)

  -- ---- the lines of the path's system

  module _ (none : keeps_bad c.survey.fields c.row path ≡ false) (lines : List Derived) (made : system_of c.edits (changed_numbers c path) ≡ Ok lines) where
    pub derived-over : (d : Derived) → IsIn d lines → HasShape (shape_of c.survey.fields) d.line
    derived-over d there = in-all (λ l. HasShape shape l) d.line (lines_of lines) (system-over c is (changed_numbers c path) lines made)
        (in-map (λ (d : Derived). d.line) d lines there)

    -- they hold where the edits do
    pub derived-holds : (q : Point) → Meets c q → (d : Derived) → IsIn d lines → LineHolds d.line q
    derived-holds q meets d there =
        in-all (λ l. LineHolds l q) d.line (lines_of lines) (system-follows c is (changed_numbers c path) lines made q changed-numerical meets.edits)
        (in-map (λ (d : Derived). d.line) d lines there)

    -- where all numerical fields are treated, only kept ones stand in the lines
    pub kept-alone : number_count c ≤ length path → (d : Derived) → IsIn d lines → IsKeptAlone d.line
    kept-alone enough d there f stands = numbers-treated c path enough f numerical (by (changes c.survey.fields path f) refl)
      where
        numerical : has_field (number_fields (shape_of c.survey.fields)) f ≡ true
        numerical = subst (λ (s : List Domain). has_field (number_fields s) f ≡ true) (derived-over d there).same (factor-numerical d.line f stands)

        by : (b : Bool) → changes c.survey.fields path f ≡ b → changes c.survey.fields path f ≡ false
        by false e = e
        by true e =
            absurd (stands
            (in-all (λ l. factor l f ≡ pos 0) d.line (lines_of lines)
            (system-flat c is (changed_numbers c path) lines made f
            (there-has f (changed_numbers c path) (in-filter (changes c.survey.fields path) f (number_fields shape) e
            (has-there f (number_fields shape) numerical))))
            (in-map (λ (d : Derived). d.line) d lines there)))

    -- there a line is asked exactly where it is for all codes
    pub asks-full : number_count c ≤ length path → (d : Derived) → IsIn d lines → asks_kept c path d.line ≡ are_whole (shape_of c.survey.fields) d.line.sets
    asks-full enough d there =
        ap (λ b. are_whole shape d.line.sets && b)
        (only-AtFactors (keeps c.survey.fields path) (number_fields d.line.shape) d.line.factors
        (at-factors (λ f. keeps c.survey.fields path f ≡ true) d.line (kept-alone enough d there)))
        ∙ and_true (are_whole shape d.line.sets)

    pub all-numbers : number_count c ≤ length path → All (λ (d : Derived). HasNumbers c.row d.line) lines
    all-numbers enough = all-in (λ (d : Derived). HasNumbers c.row d.line) lines (λ d there. line-numbers d.line (derived-over d there) none
        (kept-alone enough d there))

    pub all-agree : number_count c ≤ length path → (q : Point) → AgreesAlong c path q → All (λ (d : Derived). AgreesOnLine c.row q d.line) lines
    all-agree enough q agrees = all-in (λ (d : Derived). AgreesOnLine c.row q d.line) lines
        (λ d there. line-agrees d.line (derived-over d there) none (kept-alone enough d there) q agrees)

    pub all-over : All (λ (d : Derived). d.line.shape ≡ shape_of c.survey.fields) lines
    all-over = all-in (λ (d : Derived). d.line.shape ≡ shape) lines (λ d there. (derived-over d there).same)
