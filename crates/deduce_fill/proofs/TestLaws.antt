use Rattle.std.proofs.Common.{◌≡◌, ◌↔◌, inl, inr, ℕ, ◌==◌, not, Bool, true, false, List, All, ◌*ℤ◌, refl, ap, ◌∙◌, subst, arith}
use Rattle.std.specs.Ordering.{int_eq}
use Rattle.std.proofs.lemmas.Bool.Decides.{Decides-int_eq}
use Rattle.fraction128.specs.declared.fraction.Fraction.{Fraction}
use Rattle.edit_model.specs.Parts.{SurveyParts}
use Rattle.edit_model.specs.Points.{HasCodesFrom, Point}
use Rattle.edit_model.specs.Rows.{IsRow, value_of}
use Rattle.edit_model.specs.declared.value.Value.{Value}
use Rattle.edit_model.specs.declared.value.Value.TheVariants.{Bad, Code, Number}
use Rattle.edit_line.specs.Lines.{LineHolds, LineParts}
use Rattle.edit_line.specs.Reductions.{IsIn}
use Rattle.edit_line.specs.Shapes.{HasCodes, code_fields, has_field, number_fields, shape_of}
use Rattle.edit_line.proofs.Members.{all-in, in-all}
use Rattle.edit_line.proofs.ShapeLaws.{HasCodes-shape}
use Rattle.deduce_fill.specs.Forced.{HasValue}
use Rattle.deduce_fill.specs.Tests.{above_line, below_line, test_lines}
use Rattle.deduce_fill.proofs.RowKinds.{code-in, number-in}
use Rattle.deduce_fill.proofs.TestLines.{code-not, neither-number, not-code, number-neither}

-- A point has a value exactly where no line of its test holds.

-- no line of the list holds at the point
abbrev pub NoneHolds : List LineParts → Point → Type 0
NoneHolds lines p = (line : LineParts) → IsIn line lines → ¬ LineHolds line p

module _ (survey : SurveyParts) (row : List Value) (f : ℕ) (p : Point) (is : IsRow survey.fields row) (codes : HasCodesFrom 0 survey.fields p) where
  held : HasCodes 0 (shape_of survey.fields) p
  held = HasCodes-shape 0 survey.fields p codes

  number-there : (x : Fraction) → value_of row f ≡ Number x → has_field (number_fields (shape_of survey.fields)) f ≡ true
  number-there x e = ap (has_field (number_fields (shape_of survey.fields))) (omega arith) ∙ number-in 0 survey.fields row f x is e

  code-there : (k : ℕ) → value_of row f ≡ Code k → has_field (code_fields (shape_of survey.fields)) f ≡ true
  code-there k e = ap (has_field (code_fields (shape_of survey.fields))) (omega arith) ∙ code-in 0 survey.fields row f k is e

  undo : (b : Bool) → not b ≡ false → b ≡ true
  undo true h = refl
  undo false h = absurd (cc)

  -- where the point has the value, no line holds
  pub value-none : (v : Value) → value_of row f ≡ v → HasValue v p f → NoneHolds (test_lines (shape_of survey.fields) f v) p
  value-none (Number x) e has line there = by there
    where
      neither : (¬ LineHolds (above_line (shape_of survey.fields) f x) p) × (¬ LineHolds (below_line (shape_of survey.fields) f x) p)
      neither = number-neither (shape_of survey.fields) p held f x (number-there x e)
          ((Decides-int_eq _ _).0 (undo (int_eq (p.numerator f *ℤ x.denominator) (x.numerator *ℤ p.denominator)) has))

      by : IsIn line (test_lines (shape_of survey.fields) f (Number x)) → ¬ LineHolds line p
      by (inl first) = λ holds. neither.0 (subst (λ (l : LineParts). LineHolds l p) first holds)
      by (inr (inl second)) = λ holds. neither.1 (subst (λ (l : LineParts). LineHolds l p) second holds)
      by (inr (inr none)) = absurd none
  value-none (Code k) e has line there = by there
    where
      by : IsIn line (test_lines (shape_of survey.fields) f (Code k)) → ¬ LineHolds line p
      by (inl first) = λ holds. code-not (shape_of survey.fields) p held f k (code-there k e) (undo (k == p.code f) has)
          (subst (λ (l : LineParts). LineHolds l p) first holds)
      by (inr none) = absurd none
  value-none Bad e has line there = absurd there

  -- where no line holds, the point has the value
  pub none-value : (v : Value) → value_of row f ≡ v → (v ≡ Bad → ⊥) → NoneHolds (test_lines (shape_of survey.fields) f v) p → HasValue v p f
  none-value (Number x) e some none =
      ap not ((Decides-int_eq _ _).1 (neither-number (shape_of survey.fields) p held f x (number-there x e) (none _ (inl refl)) (none _ (inr (inl refl)))))
  none-value (Code k) e some none = ap not (not-code (shape_of survey.fields) p held f k (code-there k e) (none _ (inl refl)))
  none-value Bad e some none = absurd (some refl)

  pub value-lines : (value_of row f ≡ Bad → ⊥)
      → HasValue (value_of row f) p f ↔ All (λ line. ¬ LineHolds line p) (test_lines (shape_of survey.fields) f (value_of row f))
  value-lines some = (
    λ has. all-in (λ line. ¬ LineHolds line p) (test_lines (shape_of survey.fields) f (value_of row f)) (value-none (value_of row f) refl has),
    λ all. none-value (value_of row f) refl some
        (λ line there. in-all (λ line. ¬ LineHolds line p) line (test_lines (shape_of survey.fields) f (value_of row f)) all there),
  )
