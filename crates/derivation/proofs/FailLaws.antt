use Rattle.std.proofs.Common.{◌≡◌, ◌≢◌, ◌∙◌, Bool, Err, List, Ok, Result, ap, false, not, true, ℕ}
use Rattle.std.specs.Result.{result_unwrap_or}
use Rattle.edit_line.specs.inner.LineFields.{HasNumbers}
use Rattle.edit_model.specs.FieldSets.{has_number}
use Rattle.edit_model.specs.Points.{Point}
use Rattle.edit_model.specs.RowPoints.{Agrees}
use Rattle.edit_model.specs.Rows.{IsRow, value_of}
use Rattle.edit_model.specs.declared.field.Field.{Field}
use Rattle.edit_model.specs.declared.value.Value.{Value}
use Rattle.edit_model.specs.declared.value.Value.TheVariants.{Bad}
use Rattle.edit_line.specs.Lines.{LineHolds, LineParts, amount}
use Rattle.edit_line.specs.Sets.{AreCodesIn}
use Rattle.edit_line.specs.Shapes.{codes_at, number_fields, shape_of}
use Rattle.edit_line.specs.Sums.{AtFactors, fails_at, stands_only}
use Rattle.edit_line.proofs.FactorLaws.{AtFactors-map, AtFactors-only}
use Rattle.edit_line.proofs.Enough.{is_enough-Decides}
use Rattle.edit_line.proofs.SumCallers.{numbers-held}
use Rattle.edit_line.proofs.SumLaws.{fails_at-truth}
use Rattle.derivation.specs.Premises.{AgreesAt, HasKept}

-- A line that fails at the kept fields of a record holds only at points that have other values there, or a code outside its set.

-- a fact of the kept fields is one of the fields that stand in a line, where these are kept
at_kept : (P : ℕ → Type 0) (kept : ℕ) (line : LineParts) → ((f : ℕ) → has_number kept f ≡ true → P f)
    → stands_only (has_number kept) (number_fields line.shape) line.factors ≡ true → AtFactors P (number_fields line.shape) line.factors
at_kept P kept line each only =
    AtFactors-map (λ f. has_number kept f ≡ true) P each (number_fields line.shape) line.factors
    (AtFactors-only (has_number kept) (number_fields line.shape) line.factors only)

-- an answer that is true
answered : (r : Result Bool ℕ) → (result_unwrap_or r false) ≡ true → r ≡ Ok true
answered (Ok answer) h = ap Ok h
answered (Err field) h = absurd (cc)

module _ (fields : List Field) (row : List Value) (kept : ℕ) (line : LineParts) (is : IsRow fields row) (has : HasKept row kept)
    (shape : line.shape ≡ shape_of fields) (all : stands_only (has_number kept) (number_fields line.shape) line.factors ≡ true) where
  -- the record has the numbers that the line reads
  pub kept-numbers : HasNumbers row line
  kept-numbers = numbers-held fields row line shape is (at_kept (λ f. value_of row f ≢ Bad) kept line has all)

  -- where the line fails at the record, and holds at a point that agrees, the point's codes are not all inside
  pub failed-outside : (result_unwrap_or (fails_at line row) false) ≡ true → (point : Point) → AgreesAt row kept point → LineHolds line point
      → ¬ AreCodesIn line.sets (codes_at line.shape point)
  failed-outside fails point agrees holds inside =
      let enough = (is_enough-Decides line.relation (amount line point)).1 (holds.enough inside) in
      let truth = fails_at-truth line row point true kept-numbers (at_kept (λ f. Agrees row point f) kept line agrees all)
      (answered (fails_at line row) fails) in
      absurd (cc (truth ∙ ap not enough))
