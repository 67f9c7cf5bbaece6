use Rattle.std.proofs.Common.{◌≡◌, ℕ, ◌+◌, suc, ◌<◌, ◌≤◌, ◌&&◌, true, List, ◌∷◌, drop, get_or, length, add-one, sym, ap, ◌∙◌, arith}
use Rattle.std.proofs.Math.Seq.{drop-cons}
use Rattle.std.proofs.lemmas.List.{drop_all}
use Rattle.edit_model.specs.Points.{has_code}
use Rattle.edit_model.specs.RowPoints.{code_in}
use Rattle.edit_model.specs.Rows.{value_of}
use Rattle.edit_model.specs.declared.value.Value.{Value}
use Rattle.edit_model.specs.declared.field.Field.{Field}
use Rattle.edit_model.specs.Corrections as corrections
use Rattle.edit_line.specs.Lines.{HasShape, LineParts}
use Rattle.edit_line.specs.Sets.{are_codes_in}
use Rattle.edit_line.specs.Shapes.{Domain, code_fields, shape_of}
use Rattle.edit_line.proofs.ShapeLaws.{code_fields-same}
use Rattle.localise_tree.specs.inner.AllKept.{codes_of_row, is_for}

-- The test of a record's codes, one set after the other.

-- from one place on
pub codes_more : (sets fields : List ℕ) (row : List Value) (i : ℕ) → i < length fields → length sets ≡ length fields
    → are_codes_in (drop i sets) (codes_of_row (drop i fields) row)
    ≡ (has_code (get_or sets i 0) (code_in (value_of row (get_or fields i 0))) && are_codes_in (drop (i + 1) sets) (codes_of_row (drop (i + 1) fields) row))
codes_more sets fields row i below same =
    rw (add-one) (ap (λ ss. are_codes_in ss (codes_of_row (drop i fields) row)) (drop-cons sets i 0 (omega (arith, below, same)))
    ∙ ap (λ fs. are_codes_in (get_or sets i 0 ∷ drop (suc i) sets) (codes_of_row fs row)) (drop-cons fields i 0 below))

-- past the last
pub codes_past : (sets fields : List ℕ) (row : List Value) (i : ℕ) → length fields ≤ i → length sets ≡ length fields
    → are_codes_in (drop i sets) (codes_of_row (drop i fields) row) ≡ true
codes_past sets fields row i past same = ap (λ ss. are_codes_in ss (codes_of_row (drop i fields) row)) (drop_all i sets (omega (arith, past, same)))

-- the test by the categorical fields of the survey is that by those of the line
pub line-codes : (fields : List Field) (row : List Value) (line : LineParts) (sets codes : List ℕ) → HasShape (shape_of fields) line → sets ≡ line.sets
    → codes ≡ corrections.code_fields fields
    → are_codes_in sets (codes_of_row codes row) ≡ is_for row line
line-codes fields row line sets codes over same_sets same_codes =
    ap (λ ss. are_codes_in ss (codes_of_row codes row)) same_sets
    ∙ ap (λ fs. are_codes_in line.sets (codes_of_row fs row))
    (same_codes ∙ sym (code_fields-same fields) ∙ ap (λ (s : List Domain). code_fields s) (sym over.same))

pub codes-counted : (fields : List Field) (line : LineParts) (sets codes : List ℕ) → HasShape (shape_of fields) line → sets ≡ line.sets
    → codes ≡ corrections.code_fields fields → length sets ≡ length codes
codes-counted fields line sets codes over same_sets same_codes =
    ap (λ ss. length ss) same_sets ∙ over.sets ∙ ap (λ fs. length fs) (code_fields-same fields ∙ sym same_codes)
