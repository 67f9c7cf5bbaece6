use Rattle.std.proofs.Common.{ℕ, List, map}
use Rattle.edit_model.specs.RowPoints.{code_in}
use Rattle.edit_model.specs.Rows.{value_of}
use Rattle.edit_model.specs.declared.value.Value.{Value}

-- Whether a record's codes are in a line's sets, as the code tries them.

-- the codes of a record at fields
abbrev pub codes_of_row : List Value → List ℕ → List ℕ
codes_of_row row fields = map (λ f. code_in (value_of row f)) fields
