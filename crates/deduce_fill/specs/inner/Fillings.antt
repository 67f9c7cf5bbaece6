use Rattle.std.specs.Prelude.{◌≡◌, ◌≤◌, ◌+◌, ◌∷◌, ℕ, List, Option, Some, None}
use Rattle.edit_model.specs.Rows.{IsRow}
use Rattle.edit_model.specs.declared.value.Value.{Value}
use Rattle.edit_paths.specs.Cases.{SearchCase}
use Rattle.deduce_fill.specs.Filled.{filled_from}
use Rattle.deduce_fill.specs.declared.filled.Filled.{Filled}
use Rattle.deduce_fill.specs.declared.filling.Filling.{Filling}

-- what becomes of the record, where this was found and these fields are left
abbrev pub filled_on : SearchCase → List Value → ℕ → Filling → List ℕ → Filled
filled_on c new budget found fields = filled_from c new budget found.tests found.work found.row found.forced.items fields

-- what was found after the tests of one field more
pub record IsTurn (c : SearchCase) (new : List Value) (budget f : ℕ) (before after : Filling) : Type 0 where
  pub same : (fields : List ℕ) → filled_on c new budget before (f ∷ fields) ≡ filled_on c new budget after fields
  pub within : after.work ≤ budget
  pub tests : after.tests ≤ before.tests + 2
  pub row : IsRow c.survey.fields after.row

-- the tests of the field end what is done for the record, or the next fields follow
abbrev pub TellsTurn : SearchCase → List Value → ℕ → ℕ → Filling → Filling → Option Filled → Type 0
TellsTurn c new budget f before after (Some answer) = (fields : List ℕ) → filled_on c new budget before (f ∷ fields) ≡ answer
TellsTurn c new budget f before after None = IsTurn c new budget f before after
