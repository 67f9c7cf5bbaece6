use Rattle.std.specs.Prelude.{ℕ, List, All, Option, Some, None, if◌then◌else◌}
use Rattle.edit_line.specs.Lines.{LineParts}
use Rattle.edit_line.specs.Shapes.{Domain, has_field, place_in}
use Rattle.derivation.specs.Shown.{IsOver}
use Rattle.derivation.specs.declared.known.Known.{Known}
use Rattle.derivation.specs.declared.known.Known.TheVariants as known
use Rattle.derivation.specs.declared.proved.Proved.{Proved}
use Rattle.derivation.specs.declared.proved.Proved.TheVariants.{Box, Line}

-- what a step proved
abbrev pub meaning : Known → Proved
meaning (known.Given line) = Line line.now
meaning (known.Line line) = Line line.value
meaning (known.Box code_box) = Box code_box.value

-- what a step proved, if it did
abbrev pub meant : Option Known → Option Proved
meant (Some k) = Some (meaning k)
meant None = None

-- the line as what a step proved, if there is one
abbrev pub lined : Option LineParts → Option Proved
lined (Some line) = Some (Line line)
lined None = None

-- all that was proved is over the fields of this shape
abbrev pub AllOver : List Domain → List Known → Type 0
AllOver shape known = All (λ k. IsOver shape (meaning k)) known

-- the field's place in the list, if it is there
abbrev pub place_there : List ℕ → ℕ → Option ℕ
place_there fields f = if has_field fields f then Some (place_in fields f) else None
