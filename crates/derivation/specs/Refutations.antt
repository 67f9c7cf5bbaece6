-- What it is for steps to refute the negation of a line, so that the line follows from others.
use Rattle.std.specs.Prelude.{◌++◌, ◌&&◌, ℕ, zero, suc, drop, Bool, true, false, List, [], ◌∷◌, IsTrue, map, nat_eq}
use Rattle.std.specs.Cmp.Lexicographic.{pointwise}
use Rattle.edit_model.specs.declared.field.Field.{Field}
use Rattle.edit_model.specs.declared.value.Value.{Value}
use Rattle.edit_model.specs.declared.value.Value.TheVariants.{Bad}
use Rattle.edit_line.specs.Lines.{Follows, LineParts}
use Rattle.edit_line.specs.Negations.{negation_of}
use Rattle.edit_line.specs.Reductions.{IsIn}
use Rattle.edit_line.specs.Shapes.{Domain, whole_sets}
use Rattle.edit_line.specs.Subsumption.{is_false}
use Rattle.derivation.specs.Premises.{Premises, premises_of, usable_lines}
use Rattle.derivation.specs.ValidSteps.{AreValidSteps}
use Rattle.derivation.specs.declared.proved.Proved.{Proved}
use Rattle.derivation.specs.declared.proved.Proved.TheVariants.{Box, Line}
use Rattle.derivation.specs.declared.step.Step.{Step}

-- ---- what a refutation builds on

-- the lines, and then those of the line's negation
abbrev pub given_lines : List LineParts → LineParts → List LineParts
given_lines lines line = lines ++ negation_of line

-- of these, the lines that are left and all of the negation are usable
abbrev pub usable_flags : List Bool → LineParts → List Bool
usable_flags left line = left ++ map (λ l. true) (negation_of line)

-- the record without values
abbrev pub no_values : List Field → List Value
no_values fields = map (λ f. Bad) fields

-- the premises of the refutation: the lines that are left, and the negation of this one; no field of the record is kept
abbrev pub refutation_of : List Domain → List LineParts → List Bool → LineParts → List Value → Premises
refutation_of shape lines left line row = premises_of shape (given_lines lines line) (usable_flags left line) row 0

-- a list of this length, of trues alone
abbrev pub trues : ℕ → List Bool
trues zero = []
trues (suc n) = true ∷ trues n

-- which lines are left for the one at a place: all before it, and of the later ones those that are kept. So no two
-- lines are left for each other
abbrev pub left_before : ℕ → List Bool → List Bool
left_before place later = trues place ++ false ∷ later

-- the same, by which of all lines are kept
abbrev pub left_at : List Bool → ℕ → List Bool
left_at kept place = left_before place (drop (suc place) kept)

-- ---- what a refutation ends in

-- whether this is what no point meets: a false line of all codes, or the box of all codes
abbrev pub is_absurd : List Domain → Proved → Bool
is_absurd shape (Line line) = pointwise nat_eq line.sets (whole_sets shape) && is_false line
is_absurd shape (Box b) = pointwise nat_eq b.sets (whole_sets shape)

-- all steps are valid, and the last one proves what no point meets
abbrev pub RefutedBy : Premises → List Step → Type 0
RefutedBy premises steps = (proved : Proved) × AreValidSteps premises steps proved × IsTrue (is_absurd premises.shape proved)

-- ---- what refutations are for

-- each of the lines follows from those that are kept
abbrev pub AllFollow : List LineParts → List Bool → Type 0
AllFollow lines kept = (line : LineParts) → IsIn line lines → Follows (usable_lines lines kept) line
