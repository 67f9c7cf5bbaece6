use Rattle.std.specs.Prelude.{ℕ, List}
use Rattle.categ_combine.specs.declared.box_from.BoxFrom.{BoxFrom}
use Rattle.categ_combine.specs.declared.covered.Covered.{Covered}
use Rattle.categ_combine.specs.declared.covered.Covered.TheVariants.{Done, Passed}

-- the fact holds of the boxes and the pairs of a step that is done
abbrev pub IsDone : Covered → (List BoxFrom → ℕ → Type 0) → Type 0
IsDone (Done boxes pairs) P = P boxes pairs
IsDone Passed P = Unit {0}

-- there were more pairs than may be looked at
abbrev pub IsPassed : Covered → Type 0
IsPassed (Done boxes pairs) = ⊥
IsPassed Passed = Unit {0}
