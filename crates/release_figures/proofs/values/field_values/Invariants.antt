use Rattle.std.proofs.Common.{take}
use Rattle.release_figures.specs.Figures.{AreValues}
use Rattle.release_figures.specs.Releases.{release_parts}
use Rattle.release_figures.proofs.values.field_values.Given as goal

abbrev pub invariant-loop-number : goal.invariant-loop-number
invariant-loop-number l = AreValues (release_parts l.release) 0 (take l.number l.fields) l.values.items
