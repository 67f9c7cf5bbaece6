use Rattle.std.proofs.Common.{◌≡◌, drop}
use Rattle.std.specs.List.{list_any}
use Rattle.edit_line.specs.Subsumption.{subsumes}
use Rattle.edit_line.specs.declared.derived.Derived.{Derived}
use Rattle.edit_line.proofs.kept.is_subsumed.Given as goal

abbrev pub invariant-loop-i : goal.invariant-loop-i
invariant-loop-i l = list_any (λ (a : Derived). subsumes a.line l.line) (drop l.i l.lines) ≡ list_any (λ (a : Derived). subsumes a.line l.line) l.lines
