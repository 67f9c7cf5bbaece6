use Rattle.std.proofs.Common.{◌≡◌, All}
use Rattle.edit_line.specs.Domains.{domains}
use Rattle.edit_line.specs.declared.derived.Derived.{Derived}
use Rattle.line_calls.proofs.boxes.derived_lines.Given as goal

abbrev pub invariant-loop-made : goal.invariant-loop-made
invariant-loop-made l = All (λ (d : Derived). d.line.shape ≡ domains l.shape) l.lines.items
