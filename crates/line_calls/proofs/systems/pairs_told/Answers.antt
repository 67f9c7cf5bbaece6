use Rattle.std.proofs.Common.{List, subst, sym}
use Rattle.edit_line.specs.Reductions.{lines_of}
use Rattle.edit_line.specs.declared.derived.Derived.{Derived}
use Rattle.edit_line.specs.Lines.{HaveShape}
use Rattle.linear_elim.proofs.ShapeLaws.{OneShape-have}
use Rattle.line_calls.proofs.systems.pairs_told.Goals as goal

pub pairs-count-requires : goal.pairs-count-requires
pairs-count-requires c =
    OneShape-have c.system.result.now.edits.shape c.lines.result.now
    (subst (λ (ls : List Derived). HaveShape c.system.result.now.edits.shape (lines_of ls)) (sym c.lines.ensures.lines) c.lines.ensures.over)
