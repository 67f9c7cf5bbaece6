-- A line that fails appended what fits of it, or nothing.
use Rattle.std.proofs.Common.{rules, append-nil, arith}
use Rattle.edit_desk.specs.Page.{free}
use Rattle.std.proofs.lemmas.Grind.{common_steps}
use Rattle.edit_desk.proofs.page.MemoryPrinterPrinter.line.Goals as goal
use Rattle.edit_desk.proofs.page.MemoryPrinterPrinter.line.Goals.{then-not-is_due, else-not-is_due}

pub returns-clause-printed : goal.returns-clause-printed
returns-clause-printed c =
    elim c.if-not-is_due.branch [
      | then-not-is_due w ↦ (free c.args.self.now, search rules)
      | else-not-is_due w ↦ (0, search (rules, append-nil))
    ]

pub returns-then-whole-clause-printed : goal.returns-then-whole-clause-printed
returns-then-whole-clause-printed c = grind (arith, common_steps)
