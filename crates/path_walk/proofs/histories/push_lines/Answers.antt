use Rattle.std.proofs.Common.{inl, inr, length, sym, arith, ◌∙◌}
use Rattle.std.proofs.lemmas.Bool.Decides.{Decides-eqb}
use Rattle.std.proofs.lemmas.Result.{IfOk-from_err}
use Rattle.path_walk.specs.Problems.{case_in}
use Rattle.path_walk.proofs.LastLetters.{lines-pushed}
use Rattle.path_walk.proofs.histories.push_lines.Goals as goal
use Rattle.path_walk.proofs.histories.push_lines.Goals.{else-not-is_empty-via-then-not-is_empty+else-not-letters, else-not-is_empty-via-else-not-is_empty}

pub returns-clause-history : goal.returns-clause-history
returns-clause-history g c =
    c.in_ok-push_system.ensures.history ∙ lines-pushed (case_in c.args.problem.now) c.args.path.letters.now c.args.levels.now.items c.requires.few
    c.requires.before (elim c.else-not-is_empty.branch [
      | else-not-is_empty-via-then-not-is_empty+else-not-letters w ↦ inr (grind (arith, w.if-not-is_empty.ensures), w.if-not-letters.false)
      | else-not-is_empty-via-else-not-is_empty w ↦ inl ((Decides-eqb (length c.args.path.letters.now) 0).0 (sym w.if-not-is_empty.ensures))
    ])

pub returns-in_err-push_system-clause-serves : goal.returns-in_err-push_system-clause-serves
returns-in_err-push_system-clause-serves g c = c.push_system.ensures.serves

pub returns-in_err-push_system-clause-keeps : goal.returns-in_err-push_system-clause-keeps
returns-in_err-push_system-clause-keeps g c = c.push_system.ensures.keeps

pub returns-in_err-push_system-clause-counts : goal.returns-in_err-push_system-clause-counts
returns-in_err-push_system-clause-counts g c = c.push_system.ensures.counts

pub returns-clause-serves : goal.returns-clause-serves
returns-clause-serves g c = c.push_system.ensures.serves

pub returns-clause-keeps : goal.returns-clause-keeps
returns-clause-keeps g c = c.push_system.ensures.keeps

pub returns-clause-counts : goal.returns-clause-counts
returns-clause-counts g c = c.push_system.ensures.counts

pub returns-in_err-push_system-clause-history : goal.returns-in_err-push_system-clause-history
returns-in_err-push_system-clause-history g c = IfOk-from_err _ _ c.from_residual.ensures.0

pub returns-in_err-push_system-clause-grown : goal.returns-in_err-push_system-clause-grown
returns-in_err-push_system-clause-grown g c = IfOk-from_err _ _ c.from_residual.ensures.0
