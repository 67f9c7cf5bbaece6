use Rattle.std.proofs.Common.{List, sym, subst}
use Rattle.std.proofs.lemmas.Result.{IfOk-from_err}
use Rattle.edit_line.specs.Lines.{HaveShape}
use Rattle.edit_line.specs.Reductions.{lines_of}
use Rattle.edit_line.specs.declared.derived.Derived.{Derived}
use Rattle.linear_elim.proofs.ShapeLaws.{OneShape-have}
use Rattle.path_walk.proofs.number_paths.look_at_numbers.Goals as goal

pub last_pairs-pairs-requires-clause-shape : goal.last_pairs-pairs-requires-clause-shape
last_pairs-pairs-requires-clause-shape g c =
    OneShape-have c.system.result.now.edits.shape c.lines.result.now
    (subst (λ (ls : List Derived). HaveShape c.system.result.now.edits.shape (lines_of ls)) (sym c.lines.ensures.lines) c.lines.ensures.over)

pub returns-in_err-look_at_path-clause-serves : goal.returns-in_err-look_at_path-clause-serves
returns-in_err-look_at_path-clause-serves g c = c.look_at_path.ensures.serves

pub returns-in_err-look_at_path-clause-keeps : goal.returns-in_err-look_at_path-clause-keeps
returns-in_err-look_at_path-clause-keeps g c = c.look_at_path.ensures.keeps

pub returns-in_err-look_at_path-clause-counts : goal.returns-in_err-look_at_path-clause-counts
returns-in_err-look_at_path-clause-counts g c = c.look_at_path.ensures.counts

pub returns-clause-serves : goal.returns-clause-serves
returns-clause-serves g c = c.look_at_path.ensures.serves

pub returns-clause-keeps : goal.returns-clause-keeps
returns-clause-keeps g c = c.look_at_path.ensures.keeps

pub returns-clause-counts : goal.returns-clause-counts
returns-clause-counts g c = c.look_at_path.ensures.counts

pub returns-in_err-look_at_path-clause-passed : goal.returns-in_err-look_at_path-clause-passed
returns-in_err-look_at_path-clause-passed g c = IfOk-from_err _ _ c.from_residual.ensures.0

pub returns-in_err-look_at_path-clause-look : goal.returns-in_err-look_at_path-clause-look
returns-in_err-look_at_path-clause-look g c = IfOk-from_err _ _ c.from_residual.ensures.0

pub returns-in_err-look_at_path-clause-kept : goal.returns-in_err-look_at_path-clause-kept
returns-in_err-look_at_path-clause-kept g c = IfOk-from_err _ _ c.from_residual.ensures.0
