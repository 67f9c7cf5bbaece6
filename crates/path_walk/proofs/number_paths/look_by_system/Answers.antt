use Rattle.std.proofs.Common.{◌≤◌, Bool, ℕ, List, length, ◌∙◌, subst}
use Rattle.std.proofs.lemmas.Result.{IfOk-from_err}
use Rattle.edit_paths.proofs.KeptLines.{all-over}
use Rattle.path_walk.specs.Problems.{case_in}
use Rattle.path_walk.proofs.NumberPathLaws.{lines-made, numbers-boxes}
use Rattle.path_walk.proofs.number_paths.look_by_system.Goals as goal

pub boxes_of-requires-clause-shape : goal.boxes_of-requires-clause-shape
boxes_of-requires-clause-shape c =
    all-over (case_in c.args.problem.now) c.requires.problem.case c.args.path.now c.requires.held c.lines-lines.result.now
    (lines-made (case_in c.args.problem.now) c.args.path.now c.args.system.value c.deref.result.now c.system.result.now c.lines-lines.result.now
    c.requires.system c.deref.ensures c.system.ensures c.lines-lines.ensures.lines)

pub returns-in-Ok-clause-basis : goal.returns-in-Ok-clause-basis
returns-in-Ok-clause-basis c = λ is_open.
    let made = lines-made (case_in c.args.problem.now) c.args.path.now c.args.system.value c.deref.result.now c.system.result.now c.lines-lines.result.now
    c.requires.system c.deref.ensures c.system.ensures c.lines-lines.ensures.lines in (
      subst (λ (n : ℕ). n ≤ length c.args.path.now) c.number_count.ensures.count
          (subst (λ (p : List Bool). c.number_count.result ≤ length p) c.letters.ensures c.if-letters-number_count.false),
      c.in_ok-new-in-Ok.ensures.ok ∙ c.from_vec.ensures ∙ numbers-boxes (case_in c.args.problem.now) c.args.path.now c.lines-lines.result.now
          c.in-Ok.boxes.items c.requires.fit made c.in-Ok.ensures.exact,
    )

pub returns-in_err-new-in-Ok-clause-work : goal.returns-in_err-new-in-Ok-clause-work
returns-in_err-new-in-Ok-clause-work c = IfOk-from_err _ _ c.from_residual.ensures.0

pub returns-in_err-new-in-Ok-clause-state : goal.returns-in_err-new-in-Ok-clause-state
returns-in_err-new-in-Ok-clause-state c = IfOk-from_err _ _ c.from_residual.ensures.0

pub returns-in_err-new-in-Ok-clause-basis : goal.returns-in_err-new-in-Ok-clause-basis
returns-in_err-new-in-Ok-clause-basis c = IfOk-from_err _ _ c.from_residual.ensures.0
