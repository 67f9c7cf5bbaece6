use Rattle.std.proofs.Common.{sym, ap, ◌∙◌, subst}
use Rattle.edit_line.specs.Shapes.{shape_of}
use Rattle.edit_model.specs.declared.value.Value.{Value}
use Rattle.path_walk.specs.Problems.{case_in}
use Rattle.path_walk.specs.declared.looks.Basis.TheVariants.{Boxes}
use Rattle.path_walk.specs.inner.Tries.{IsKept}
use Rattle.path_walk.proofs.RowCodes.{row-code}
use Rattle.path_walk.proofs.code_paths.look_at_kept.Goals as goal
use Rattle.edit_paths.specs.States.{whole_state}

pub fix_apart-requires-clause-code : goal.fix_apart-requires-clause-code
fix_apart-requires-clause-code c = (
  shape_of c.args.problem.now.survey.now.fields,
  c.requires.over,
  row-code (case_in c.args.problem.now) c.requires.problem.case c.args.field
      c.in-Code.code (sym c.value.ensures ∙ c.in-Code.is),
)

pub returns-in_ok-new-in-Code-clause-look : goal.returns-in_ok-new-in-Code-clause-look
returns-in_ok-new-in-Code-clause-look c =
    let boxes = c.in_ok-boxes-in-Code.ensures.exact (shape_of c.args.problem.now.survey.now.fields) c.requires.over
    (row-code (case_in c.args.problem.now) c.requires.problem.case c.args.field c.in-Code.code (sym c.value.ensures ∙ c.in-Code.is)) in
    subst (λ (v : Value). IsKept (case_in c.args.problem.now) c.args.before.now c.args.field v
    (record { work = 1; state = c.state_by_boxes.result; basis = Boxes c.in_ok-new-in-Code.field-0 })) (sym (sym c.value.ensures ∙ c.in-Code.is)) (
      c.in_ok-new-in-Code.ensures.ok ∙ c.from_vec.ensures ∙ boxes,
      c.state_by_boxes.ensures
          ∙ ap (λ bs. whole_state (case_in c.args.problem.now) bs) (c.as_slice.ensures.value ∙ boxes),
    )
