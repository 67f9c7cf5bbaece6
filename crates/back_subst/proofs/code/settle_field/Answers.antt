use Rattle.std.proofs.Common.{◌∙◌, inl, inr, sym}
use Rattle.edit_line.specs.Shapes.{shape_of}
use Rattle.edit_model.specs.Rows.{value_of}
use Rattle.back_subst.proofs.CodeSteps.{code-size, fixed-over, fixed-settled, not-passed}
use Rattle.back_subst.proofs.FieldPoints.{code-at}
use Rattle.back_subst.proofs.code.settle_field.Goals as goal

pub value-requires : goal.value-requires
value-requires c = (code-at c.args.survey.now.fields c.args.row.now c.args.field c.requires.row c.requires.field).1

pub fix-requires : goal.fix-requires
fix-requires c = (
  shape_of c.args.survey.now.fields,
  c.requires.over,
  code-size c.args.survey.now.fields c.args.row.now c.args.field _ c.requires.row c.requires.field
      (sym c.value.ensures ∙ c.in-Code.is),
)

pub returns-in-Code-clause-over : goal.returns-in-Code-clause-over
returns-in-Code-clause-over c =
    fixed-over (shape_of c.args.survey.now.fields) c.args.boxes.now c.args.field c.in-Code.code c.fix.result c.requires.over
    (code-size c.args.survey.now.fields c.args.row.now c.args.field _ c.requires.row c.requires.field (sym c.value.ensures ∙ c.in-Code.is)) c.fix.ensures.over

pub returns-in-Code-clause-sets : goal.returns-in-Code-clause-sets
returns-in-Code-clause-sets c =
    fixed-settled (shape_of c.args.survey.now.fields) c.args.boxes.now c.args.field c.in-Code.code c.fix.result c.requires.over
    (code-size c.args.survey.now.fields c.args.row.now c.args.field _ c.requires.row c.requires.field (sym c.value.ensures ∙ c.in-Code.is))
    (value_of c.args.row.now c.args.field) (sym c.value.ensures ∙ c.in-Code.is) c.fix.ensures.sets

pub unreachable-requires : goal.unreachable-requires
unreachable-requires c =
    not-passed c.in_ok-boxes-in-Number.field-0 _ c.in-Passed.is
    (c.in_ok-boxes-in-Number.ensures.passed (shape_of c.args.survey.now.fields) c.requires.over c.requires.codes)
    (c.requires.few (λ code is. elim c.in-Number.is [ inl (x, e) ↦ cc (sym is ∙ sym c.value.ensures ∙ e) | inr e ↦ cc (sym is ∙ sym c.value.ensures ∙ e) ]))
