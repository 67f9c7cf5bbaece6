use Rattle.std.proofs.Common.{◌∙◌, ap, arith, inl, refl, sym}
use Rattle.edit_line.specs.Shapes.{code_fields, has_field, shape_of}
use Rattle.edit_model.specs.declared.value.Value.TheVariants.{Code}
use Rattle.edit_model.proofs.RowLaws.{row-length}
use Rattle.deduce_fill.proofs.CodeLines.{code-few}
use Rattle.deduce_fill.proofs.RowKinds.{code-in}
use Rattle.deduce_fill.proofs.TestFits.{test-fits}
use Rattle.deduce_fill.proofs.test_line.test_lines_of.Goals as goal

pub other_line-requires-clause-line : goal.other_line-requires-clause-line
other_line-requires-clause-line c =
    (test-fits c.args.survey.now.fields c.fields-fields.ensures.well_formed.fields c.args.row.now c.args.field _ (Code c.in-Code.code) c.requires.row
    (sym c.value.ensures ∙ c.in-Code.is) (inl refl)).0

pub other_line-requires-clause-field : goal.other_line-requires-clause-field
other_line-requires-clause-field c = ap (has_field (code_fields (shape_of c.args.survey.now.fields))) (omega arith)
    ∙ code-in 0 c.args.survey.now.fields c.args.row.now c.args.field c.in-Code.code c.requires.row (sym c.value.ensures ∙ c.in-Code.is)

pub other_line-requires-clause-code : goal.other_line-requires-clause-code
other_line-requires-clause-code c =
    code-few c.args.survey.now.fields c.args.row.now c.args.field c.in-Code.code c.fields-fields.ensures.well_formed.fields c.requires.row
    (sym c.value.ensures ∙ c.in-Code.is) (omega (arith, c.requires.field, row-length c.args.survey.now.fields c.args.row.now c.requires.row))
