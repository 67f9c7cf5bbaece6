use Rattle.std.proofs.Common.{arith, sym, ◌∙◌}
use Rattle.edit_model.proofs.RowLaws.{row-length}
use Rattle.back_subst.proofs.GivenAlike.{has-code}
use Rattle.panel_link.proofs.PinParts.{code-few}
use Rattle.panel_link.proofs.pins.push_pin.Goals as goal

pub push_code_pin-requires-clause-field : goal.push_code_pin-requires-clause-field
push_code_pin-requires-clause-field c =
    has-code c.args.survey.now.fields c.args.row.now c.args.field c.requires.row c.in-Code.code (sym c.value.ensures ∙ c.in-Code.is)

pub push_code_pin-requires-clause-code : goal.push_code_pin-requires-clause-code
push_code_pin-requires-clause-code c =
    code-few c.args.survey.now.fields c.args.row.now c.args.field c.in-Code.code c.fields-fields.ensures.well_formed.fields c.requires.row
    (sym c.value.ensures ∙ c.in-Code.is) (omega (arith, c.requires.field, row-length c.args.survey.now.fields c.args.row.now c.requires.row))
