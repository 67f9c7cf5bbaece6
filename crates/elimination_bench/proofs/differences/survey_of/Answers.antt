use Rattle.std.proofs.Common.{ap, ◌∙◌, arith}
use Rattle.std.proofs.lemmas.Result.{IfOk-weaker}
use Rattle.edit_model.specs.Parts.{SurveyParts}
use Rattle.edit_line.specs.Shapes.{shape_of}
use Rattle.elimination_bench.proofs.DifferenceLaws.{codes-last, number-more}
use Rattle.elimination_bench.proofs.NameLaws.{fields-well_formed, form-more, letter-at, name-more}
use Rattle.elimination_bench.proofs.differences.survey_of.Goals as goal

pub number_field-requires : goal.number_field-requires
number_field-requires c = letter-at c.loop-i.i (omega (arith, c.requires, c.loop-i-test.true))

pub loop-i-preserved : goal.loop-i-preserved
loop-i-preserved c =
    let inv = c.loop-i.invariant in (
      number-more c.loop-i.i c.loop-i.fields.items c.push.new.self.items c.number_field.result c.in_ok-push.ensures.items c.number_field.ensures.domain inv.0,
      name-more c.loop-i.i c.loop-i.fields.items c.push.new.self.items c.number_field.result (omega (arith, c.requires, c.loop-i-test.true))
          c.in_ok-push.ensures.items c.number_field.ensures.name inv.1,
      form-more c.loop-i.fields.items c.push.new.self.items c.number_field.result c.in_ok-push.ensures.items c.number_field.ensures.form inv.2,
    )

pub of-requires : goal.of-requires
of-requires c =
    let inv = c.loop-i.invariant in
    fields-well_formed c.loop-i.i c.loop-i.fields.items c.push-2.new.self.items c.in_ok-code_field.field-0 c.new.result.items
    (omega (arith, c.requires, c.loop-i.auto.i-end)) c.in_ok-push-2.ensures.items c.new.ensures.items inv.1 inv.2 c.in_ok-code_field.ensures.name
    c.in_ok-code_field.ensures.form

pub returns : goal.returns
returns c =
    IfOk-weaker c.of.result _ _ (λ survey is. ap (λ (s : SurveyParts). shape_of s.fields) is
    ∙ codes-last c.args.numbers c.loop-i.i c.loop-i.fields.items c.push-2.new.self.items c.in_ok-code_field.field-0 c.in_ok-push-2.ensures.items
    c.in_ok-code_field.ensures.domain c.loop-i.invariant.0 (omega (arith, c.loop-i-test.false, c.loop-i.auto.i-end))) c.of.ensures
