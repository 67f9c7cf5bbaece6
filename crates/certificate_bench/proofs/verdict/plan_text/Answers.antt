use Rattle.std.proofs.Common.{ap, ◌∙◌}
use Rattle.edit_model.specs.Parts.{SurveyParts}
use Rattle.certificate_bench.proofs.CaseLaws.{lines-over}
use Rattle.certificate_bench.proofs.verdict.plan_text.Goals as goal

pub verdict_text-requires-clause-over : goal.verdict_text-requires-clause-over
verdict_text-requires-clause-over c =
    lines-over c.field_count-count.result c.in_ok-survey.survey.fields c.deref.result.now c.in_ok-false_line.field-0
    (ap (λ (s : SurveyParts). s.fields) c.in_ok-survey.ensures) (c.deref.ensures.value ∙ c.in_ok-given.ensures.items) c.in_ok-false_line.ensures
