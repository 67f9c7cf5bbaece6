use Rattle.std.proofs.Common.{◌∙◌, ap, length, sym, List, ℕ, ℤ}
use Rattle.edit_model.specs.Corrections.{is_numerical}
use Rattle.edit_model.proofs.OrderLaws.{numbers-below}
use Rattle.edit_model.specs.FieldSets.{has_number}
use Rattle.edit_line.specs.Sums.{stands_only}
use Rattle.edit_line.proofs.ShapeLaws.{same_fields}
use Rattle.edit_line.proofs.line.Line.stands_only_in.Goals as goal

pub stands_only-requires-clause-count : goal.stands_only-requires-clause-count
stands_only-requires-clause-count c =
    ap length c.factors.ensures.factors ∙ c.factors.ensures.count
    ∙ sym (ap length (same_fields c.numbers.result.now c.args.survey.now.fields c.args.self.now.shape c.numbers.ensures c.requires))

pub stands_only-requires-clause-few : goal.stands_only-requires-clause-few
stands_only-requires-clause-few c = numbers-below is_numerical 64 c.args.survey.now.fields c.numbers.result.now c.fields-fields.ensures.well_formed.few_fields
    c.numbers.ensures

pub returns : goal.returns
returns c =
    c.stands_only.ensures ∙ ap (λ (fs : List ℤ). stands_only (has_number c.args.fields) c.numbers.result.now fs) c.factors.ensures.factors
    ∙ ap (λ (ns : List ℕ). stands_only (has_number c.args.fields) ns c.args.self.now.factors)
    (same_fields c.numbers.result.now c.args.survey.now.fields c.args.self.now.shape c.numbers.ensures c.requires)
