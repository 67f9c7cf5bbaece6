use Rattle.std.proofs.Common.{◌-◌, length, ap, not, arith}
use Rattle.edit_model.specs.Corrections.{is_numerical}
use Rattle.edit_model.proofs.OrderLaws.{order-parts, own-number}
use Rattle.edit_model.proofs.survey.Survey.path_field.Goals as goal

pub bounds-codes-place : goal.bounds-codes-place
bounds-codes-place c =
    omega (arith, order-parts c.args.self.now.fields, ap length c.numbers-numbers.ensures, ap length c.codes.ensures, c.if-place-numbers.false, c.requires)

pub returns-then-place-numbers-clause-within : goal.returns-then-place-numbers-clause-within
returns-then-place-numbers-clause-within c =
    own-number is_numerical c.args.self.now.fields c.numbers-numbers.result.now c.args.place c.numbers-numbers.ensures c.if-place-numbers.true

pub returns-else-place-numbers-clause-within : goal.returns-else-place-numbers-clause-within
returns-else-place-numbers-clause-within c =
    own-number (λ k. not (is_numerical k)) c.args.self.now.fields c.codes.result.now (c.args.place - length c.numbers-numbers.result.now) c.codes.ensures
    (omega (arith, order-parts c.args.self.now.fields, ap length c.numbers-numbers.ensures, ap length c.codes.ensures, c.if-place-numbers.false, c.requires))
