use Rattle.std.proofs.Common.{length, ap, sym, ◌∙◌}
use Rattle.std.specs.Option.{unwrap_or}
use Rattle.redundancy.proofs.ProvingLaws.{number-place}
use Rattle.redundancy.proofs.proving.number_of.Goals as goal

pub returns-in-Some : goal.returns-in-Some
returns-in-Some c = sym (number-place c.args.done.now c.args.element ∙ ap (λ o. unwrap_or o (length c.args.done.now)) (sym c.first_step.ensures ∙ c.in-Some.is))

pub returns-in-None : goal.returns-in-None
returns-in-None c = sym (number-place c.args.done.now c.args.element ∙ ap (λ o. unwrap_or o (length c.args.done.now)) (sym c.first_step.ensures ∙ c.in-None.is))
