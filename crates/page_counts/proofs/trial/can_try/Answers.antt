use Rattle.std.proofs.Common.{◌≡◌, ◌∙◌, sym, arith}
use Rattle.std.proofs.lemmas.Grind.{common_steps}
use Rattle.page_counts.specs.Rules.{can_try}
use Rattle.page_counts.proofs.TrialLaws.{can_try-shown, can_try-shows}
use Rattle.page_counts.proofs.trial.can_try.Goals as goal

pub returns-then-have_values-clause-shown : goal.returns-then-have_values-clause-shown
returns-then-have_values-clause-shown c =
    let same : c.has_values.result ≡ can_try c.args.row.now c.args.rule.now = grind (arith, common_steps) in
    (λ is. can_try-shows c.args.row.now c.args.rule.now (sym same ∙ is), λ can. same ∙ can_try-shown c.args.row.now c.args.rule.now can)

pub returns-else-have_values-clause-shown : goal.returns-else-have_values-clause-shown
returns-else-have_values-clause-shown c =
    let same : c.have_values.result ≡ can_try c.args.row.now c.args.rule.now = grind (arith, common_steps) in
    (λ is. can_try-shows c.args.row.now c.args.rule.now (sym same ∙ is), λ can. same ∙ can_try-shown c.args.row.now c.args.rule.now can)
