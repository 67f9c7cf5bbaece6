use Rattle.std.proofs.Common.{◌≡◌, rules, subst, sym, List, ℕ}
use Rattle.edit_language.specs.Grammar.{IsRuleText}
use Rattle.edit_language.specs.Printing.{printed}
use Rattle.edit_language.proofs.PrintingLaw.{printed-read}
use Rattle.edit_language.proofs.printing.print_rules.Goals as goal

pub returns-clause-read_again : goal.returns-clause-read_again
returns-clause-read_again c =
    let is : c.write_rules.new.text.items ≡ printed c.args.survey.now = search (rules) in
    subst (λ (text : List ℕ). IsRuleText text c.args.survey.now) (sym is) (printed-read c.args.survey.now c.fields-fields.ensures.well_formed)
