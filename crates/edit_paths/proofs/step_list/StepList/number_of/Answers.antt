use Rattle.std.proofs.Common.{List, ap, length, rules, sym, ◌∙◌, ◌≡◌}
use Rattle.std.specs.Option.{unwrap_or}
use Rattle.edit_paths.specs.Histories.{step_number}
use Rattle.edit_paths.specs.declared.making.Written.{Written}
use Rattle.edit_paths.proofs.StepNumbers.{number-in}
use Rattle.edit_paths.proofs.step_list.StepList.number_of.Goals as goal

pub returns-in-Some : goal.returns-in-Some
returns-in-Some c =
    ap (λ o. unwrap_or o (length c.self.inside.written.items)) (c.in-Some.ensures.value ∙ c.self.invariant c.args.element)
    ∙ sym (number-in c.self.inside.written.items c.args.element)
    ∙ ap (λ (ws : List Written). step_number ws c.args.element) c.self.view_is

pub returns-in-None : goal.returns-in-None
returns-in-None c =
    let number : c.len.result ≡ length c.self.inside.written.items = c.len.ensures ∙ search rules in
    number
    ∙ ap (λ o. unwrap_or o (length c.self.inside.written.items)) (c.in-None.ensures.value ∙ c.self.invariant c.args.element)
    ∙ sym (number-in c.self.inside.written.items c.args.element)
    ∙ ap (λ (ws : List Written). step_number ws c.args.element) c.self.view_is
