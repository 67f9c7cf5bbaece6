use Rattle.std.proofs.Common.{List, Some, ap, cond, length, rules, sym, ◌∙◌, ◌≡◌}
use Rattle.std.specs.BTreeMap.{get}
use Rattle.std.specs.List.{list_any}
use Rattle.std.specs.Ordering.{is_eq}
use Rattle.edit_paths.specs.Histories.{is_element}
use Rattle.edit_paths.specs.declared.making.Written.{Written}
use Rattle.edit_paths.specs.inner.Writing.{element_cmp, number_of}
use Rattle.edit_paths.proofs.StepNumbers.{number-more, number-none}
use Rattle.edit_paths.proofs.step_list.StepList.push.Goals as goal

pub invariant_of-self-in-Ok : goal.invariant_of-self-in-Ok
invariant_of-self-in-Ok c = λ element.
    let number : c.len-number.result ≡ length c.self.inside.written.items = c.len-number.ensures ∙ search rules in
    c.in-Ok.ensures.updates.0 element
    ∙ ap (λ n. cond (is_eq (element_cmp c.args.element element)) (Some n) (get element_cmp c.self.inside.numbers element)) number
    ∙ number-more c.self.inside.written.items (record { element = c.args.element; step = c.args.step }) element (get element_cmp c.self.inside.numbers element)
    (number-none c.self.inside.written.items c.args.element (ap (λ (ws : List Written). list_any (λ (w : Written). is_element w.element c.args.element) ws)
    c.self.view_is ∙ c.requires))
    (c.self.invariant element)
    ∙ ap (λ (ws : List Written). number_of ws element) (sym c.in_ok-push.ensures.items)
