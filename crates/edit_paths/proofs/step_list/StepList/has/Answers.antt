use Rattle.std.proofs.Common.{List, ap, sym, ◌∙◌}
use Rattle.std.specs.List.{list_any}
use Rattle.std.specs.Option.{is_some}
use Rattle.edit_paths.specs.Histories.{is_element}
use Rattle.edit_paths.specs.declared.making.Written.{Written}
use Rattle.edit_paths.proofs.StepNumbers.{number-any}
use Rattle.edit_paths.proofs.step_list.StepList.has.Goals as goal

pub returns : goal.returns
returns c =
    c.contains_key.ensures ∙ ap (λ o. is_some o) (c.self.invariant c.args.element) ∙ sym (number-any c.self.inside.written.items c.args.element)
    ∙ ap (λ (ws : List Written). list_any (λ (w : Written). is_element w.element c.args.element) ws) c.self.view_is
