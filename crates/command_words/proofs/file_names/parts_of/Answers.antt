use Rattle.std.proofs.Common.{◌∙◌, ℕ, List, ap, sym}
use Rattle.std.specs.Path.{cur_dir, path_components}
use Rattle.std.specs.Str.{bytes_eq}
use Rattle.command_words.proofs.NameParts.{all_parts, behind_here, no_parts}
use Rattle.command_words.proofs.file_names.parts_of.Goals as goal

pub returns-in_default : goal.returns-in_default
returns-in_default c =
    let said = c.in_default.ensures.steps in
    no_parts _ _ (ap path_components (sym c.new.ensures) ∙ sym c.components-rest.ensures ∙ said.0) said.1

pub returns-then-eq : goal.returns-then-eq
returns-then-eq c =
    let first = ap path_components (sym c.new.ensures) ∙ sym c.components-rest.ensures ∙ c.in-Some.ensures.steps.0 in
    behind_here _ _ _ (sym (ap (λ (t : List ℕ). bytes_eq t cur_dir) c.as_os_str.ensures) ∙ sym c.if-eq.ensures) first

pub returns-else-eq : goal.returns-else-eq
returns-else-eq c =
    let first = ap path_components (sym c.new.ensures) ∙ sym c.components-rest.ensures ∙ c.in-Some.ensures.steps.0 in
    c.components.ensures ∙ ap path_components c.new-else-eq.ensures
    ∙ all_parts _ _ _ (sym (ap (λ (t : List ℕ). bytes_eq t cur_dir) c.as_os_str.ensures) ∙ sym c.if-eq.ensures) first
