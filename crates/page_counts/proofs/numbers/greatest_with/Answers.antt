use Rattle.std.proofs.Common.{◌∙◌, ◌++◌, [], ◌∷◌, subst, sym}
use Rattle.edit_model.specs.declared.value.Value.{Value}
use Rattle.page_counts.specs.Numbers.{IsGreatest, IsAtLeast}
use Rattle.page_counts.proofs.NumberLaws.{IsAtLeast-itself, IsAtLeast-trans, first_beside}
use Rattle.page_counts.proofs.numbers.greatest_with.Goals as goal

pub returns-in-Number : goal.returns-in-Number
returns-in-Number c = λ values first. subst (λ (v : Value). IsGreatest (values ++ v ∷ []) c.greater_of.result) (sym c.in-Number.is)
    (c.greater_of.ensures values first)

pub returns-in-Code : goal.returns-in-Code
returns-in-Code c = λ values first. first_beside IsAtLeast IsAtLeast-itself IsAtLeast-trans values c.args.value.now (λ x e. let apart = sym c.in-Code.is
    ∙ e in cc) c.args.greatest first

pub returns-in-Bad : goal.returns-in-Bad
returns-in-Bad c = λ values first. first_beside IsAtLeast IsAtLeast-itself IsAtLeast-trans values c.args.value.now (λ x e. let apart = sym c.in-Bad.is
    ∙ e in cc) c.args.greatest first
