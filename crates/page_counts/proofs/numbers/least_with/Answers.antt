use Rattle.std.proofs.Common.{◌∙◌, ◌++◌, [], ◌∷◌, subst, sym}
use Rattle.edit_model.specs.declared.value.Value.{Value}
use Rattle.page_counts.specs.Numbers.{IsLeast, IsAtMost}
use Rattle.page_counts.proofs.NumberLaws.{IsAtMost-itself, IsAtMost-trans, first_beside}
use Rattle.page_counts.proofs.numbers.least_with.Goals as goal

pub returns-in-Number : goal.returns-in-Number
returns-in-Number c = λ values first. subst (λ (v : Value). IsLeast (values ++ v ∷ []) c.lesser_of.result) (sym c.in-Number.is)
    (c.lesser_of.ensures values first)

pub returns-in-Code : goal.returns-in-Code
returns-in-Code c = λ values first. first_beside IsAtMost IsAtMost-itself IsAtMost-trans values c.args.value.now (λ x e. let apart = sym c.in-Code.is
    ∙ e in cc) c.args.least first

pub returns-in-Bad : goal.returns-in-Bad
returns-in-Bad c = λ values first. first_beside IsAtMost IsAtMost-itself IsAtMost-trans values c.args.value.now (λ x e. let apart = sym c.in-Bad.is
    ∙ e in cc) c.args.least first
