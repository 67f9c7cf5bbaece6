use Rattle.std.proofs.Common.{MatchOption, Option, subst}
use Rattle.fraction128.specs.declared.fraction.Fraction.{Fraction}
use Rattle.page_counts.specs.Numbers.{HaveNoNumber, IsGreatest, IsAtLeast}
use Rattle.page_counts.proofs.NumberLaws.{IsAtLeast-itself, IsAtLeast-trans, first_alone, first_of_both}
use Rattle.page_counts.proofs.numbers.greater_of.Goals as goal

pub returns-in-None : goal.returns-in-None
returns-in-None c = λ values first.
    first_alone IsAtLeast IsAtLeast-itself IsAtLeast-trans values c.args.number (subst (λ (o : Option Fraction). MatchOption o (HaveNoNumber values)
    (IsGreatest values)) c.in-None.is first)

pub returns-in-Some : goal.returns-in-Some
returns-in-Some c = λ values first.
    first_of_both IsAtLeast IsAtLeast-itself IsAtLeast-trans values c.in-Some.greatest c.args.number c.greater.result
    (subst (λ (o : Option Fraction). MatchOption o (HaveNoNumber values)
    (IsGreatest values)) c.in-Some.is first) c.greater.ensures.one c.greater.ensures.first c.greater.ensures.second
