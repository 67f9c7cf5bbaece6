use Rattle.std.proofs.Common.{MatchOption, Option, subst}
use Rattle.fraction128.specs.declared.fraction.Fraction.{Fraction}
use Rattle.page_counts.specs.Numbers.{HaveNoNumber, IsLeast, IsAtMost}
use Rattle.page_counts.proofs.NumberLaws.{IsAtMost-itself, IsAtMost-trans, first_alone, first_of_both}
use Rattle.page_counts.proofs.numbers.lesser_of.Goals as goal

pub returns-in-None : goal.returns-in-None
returns-in-None c = λ values first.
    first_alone IsAtMost IsAtMost-itself IsAtMost-trans values c.args.number (subst (λ (o : Option Fraction). MatchOption o (HaveNoNumber values)
    (IsLeast values)) c.in-None.is first)

pub returns-in-Some : goal.returns-in-Some
returns-in-Some c = λ values first.
    first_of_both IsAtMost IsAtMost-itself IsAtMost-trans values c.in-Some.least c.args.number c.lesser.result
    (subst (λ (o : Option Fraction). MatchOption o (HaveNoNumber values)
    (IsLeast values)) c.in-Some.is first) c.lesser.ensures.one c.lesser.ensures.first c.lesser.ensures.second
