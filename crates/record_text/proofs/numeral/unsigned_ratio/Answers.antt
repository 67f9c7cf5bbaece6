use Rattle.std.proofs.Common.{◌∙◌, sym, arith}
use Rattle.record_text.proofs.NumeralLaws.{digits_alone, from_place, none_so, quotient_around, some_so, with_point, with_stroke}
use Rattle.std.proofs.lemmas.Grind.{common_steps}
use Rattle.record_text.proofs.numeral.unsigned_ratio.Goals as goal

pub returns-in_default-clause-none : goal.returns-in_default-clause-none
returns-in_default-clause-none c =
    none_so c.decimal_ratio.result (λ none p q numeral. none p q
    (digits_alone c.args.text.now p q (sym c.mark_place.ensures ∙ c.in_default.is) numeral)) c.decimal_ratio.ensures.none

pub returns-then-text-place-eq46-clause-none : goal.returns-then-text-place-eq46-clause-none
returns-then-text-place-eq46-clause-none c =
    none_so c.decimal_ratio-then-text-place-eq46.result
    (λ none p q numeral. none p q (rw (from_place c.args.text.now c.in-Some.place)
    (with_point c.args.text.now p q c.in-Some.place (sym c.mark_place.ensures
    ∙ c.in-Some.is) c.if-text-place-eq46.true numeral))) c.decimal_ratio-then-text-place-eq46.ensures.none

pub returns-else-text-place-eq46-clause-some : goal.returns-else-text-place-eq46-clause-some
returns-else-text-place-eq46-clause-some c =
    some_so c.quotient_ratio.result (λ ratio is. quotient_around c.args.text.now ratio.numerator ratio.denominator c.in-Some.place
    (sym c.mark_place.ensures ∙ c.in-Some.is) c.if-text-place-eq46.false is)
    (rw (from_place c.args.text.now c.in-Some.place) at c.quotient_ratio.ensures.some)

pub returns-else-text-place-eq46-clause-none : goal.returns-else-text-place-eq46-clause-none
returns-else-text-place-eq46-clause-none c =
    none_so c.quotient_ratio.result
    (λ none p q numeral. none p q (rw (from_place c.args.text.now c.in-Some.place)
    (with_stroke c.args.text.now p q c.in-Some.place (sym c.mark_place.ensures
    ∙ c.in-Some.is) c.if-text-place-eq46.false numeral))) c.quotient_ratio.ensures.none

pub returns-then-text-place-eq46-clause-some : goal.returns-then-text-place-eq46-clause-some
returns-then-text-place-eq46-clause-some c = grind (arith, common_steps)
