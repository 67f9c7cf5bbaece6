-- One seat takes in the others.
use Rattle.std.proofs.Common.{◌≡◌, ℕ, ◌+◌, ◌<◌, List, [], ◌∷◌, cond, length, get_or, true, min, sym, ap, ◌∙◌, nat_eq, arith}
use Rattle.std.specs.List.{sum_by, Any}
use Rattle.std.proofs.lemmas.List.Sums.{sum_by-cons, sum_by-append, get_or-le-sum_by}
use mathlib.Core.Option.{some, some-injective}
use lib.ListN.{get_elem?}
use Rattle.ticket_row.specs.declared.rule.Hand.{Hand}
use Rattle.ticket_row.specs.Tickets.{Row, SeatState, times, times_drawn, DrawnBelow}
use Rattle.ticket_row.specs.inner.Hands.{hand_of}
use Rattle.ticket_row.specs.inner.Rule.{one_if, once_below, both_hands, EachOnce}
use Rattle.ticket_row.proofs.Moves.{all_drawn}

-- the seat is of these tickets
abbrev pub IsOf : Row → SeatState → Type 0
IsOf row seat = seat.row ≡ row

-- how many of these seats were answered None
abbrev pub ends_of : List SeatState → ℕ
ends_of seats = sum_by (λ (seat : SeatState). one_if seat.ended) seats

-- the hand has what all these seats had, but for those that are left
pub record HasTaken (all rest : List SeatState) (hand : Hand) : Type 0 where
  pub some_seat : 0 < hand.seats
  pub seats : hand.seats + length rest ≡ length all
  pub drawn : (x : ℕ) → times x hand.drawn + times_drawn x rest ≡ times_drawn x all
  pub ends : hand.ends + ends_of rest ≡ ends_of all

-- a seat has what it had itself
pub takes_first : (seat : SeatState) (rest : List SeatState) → HasTaken (seat ∷ rest) rest (hand_of seat)
takes_first seat rest = record {
  some_seat = omega arith;
  seats = omega arith;
  drawn = λ x. sym (sum_by-cons (λ (s : SeatState). times x s.drawn) seat rest);
  ends = sym (sum_by-cons (λ (s : SeatState). one_if s.ended) seat rest);
}

-- and takes in the next
pub takes_next : (all : List SeatState) (seat : SeatState) (rest : List SeatState) (hand : Hand) → HasTaken all (seat ∷ rest) hand
    → HasTaken all rest (both_hands hand (hand_of seat))
takes_next all seat rest hand had = record {
  some_seat = (let p = had.some_seat in omega arith);
  seats = (let p = had.seats in omega arith);
  drawn = λ x. (let p = had.drawn x in omega (
    arith,
    p,
    sum_by-cons (λ (s : SeatState). times x s.drawn) seat rest,
    sum_by-append (λ y. cond (nat_eq y x) 1 0) hand.drawn seat.drawn,
  ));
  ends = (let p = had.ends in omega (arith, p, sum_by-cons (λ (s : SeatState). one_if s.ended) seat rest));
}

-- where one seat was answered None, some seat met the end
some_end : (all : List SeatState) → Any (λ (seat : SeatState). seat.ended ≡ true) all → 0 < ends_of all
some_end all any =
    let within = get_or-le-sum_by (λ (seat : SeatState). one_if seat.ended) all any.0 any.1 any.2 in
    let one : one_if (get_or all any.0 any.1).ended ≡ 1 = ap (λ (seat : SeatState). one_if seat.ended) any.3 ∙ ap one_if any.4 in omega (arith, within, one)

-- a seat that has taken in all others knows what was drawn
pub closes : (count seats n : ℕ) (words : List ℕ) (hands : List Hand) (by drawn : ℕ) (all rest : List SeatState) (hand : Hand) → words ≡ n ∷ []
    → EachOnce count seats n hands → get_elem? hands by ≡ some hand → get_elem? words 0 ≡ some drawn
    → HasTaken all rest hand → length rest ≡ 0 → length all ≡ seats
    → DrawnBelow (min drawn count) all × (Any (λ (seat : SeatState). seat.ended ≡ true) all → min drawn count ≡ count)
closes count seats n words hands by drawn all (seat ∷ rest) hand one rule at read had none whole = absurd (omega arith)
closes count seats n words hands by drawn all [] hand one rule at read had none whole =
    let n_is : n ≡ drawn = some-injective n drawn (ap (λ ws. get_elem? ws 0) (sym one) ∙ read) in
    let known = all_drawn count seats n hands by hand rule at (let p = had.seats in omega (arith, p, whole)) in
    let each : (x : ℕ) → times_drawn x all ≡ once_below x (min drawn count) = λ x. (let d = had.drawn x in let k = known.0 x in omega (arith, d, k, n_is)) in (
      record { once = λ x lt. (let e = each x in omega (arith, e, lt)); no_other = λ x ge. (let e = each x in omega (arith, e, ge)) },
      (λ any. (let e = had.ends in let k = known.1 in let some_one = some_end all any in omega (arith, e, k, some_one, n_is))),
    )
