-- The rule of a row of tickets: each number that was drawn is in the hand of one seat, once.
use Rattle.std.specs.Prelude.{◌≡◌, ℕ, ◌+◌, ◌-◌, ◌<◌, ◌≤◌, Bool, true, false, List, [], ◌∷◌, ◌++◌, min, if◌then◌else◌, nat_lt}
use Rattle.std.specs.List.{All, sum_by}
use mathlib.Core.Option.{some}
use lib.ListN.{get_elem?}
use Rattle.atomic_table.specs.Table.{State, Me, Step}
use Rattle.ticket_row.specs.Tickets.{times}
use Rattle.ticket_row.specs.declared.rule.Hand.{Hand}
use Rattle.ticket_row.specs.declared.rule.Terms.{Terms}

-- what a seat knows: the count of tickets, for how many seats it stands, what it drew, and how often it met the end
abbrev pub hand_with : ℕ → ℕ → List ℕ → ℕ → Hand
hand_with count seats drawn ends = record { count = count; seats = seats; drawn = drawn; ends = ends }

-- 1 where it is so, and else 0
abbrev pub one_if : Bool → ℕ
one_if true = 1
one_if false = 0

-- 1 where x is below n, and else 0
abbrev pub once_below : ℕ → ℕ → ℕ
once_below x n = min 1 (n - x)

-- a hand met the end at most once for each seat that it stands for. One that stands for none has drawn nothing, and any
-- other knows the count
pub record IsFair (count : ℕ) (hand : Hand) : Type 0 where
  pub few_ends : hand.ends ≤ hand.seats
  pub idle : hand.seats ≡ 0 → hand.drawn ≡ []
  pub knows : 0 < hand.seats → hand.count ≡ count

-- after n draws the hands stand for all seats, hold each number that is below n and the count once and no other, and met
-- the end as often as there were draws past the count
pub record EachOnce (count seats n : ℕ) (hands : List Hand) : Type 0 where
  pub seats_are : sum_by (λ (hand : Hand). hand.seats) hands ≡ seats
  pub drawn : (x : ℕ) → sum_by (λ (hand : Hand). times x hand.drawn) hands ≡ once_below x (min n count)
  pub ends : sum_by (λ (hand : Hand). hand.ends) hands ≡ n - count
  pub fair : (by : ℕ) (hand : Hand) → get_elem? hands by ≡ some hand → IsFair count hand

-- the one word of the table counts the draws
abbrev pub AreTickets : Terms → State (Unit {0}) Hand → Type 0
AreTickets terms state = (n : ℕ) × (state.words ≡ n ∷ []) × EachOnce terms.count terms.seats n state.views

-- the first hand stands for all seats
abbrev pub first_hand : Terms → Hand
first_hand terms = hand_with terms.count terms.seats [] 0

-- a draw that takes this number
abbrev pub with_number : ℕ → Hand → Hand
with_number number hand = hand_with hand.count hand.seats (hand.drawn ++ number ∷ []) hand.ends

-- a draw that meets the end
abbrev pub with_end : Hand → Hand
with_end hand = hand_with hand.count hand.seats hand.drawn (hand.ends + 1)

-- a draw of a number below the count takes it, and any other draw meets the end
abbrev pub drew : ℕ → Hand → Hand
drew number hand = if nat_lt number hand.count then with_number number hand else with_end hand

-- what a draw tells: the number that it found is greater than all that the seat drew before
abbrev pub HasDrawn : Step (Unit {0}) → Me (Unit {0}) Hand → ℕ → Me (Unit {0}) Hand → Type 0
HasDrawn step old number new = (new ≡ (drew number old.0, old.1)) × All (λ k. k < number) old.0.drawn

-- the hand that is left where a seat is split off
abbrev pub without_a_seat : Hand → Hand
without_a_seat hand = hand_with hand.count (hand.seats - 1) hand.drawn hand.ends

-- the hand of the seat that was split off
abbrev pub new_hand : Hand → Hand
new_hand hand = hand_with hand.count 1 [] 0

-- the hand that takes in another
abbrev pub both_hands : Hand → Hand → Hand
both_hands hand other = hand_with hand.count (hand.seats + other.seats) (hand.drawn ++ other.drawn) (hand.ends + other.ends)

-- the hand that was taken in: it knows nothing and stands for no seat
abbrev pub spent_hand : Hand
spent_hand = hand_with 0 0 [] 0
