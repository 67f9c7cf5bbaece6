-- Each kind of step keeps the rule: the first seat, a draw, a split, a join.
use Rattle.std.proofs.Common.{◌≡◌, ◌≢◌, ℕ, zero, suc, ◌+◌, ◌-◌, ◌<◌, ◌≤◌, ◌%◌, ◌^◌, Bool, true, false, List, [], ◌∷◌, ◌++◌, cond, set, min, slice_index, All}
use Rattle.std.proofs.Common.{refl, sym, ap, ◌∙◌, subst, ⊎_elim, nat_lt, nat_eq, arith, lt-ltb, eqb-true, true≢false}
use Rattle.std.proofs.lemmas.List.Sums.{sum_by-append, sum_by_push}
use Rattle.std.proofs.lemmas.Bool.{cases_lt}
use Rattle.std.proofs.lemmas.Bool.Decides.{eqb_tells}
use mathlib.Core.Option.{some, some-injective, some-ne-none}
use lib.ListN.{get_elem?}
use Rattle.atomic_table.specs.Table.{State, Me, Step, Act, opening, stepped, carried_after, Valid, Allows, Splits, Joins, keeps}
use Rattle.atomic_table.proofs.Lists.{at_set, at_snoc}
use Rattle.ticket_row.specs.declared.rule.Hand.{Hand}
use Rattle.ticket_row.specs.declared.rule.Terms.{Terms}
use Rattle.ticket_row.specs.Tickets.{times}
use Rattle.ticket_row.specs.inner.Rule.{hand_with, once_below, IsFair, EachOnce, AreTickets, first_hand, drew, HasDrawn, without_a_seat, new_hand, both_hands}
use Rattle.ticket_row.specs.inner.Rule.{spent_hand}
use Rattle.ticket_row.proofs.Rising.{all_by_times}
use Rattle.foundation.proofs.Totals.{sum_by_set, term_within, sums_apart, sum_of_one}

-- every hand is fair
abbrev AllFair : ℕ → List Hand → Type 0
AllFair count hands = (by : ℕ) (hand : Hand) → get_elem? hands by ≡ some hand → IsFair count hand

-- one hand changes, and the others stay fair
fair_set : (count : ℕ) (hands : List Hand) (by : ℕ) (new : Hand) → AllFair count hands → IsFair count new → AllFair count (set hands by new)
fair_set count hands by new fair mine j u at = ⊎_elim (λ (x : (j ≡ by) × (new ≡ u)). subst (IsFair count) x.1 mine)
    (λ (x : (j ≢ by) × (get_elem? hands j ≡ some u)). fair j u x.1) (at_set hands by j new u at)

-- one hand is added, and the others stay fair
fair_push : (count : ℕ) (hands : List Hand) (new : Hand) → AllFair count hands → IsFair count new → AllFair count (hands ++ new ∷ [])
fair_push count hands new fair mine j u at = ⊎_elim (λ e. fair j u e) (λ e. subst (IsFair count) e mine) (at_snoc hands new u j at)

-- at the start, the first seat stands for all
pub begins : (terms : Terms) → AreTickets terms (opening (0 ∷ []) [] (first_hand terms))
begins terms = (0, refl, record { seats_are = omega arith; drawn = λ x. omega arith; ends = omega arith; fair = one })
  where
    one : AllFair terms.count (first_hand terms ∷ [])
    one zero hand at = subst (IsFair terms.count) (some-injective _ _ at) record { few_ends = omega arith; idle = λ _. refl; knows = λ _. refl }
    one (suc by) hand at = absurd (some-ne-none hand (sym at))

-- where a seat that has not met the end draws, the draws before are fewer than the tickets and the seats
pub few_draws : (count seats n : ℕ) (hands : List Hand) (by : ℕ) (hand : Hand) → EachOnce count seats n hands → get_elem? hands by ≡ some hand
    → hand.ends < hand.seats → n < count + seats
few_draws count seats n hands by hand rule at open_end =
    let less = sums_apart (λ (u : Hand). u.ends) (λ (u : Hand). u.seats) hands by hand (λ j u a. (rule.fair j u a).few_ends) at open_end in
    let e = rule.ends in
    let p = rule.seats_are in
    omega arith

-- what a seat drew is below the number of draws
pub drawn_below : (count seats n : ℕ) (hands : List Hand) (by : ℕ) (hand : Hand) → EachOnce count seats n hands → get_elem? hands by ≡ some hand
    → All (λ k. k < n) hand.drawn
drawn_below count seats n hands by hand rule at =
    all_by_times (λ k. k < n) hand.drawn (λ x some_time. let within = term_within (λ (u : Hand). times x u.drawn) hands by hand at in let e = rule.drawn x in
    omega arith)

-- the number n is the one that is below n + 1 and not below n
one_more : (x n count : ℕ) → n < count → (b : Bool) → nat_eq n x ≡ b → once_below x (min (n + 1) count) ≡ once_below x (min n count) + cond b 1 0
one_more x n count lt true is = let e = eqb-true n x is in omega (arith, e)
one_more x n count lt false is = ⊎_elim (λ (t : (nat_eq n x ≡ true) × (n ≡ x)). absurd (true≢false (sym t.0 ∙ is)))
    (λ (f : (nat_eq n x ≡ false) × (n ≢ x)). apart f.1) (eqb_tells n x)
  where
    apart : n ≢ x → once_below x (min (n + 1) count) ≡ once_below x (min n count) + 0
    apart ne = omega (arith, ne)

-- a draw below the count takes its number
pub drew_below : (n : ℕ) (hand : Hand) → n < hand.count → drew n hand ≡ hand_with hand.count hand.seats (hand.drawn ++ n ∷ []) hand.ends
drew_below n hand lt = rw (lt-ltb n hand.count lt) refl

-- and any other meets the end
pub drew_past : (n : ℕ) (hand : Hand) → hand.count ≤ n → drew n hand ≡ hand_with hand.count hand.seats hand.drawn (hand.ends + 1)
drew_past n hand ge = let past : nat_lt n hand.count ≡ false = grind (arith, ge) in rw past refl

-- a draw keeps the rule
pub draws : (count seats n : ℕ) (hands : List Hand) (by : ℕ) (hand : Hand) → EachOnce count seats n hands → get_elem? hands by ≡ some hand
    → hand.ends < hand.seats → EachOnce count seats (n + 1) (set hands by (drew n hand))
draws count seats n hands by hand rule at open_end = ⊎_elim taken met (cases_lt n hand.count)
  where
    mine : IsFair count hand
    mine = rule.fair by hand at

    knows : hand.count ≡ count
    knows = mine.knows (omega arith)

    taken : n < hand.count → EachOnce count seats (n + 1) (set hands by (drew n hand))
    taken lt =
        let new = hand_with hand.count hand.seats (hand.drawn ++ n ∷ []) hand.ends in
        subst (λ u. EachOnce count seats (n + 1) (set hands by u)) (sym (drew_below n hand lt)) (
        record {
          seats_are = (let s = sum_by_set (λ (u : Hand). u.seats) hands by hand new at in let p = rule.seats_are in omega arith);
          drawn = λ x.
              (let s = sum_by_set (λ (u : Hand). times x u.drawn) hands by hand new at in
              let p = rule.drawn x in
              let more = sum_by_push (λ y. cond (nat_eq y x) 1 0) hand.drawn n in
              let step = one_more x n count (omega (arith, lt, knows)) (nat_eq n x) refl in
              omega (arith, s, p, more, step));
          ends = (let s = sum_by_set (λ (u : Hand). u.ends) hands by hand new at in let p = rule.ends in omega (arith, s, p, lt, knows));
          fair = fair_set count hands by new rule.fair record { few_ends = mine.few_ends; idle = λ none. absurd (omega arith); knows = mine.knows };
        })

    met : hand.count ≤ n → EachOnce count seats (n + 1) (set hands by (drew n hand))
    met ge =
        let new = hand_with hand.count hand.seats hand.drawn (hand.ends + 1) in
        subst (λ u. EachOnce count seats (n + 1) (set hands by u)) (sym (drew_past n hand ge)) (
        record {
          seats_are = (let s = sum_by_set (λ (u : Hand). u.seats) hands by hand new at in let p = rule.seats_are in omega arith);
          drawn = λ x. (let s = sum_by_set (λ (u : Hand). times x u.drawn) hands by hand new at in let p = rule.drawn x in omega (arith, s, p, ge, knows));
          ends = (let s = sum_by_set (λ (u : Hand). u.ends) hands by hand new at in let p = rule.ends in omega (arith, s, p, ge, knows));
          fair = fair_set count hands by new rule.fair record { few_ends = omega arith; idle = λ none. absurd (omega arith); knows = mine.knows };
        })

-- a seat that is split off keeps the rule
pub splits : (count seats n : ℕ) (hands : List Hand) (by : ℕ) (hand : Hand) → EachOnce count seats n hands → get_elem? hands by ≡ some hand
    → hand.ends + 1 < hand.seats
    → EachOnce count seats n (set hands by (without_a_seat hand) ++ new_hand hand ∷ [])
splits count seats n hands by hand rule at two =
    let left = without_a_seat hand in
    let rest = set hands by left in
    let right = new_hand hand in
    let knows = (rule.fair by hand at).knows (omega arith) in
    record {
      seats_are = (let s = sum_by_set (λ (u : Hand). u.seats) hands by hand left at in let t = sum_by_push (λ (u : Hand). u.seats) rest right in
          let p = rule.seats_are in omega arith);
      drawn = λ x. (let s = sum_by_set (λ (u : Hand). times x u.drawn) hands by hand left at in
          let t = sum_by_push (λ (u : Hand). times x u.drawn) rest right in let p = rule.drawn x in omega (arith, s, t, p));
      ends = (let s = sum_by_set (λ (u : Hand). u.ends) hands by hand left at in let t = sum_by_push (λ (u : Hand). u.ends) rest right in let p = rule.ends in
          omega arith);
      fair =
          fair_push count rest right (fair_set count hands by left rule.fair record {
            few_ends = omega arith;
            idle = λ none. absurd (omega arith);
            knows = λ _. knows;
          })
          record { few_ends = omega arith; idle = λ none. refl; knows = λ _. knows };
    }

-- a seat that takes in another keeps the rule
pub joins : (count seats n : ℕ) (hands : List Hand) (by : ℕ) (hand : Hand) (other : ℕ) (taken : Hand) → EachOnce count seats n hands
    → get_elem? hands by ≡ some hand → ¬ (other ≡ by) → get_elem? (set hands by (both_hands hand taken)) other ≡ some taken → 0 < hand.seats
    → EachOnce count seats n (set (set hands by (both_hands hand taken)) other spent_hand)
joins count seats n hands by hand other taken rule at apart there some_seat =
    let both = both_hands hand taken in
    let rest = set hands by both in
    let mine = rule.fair by hand at in
    let theirs : IsFair count taken = ⊎_elim (λ (t : (other ≡ by) × (both ≡ taken)). absurd (apart t.0))
    (λ (t : (other ≢ by) × (get_elem? hands other ≡ some taken)). rule.fair other taken t.1) (at_set hands by other both taken there) in
    record {
      seats_are = (let s = sum_by_set (λ (u : Hand). u.seats) hands by hand both at in
          let t = sum_by_set (λ (u : Hand). u.seats) rest other taken spent_hand there in let p = rule.seats_are in omega arith);
      drawn = λ x.
          (let s = sum_by_set (λ (u : Hand). times x u.drawn) hands by hand both at in
          let t = sum_by_set (λ (u : Hand). times x u.drawn) rest other taken spent_hand there in
          let more = sum_by-append (λ y. cond (nat_eq y x) 1 0) hand.drawn taken.drawn in
          let p = rule.drawn x in omega (arith, s, t, more, p));
      ends = (let s = sum_by_set (λ (u : Hand). u.ends) hands by hand both at in let t = sum_by_set (λ (u : Hand). u.ends) rest other taken spent_hand there in
          let p = rule.ends in omega arith);
      fair =
          fair_set count rest other spent_hand
          (fair_set count hands by both rule.fair record {
            few_ends = (let a = mine.few_ends in let b = theirs.few_ends in omega arith);
            idle = λ none. absurd (omega arith);
            knows = λ _. mine.knows some_seat;
          })
          record { few_ends = omega arith; idle = λ _. refl; knows = λ stands. absurd (omega arith) };
    }

-- a hand that stands for all seats holds all that was drawn
pub all_drawn : (count seats n : ℕ) (hands : List Hand) (by : ℕ) (hand : Hand) → EachOnce count seats n hands → get_elem? hands by ≡ some hand
    → hand.seats ≡ seats
    → ((x : ℕ) → times x hand.drawn ≡ once_below x (min n count)) × (hand.ends ≡ n - count)
all_drawn count seats n hands by hand rule at all =
    let whole = rule.seats_are ∙ sym all in (
      (λ x. sym (sum_of_one (λ (u : Hand). times x u.drawn) (λ (u : Hand). u.seats) hands by hand
          (λ j u a none. ap (times x) ((rule.fair j u a).idle none)) at whole) ∙ rule.drawn x),
      sym (sum_of_one (λ (u : Hand). u.ends) (λ (u : Hand). u.seats) hands by hand
          (λ j u a none. (let le = (rule.fair j u a).few_ends in omega (arith, none, le))) at whole) ∙ rule.ends,
    )

-- what a draw has to show where these are the words of the table
abbrev Goes : Terms → ℕ → Me (Unit {0}) Hand → Step (Unit {0}) → State (Unit {0}) Hand → List ℕ → Type 0
Goes terms by me step state words =
    (new : Hand) × (act : Act (Unit {0})) × Valid state.homes me.1 act
    × AreTickets terms (stepped record { words = words; homes = state.homes; views = state.views } 0 ((slice_index words 0 + 1) % 2 ^ 64) by me.1 new act)
    × HasDrawn step me (slice_index words 0) (new, carried_after me.1 act)

-- a draw, a split and a join as the table asks for them
pub draws_as : (terms : Terms) (slots by : ℕ) (me : Me (Unit {0}) Hand) (step : Step (Unit {0})) → terms.count + terms.seats < 4294967296
    → me.0.ends < me.0.seats
    → Allows (AreTickets terms) slots by me 0 (λ n. (n + 1) % 2 ^ 64) (HasDrawn step me)
draws_as terms slots by me step room open_end state rule homes at small =
    let n = rule.0 in
    let few = few_draws terms.count terms.seats n state.views by me.0 rule.2 at open_end in
    let no_wrap : (n + 1) % 2 ^ 64 ≡ n + 1 = omega (arith, few, room) in
    let goes : Goes terms by me step state (n ∷ []) = (
      drew n me.0,
      keeps,
      tt,
      (n + 1, ap (λ m. m ∷ []) no_wrap, draws terms.count terms.seats n state.views by me.0 rule.2 at open_end),
      (refl, drawn_below terms.count terms.seats n state.views by me.0 rule.2 at),
    ) in
    subst (Goes terms by me step state) (sym rule.1) goes

pub splits_as : (terms : Terms) (by : ℕ) (hand : Hand) → hand.ends + 1 < hand.seats → Splits (AreTickets terms) by hand (without_a_seat hand) (new_hand hand)
splits_as terms by hand two state rule at = (rule.0, rule.1, splits terms.count terms.seats rule.0 state.views by hand rule.2 at two)

pub joins_as : (terms : Terms) (by : ℕ) (hand : Hand) (other : ℕ) (taken : Hand) → 0 < hand.seats
    → Joins (AreTickets terms) by hand other taken (both_hands hand taken) spent_hand
joins_as terms by hand other taken some_seat state rule at apart there =
    (rule.0, rule.1, joins terms.count terms.seats rule.0 state.views by hand other taken rule.2 at apart there some_seat)
