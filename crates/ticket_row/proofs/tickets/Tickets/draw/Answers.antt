use Rattle.std.proofs.Common.{rules, arith, ◌≡◌, ◌+◌, ◌<◌, ◌≤◌, ◌++◌, [], ◌∷◌, ℕ, All, length, refl, sym, ap, ◌∙◌, subst}
use Rattle.std.specs.List.Sorted.{IsStrictlyIncreasing}
use Rattle.std.proofs.lemmas.List.Elements.{All-push}
use mathlib.Core.Option.{none}
use Rattle.atomic_table.specs.Table.{step}
use Rattle.ticket_row.specs.declared.rule.Hand.{Hand}
use Rattle.ticket_row.specs.inner.Rule.{hand_with, one_if}
use Rattle.ticket_row.proofs.Moves.{draws_as, drew_below, drew_past}
use Rattle.foundation.proofs.Rising.{rising_push}
use Rattle.ticket_row.proofs.Rising.{rising_few}
use Rattle.ticket_row.proofs.tickets.Tickets.draw.Goals as goal

pub fetch_add-found-requires : goal.fetch_add-found-requires
fetch_add-found-requires c =
    let inv = c.seat.invariant in
    let own = c.self.invariant in
    let no_end : c.seat.inside.place.me.0.ends ≡ 0 = inv.2 ∙ ap one_if c.if-seat.false in (
      ap (λ d. d.row.name) c.seat.view_is ∙ ap (λ r. r.name) c.requires ∙ sym (ap (λ t. t.row.name) c.self.view_is),
      search rules,
      draws_as c.self.inside.table.shared.key c.self.inside.table.shared.table_id.slots c.seat.inside.place.id c.seat.inside.place.me
          (step c.self.inside.table.shared.table_id.slots 0 1 0 none) (omega (arith, own.2, own.4)) (omega (arith, no_end, inv.1)),
    )

-- a number was drawn
module _ (c : goal.Then-found-self) where
  abbrev hand : Hand
  hand = c.seat.inside.place.me.0

  abbrev number : ℕ
  number = c.fetch_add-found.result

  count_is : hand.count ≡ c.self.inside.count
  count_is = ap (λ d. d.row.count) c.seat.view_is ∙ ap (λ r. r.count) c.requires ∙ sym (ap (λ t. t.row.count) c.self.view_is)

  in_count : number < hand.count
  in_count = let e = count_is in let lt = c.if-found-self.true in omega (arith, e, lt)

  me_is : c.fetch_add-found.new.seat.me ≡ (hand_with hand.count hand.seats (hand.drawn ++ number ∷ []) hand.ends, c.seat.inside.place.me.1)
  me_is = c.fetch_add-found.ensures.2.0 ∙ ap (λ h. (h, c.seat.inside.place.me.1)) (drew_below number hand in_count)

  rises : IsStrictlyIncreasing (hand.drawn ++ number ∷ [])
  rises = rising_push hand.drawn number c.seat.invariant.3 c.fetch_add-found.ensures.2.1

  stays_below : All (λ k. k < hand.count) (hand.drawn ++ number ∷ [])
  stays_below = All-push (λ k. k < hand.count) hand.drawn number c.seat.invariant.4 in_count

pub invariant_of-seat : goal.invariant_of-seat
invariant_of-seat c =
    let e = me_is c in
    let inv = c.seat.invariant in (
      ap (λ m. m.1) e ∙ inv.0,
      ap (λ m. m.0.seats) e ∙ inv.1,
      ap (λ m. m.0.ends) e ∙ inv.2,
      subst (λ m. IsStrictlyIncreasing m.0.drawn) (sym e) (rises c),
      subst (λ m. All (λ k. k < m.0.count) m.0.drawn) (sym e) (stays_below c),
    )

pub returns-then-found-self-clause-row : goal.returns-then-found-self-clause-row
returns-then-found-self-clause-row c =
    let e = me_is c in
    let here : record {
      name = c.fetch_add-found.new.seat.table_id;
      count = c.fetch_add-found.new.seat.me.0.count;
    } ≡ record { name = c.seat.inside.place.table_id; count = (hand c).count } =
    λ i. record { name = c.fetch_add-found.ensures.0 i; count = (e i).0.count } in
    here ∙ ap (λ d. d.row) c.seat.view_is

pub returns-then-found-self-clause-some : goal.returns-then-found-self-clause-some
returns-then-found-self-clause-some c =
    let e = me_is c in
    (sym (ap (λ d. d.ended) c.seat.view_is) ∙ c.if-seat.false, c.if-seat.false, ap (λ m. m.0.drawn) e ∙ ap (λ d. d.drawn ++ number c ∷ []) c.seat.view_is)

pub returns-then-found-self-clause-few : goal.returns-then-found-self-clause-few
returns-then-found-self-clause-few c =
    let e = me_is c in
    subst (λ n. length c.fetch_add-found.new.seat.me.0.drawn ≤ n) (count_is c ∙ ap (λ t. t.row.count) c.self.view_is)
    (subst (λ m. length m.0.drawn ≤ (hand c).count) (sym e) (rising_few ((hand c).drawn ++ number c ∷ []) (hand c).count (rises c) (stays_below c)))

-- none was left
module _ (c : goal.After-seat-1) where
  abbrev old : Hand
  old = c.seat.inside.place.me.0

  me_past : c.fetch_add-found.new.seat.me ≡ (hand_with old.count old.seats old.drawn (old.ends + 1), c.seat.inside.place.me.1)
  me_past = c.fetch_add-found.ensures.2.0 ∙ ap (λ h. (h, c.seat.inside.place.me.1)) (drew_past c.fetch_add-found.result old
      (let e = ap (λ d. d.row.count) c.seat.view_is ∙ ap (λ r. r.count) c.requires ∙ sym (ap (λ t. t.row.count) c.self.view_is) in
      let ge = c.if-found-self.false in omega (arith, e, ge)))

pub invariant_of-seat-else-found-self : goal.invariant_of-seat-else-found-self
invariant_of-seat-else-found-self c =
    let e = me_past c in
    let inv = c.seat.invariant in
    let no_end : c.seat.inside.place.me.0.ends ≡ 0 = inv.2 ∙ ap one_if c.if-seat.false in (
      ap (λ m. m.1) e ∙ inv.0,
      ap (λ m. m.0.seats) e ∙ inv.1,
      ap (λ m. m.0.ends) e ∙ ap (λ n. n + 1) no_end,
      subst (λ m. IsStrictlyIncreasing m.0.drawn) (sym e) inv.3,
      subst (λ m. All (λ k. k < m.0.count) m.0.drawn) (sym e) inv.4,
    )

pub returns-else-found-self-clause-none : goal.returns-else-found-self-clause-none
returns-else-found-self-clause-none c =
    let e = me_past c in
    (refl, ap (λ m. m.0.drawn) e ∙ ap (λ d. d.drawn) c.seat.view_is)

pub returns-else-found-self-clause-few : goal.returns-else-found-self-clause-few
returns-else-found-self-clause-few c =
    let inv = c.seat.invariant in
    let few = rising_few (old c).drawn (old c).count inv.3 inv.4 in
    subst (λ n. length c.fetch_add-found.new.seat.me.0.drawn ≤ n) (ap (λ d. d.row.count) c.seat.view_is ∙ ap (λ r. r.count) c.requires)
    (subst (λ m. length m.0.drawn ≤ (old c).count) (sym (me_past c)) few)

-- the seat met the end before
pub returns-then-seat-clause-few : goal.returns-then-seat-clause-few
returns-then-seat-clause-few c =
    let hand = c.seat.inside.place.me.0 in
    let few : length c.args.seat.now.drawn ≤ c.args.seat.now.row.count =
    subst (λ seat. length seat.drawn ≤ seat.row.count) c.seat.view_is (rising_few hand.drawn hand.count c.seat.invariant.3 c.seat.invariant.4) in
    subst (λ row. length c.args.seat.now.drawn ≤ row.count) c.requires few
