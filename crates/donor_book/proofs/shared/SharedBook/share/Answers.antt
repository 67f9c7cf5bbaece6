use Rattle.std.proofs.Common.{rules, arith, ◌≡◌, ℕ, ◌+◌, List, [], ◌∷◌, length, length-append, ap, ◌∙◌, refl, sym, subst}
use Rattle.std.specs.List.{All}
use Rattle.std.proofs.lemmas.List.Elements.{All-nil, All-push}
use Rattle.atomic_table.specs.Seated.{TableId}
use Rattle.donor_book.specs.Passes.{BookName, IsFresh, PassState}
use Rattle.donor_book.specs.inner.Rule.{known}
use Rattle.donor_book.proofs.Moves.{begins, splits_as}
use Rattle.donor_book.specs.declared.rule.Terms.{Terms}
use Rattle.donor_book.proofs.shared.SharedBook.share.Goals as goal

-- the name of the book with these terms
abbrev name_of : Terms → TableId → BookName
name_of terms table = record { table = table; terms = terms }

-- the terms of a call
abbrev terms_of : ℕ → ℕ → ℕ → ℕ → Terms
terms_of limit donors rows passes = record { limit = limit; donors = donors; rows = rows; passes = passes }

pub of_words-requires : goal.of_words-requires
of_words-requires c =
    let terms = terms_of c.args.limit c.args.donors c.args.rows c.args.passes in
    rw (c.as_slice.ensures.value, c.in_ok-words.ensures.items_if_clones_equal (λ y e. e)) (begins terms)

pub split_seat-seat-requires : goal.split_seat-seat-requires
split_seat-seat-requires c =
    let inv = c.loop.invariant in (
      search rules,
      search rules,
      splits_as c.in_ok-table.table.shared.key c.loop.first.id c.loop.first.me.0 (let more = c.loop-test.true in
          omega (arith, inv.9, more)),
    )

pub loop-preserved : goal.loop-preserved
loop-preserved c =
    let inv = c.loop.invariant in
    let e = c.split_seat-seat.ensures in
    let f = c.in_ok-fresh.ensures in
    let push = c.push_reserved.ensures in
    let terms = terms_of c.args.limit c.args.donors c.args.rows c.args.passes in
    let name = name_of terms c.in_ok-table.table.shared.table_id in
    let fresh : IsFresh name c.in_ok-fresh.field-0 = subst (λ (n : BookName). IsFresh n c.in_ok-fresh.field-0) (ap (name_of terms) (e.3 ∙ inv.3)) f in (
      omega (arith, inv.0, ap length push.items, length-append c.loop.all.items (c.in_ok-fresh.field-0 ∷ [])),
      push.capacity ∙ inv.1,
      subst (All (IsFresh name)) (sym push.items) (All-push (IsFresh name) c.loop.all.items c.in_ok-fresh.field-0 inv.2 fresh),
      e.0 ∙ inv.3,
      ap (λ m. m.1) e.2 ∙ inv.4,
      ap (λ m. m.0.terms) e.2 ∙ inv.5,
      ap (λ m. m.0.seen) e.2 ∙ inv.6,
      ap (λ m. m.0.mine) e.2 ∙ inv.7,
      ap (λ m. m.0.heard) e.2 ∙ inv.8,
      (let more = c.loop-test.true in let s = ap (λ m. m.0.passes) e.2 in omega (arith, s, inv.9, more)),
    )

pub returns-clause-fresh : goal.returns-clause-fresh
returns-clause-fresh c =
    let inv = c.loop.invariant in
    let f = c.in_ok-fresh-2.ensures in
    let push = c.push_reserved-2.ensures in
    let terms = terms_of c.args.limit c.args.donors c.args.rows c.args.passes in
    let name = name_of terms c.in_ok-table.table.shared.table_id in
    let fresh : IsFresh name c.in_ok-fresh-2.field-0 = subst (λ (n : BookName). IsFresh n c.in_ok-fresh-2.field-0) (ap (name_of terms) inv.3) f in
    subst (All (IsFresh name)) (sym push.items) (All-push (IsFresh name) c.loop.all.items c.in_ok-fresh-2.field-0 inv.2 fresh)

pub loop-init : goal.loop-init
loop-init c =
    let name = name_of (terms_of c.args.limit c.args.donors c.args.rows c.args.passes) c.in_ok-table.table.shared.table_id in
    let empty = c.in_ok-all.ensures.items in
    let t = c.in_ok-table.ensures in (
      ap (λ (l : List PassState). length l + 1) empty,
      refl,
      subst (All (IsFresh name)) (sym empty) (All-nil (IsFresh name)),
      t.2,
      ap (λ m. m.1) t.4,
      ap (λ m. m.0.terms) t.4,
      ap (λ m. m.0.seen) t.4,
      ap (λ m. m.0.mine) t.4,
      ap (λ m. m.0.heard) t.4,
      ap (λ m. m.0.passes + 1) t.4,
    )

pub fresh-requires-clause-seat : goal.fresh-requires-clause-seat
fresh-requires-clause-seat c = c.split_seat-seat.ensures.4 ∙ ap (λ (t : Terms). (known t 1 [] [], [])) c.loop.invariant.5

pub push_reserved-requires : goal.push_reserved-requires
push_reserved-requires c =
    let inv = c.loop.invariant in
    omega (arith, inv.0, inv.1, c.loop.all.ok.0, c.in_ok-all.ensures.capacity, c.loop-test.true)

pub push_reserved-requires-2 : goal.push_reserved-requires-2
push_reserved-requires-2 c =
    let inv = c.loop.invariant in
    omega (arith, inv.0, inv.1, c.loop.all.ok.0, c.in_ok-all.ensures.capacity, c.loop.auto.counter-end, c.requires.passes)

pub returns-clause-passes : goal.returns-clause-passes
returns-clause-passes c =
    let inv = c.loop.invariant in
    let all : length c.loop.all.items + 1 ≡ c.args.passes = omega (arith, inv.0, c.loop-test.false, c.loop.auto.counter-end, c.requires.passes) in
    ap length c.push_reserved-2.ensures.items ∙ length-append c.loop.all.items (c.in_ok-fresh-2.field-0 ∷ []) ∙ all

pub invariant_of-book : goal.invariant_of-book
invariant_of-book c =
    let t = c.in_ok-table.ensures in
    let size = ap length c.as_slice.ensures.value in (
      omega (arith, t.0, size, c.in_ok-words.ensures.len, c.in_ok-words.words.ok.0),
      t.1,
      t.5,
      c.requires.passes,
      c.requires.rows,
      c.requires.donors,
      c.in_ok-history.ensures.items,
      c.in_ok-history.ensures.capacity,
    )
