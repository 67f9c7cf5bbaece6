use Rattle.std.proofs.Common.{◌≡◌, ◌∙◌, ℕ, ◌+◌, [], Global, Vec, ap, arith, length, refl, subst, sym}
use Rattle.std.specs.List.{All}
use Rattle.std.proofs.lemmas.List.{length_push}
use Rattle.std.proofs.lemmas.List.Elements.{All-nil, All-push}
use Rattle.class_books.proofs.classes.no_rows.Goals as goal

abbrev IsEmpty : Vec ℕ Global → Type 0
IsEmpty r = r.items ≡ []

pub loop-init : goal.loop-init
loop-init c =
    let empty = c.in_ok-rows.ensures.items in
    (ap length empty, subst (All IsEmpty) (sym empty) (All-nil IsEmpty), refl)

pub push_reserved-requires : goal.push_reserved-requires
push_reserved-requires c =
    let inv = c.loop.invariant in
    omega (arith, c.loop.rows.ok.0, inv.0, inv.2, c.in_ok-rows.ensures.capacity, c.loop-test.true)

pub loop-preserved : goal.loop-preserved
loop-preserved c =
    let inv = c.loop.invariant in
    let rows = c.loop.rows.items in
    let items = c.push_reserved.ensures.items in (
      ap length items ∙ length_push rows c.new.result ∙ ap (λ n. n + 1) inv.0,
      subst (All IsEmpty) (sym items) (All-push IsEmpty rows c.new.result inv.1 c.new.ensures.items),
      c.push_reserved.ensures.capacity ∙ inv.2,
    )

pub returns-clause-as_many : goal.returns-clause-as_many
returns-clause-as_many c = omega (arith, c.loop.invariant.0, c.loop-test.false, c.loop.auto.counter-end)

pub returns-clause-empty : goal.returns-clause-empty
returns-clause-empty c = c.loop.invariant.1
