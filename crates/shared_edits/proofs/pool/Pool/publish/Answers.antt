use Rattle.std.proofs.Common.{List, ap, arith, false, length, length-append, refl, subst, sym, ◌++◌, ◌∙◌, ◌∷◌, ◌≡◌, []}
use Rattle.std.specs.Arc.{arc_value}
use Rattle.boxcar.specs.Table.{Shows, id_at}
use Rattle.linear_elim.specs.Systems.{SystemParts}
use Rattle.shared_edits.specs.Pools.{IsFull, IsOf, IsReaderOf, PoolParts, Walked}
use Rattle.shared_edits.specs.inner.Entries.{walked_of}
use Rattle.shared_edits.proofs.PublishLaws.{full-is, is_full, not-full-few, not-full-is, own-of, pushed-behind, pushed-is, pushed-of}
use Rattle.shared_edits.proofs.pool.Pool.publish.Given as given
use Rattle.shared_edits.proofs.pool.Pool.publish.Goals as goal

pub returns-then-is_full-clause-answer : goal.returns-then-is_full-clause-answer
returns-then-is_full-clause-answer g c =
    let es = c.reader.inside.walked in
    let count = length c.args.system.lines in
    let tested : is_full es count ≡ c.is_full.result = rw (sym c.lines.ensures.lines) (sym c.is_full.ensures) in
    (subst (IsFull count) c.reader.view_is (full-is es count (tested ∙ c.if-is_full.true)), refl, refl)

-- the system is stored
module _ (g : given.Over) (c : goal.After-push g) where
  not_full : is_full c.reader.inside.walked (length c.args.system.lines) ≡ false
  not_full = let tested : is_full c.reader.inside.walked (length c.args.system.lines) ≡ c.is_full.result =
      rw (sym c.lines.ensures.lines) (sym c.is_full.ensures) in tested ∙ c.if-is_full.false

  stored : arc_value c.own_entry.result.token.value ≡ c.args.system
  stored = ap (λ t. arc_value t.value) c.own_entry.ensures.0 ∙ ap arc_value c.in-Ok-push_shown.ensures.0.1 ∙ c.in_ok-shared.ensures.shared

  is_of : IsOf c.args.self.now (walked_of c.own_entry.result)
  is_of =
      let pool = c.args.self.now in
      let shown = subst (λ (p : PoolParts). Shows p.entries c.in-Ok-push_shown.token) c.self.view_is c.in-Ok-push_shown.ensures.0.0 in
      own-of pool c.own_entry.result (subst (λ t. t.row ≡ id_at pool.entries.buckets t.bucket) (sym c.own_entry.ensures.0) shown) c.own_entry.ensures.2
      (ap (λ (s : SystemParts). s.edits) stored ∙ c.requires.edits)

pub invariant_of-reader : goal.invariant_of-reader
invariant_of-reader g c =
    let es = c.reader.inside.walked in
    let e = c.own_entry.result in
    let few = not-full-few es (length c.args.system.lines) (not_full g c) in
    let as_many = ap (λ xs. length xs) c.push.ensures ∙ length-append es (e ∷ []) in (
      omega (arith, few, as_many),
      pushed-behind es c.push.new.self e c.push.ensures c.reader.inside.next c.reader.invariant.1 c.own_entry.ensures.1,
    )

pub returns-in-Ok-push_shown-clause-reader : goal.returns-in-Ok-push_shown-clause-reader
returns-in-Ok-push_shown-clause-reader g c =
    let pool = c.args.self.now in
    pushed-of c.reader.inside.walked c.push.new.self c.own_entry.result c.push.ensures pool (subst (IsReaderOf pool) (sym c.reader.view_is) c.requires.reader)
    (is_of g c)

pub returns-in-Ok-push_shown-clause-answer : goal.returns-in-Ok-push_shown-clause-answer
returns-in-Ok-push_shown-clause-answer g c =
    let es = c.reader.inside.walked in
    let e = c.own_entry.result in
    let count = length c.args.system.lines in (
      subst (λ (l : List Walked). ¬ IsFull count l) c.reader.view_is (not-full-is es count (not_full g c)),
      (
        walked_of e,
        pushed-is es c.push.new.self e c.push.ensures ∙ ap (λ (l : List Walked). l ++ walked_of e ∷ []) c.reader.view_is,
        c.own_entry.ensures.1,
        stored g c,
      ),
      c.in-Ok.ensures ∙ c.in_ok-shared.ensures.shared,
    )
