use Rattle.std.proofs.Common.{List, arith, map, subst, sym}
use Rattle.shared_edits.specs.Pools.{IsReaderOf, Walked}
use Rattle.shared_edits.specs.Walks.{HasWalkedOn}
use Rattle.shared_edits.specs.inner.Entries.{walked_of}
use Rattle.shared_edits.proofs.WalkLaws.{turn_length, walk_turn, walks_nothing}
use Rattle.std.proofs.lemmas.Grind.{common_steps}
use Rattle.shared_edits.proofs.pool.Pool.walk.Goals as goal

pub loop-reader-init : goal.loop-reader-init
loop-reader-init c =
    let is = c.reader.view_is in
    let inv = c.reader.invariant in (
      subst (λ (l : List Walked). HasWalkedOn l (map walked_of c.reader.inside.walked)) is (walks_nothing (map walked_of c.reader.inside.walked)),
      subst (IsReaderOf c.args.self.now) (sym is) c.requires,
      inv.0,
      inv.1,
    )

pub loop-reader-preserved : goal.loop-reader-preserved
loop-reader-preserved c =
    let before = c.loop-reader.reader-inside in
    let i = c.loop-reader.invariant in
    let step = c.if-not-walk_at.ensures in
    let t = walk_turn c.args.self.now c.args.reader.now before.walked c.walk_at.new.walked before.next i.0 i.1 i.3 c.loop-reader-test.true step in
    let few = turn_length c.args.self.now before.next before.walked c.walk_at.new.walked step in
    (t.0, t.1, omega (arith, few, c.len.ensures, c.if-len-lt-MOST_WALKED.true), t.2)

pub returns-then-not-walk_at-clause-few : goal.returns-then-not-walk_at-clause-few
returns-then-not-walk_at-clause-few c = grind (arith, common_steps)

pub returns-else-len-lt-MOST_WALKED-clause-few : goal.returns-else-len-lt-MOST_WALKED-clause-few
returns-else-len-lt-MOST_WALKED-clause-few c = grind (arith, common_steps)

pub returns-after-loop-reader-clause-few : goal.returns-after-loop-reader-clause-few
returns-after-loop-reader-clause-few c = grind (arith, common_steps)
