use Rattle.std.proofs.Common.{ℕ, List}
use Rattle.edit_model.proofs.FieldNames.{distinct_more, name_is_new}
use Rattle.edit_model.proofs.check.kind.are_distinct.Goals as goal

pub returns-then-not-is_new : goal.returns-then-not-is_new
returns-then-not-is_new c = (
  λ told. absurd (cc),
  λ distinct. c.if-not-is_new.ensures.1 (name_is_new (λ (n : List ℕ). n) c.args.names.now c.loop-i.i c.index-names-i.result c.loop-i-test.true
      c.index-names-i.is distinct),
)

pub loop-i-preserved : goal.loop-i-preserved
loop-i-preserved c = distinct_more (λ (n : List ℕ). n) c.args.names.now c.loop-i.i c.index-names-i.result c.loop-i-test.true c.index-names-i.is
    c.loop-i.invariant (c.is_new.ensures.0 c.if-not-is_new.false)
