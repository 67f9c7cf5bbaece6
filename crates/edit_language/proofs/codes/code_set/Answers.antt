use Rattle.std.proofs.Common.{◌∙◌, ap, ◌+◌, ◌<◌, ◌^◌, arith, Bool, if◌then◌else◌}
use Rattle.edit_language.specs.Meaning.{listed}
use Rattle.edit_language.proofs.CodeLaws.{set_step}
use Rattle.edit_language.proofs.codes.code_set.Goals as goal

pub overflow_add-set : goal.overflow_add-set
overflow_add-set c =
    let fits : c.loop-i.set + c.bit_if-set.result < 2 ^ 64 =
    (set_step c.args.codes.now (listed c.args.list.now) c.loop-i.i c.index-codes-i.result c.loop-i.set c.bit_if-set.result c.requires c.loop-i-test.true
    c.loop-i.invariant c.index-codes-i.is
    (c.bit_if-set.ensures ∙ ap (λ (b : Bool). if b then 2 ^ c.loop-i.i else 0) c.is_listed.ensures)).0 in omega arith

pub loop-i-preserved : goal.loop-i-preserved
loop-i-preserved c = (set_step c.args.codes.now (listed c.args.list.now) c.loop-i.i c.index-codes-i.result c.loop-i.set c.bit_if-set.result c.requires
    c.loop-i-test.true c.loop-i.invariant c.index-codes-i.is
    (c.bit_if-set.ensures ∙ ap (λ (b : Bool). if b then 2 ^ c.loop-i.i else 0) c.is_listed.ensures)).1
