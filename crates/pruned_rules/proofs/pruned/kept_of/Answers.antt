use Rattle.std.proofs.Common.{sym}
use Rattle.pruned_rules.proofs.KeptLaws.{kept-all, kept-more}
use Rattle.pruned_rules.proofs.pruned.kept_of.Goals as goal

pub loop-place-preserved : goal.loop-place-preserved
loop-place-preserved c =
    kept-more c.loop-place.place c.args.lines.now c.args.verdicts.now c.index-lines-place.result c.index-verdicts-place.result c.loop-place.kept.items
    c.push_if_kept.new.kept.items c.loop-place-test.true c.requires.count
    (sym c.index-lines-place.is) (sym c.index-verdicts-place.is) c.loop-place.invariant c.in_ok-push_if_kept.ensures

pub returns : goal.returns
returns c = kept-all c.loop-place.place c.args.lines.now c.args.verdicts.now c.loop-place.kept.items c.requires.count c.loop-place-test.false
    c.loop-place.invariant
