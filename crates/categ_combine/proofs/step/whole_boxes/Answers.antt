use Rattle.std.proofs.Common.{sym, ◌∙◌}
use Rattle.categ_combine.proofs.ApartLaws.{unchanged-apart}
use Rattle.categ_combine.proofs.step.whole_boxes.Goals as goal

pub returns-then-apart-clause-kept : goal.returns-then-apart-clause-kept
returns-then-apart-clause-kept c =
    c.in_ok-whole.ensures.whole ∙ sym (unchanged-apart c.args.spot.now.place c.args.spot.now.whole c.args.boxes.now (c.requires.apart c.if-apart.true))
