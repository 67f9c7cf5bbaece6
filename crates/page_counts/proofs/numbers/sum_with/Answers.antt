use Rattle.std.proofs.Common.{◌∙◌, ap, sym}
use Rattle.fraction128.proofs.RatioLaws.{added-answered}
use Rattle.fraction128.specs.Formulas.{ratio_of}
use Rattle.page_counts.specs.Numbers.{sum_with}
use Rattle.page_counts.proofs.numbers.sum_with.Goals as goal

pub returns-in-Number : goal.returns-in-Number
returns-in-Number c =
    added-answered c.args.sum c.in-Number.number c.add.result c.add.ensures.value c.add.ensures.fits c.add.ensures.overflow
    ∙ ap (sum_with (ratio_of c.args.sum)) (sym c.in-Number.is)
