use Rattle.std.proofs.Common.{◌≡◌, ◌∙◌, Option, ap, subst, sym}
use Rattle.release_figures.specs.inner.Ranges.{AreEndsOf, Ends, IsEnd, ends_of, joined_ends, point_ends}
use Rattle.release_figures.proofs.RangeLaws.{column_ends}
use Rattle.release_figures.proofs.ranges.range_of.Goals as goal

pub returns : goal.returns
returns c =
    let whole : ends_of c.join_ranges.result ≡ joined_ends (point_ends c.least.result) (point_ends c.greatest.result) =
    c.join_ranges.ensures ∙ ap (λ (e : Option Ends). joined_ends e (ends_of c.single_range-2.result)) c.single_range.ensures
    ∙ ap (joined_ends (point_ends c.least.result)) c.single_range-2.ensures in
    subst (AreEndsOf (IsEnd c.args.values.now)) (sym whole)
    (column_ends c.args.values.now c.least.result c.greatest.result c.least.ensures c.greatest.ensures)
