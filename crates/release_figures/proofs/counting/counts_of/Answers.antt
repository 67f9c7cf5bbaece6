use Rattle.release_figures.proofs.FigureLaws.{records_counted}
use Rattle.release_figures.proofs.counting.counts_of.Goals as goal

pub returns : goal.returns
returns c =
    let e = c.record_counts.ensures in
    records_counted c.record_counts.result c.args.rows c.args.reasons.now c.as_slice.result.now c.as_slice-2.result.now c.as_slice.ensures
    c.as_slice-2.ensures e.clean e.changed e.budget e.overflow e.contradictory e.no_last e.no_correction
