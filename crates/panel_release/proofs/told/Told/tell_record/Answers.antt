use Rattle.std.proofs.Common.{subst, sym}
use Rattle.panel_release.specs.PanelReleases.{end_of}
use Rattle.panel_release.specs.declared.counts.Counts.{Counts}
use Rattle.panel_release.specs.inner.Counts.{AreCountsOf}
use Rattle.panel_release.proofs.told.Told.tell_record.Goals as goal

pub returns-clause-counts : goal.returns-clause-counts
returns-clause-counts c = λ ends are.
    let fields = c.args.survey.now.fields in
    c.add.ensures.counts fields (end_of c.args.record.answer) c.resolution_of-resolution.ensures ends
    (subst (λ (counts : Counts). AreCountsOf fields ends counts) (sym c.in_ok-write_answer.ensures.counts) are)
