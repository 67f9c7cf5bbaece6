use Rattle.std.proofs.Common.{[]}
use Rattle.page_sections.proofs.SectionLaws.{rows_all, rows_more}
use Rattle.page_sections.specs.GreatestSection.{record_rows}
use Rattle.release_figures.specs.Releases.{release_parts}
use Rattle.page_sections.proofs.greatest.greatest_rows.Goals as goal

pub loop-amount-preserved : goal.loop-amount-preserved
loop-amount-preserved c =
    rows_more (record_rows (release_parts c.args.release.now) c.args.numbers.now) [] c.args.greatest.now c.loop-amount.amount-index _ _ _
    c.loop-amount-test.true c.loop-amount.invariant c.in_ok-push_record_rows.ensures

pub returns : goal.returns
returns c =
    rows_all (record_rows (release_parts c.args.release.now) c.args.numbers.now) [] c.args.greatest.now c.loop-amount.amount-index _
    c.loop-amount-test.false c.loop-amount.invariant
