use Rattle.std.proofs.Common.{◌∙◌, ◌++◌, List, ap, map}
use Rattle.std.specs.List.{flat_map}
use Rattle.page_figures.specs.Tables.{entry_of}
use Rattle.page_sections.proofs.SectionLaws.{rows_all, rows_more}
use Rattle.page_sections.specs.GreatestSection.{rows_of_change}
use Rattle.release_figures.specs.Releases.{release_parts}
use Rattle.reason_lines.specs.declared.entry.Change.{Change}
use Rattle.page_sections.proofs.greatest.push_record_rows.Goals as goal

pub loop-change-preserved : goal.loop-change-preserved
loop-change-preserved c =
    rows_more (rows_of_change (release_parts c.args.release.now) c.args.numbers.now c.args.amount) (map (λ r. map entry_of r.items) c.args.rows.now.items)
    c.as_slice-changes.result.now c.loop-change.change-index _ _ _ c.loop-change-test.true c.loop-change.invariant c.in_ok-push_change.ensures

pub returns : goal.returns
returns c =
    let rows = rows_of_change (release_parts c.args.release.now) c.args.numbers.now c.args.amount in
    let before = map (λ r. map entry_of r.items) c.args.rows.now.items in
    rows_all rows before c.as_slice-changes.result.now c.loop-change.change-index _ c.loop-change-test.false c.loop-change.invariant
    ∙ ap (λ (changes : List Change). before ++ flat_map rows changes) c.as_slice-changes.ensures
