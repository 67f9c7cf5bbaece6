use Rattle.std.proofs.Common.{◌≡◌, ◌++◌, flat_map, map, take}
use Rattle.page_figures.specs.Tables.{entry_of}
use Rattle.page_sections.specs.GreatestSection.{rows_of_change}
use Rattle.release_figures.specs.Releases.{release_parts}
use Rattle.page_sections.proofs.greatest.push_record_rows.Given as goal

abbrev pub invariant-loop-change : goal.invariant-loop-change
invariant-loop-change l =
    map (λ r. map entry_of r.items) l.rows.items
    ≡ map (λ r. map entry_of r.items) l.fn.rows.items
    ++ flat_map (rows_of_change (release_parts l.release) l.numbers l.amount) (take l.change-index l.changes)
