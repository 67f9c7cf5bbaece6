use Rattle.std.proofs.Common.{◌≡◌, flat_map, map, take}
use Rattle.page_figures.specs.Tables.{entry_of}
use Rattle.page_sections.specs.GreatestSection.{record_rows}
use Rattle.release_figures.specs.Releases.{release_parts}
use Rattle.page_sections.proofs.greatest.greatest_rows.Given as goal

abbrev pub invariant-loop-amount : goal.invariant-loop-amount
invariant-loop-amount l =
    map (λ r. map entry_of r.items) l.rows.items ≡ flat_map (record_rows (release_parts l.release) l.numbers) (take l.amount-index l.greatest)
