use Rattle.std.proofs.Common.{◌≡◌, [], drop, length}
use Rattle.derivation.specs.LineLists.{lines_from, no_record}
use Rattle.derivation.proofs.LineListLaws.{AllLinesKnown}
use Rattle.derivation.proofs.listing.line_list.Given as goal

abbrev pub invariant-loop-step : goal.invariant-loop-step
invariant-loop-step l =
    (lines_from (no_record l.survey l.given l.usable) l.lines.items (drop l.step-index l.steps) ≡ lines_from (no_record l.survey l.given l.usable) [] l.steps)
    × AllLinesKnown (no_record l.survey l.given l.usable) l.lines.items
    × (length l.lines.items ≡ l.step-index)
