use Rattle.std.proofs.Common.{◌≡◌, take}
use Rattle.edit_desk.specs.Desk.{Told}
use Rattle.run_parts.specs.Parts.{texts_in}
use Rattle.run_parts.proofs.TellingLaws.{Appends}
use Rattle.run_parts.proofs.telling.tell_all.Given as goal

-- the lines before this one were printed
abbrev pub invariant-loop-line : goal.invariant-loop-line
invariant-loop-line g l =
    Told (g.P.Printer.printed l.initial.printer) (g.P.Printer.printed l.printer) (Appends (texts_in (take l.line-index l.lines)))
    × (g.P.Printer.faults l.printer ≡ g.P.Printer.faults l.initial.printer)
