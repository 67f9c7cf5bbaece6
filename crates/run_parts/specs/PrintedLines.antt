-- A line that is printed, as the parts of the program say it.
use Rattle.std.specs.Prelude.{ℕ, List}
use Rattle.std.specs.Borrow.{MutBor}
use denote.Triple.Both.{Both}
use Rattle.edit_desk.specs.declared.printer.Printer as printer
use Rattle.run_parts.specs.Run.{AreBytesOf}

-- one line with this text was printed by this printer, or failed with some first bytes of it printed
abbrev pub PrintsLine : {P : Type 0} → printer.Ghosts P → Both (MutBor P) (MutBor P) → List ℕ → Type 0
PrintsLine tells p text =
    AreBytesOf text (tells.printed p.entry.now) (tells.printed p.exit.now) (tells.faults p.entry.now) (tells.faults p.exit.now)
