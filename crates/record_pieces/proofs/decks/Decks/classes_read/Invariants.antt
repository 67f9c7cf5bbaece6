use Rattle.std.proofs.Common.{◌≡◌, length, map, take}
use Rattle.record_pieces.specs.Classes.{class_read}
use Rattle.record_pieces.proofs.decks.Decks.classes_read.Given as goal

abbrev pub invariant-loop-row_no : goal.invariant-loop-row_no
invariant-loop-row_no l =
    l.classes.items ≡ map (class_read (length l.self.of_class.items) l.self.class_field) (take l.row_no l.sheet.rows)
