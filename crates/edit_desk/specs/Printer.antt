-- What a printed line does to what was printed before it.
use Rattle.std.specs.Prelude.{◌≡◌, ℕ, Result, Ok, Err, List, [], ◌∷◌, ◌++◌, take}
use Rattle.edit_desk.specs.Desk.{raised}
use Rattle.edit_desk.specs.declared.printer.PrintFailed.{PrintFailed}

-- the bytes of a line: its text and one line feed
abbrev pub line_of : List ℕ → List ℕ
line_of text = text ++ 10 ∷ []

-- what a line does: it appends its bytes to what was printed, or fails with some first ones of them appended, or none
abbrev pub Prints : List ℕ → List ℕ → List ℕ → Result (Unit {0}) PrintFailed → Type 0
Prints old new text (Ok done) = new ≡ old ++ line_of text
Prints old new text (Err failed) = (kept : ℕ) × (new ≡ old ++ take kept (line_of text))

-- the count of faults after a line: one more where it failed, and there alone
abbrev pub after_line : Result (Unit {0}) PrintFailed → ℕ → ℕ
after_line (Ok done) faults = faults
after_line (Err failed) faults = raised faults
