-- A printer in memory: what it holds, and which of its lines are to fail.
use Rattle.std.specs.Prelude.{◌≡◌, ℕ, ◌+◌, ◌-◌, ◌<◌, Option, Some, List, length}
use Rattle.edit_desk.specs.Printer.{line_of}

-- what was printed, how many lines were asked for, the number of the line that is to fail, how many bytes there is room
-- for in all, and how many lines failed
pub record Page : Type 0 where
  pub text : List ℕ
  pub lines : ℕ
  pub fail_at : Option ℕ
  pub room : ℕ
  pub faults : ℕ

-- how many bytes a printer in memory has room for: 1 MiB
abbrev pub printer_room : ℕ
printer_room = 1048576

-- the next line is the one that is to fail
abbrev pub IsDue : Page → Type 0
IsDue page = page.fail_at ≡ Some (page.lines + 1)

-- how many more bytes there is room for
abbrev pub free : Page → ℕ
free page = page.room - length page.text

-- the bytes of the line are more than there is room for
abbrev pub IsTooMuch : Page → List ℕ → Type 0
IsTooMuch page text = free page < length (line_of text)
