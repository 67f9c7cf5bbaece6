use Rattle.std.specs.Prelude.{◌≡◌, ◌≢◌, ◌⊎◌, ℕ, suc, ◌+◌, List, [], ◌∷◌, Result, Ok, Err, length}
use Rattle.proof_grammar.specs.ProofLines.{Line}
use Rattle.proof_grammar.specs.Cuts.{lines_in}
use Rattle.proof_grammar.specs.declared.fault.ProofFault.{ProofFault}
use Rattle.proof_grammar.specs.declared.fault.ProofFault.TheVariants as fault
use Rattle.proof_grammar.specs.declared.words.Stop.{Stop}
use Rattle.proof_grammar.specs.declared.words.Stop.TheVariants as stop

-- The lines that are still to be read, and the line that a fault is at. The contracts of the reader alone cite this page.

-- the lines that are left, and how many there are in all
pub record LinesLeft : Type 0 where
  pub left : List Line
  pub all : ℕ

-- the lines of a text behind this number of lines that were taken
abbrev pub left_of : List ℕ → ℕ → LinesLeft
left_of text taken = record { left = lines_in text; all = taken + length (lines_in text) }

-- the lines of a text of which none was taken
abbrev pub begun : List ℕ → LinesLeft
begun text = left_of text 0

-- the first of the lines that are left has this number, from 1
abbrev pub IsNumberOf : ℕ → List Line → ℕ → Type 0
IsNumberOf line left all = line + length left ≡ suc all

-- no line is left that a line feed ends, and the fault is at the number of the next line
abbrev pub EndsAt : LinesLeft → ProofFault → Type 0
EndsAt lines (fault.At line) = ((lines.left ≡ []) ⊎ (lines.left ≡ [] ∷ [])) × IsNumberOf line lines.left lines.all
EndsAt lines fault.OutOfMemory = ⊥

-- nothing is left, or the fault is at the number of the first line that is left
abbrev pub IsEnd : {X : Type 0} → Result X ProofFault → LinesLeft → Type 0
IsEnd (Ok done) lines = lines.left ≡ []
IsEnd (Err (fault.At line)) lines = (lines.left ≢ []) × IsNumberOf line lines.left lines.all
IsEnd (Err fault.OutOfMemory) lines = ⊥

-- the fault of the line before those that are left
abbrev pub FaultAt : Stop → LinesLeft → ProofFault → Type 0
FaultAt stop.Form lines (fault.At line) = line + length lines.left ≡ lines.all
FaultAt stop.Form lines fault.OutOfMemory = ⊥
FaultAt stop.OutOfMemory lines (fault.At line) = ⊥
FaultAt stop.OutOfMemory lines fault.OutOfMemory = Unit {0}

-- what was read of the line that was taken last, as an answer: a line without its form is the fault at its number
abbrev pub Settles : {X : Type 0} → Result X Stop → LinesLeft → Result X ProofFault → Type 0
Settles (Ok x) lines result = result ≡ Ok x
Settles (Err stop) lines (Ok x) = ⊥
Settles (Err stop) lines (Err fault) = FaultAt stop lines fault
