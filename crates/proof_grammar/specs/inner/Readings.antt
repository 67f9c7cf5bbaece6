use Rattle.std.specs.Prelude.{◌≡◌, ℕ, zero, suc, List, [], ◌∷◌, Option, Some, None, Result, Ok, Err}
use Rattle.proof_grammar.specs.ProofLines.{Line}
use Rattle.proof_grammar.specs.LinesLeft.{IsNumberOf, LinesLeft}
use Rattle.proof_grammar.specs.declared.fault.ProofFault.{ProofFault}
use Rattle.proof_grammar.specs.declared.fault.ProofFault.TheVariants as fault

-- How values are read at the front of lines.

-- a value at the front, and the lines behind it; or the lines from the first that can't go on
abbrev pub Reading : Type 0 → Type 0 → Type 0
Reading L X = Result (X × List L) (List L)

-- one line of a form
abbrev pub line_read : {L X : Type 0} → L → List L → Option X → Reading L X
line_read l ls None = Err (l ∷ ls)
line_read l ls (Some x) = Ok (x, ls)

-- the next line, of a form; nothing can go on where none is left
abbrev pub read_line : {L X : Type 0} → (L → Option X) → List L → Reading L X
read_line said [] = Err []
read_line said (l ∷ ls) = line_read l ls (said l)

-- one after another
abbrev pub then_read : {L X Y : Type 0} → Reading L X → (X → List L → Reading L Y) → Reading L Y
then_read (Err left) next = Err left
then_read (Ok (x, rest)) next = next x rest

-- what is read, turned into another value
abbrev pub seen : {L X Y : Type 0} → (X → Y) → Reading L X → Reading L Y
seen to (Err left) = Err left
seen to (Ok (x, rest)) = Ok (to x, rest)

-- `n` values, one after another
abbrev pub read_many : {L X : Type 0} → (List L → Reading L X) → ℕ → List L → Reading L (List X)
read_many read zero ls = Ok ([], ls)
read_many read (suc n) ls = then_read (read ls) (λ x rest. seen (λ xs. x ∷ xs) (read_many read n rest))

-- the reading gave this value, or stopped at the line of this number; want of memory tells nothing
abbrev pub Reads : {X : Type 0} → Result X ProofFault → LinesLeft → LinesLeft → Reading Line X → Type 0
Reads (Ok x) old new r = (r ≡ Ok (x, new.left)) × (new.all ≡ old.all)
Reads (Err (fault.At line)) old new r = (left : List Line) × (r ≡ Err left) × IsNumberOf line left old.all
Reads (Err fault.OutOfMemory) old new r = Unit {0}
