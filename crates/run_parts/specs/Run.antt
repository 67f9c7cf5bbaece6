-- What a run asks of the desk, leaves on it, and prints.
use Rattle.std.specs.Prelude.{◌≡◌, ◌⊎◌, ⊤, ◌<◌, ◌^◌, ◌-◌, ℕ, List, [], ◌∷◌, ◌++◌, Option, Result, Some, take}
use Rattle.std.specs.Borrow.{MutBor}
use denote.Triple.Both.{Both}
use Rattle.edit_desk.specs.Desk.{Asked, Files, HoldsPrefix, PutsOnRecord, SameElsewhere, Told, failing, fetched, raised, stored}
use Rattle.edit_desk.specs.Printer.{Prints, after_line, line_of}
use Rattle.edit_desk.specs.declared.calls.Desk as desk
use Rattle.edit_desk.specs.declared.printer.PrintFailed.{PrintFailed}
use Rattle.edit_desk.specs.declared.printer.Printer as printer
use Rattle.run_parts.specs.Faults.{fault_status, fault_text}
use Rattle.run_parts.specs.declared.fault.Fault.{Fault}
use Rattle.run_parts.specs.declared.fault.Fault.TheVariants as fault
use Rattle.run_parts.specs.declared.status.Status.{Status}

-- what is seen of a desk and of a printer: the files, the calls on record and the printed bytes, where they are told;
-- and how many calls and how many lines failed
pub record Seen : Type 0 where
  pub files : Option Files
  pub calls : Option (List Asked)
  pub faults : ℕ
  pub printed : Option (List ℕ)
  pub unprinted : ℕ

-- what is seen before a run, and after it
pub record Run : Type 0 where
  pub before : Seen
  pub after : Seen

-- what this desk and this printer tell
abbrev pub seen : {D P : Type 0} → desk.Ghosts D → printer.Ghosts P → D → P → Seen
seen of_desk of_printer d p = record {
  files = of_desk.files d;
  calls = of_desk.calls d;
  faults = of_desk.faults d;
  printed = of_printer.printed p;
  unprinted = of_printer.faults p;
}

-- the run of a call that was lent this desk and this printer: what they tell when it begins, and when it returns
abbrev pub ran : {D P : Type 0} → desk.Ghosts D → printer.Ghosts P → Both (MutBor D) (MutBor D) → Both (MutBor P) (MutBor P) → Run
ran of_desk of_printer d p = record {
  before = seen of_desk of_printer d.entry.now p.entry.now;
  after = seen of_desk of_printer d.exit.now p.exit.now;
}

-- ---- the calls

-- of the calls of a command, in order, those before this one; and then it, as it is on record
pub record CallsEndAt (order : List Asked) (call last : Asked) (calls : List Asked) : Type 0 where
  pub before : List Asked
  pub after : List Asked
  pub stands : order ≡ before ++ call ∷ after
  pub ended : calls ≡ before ++ last ∷ []

-- the calls of a command that is refused for a fault, of those that it makes in order: up to the call that met it;
-- where memory was refused, some first calls
abbrev pub AreCallsTo : List Asked → Fault → List Asked → Type 0
AreCallsTo order fault.Usage calls = calls ≡ []
AreCallsTo order (fault.Rules line kind) calls = calls ≡ take 1 order
AreCallsTo order (fault.Class name) calls = calls ≡ take 1 order
AreCallsTo order (fault.Records what) calls = calls ≡ take 2 order
AreCallsTo order (fault.Last what) calls = calls ≡ take 3 order
AreCallsTo order (fault.Rejected line why) calls = calls ≡ order
AreCallsTo order (fault.TooLong name) calls = CallsEndAt order (fetched name) (fetched name) calls
AreCallsTo order (fault.Read name) calls = CallsEndAt order (fetched name) (failing (fetched name)) calls
AreCallsTo order (fault.Write name) calls = CallsEndAt order (stored name) (failing (stored name)) calls
AreCallsTo order fault.OutOfMemory calls = (count : ℕ) × (calls ≡ take count order)

-- the count of faults of the desk after a fault: one more where a file could not be read or written, and there alone
abbrev pub faults_by : Fault → ℕ → ℕ
faults_by (fault.Read name) faults = raised faults
faults_by (fault.Write name) faults = raised faults
faults_by fault faults = faults

-- ---- the files

-- a file has these bytes, and every other one is as it was
abbrev pub Puts : List ℕ → List ℕ → Files → Files → Type 0
Puts name bytes before after = (after name ≡ Some bytes) × SameElsewhere before after name

-- bytes are stored, each list under its name, one after the other
abbrev pub AreStored : List (List ℕ × List ℕ) → Files → Files → Type 0
AreStored [] before after = after ≡ before
AreStored (file ∷ files) before after = (between : Files) × Puts file.0 file.1 before between × AreStored files between after

-- a file has some first bytes of these, or what it had
abbrev pub IsCutOff : List ℕ → List ℕ → Files → Files → Type 0
IsCutOff name bytes before after = HoldsPrefix after name bytes ⊎ (after name ≡ before name)

-- of the files that are stored in order, those before this one are stored, and it is cut off or as it was
pub record IsLeft (files : List (List ℕ × List ℕ)) (name : List ℕ) (before after : Files) : Type 0 where
  pub front : List (List ℕ × List ℕ)
  pub bytes : List ℕ
  pub rest : List (List ℕ × List ℕ)
  pub stands : files ≡ front ++ (name, bytes) ∷ rest
  pub between : Files
  pub stored : AreStored front before between
  pub cut : IsCutOff name bytes between after
  pub elsewhere : SameElsewhere between after name

-- what is left of files that are stored in order, where the run is refused for a fault: those before a store that failed,
-- or some first of them where memory was refused; on any other fault nothing was stored
abbrev pub LeavesOf : List (List ℕ × List ℕ) → Fault → Files → Files → Type 0
LeavesOf files (fault.Write name) before after = IsLeft files name before after
LeavesOf files fault.OutOfMemory before after = (count : ℕ) × AreStored (take count files) before after
LeavesOf files fault before after = after ≡ before

-- the files of a command that stores none are as they were
abbrev pub LeavesAll : Fault → Files → Files → Type 0
LeavesAll fault before after = after ≡ before

-- ---- what is printed

-- of what was printed before and after, and of the counts of lines that failed: one line with this text was printed,
-- or failed with some first bytes of it printed
abbrev pub AreBytesOf : List ℕ → Option (List ℕ) → Option (List ℕ) → ℕ → ℕ → Type 0
AreBytesOf text printed now failed failed_now =
    (line : Result (Unit {0}) PrintFailed) × Told printed now (λ old new. Prints old new text line) × (failed_now ≡ after_line line failed)

-- one line with this text was printed in the run, or failed with some first bytes of it printed
abbrev pub IsLinePrinted : List ℕ → Run → Type 0
IsLinePrinted text run = AreBytesOf text run.before.printed run.after.printed run.before.unprinted run.after.unprinted

-- the bytes of lines, one after the other
abbrev pub bytes_of_lines : List (List ℕ) → List ℕ
bytes_of_lines [] = []
bytes_of_lines (text ∷ texts) = line_of text ++ bytes_of_lines texts

-- lines are appended in order until one fails: those before it whole, of it some first bytes or none, and of the later
-- ones nothing
pub record AreCutShort (texts : List (List ℕ)) (old new : List ℕ) : Type 0 where
  pub front : List (List ℕ)
  pub text : List ℕ
  pub rest : List (List ℕ)
  pub stands : texts ≡ front ++ text ∷ rest
  pub kept : ℕ
  pub printed : new ≡ old ++ (bytes_of_lines front ++ take kept (line_of text))

-- all lines were printed whole, in order
pub record AreTold (texts : List (List ℕ)) (run : Run) : Type 0 where
  pub printed : Told run.before.printed run.after.printed (λ old new. new ≡ old ++ bytes_of_lines texts)
  pub unprinted : run.after.unprinted ≡ run.before.unprinted

-- one of the lines was not printed whole, and no later one was tried
pub record AreUntold (texts : List (List ℕ)) (run : Run) : Type 0 where
  pub printed : Told run.before.printed run.after.printed (AreCutShort texts)
  pub unprinted : run.after.unprinted ≡ raised run.before.unprinted

-- ---- refused runs

-- what a command says of its refusals: the faults that it may meet, which of them the files that the desk held call for, told or
-- not, the calls that it makes in order, and what a refusal leaves of the files
pub record Refusals : Type 1 where
  pub meets : Fault → Type 0
  pub refuses : Option Files → Fault → Type 0
  pub order : List Asked
  pub leaves : Fault → Files → Files → Type 0

-- a run that is refused for a fault that its command may meet, with its status: the files that the desk held call for it,
-- the calls end there, this is left on the desk, and the fault is printed
pub record IsRefused (command : Refusals) (answer : Status) (run : Run) : Type 0 where
  pub fault : Fault
  pub status : answer ≡ fault_status fault
  pub kind : command.meets fault
  pub cause : command.refuses run.before.files fault
  pub calls : PutsOnRecord run.before.calls run.after.calls (AreCallsTo command.order fault)
  pub files : Told run.before.files run.after.files (command.leaves fault)
  pub faults : run.after.faults ≡ faults_by fault run.before.faults
  pub printed : IsLinePrinted (fault_text fault) run

-- what words may be refused for that are no command
abbrev pub IsOfWords : Fault → Type 0
IsOfWords fault.Usage = ⊤
IsOfWords fault.OutOfMemory = ⊤
IsOfWords fault = ⊥

-- the refusals of words that are no command: they ask for nothing of the desk, whatever it holds
abbrev pub word_refusals : Refusals
word_refusals = record { meets = IsOfWords; refuses = λ files fault. ⊤; order = []; leaves = LeavesAll }

-- the desk and the printer met no fault, and their counts do not stand at their end
pub record IsFaultless (run : Run) : Type 0 where
  pub faults : run.after.faults ≡ run.before.faults
  pub room : run.before.faults < 2 ^ 64 - 1
  pub unprinted : run.after.unprinted ≡ run.before.unprinted
  pub place : run.before.unprinted < 2 ^ 64 - 1
