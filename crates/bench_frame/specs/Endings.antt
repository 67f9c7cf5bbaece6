use Rattle.std.specs.Prelude.{◌≡◌, ◌⊎◌, ◌==◌, ℕ, ◌-◌, List, [], ◌∷◌, ◌++◌, Option, None, Some, Result, Ok, Err, String, codes, if◌then◌else◌, length, slice_get, string_bytes, take}
use Rattle.std.specs.declared.alloc.Global.{Global}
use Rattle.edit_desk.specs.declared.printer.PrintFailed.{PrintFailed}
use Rattle.bench_frame.specs.Faults.{status_of, text_of}
use Rattle.bench_frame.specs.declared.fault.Fault.{Fault}
use Rattle.bench_frame.specs.declared.leaving.Ending.{Ending}

-- How a bench ends.

-- the exit status after what a bench told
abbrev pub status_after : Result (String Global) Fault → ℕ
status_after (Ok text) = 0
status_after (Err fault) = status_of fault

-- a bench prints the text that it told, and of a fault a line
abbrev pub printed_after : List ℕ → Result (String Global) Fault → List ℕ
printed_after usage (Ok text) = string_bytes text
printed_after usage (Err fault) = text_of usage fault ++ codes "\n"

-- the text and the exit status are those after what a bench with this usage told
abbrev pub IsEnding : List ℕ → Result (String Global) Fault → Ending → Type 0
IsEnding usage told ending = (string_bytes ending.text ≡ printed_after usage told) × (ending.status ≡ status_after told)

-- the text, with a line feed behind it where this is its last byte and no line feed
abbrev pub ended : List ℕ → Option ℕ → List ℕ
ended text None = text
ended text (Some last) = if last == 10 then text else text ++ 10 ∷ []

-- the text in lines: with a line feed behind its last line if none stands there
abbrev pub in_lines : List ℕ → List ℕ
in_lines text = ended text (slice_get text (length text - 1))

-- the text is printed behind what was printed before, or where that fails some first bytes of it, or none
abbrev pub PrintsText : List ℕ → List ℕ → List ℕ → Result (Unit {0}) PrintFailed → Type 0
PrintsText old new text (Ok done) = new ≡ old ++ text
PrintsText old new text (Err failed) = (kept : ℕ) × (new ≡ old ++ take kept text)

-- a bench has printed the text and ends with the status after it, or with 6 and some first bytes of it, or with 7 and nothing
abbrev pub IsLeft : List ℕ → ℕ → ℕ → List ℕ → List ℕ → Type 0
IsLeft text after status old new =
    ((status ≡ after) × (new ≡ old ++ text))
    ⊎ ((status ≡ 6) × ((kept : ℕ) × (new ≡ old ++ take kept text)))
    ⊎ ((status ≡ 7) × (new ≡ old))
