use Rattle.std.specs.Prelude.{Bool, ℕ, suc, ◌<◌, ◌^◌, if◌then◌else◌, List, [], ◌∷◌, Option, Some, None, Ok, codes}
use Rattle.std.specs.Str.{bytes_eq}
use Rattle.bound_cert.specs.declared.outcome.Event.TheVariants as event
use Rattle.bound_cert.specs.declared.cert.Leaf.{Leaf}
use Rattle.bound_cert.specs.declared.outcome.GiftFault.{GiftFault}
use Rattle.bound_cert.specs.declared.outcome.GiftFault.TheVariants as gift
use Rattle.bound_cert.specs.declared.outcome.Outcome.TheVariants as outcome
use Rattle.bound_cert.specs.declared.outcome.RowProof.{RowProof}
use Rattle.proof_grammar.specs.declared.heads.RowHead.{RowHead}
use Rattle.proof_grammar.specs.declared.heads.RowHead.TheVariants.{BudgetAt, ChangeAt, CleanAt, ContradictoryAt, EventAt, GiftAt}
use Rattle.proof_grammar.specs.Limits.{clean_leaves}
use Rattle.proof_grammar.specs.ProofLines.{Line}
use Rattle.proof_grammar.specs.inner.LeafReading.{leaf_reading, path_and_number_in}
use Rattle.proof_grammar.specs.inner.Readings.{Reading, read_line, read_many, seen, then_read}
use Rattle.proof_grammar.specs.Words.{Front, ended, long_said, named_long, named_short, named_short_or_0, path_said, place_said, positive_said, word_in}
use Rattle.proof_grammar.specs.inner.WordLists.{then_in}

-- How rows are read.

-- `clean`, behind its word
abbrev pub clean_in : Line → Option RowHead
clean_in ws = ended CleanAt ws

-- `change`, behind its word: one less than the weight, the path, and how many leaves follow
abbrev pub change_in : Line → Option RowHead
change_in ws =
    then_in (word_in positive_said ws) (λ w ws.
    then_in (word_in path_said ws) (λ path ws.
    then_in (word_in long_said ws) (λ n ws. ended (ChangeAt w path n) ws)))

-- the line behind a field, or the rule behind 0
abbrev pub gift_fault_behind : Option ℕ → Line → Front GiftFault
gift_fault_behind None ws = then_in (word_in named_short ws) (λ rule ws. Some (gift.Test rule, ws))
gift_fault_behind (Some field) ws = then_in (word_in named_long ws) (λ line ws. Some (gift.Bound field line, ws))

-- the field and the line, or 0 and the rule
abbrev pub gift_fault_in : Line → Front GiftFault
gift_fault_in ws = then_in (word_in named_short_or_0 ws) gift_fault_behind

-- `gift`, behind its word: the weight, the path, which number left the range, and how many leaves follow
abbrev pub gift_in : Line → Option RowHead
gift_in ws =
    then_in (word_in long_said ws) (λ weight ws.
    then_in (word_in path_said ws) (λ path ws.
    then_in (gift_fault_in ws) (λ fault ws.
    then_in (word_in long_said ws) (λ n ws. ended (GiftAt weight path fault n) ws))))

-- `budget`, behind its word: the path, and the work that was done
abbrev pub budget_in : Line → Option RowHead
budget_in ws = path_and_number_in (λ path work. BudgetAt path work) ws

-- `step`, behind its word: a number of a combination left the range
abbrev pub step_event_in : Line → Option RowHead
step_event_in ws =
    then_in (word_in path_said ws) (λ path ws.
    then_in (word_in named_long ws) (λ first ws.
    then_in (word_in named_long ws) (λ second ws.
    then_in (word_in place_said ws) (λ place ws. ended (EventAt path (event.Step first second place)) ws))))

-- `test`, behind its word: a number of a line at the record left the range
abbrev pub test_event_in : Line → Option RowHead
test_event_in ws =
    then_in (word_in path_said ws) (λ path ws.
    then_in (word_in named_long ws) (λ line ws.
    then_in (word_in named_short ws) (λ field ws. ended (EventAt path (event.Test line field)) ws)))

-- `contradictory`, behind its word: how many leaves follow
abbrev pub contradictory_in : Line → Option RowHead
contradictory_in ws = then_in (word_in long_said ws) (λ n ws. ended (ContradictoryAt n) ws)

-- the head of a record
abbrev pub row_in : Line → Option RowHead
row_in [] = None
row_in (w ∷ ws) =
    if bytes_eq w (codes "clean") then clean_in ws
    else if bytes_eq w (codes "change") then change_in ws
    else if bytes_eq w (codes "gift") then gift_in ws
    else if bytes_eq w (codes "budget") then budget_in ws
    else if bytes_eq w (codes "step") then step_event_in ws
    else if bytes_eq w (codes "test") then test_event_in ws
    else if bytes_eq w (codes "contradictory") then contradictory_in ws
    else None

-- the weight of a change fits 64 bits
abbrev pub WeighsLong : RowHead → Type 0
WeighsLong (ChangeAt w path n) = suc w < 2 ^ 64
WeighsLong CleanAt = Unit {0}
WeighsLong (GiftAt weight path fault n) = Unit {0}
WeighsLong (BudgetAt path work) = Unit {0}
WeighsLong (EventAt path event) = Unit {0}
WeighsLong (ContradictoryAt n) = Unit {0}

-- a clean row, held as the change of nothing with its one leaf
abbrev pub clean_proof : RowProof
clean_proof = record { outcome = outcome.Change [] 0 (record { leaves = clean_leaves }); gift = None }

-- a change with these leaves
abbrev pub change_proof : List Bool → ℕ → Option GiftFault → List Leaf → RowProof
change_proof path weight fault leaves = record { outcome = outcome.Change path weight (record { leaves = leaves }); gift = fault }

-- a record that no change corrects, with these leaves
abbrev pub contradictory_proof : List Leaf → RowProof
contradictory_proof leaves = record { outcome = outcome.Contradictory (record { leaves = leaves }); gift = None }

-- what is read behind the head of a row
abbrev pub behind_row : Option ℕ → RowHead → List Line → Reading Line RowProof
behind_row shared CleanAt ls = Ok (clean_proof, ls)
behind_row shared (ChangeAt w path n) ls = seen (λ leaves. change_proof path (suc w) None leaves) (read_many (leaf_reading shared) n ls)
behind_row shared (GiftAt weight path fault n) ls =
    seen (λ leaves. change_proof path weight (Some fault) leaves) (read_many (leaf_reading shared) n ls)
behind_row shared (BudgetAt path work) ls = Ok (record { outcome = outcome.Budget path work; gift = None }, ls)
behind_row shared (EventAt path event) ls = Ok (record { outcome = outcome.Overflow path event; gift = None }, ls)
behind_row shared (ContradictoryAt n) ls = seen contradictory_proof (read_many (leaf_reading shared) n ls)

-- what is said of a record: its head, and the leaves behind it
abbrev pub row_reading : Option ℕ → List Line → Reading Line RowProof
row_reading shared ls = then_read (read_line row_in ls) (behind_row shared)
