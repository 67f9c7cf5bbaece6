use Rattle.std.specs.Prelude.{ℕ, Bool, true, false, if◌then◌else◌, length, List, [], ◌∷◌, Option, Some, None, Ok, codes, option_map}
use Rattle.bound_cert.specs.declared.outcome.RowProof.{RowProof}
use Rattle.proof_grammar.specs.declared.heads.RunLimits.{RunLimits}
use Rattle.proof_grammar.specs.declared.proof.Proof.{Proof}
use Rattle.std.specs.Str.{bytes_eq}
use Rattle.derivation.specs.declared.step.Step.{Step}
use Rattle.donor_book.specs.declared.claim.Entry.{Entry}
use Rattle.proof_grammar.specs.ProofLines.{Line, has_table, shared_from}
use Rattle.proof_grammar.specs.inner.LeafReading.{steps_reading}
use Rattle.proof_grammar.specs.inner.Readings.{Reading, read_line, read_many, seen, then_read}
use Rattle.proof_grammar.specs.Words.{ended, fixed_said, long_said, named_short, named_short_or_0, short_said, word_in}
use Rattle.proof_grammar.specs.inner.WordLists.{all_in, then_in}
use Rattle.proof_grammar.specs.inner.RowReading.{row_reading}
use Rattle.proof_grammar.specs.inner.StepReading.{table_step_in}

-- How verdicts and claims are read.

-- `keep`, behind its word: no steps follow
abbrev pub keep_in : Line → Option (Option ℕ)
keep_in ws = ended None ws

-- `drop`, behind its word: how many steps follow
abbrev pub drop_in : Line → Option (Option ℕ)
drop_in ws = then_in (word_in long_said ws) (λ n ws. ended (Some n) ws)

-- the count of a verdict's steps, or None where there are none to come
abbrev pub verdict_in : Line → Option (Option ℕ)
verdict_in [] = None
verdict_in (w ∷ ws) = if bytes_eq w (codes "keep") then keep_in ws else if bytes_eq w (codes "drop") then drop_in ws else None

-- the steps behind the head of a verdict, where some follow
abbrev pub behind_verdict : Option ℕ → List Line → Reading Line (Option (List Step))
behind_verdict None ls = Ok (None, ls)
behind_verdict (Some n) ls = seen Some (steps_reading n ls)

-- a verdict: its head, and the steps behind it
abbrev pub verdict_reading : List Line → Reading Line (Option (List Step))
verdict_reading ls = then_read (read_line verdict_in ls) behind_verdict

-- the claim of a row, with the donor that it was given and those that it ranks
abbrev pub entry_of : ℕ → Option ℕ → List ℕ → Entry
entry_of row reply ranking = record { row_no = row; ranking = ranking; reply = reply }

-- a claim, behind its word
abbrev pub claim_behind : Line → Option Entry
claim_behind ws =
    then_in (word_in named_short ws) (λ row ws.
    then_in (word_in named_short_or_0 ws) (λ reply ws. option_map (entry_of row reply) (all_in named_short ws)))

-- the line of a claim
abbrev pub claim_in : Line → Option Entry
claim_in ws = then_in (word_in (fixed_said (codes "claim")) ws) (λ u ws. claim_behind ws)

-- ---- the file

-- one of the versions
abbrev pub version_said : List ℕ → Option ℕ
version_said w = if bytes_eq w (codes "1") then Some 1 else if bytes_eq w (codes "2") then Some 2 else None

-- the first line, with the version
abbrev pub version_in : Line → Option ℕ
version_in ws =
    then_in (word_in (fixed_said (codes "fh-proof")) ws) (λ u ws.
    then_in (word_in version_said ws) (λ version ws. ended version ws))

-- the last line
abbrev pub end_in : Line → Option (Unit {0})
end_in ws = then_in (word_in (fixed_said (codes "end")) ws) (λ u ws. ended tt ws)

-- a number behind a word
abbrev pub count_in : List ℕ → Line → Option ℕ
count_in word ws =
    then_in (word_in (fixed_said word) ws) (λ u ws.
    then_in (word_in long_said ws) (λ n ws. ended n ws))

-- the budget, behind the other limits
abbrev pub budget_behind : ℕ → ℕ → Line → Option RunLimits
budget_behind limit near ws =
    then_in (word_in (fixed_said (codes "budget")) ws) (λ u ws.
    then_in (word_in long_said ws) (λ budget ws. ended (record { limit = limit; near = near; budget = budget }) ws))

-- how many donors a record ranks, and the budget, behind the first limit
abbrev pub near_behind : ℕ → Line → Option RunLimits
near_behind limit ws =
    then_in (word_in (fixed_said (codes "near")) ws) (λ u ws.
    then_in (word_in short_said ws) (λ near ws. budget_behind limit near ws))

-- the line of the limits
abbrev pub limits_in : Line → Option RunLimits
limits_in ws =
    then_in (word_in (fixed_said (codes "limit")) ws) (λ u ws.
    then_in (word_in short_said ws) near_behind)

-- a count, and as many values as it says
abbrev pub counted_reading : {X : Type 0} → (Line → Option ℕ) → (List Line → Reading Line X) → List Line → Reading Line (List X)
counted_reading said read ls = then_read (read_line said ls) (λ n ls. read_many read n ls)

-- the proof of these parts
abbrev pub proof_from : ℕ → RunLimits → List (Option (List Step)) → List Step → List RowProof → List Entry → Proof
proof_from version l verdicts table rows claims = record {
  version = version;
  limit = l.limit;
  near = l.near;
  budget = l.budget;
  verdicts = verdicts;
  table = table;
  rows = rows;
  claims = claims;
}

-- behind the limits and the verdicts and the table and the rows
abbrev pub claims_reading : ℕ → RunLimits → List (Option (List Step)) → List Step → List RowProof → List Line → Reading Line Proof
claims_reading version l verdicts table rows ls =
    then_read (counted_reading (count_in (codes "claims")) (read_line claim_in) ls) (λ claims ls.
    seen (λ u. proof_from version l verdicts table rows claims) (read_line end_in ls))

-- behind the limits and the verdicts and the table
abbrev pub rows_reading : ℕ → RunLimits → List (Option (List Step)) → List Step → List Line → Reading Line Proof
rows_reading version l verdicts table ls = then_read
    (counted_reading (count_in (codes "records")) (row_reading (shared_from (has_table version) (length verdicts))) ls)
    (claims_reading version l verdicts table)

-- the table, where there is one
abbrev pub table_reading : Bool → List Line → Reading Line (List Step)
table_reading true ls = counted_reading (count_in (codes "table")) (read_line table_step_in) ls
table_reading false ls = Ok ([], ls)

-- behind the limits and the verdicts
abbrev pub behind_verdicts : ℕ → RunLimits → List (Option (List Step)) → List Line → Reading Line Proof
behind_verdicts version l verdicts ls = then_read (table_reading (has_table version) ls) (rows_reading version l verdicts)

-- behind the limits
abbrev pub lists_reading : ℕ → RunLimits → List Line → Reading Line Proof
lists_reading version l ls = then_read (counted_reading (count_in (codes "lines")) verdict_reading ls) (behind_verdicts version l)

-- behind the version
abbrev pub behind_version : ℕ → List Line → Reading Line Proof
behind_version version ls = then_read (read_line limits_in ls) (lists_reading version)

-- a whole file
abbrev pub file_reading : List Line → Reading Line Proof
file_reading ls = then_read (read_line version_in ls) behind_version
