-- A valid release: a proof file and a released file that are right for rules and records.
use Rattle.std.specs.Prelude.{◌≡◌, ◌⊎◌, ℕ, ◌+◌, ◌==◌, ◌&&◌, nat_le, not, Bool, false, if◌then◌else◌, List, [], ◌∷◌, Option, Some, None, Result, Err, is_none, length}
use Rattle.std.specs.List.{AllByRecursion, filter}
use Rattle.foundation.specs.Limits.{most_gifts, most_near, most_work}
use Rattle.edit_model.specs.Parts.{SurveyParts}
use Rattle.edit_model.specs.declared.value.Value.{Value}
use Rattle.edit_normal.specs.RuleLines.{normal_lines_of}
use Rattle.record_text.specs.Sheets.{AreRecordsOf, SheetParts}
use Rattle.record_text.specs.Trimming.{header_of}
use Rattle.bound_cert.specs.declared.outcome.GiftFault.{GiftFault}
use Rattle.bound_cert.specs.declared.outcome.Outcome.{Outcome}
use Rattle.bound_cert.specs.declared.outcome.Outcome.TheVariants.{Budget, Change, Contradictory, Overflow}
use Rattle.bound_cert.specs.declared.outcome.RowProof.{RowProof}
use Rattle.proof_grammar.specs.FirstFaults.{IsFirstFaultyLine}
use Rattle.proof_grammar.specs.Limits.{IsPlain}
use Rattle.proof_grammar.specs.ProofLines.{proof_text, row_lines}
use Rattle.proof_grammar.specs.declared.proof.Proof.{Proof}
use Rattle.cert_check.specs.Claims.{AreValidClaims, IsClaimsFault}
use Rattle.cert_check.specs.Dropped.{drop_fault, kept_flags}
use Rattle.cert_check.specs.Places.{records_line}
use Rattle.cert_check.specs.RowChecks.{IsRowFault, IsValidRow, RowFiles, RowRules, rules_with}
use Rattle.cert_check.specs.Tables.{shared_lines, table_fault}
use Rattle.cert_check.specs.declared.fault.CheckFault.{CheckFault}
use Rattle.cert_check.specs.declared.fault.CheckFault.TheVariants as fault
use Rattle.cert_check.specs.declared.fault.Why.{Why}
use Rattle.cert_check.specs.declared.fault.Why.TheVariants as why

-- what is checked: the rules and the records as they were read, and the bytes of the released file and of the proof
pub record Audit : Type 0 where
  pub survey : SurveyParts
  pub sheet : SheetParts
  pub released : List ℕ
  pub proof : List ℕ

-- the audit of these rules, records and bytes
abbrev pub audit_of : SurveyParts → SheetParts → List ℕ → List ℕ → Audit
audit_of survey sheet released proof = record { survey = survey; sheet = sheet; released = released; proof = proof }

-- ---- the proof file alone

-- the bytes spell the proof
pub record Spells (bytes : List ℕ) (p : Proof) : Type 0 where
  pub plain : IsPlain p
  pub text : bytes ≡ proof_text p

-- whether a number is from 1 to the most that is allowed
abbrev pub is_allowed : ℕ → ℕ → Bool
is_allowed most n = nat_le 1 n && nat_le n most

-- a donor may be given 1 to 1,000 times, a record ranks 1 to 64 donors, and a search may take work of 1 to 1,000,000,000
abbrev pub limits_fit : Proof → Bool
limits_fit p = is_allowed most_gifts p.limit && (is_allowed most_near p.near && is_allowed most_work p.budget)

-- the first line of a proof that does not fit these numbers of lines of the rules and of records: the limits, or either count
abbrev pub head_fault_of : ℕ → ℕ → Proof → Option ℕ
head_fault_of lines records p =
    if not (limits_fit p) then Some 2
    else if not (length p.verdicts == lines) then Some 3
    else if not (length p.rows == records) then Some (records_line p)
    else None

-- the first line of a proof that does not fit the rules and the records
abbrev pub head_fault : Audit → Proof → Option ℕ
head_fault a p = head_fault_of (length (normal_lines_of a.survey)) (length a.sheet.rows) p

-- ---- the released file

-- whether a record is released: it is clean, or changed and was given values
abbrev pub is_released : RowProof → Bool
is_released said = gives said.outcome said.gift
  where
    gives : Outcome → Option GiftFault → Bool
    gives (Change path weight cert) fault = is_none fault
    gives (Budget path work) fault = false
    gives (Overflow path event) fault = false
    gives (Contradictory cert) fault = false

-- the released bytes are, as a record file, the header of the records and these rows, as long as the header: one for each
-- record that is released
pub record AreReleased (a : Audit) (p : Proof) (rows : List (List (List ℕ))) : Type 0 where
  pub first : List (List ℕ)
  pub given : AreRecordsOf a.released (first ∷ rows)
  pub header : header_of first ≡ a.sheet.header
  pub long : AllByRecursion (λ (texts : List (List ℕ)). length texts ≡ length a.sheet.header) rows
  pub one_each : length rows ≡ length (filter is_released p.rows)

-- ---- the records

-- by what the records are checked: the lines of the rules, of which those that are kept may be used, and the lines that all records share
abbrev pub rules_of : Audit → Proof → RowRules
rules_of a p = rules_with
    (record { survey = a.survey; given = normal_lines_of a.survey; usable = kept_flags p; columns = a.sheet.columns; budget = p.budget })
    (shared_lines a.survey p)

-- the next of the released rows, if the record is released
abbrev pub next_texts : RowProof → List (List (List ℕ)) → Option (List (List ℕ))
next_texts said [] = None
next_texts said (texts ∷ released) = if is_released said then Some texts else None

-- a record, with the next released row if it is released
abbrev pub files_of : RowProof → List (List ℕ) → List Value → List (List (List ℕ)) → RowFiles
files_of said reads row released = record { reads = reads; row = row; texts = next_texts said released }

-- the released rows that are left for the records behind this one: all but the first, if this one is released
abbrev pub behind : RowProof → List (List (List ℕ)) → List (List (List ℕ))
behind said [] = []
behind said (texts ∷ released) = if is_released said then released else texts ∷ released

-- what is said of each record is valid; the released rows are those of the records in order
abbrev pub AreValidRows : RowRules → List RowProof → List (List (List ℕ)) → List (List Value) → List (List (List ℕ)) → Type 0
AreValidRows r [] [] [] released = Unit {0}
AreValidRows r (said ∷ saids) (reads ∷ row_texts) (row ∷ rows) released =
    IsValidRow r (files_of said reads row released) said × AreValidRows r saids row_texts rows (behind said released)
AreValidRows r _ _ _ released = ⊥

-- what is said of some record is not: of the first such, the fault stands `offset` lines behind the head of the first record
abbrev pub IsFaultAmong : RowRules → List RowProof → List (List (List ℕ)) → List (List Value) → List (List (List ℕ)) → ℕ → Why → Type 0
IsFaultAmong r (said ∷ saids) (reads ∷ row_texts) (row ∷ rows) released offset why =
    IsRowFault r (files_of said reads row released) said offset why
    ⊎ (IsValidRow r (files_of said reads row released) said × ((rest : ℕ)
    × IsFaultAmong r saids row_texts rows (behind said released) rest why × (offset ≡ length (row_lines said) + rest)))
IsFaultAmong r _ _ _ released offset why = ⊥

-- ---- a valid release

-- the proof fits the rules and the records: its limits and counts do, each line of the rules that it drops is refuted, and each step
-- of its table gives a line
pub record Fits (a : Audit) (p : Proof) : Type 0 where
  pub spelled : Spells a.proof p
  pub head : head_fault a p ≡ None
  pub dropped : drop_fault a.survey p ≡ None
  pub table : table_fault a.survey p ≡ None

-- the files are a valid release: the proof fits, the released rows are those that it tells of, what it says of each record is
-- right, and so are its claims of donors
pub record IsValidRelease (a : Audit) : Type 0 where
  pub proof : Proof
  pub fits : Fits a proof
  pub rows : List (List (List ℕ))
  pub released : AreReleased a proof rows
  pub each : AreValidRows (rules_of a proof) proof.rows a.sheet.row_texts a.sheet.rows rows
  pub claims : AreValidClaims a.survey a.sheet.rows proof

-- the proof tells of `count` released records
abbrev pub IsReleasedCount : Audit → ℕ → Type 0
IsReleasedCount a count = (p : Proof) × Spells a.proof p × (count ≡ length (filter is_released p.rows))

-- ---- the first condition that fails, and the line of the proof

-- the bytes spell a proof of which this holds
abbrev pub OfProof : Audit → (Proof → Type 0) → Type 0
OfProof a P = (p : Proof) × Spells a.proof p × P p

-- the proof fits, and this holds of it and of the released rows
abbrev pub OfRows : Audit → (Proof → List (List (List ℕ)) → Type 0) → Type 0
OfRows a P = (p : Proof) × Fits a p × ((rows : List (List (List ℕ))) × AreReleased a p rows × P p rows)

-- of some record the fault is this
abbrev pub IsRecordFault : Audit → ℕ → Why → Type 0
IsRecordFault a line why = OfRows a (λ p rows. (offset : ℕ)
    × IsFaultAmong (rules_of a p) p.rows a.sheet.row_texts a.sheet.rows rows offset why × (line ≡ records_line p + 1 + offset))

-- the released rows are not those that the proof tells of
abbrev pub IsNotReleased : Audit → ℕ → Type 0
IsNotReleased a line = ((p : Proof) × Fits a p × ((rows : List (List (List ℕ))) → ¬ AreReleased a p rows)) × (line ≡ 0)

-- the files are no valid release; the first condition that fails, in the order of the proof but for the released rows, is told
-- with its line; line 0 is none
abbrev pub IsFirstFailure : Audit → ℕ → Why → Type 0
IsFirstFailure a line why.Grammar = IsFirstFaultyLine a.proof line
IsFirstFailure a line why.Head = OfProof a (λ p. head_fault a p ≡ Some line)
IsFirstFailure a line why.Drop = OfProof a (λ p. (head_fault a p ≡ None) × (drop_fault a.survey p ≡ Some line))
IsFirstFailure a line why.Table = OfProof a (λ p.
    (head_fault a p ≡ None) × (drop_fault a.survey p ≡ None) × (table_fault a.survey p ≡ Some line))
IsFirstFailure a line why.Cert = IsRecordFault a line why.Cert
IsFirstFailure a line why.RowText = IsNotReleased a line ⊎ IsRecordFault a line why.RowText
IsFirstFailure a line why.Claims =
    OfRows a (λ p rows. AreValidRows (rules_of a p) p.rows a.sheet.row_texts a.sheet.rows rows × IsClaimsFault a.survey a.sheet.rows p line)

-- where the files are rejected, this is so of the line and the condition that are told
abbrev pub IfRejected : {X : Type 0} → Result X CheckFault → (ℕ → Why → Type 0) → Type 0
IfRejected answer P = (line : ℕ) (why : Why) → answer ≡ Err (fault.Rejected line why) → P line why
