-- What a proof has to say of records where the lines that their trees derive are written once, in a table.
use Rattle.std.specs.Prelude.{◌≡◌, ℕ, ◌++◌, List, [], length, ◌+◌, ◌<◌, ◌^◌}
use Rattle.std.specs.List.{AllByRecursion}
use Rattle.edit_model.specs.declared.value.Value.{Value}
use Rattle.edit_line.specs.Lines.{LineParts}
use Rattle.derivation.specs.LineLists.{AreLinesOf, no_record}
use Rattle.derivation.specs.declared.step.Step.{Step}
use Rattle.bound_cert.specs.SharedTrees.{shared_rows, table_with_rows}
use Rattle.bound_cert.specs.declared.outcome.RowProof.{RowProof}
use Rattle.proof_grammar.specs.Limits.{IsRowProof}
use Rattle.proof_sharing.specs.SharedProofs.{shared_proof}
use Rattle.proof_grammar.specs.ProofLines.{proof_text}
use Rattle.proof_grammar.specs.declared.proof.Proof.{Proof}
use Rattle.cert_check.specs.Releases.{AreValidRows, Audit, IsValidRelease, Spells, audit_of}
use Rattle.cert_check.specs.RowChecks.{RowRules, rules_with}

-- the steps of the table give these lines
abbrev pub AreTableLines : RowRules → List Step → List LineParts → Type 0
AreTableLines r table lines = AreLinesOf (no_record r.survey r.given r.usable) table lines

-- what is said of all records stays right with the lines of the table that their trees share
abbrev pub SharedRowsLaw : Type 0
SharedRowsLaw = (r : RowRules) (table : List Step) (lines : List LineParts)
    (saids : List RowProof) (row_texts : List (List (List ℕ))) (rows : List (List Value)) (released : List (List (List ℕ)))
    → length r.given ≡ length r.usable → AreTableLines r table lines → AllByRecursion IsRowProof saids
    → AreValidRows r saids row_texts rows released
    → (more : List LineParts) × AreTableLines r (table_with_rows table saids) (lines ++ more)
    × AreValidRows (rules_with r (lines ++ more)) (shared_rows (length r.given) table saids) row_texts rows released

-- the same files with the proof of version 2
abbrev pub with_shared : Audit → Proof → Audit
with_shared a p = audit_of a.survey a.sheet a.released (proof_text (shared_proof p))

-- a valid release stays one with the proof of version 2, where 64 bits count the lines of the rules and of the table
abbrev pub SharedReleaseLaw : Type 0
SharedReleaseLaw = (a : Audit) (p : Proof) → Spells a.proof p → p.table ≡ [] → length p.verdicts + length (shared_proof p).table < 2 ^ 64
    → IsValidRelease a → IsValidRelease (with_shared a p)
