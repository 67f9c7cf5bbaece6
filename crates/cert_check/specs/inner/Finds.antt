-- What the parts of the audit answer. Private contracts alone cite this page.
use Rattle.std.specs.Prelude.{◌<◌, ℕ, List, [], Option, Some, None, length, slice_index_or}
use Rattle.std.specs.List.{flat_map}
use Rattle.edit_model.specs.declared.value.Value.{Value}
use Rattle.bound_cert.specs.declared.outcome.RowProof.{RowProof}
use Rattle.record_text.specs.Sheets.{SheetParts}
use Rattle.proof_grammar.specs.ProofLines.{row_lines}
use Rattle.cert_check.specs.Releases.{AreValidRows, IsFaultAmong, files_of}
use Rattle.cert_check.specs.RowChecks.{RowFiles, RowRules}
use Rattle.cert_check.specs.declared.row_check.RowFault.{RowFault}

-- what is said of all records is valid, or this is its first fault, with the number of lines that it stands behind
-- the head of the first record
abbrev pub FindsAmong : RowRules → List RowProof → List (List (List ℕ)) → List (List Value) → List (List (List ℕ))
    → Option RowFault → Type 0
FindsAmong r saids row_texts rows released None = AreValidRows r saids row_texts rows released
FindsAmong r saids row_texts rows released (Some fault) = IsFaultAmong r saids row_texts rows released fault.offset fault.why
    × ¬ AreValidRows r saids row_texts rows released × (fault.offset < length (flat_map row_lines saids))

-- the record of this number, with the next of these released rows if it is released
abbrev pub files_at : RowProof → SheetParts → ℕ → List (List (List ℕ)) → RowFiles
files_at said records row_no released =
    files_of said (slice_index_or records.row_texts row_no []) (slice_index_or records.rows row_no []) released
