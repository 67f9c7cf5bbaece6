-- The summary lines.
use Rattle.std.specs.Prelude.{ℕ, ◌&&◌, not, Bool, List, [], ◌∷◌, ◌++◌, codes, decimal, is_none, is_some, length}
use Rattle.std.specs.List.{filter, sum_by}
use Rattle.edit_model.specs.Parts.{SurveyParts}
use Rattle.edit_model.specs.declared.field.Field.{Field}
use Rattle.bound_cert.specs.Paths.{path_weight}
use Rattle.bound_cert.specs.Trees.{all_kept}
use Rattle.donor_book.specs.declared.claim.Entry.{Entry}
use Rattle.edit_report.specs.Ends.{path_found}
use Rattle.edit_report.specs.declared.end.RowEnd.{RowEnd}

-- a record that was given values and keeps all its own
abbrev pub keeps_all : RowEnd → Bool
keeps_all end = is_some end.gift && all_kept (path_found end.proof.outcome)

-- a record that was given values, of which some are not its own
abbrev pub is_changed : RowEnd → Bool
is_changed end = is_some end.gift && not (all_kept (path_found end.proof.outcome))

-- a record that was given no values
abbrev pub is_unresolved : RowEnd → Bool
is_unresolved end = is_none end.gift

-- what a record's change weighs
abbrev pub weight_of : List Field → RowEnd → ℕ
weight_of fields end = path_weight fields (path_found end.proof.outcome)

-- how many records there are, how many of each kind, and what the changes weigh together
abbrev pub summary_words : ℕ → ℕ → ℕ → ℕ → ℕ → List ℕ
summary_words records clean changed unresolved weight =
    codes "records " ++ (decimal records
    ++ (codes " clean " ++ (decimal clean
    ++ (codes " changed " ++ (decimal changed
    ++ (codes " unresolved " ++ (decimal unresolved
    ++ (codes " weight " ++ decimal weight))))))))

-- the summary line of these records
abbrev pub summary_of : SurveyParts → List RowEnd → List ℕ
summary_of survey ends =
    summary_words (length ends) (length (filter keeps_all ends)) (length (filter is_changed ends))
    (length (filter is_unresolved ends)) (sum_by (weight_of survey.fields) (filter is_changed ends))

-- a claim that was given a donor
abbrev pub has_donor : Entry → Bool
has_donor entry = is_some entry.reply

-- how many records claimed a donor, and how many of them were given one
abbrev pub claims_of : List Entry → List ℕ
claims_of history = codes "claims " ++ (decimal (length history) ++ (codes " given " ++ decimal (length (filter has_donor history))))

-- the two summary lines: that of the records, and that of the claims
abbrev pub summary_lines : SurveyParts → List RowEnd → List Entry → List (List ℕ)
summary_lines survey ends history = summary_of survey ends ∷ claims_of history ∷ []
