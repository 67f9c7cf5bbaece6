-- What a valid release shows, whoever wrote it.
use Rattle.std.specs.Prelude.{◌≡◌, ⊤, ℕ, ◌<◌, ◌≤◌, Bool, List, [], ◌∷◌, Option, Some, None, IsSomeAnd, length}
use Rattle.edit_model.specs.Corrections.{IsCorrection, IsLeastWeight, change_weight}
use Rattle.edit_model.specs.Parts.{SurveyParts}
use Rattle.edit_model.specs.Points.{Point}
use Rattle.edit_model.specs.RowPoints.{Agrees}
use Rattle.edit_model.specs.declared.value.Value.{Value}
use Rattle.edit_normal.specs.RuleLines.{normal_lines_of}
use Rattle.derivation.specs.LineLists.{AllFollowFrom, no_record}
use Rattle.derivation.specs.Refutations.{AllFollow}
use Rattle.bound_cert.specs.Paths.{changes}
use Rattle.bound_cert.specs.declared.outcome.GiftFault.{GiftFault}
use Rattle.bound_cert.specs.declared.outcome.Outcome.{Outcome}
use Rattle.bound_cert.specs.declared.outcome.Outcome.TheVariants.{Change, Contradictory}
use Rattle.bound_cert.specs.declared.outcome.RowProof.{RowProof}
use Rattle.donor_book.specs.Claims.{uses_of}
use Rattle.donor_book.specs.Entries.{IsLegalHistory, wins_of}
use Rattle.cert_check.specs.Dropped.{kept_flags}
use Rattle.record_text.specs.Sheets.{text_at}
use Rattle.cert_check.specs.Released.{AreValuesFrom}
use Rattle.cert_check.specs.Releases.{Audit, AreReleased, Spells, behind, files_of}
use Rattle.cert_check.specs.RowChecks.{RowFiles}
use Rattle.cert_check.specs.Tables.{shared_lines}
use Rattle.proof_grammar.specs.declared.proof.Proof.{Proof}

-- the point has the record's value at each field
abbrev pub IsPointOf : List Value → Point → Type 0
IsPointOf row p = (f : ℕ) → f < length row → Agrees row p f

-- the released texts are a correction of the record: with the values that they give, each rule holds; and what it weighs is the
-- least that any correction weighs
pub record IsLeastRelease (survey : SurveyParts) (columns : List ℕ) (changed : ℕ → Bool)
    (row : List Value) (texts : List (List ℕ)) (weight : ℕ) : Type 0 where
  pub new : List Value
  pub values : AreValuesFrom changed (text_at columns texts) 0 survey.fields row new
  pub point : Point
  pub agrees : IsPointOf new point
  pub correction : IsCorrection survey point
  pub weighs : change_weight survey row point ≡ weight
  pub least : IsLeastWeight survey row weight

-- what is shown of a record, by what the proof says of it: a released row is a correction of least weight; no correction weighs
-- less than a change to which no values were given; and a contradictory record shows that no point is consistent
abbrev pub ShowsSaid : SurveyParts → List ℕ → RowFiles → Outcome → Option GiftFault → Type 0
ShowsSaid survey columns f (Change path weight cert) None =
    IsSomeAnd f.texts (λ texts. IsLeastRelease survey columns (changes survey.fields path) f.row texts weight)
ShowsSaid survey columns f (Change path weight cert) (Some fault) =
    (p : Point) → IsCorrection survey p → weight ≤ change_weight survey f.row p
ShowsSaid survey columns f (Contradictory cert) fault = (p : Point) → ¬ IsCorrection survey p
ShowsSaid survey columns f outcome fault = ⊤

-- what is shown of each record, with the next of the released rows if it is released
abbrev pub ShowAll : SurveyParts → List ℕ → List RowProof
    → List (List (List ℕ)) → List (List Value) → List (List (List ℕ)) → Type 0
ShowAll survey columns [] [] [] released = Unit {0}
ShowAll survey columns (said ∷ saids) (reads ∷ row_texts) (row ∷ rows) released =
    ShowsSaid survey columns (files_of said reads row released) said.outcome said.gift
    × ShowAll survey columns saids row_texts rows (behind said released)
ShowAll survey columns _ _ _ released = ⊥

-- what the files show: each line of the rules follows from those that are kept, and so does each line that all records share; the
-- released rows are corrections of least weight, for what is told to be contradictory there is no correction, and the claims are a
-- legal history, in which no donor is given more often than the limit
pub record Shows (a : Audit) : Type 0 where
  pub proof : Proof
  pub spelled : Spells a.proof proof
  pub follow : AllFollow (normal_lines_of a.survey) (kept_flags proof)
  pub shared : AllFollowFrom (no_record a.survey (normal_lines_of a.survey) (kept_flags proof)) (shared_lines a.survey proof)
  pub rows : List (List (List ℕ))
  pub released : AreReleased a proof rows
  pub each : ShowAll a.survey a.sheet.columns proof.rows a.sheet.row_texts a.sheet.rows rows
  pub legal : IsLegalHistory proof.limit proof.claims
  pub within : (donor : ℕ) → uses_of donor (wins_of proof.claims) ≤ proof.limit
