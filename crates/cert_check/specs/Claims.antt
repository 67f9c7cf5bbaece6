-- What the claims of donors in a proof have to be.
use Rattle.std.specs.Prelude.{◌≡◌, ◌≢◌, ◌⊎◌, ℕ, ◌+◌, ◌<◌, ◌≤◌, nat_eq, true, List, None, Some, IsSomeAnd, length, slice_get, take}
use Rattle.std.specs.List.{AllByRecursion, IsDistinct}
use Rattle.edit_model.specs.CleanRecords.{is_clean}
use Rattle.edit_model.specs.Parts.{SurveyParts}
use Rattle.edit_model.specs.declared.value.Value.{Value}
use Rattle.bound_cert.specs.Claims.{claims_donor}
use Rattle.bound_cert.specs.declared.outcome.RowProof.{RowProof}
use Rattle.donor_book.specs.Claims.{claim_of}
use Rattle.donor_book.specs.Entries.{IsLegalHistory, wins_of}
use Rattle.donor_book.specs.declared.claim.Entry.{Entry}
use Rattle.proof_grammar.specs.declared.proof.Proof.{Proof}
use Rattle.cert_check.specs.Places.{claims_line}

-- the donor is one of the records, and clean
abbrev pub IsDonor : SurveyParts → List (List Value) → ℕ → Type 0
IsDonor survey rows donor = IsSomeAnd (slice_get rows donor) (λ row. is_clean survey row ≡ true)

-- a claim in form: its record claims a donor, and ranks no more donors than may be ranked, each once
pub record IsClaim (survey : SurveyParts) (rows : List (List Value)) (p : Proof) (entry : Entry) : Type 0 where
  pub row : IsSomeAnd (slice_get p.rows entry.row_no) (λ said. claims_donor said.outcome ≡ true)
  pub few : length entry.ranking ≤ p.near
  pub once : IsDistinct nat_eq entry.ranking
  pub donors : AllByRecursion (IsDonor survey rows) entry.ranking

-- claims that are right one after the other: each is in form, no record claims twice, and each is given the first of its donors
-- with uses left
pub record AreClaims (survey : SurveyParts) (rows : List (List Value)) (p : Proof) (claims : List Entry) : Type 0 where
  pub each : AllByRecursion (IsClaim survey rows p) claims
  pub legal : IsLegalHistory p.limit claims

-- each record that claims a donor has a claim
abbrev pub AllClaim : Proof → Type 0
AllClaim p =
    (i : ℕ) (said : RowProof) → slice_get p.rows i ≡ Some said → claims_donor said.outcome ≡ true → claim_of i (wins_of p.claims) ≢ None

-- the claims of a proof are right, and those of just the records that claim a donor
pub record AreValidClaims (survey : SurveyParts) (rows : List (List Value)) (p : Proof) : Type 0 where
  pub right : AreClaims survey rows p p.claims
  pub complete : AllClaim p

-- the claims up to this one are not right, and those before it are
pub record IsWrongClaim (survey : SurveyParts) (rows : List (List Value)) (p : Proof) (place : ℕ) : Type 0 where
  pub there : place < length p.claims
  pub before : AreClaims survey rows p (take place p.claims)
  pub wrong : ¬ AreClaims survey rows p (take (place + 1) p.claims)

-- the first fault of the claims stands at this line: that of the first wrong claim, or that of their count, where all are right
-- and some record has none
abbrev pub IsClaimsFault : SurveyParts → List (List Value) → Proof → ℕ → Type 0
IsClaimsFault survey rows p line =
    ((place : ℕ) × IsWrongClaim survey rows p place × (line ≡ claims_line p + 1 + place))
    ⊎ (AreClaims survey rows p p.claims × (¬ AllClaim p) × (line ≡ claims_line p))
