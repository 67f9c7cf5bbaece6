-- What the parts of the check of claims answer. Private contracts alone cite this page.
use Rattle.std.specs.Prelude.{◌≡◌, ℕ, ◌+◌, ◌<◌, Bool, true, false, List, Option, Some, None, is_some, length, map, slice_get, slice_index_or, take}
use Rattle.std.specs.List.{AllByRecursion}
use Rattle.edit_model.specs.CleanRecords.{is_clean}
use Rattle.edit_model.specs.Parts.{SurveyParts}
use Rattle.edit_model.specs.declared.value.Value.{Value}
use Rattle.bound_cert.specs.Claims.{claims_donor}
use Rattle.bound_cert.specs.declared.outcome.RowProof.{RowProof}
use Rattle.donor_book.specs.Claims.{claim_of}
use Rattle.donor_book.specs.Entries.{wins_of}
use Rattle.donor_book.specs.declared.claim.Entry.{Entry}
use Rattle.proof_grammar.specs.declared.proof.Proof.{Proof}
use Rattle.cert_check.specs.Claims.{AreClaims, AreValidClaims, IsClaim, IsClaimsFault, IsWrongClaim}

-- ---- claims in form

-- the flags say which records are clean
abbrev pub AreCleanFlags : SurveyParts → List (List Value) → List Bool → Type 0
AreCleanFlags survey rows flags = flags ≡ map (is_clean survey) rows

-- this is so of each survey and its records, of which the flags say which are clean
abbrev pub OfCleanFlags : List Bool → (SurveyParts → List (List Value) → Type 0) → Type 0
OfCleanFlags flags P = (survey : SurveyParts) (rows : List (List Value)) → AreCleanFlags survey rows flags → P survey rows

-- this number of claims stand before the first that is not in form
pub record IsFormedCount (survey : SurveyParts) (rows : List (List Value)) (p : Proof) (count : ℕ) : Type 0 where
  pub formed : AllByRecursion (IsClaim survey rows p) (take count p.claims)
  pub next : count < length p.claims → ¬ AllByRecursion (IsClaim survey rows p) (take (count + 1) p.claims)

-- ---- records with a claim

-- each of this number of records is marked exactly where it has a claim
pub record AreMarked (claims : List Entry) (count : ℕ) (marks : List Bool) : Type 0 where
  pub long : length marks ≡ count
  pub marked : (i : ℕ) → i < count → slice_index_or marks i false ≡ is_some (claim_of i (wins_of claims))

-- each record that claims a donor is marked
abbrev pub AllMarked : List RowProof → List Bool → Type 0
AllMarked saids marks =
    (i : ℕ) (said : RowProof) → slice_get saids i ≡ Some said → claims_donor said.outcome ≡ true → slice_index_or marks i false ≡ true

-- ---- all claims

-- the claims are right one after the other, or this one is the first that is not
abbrev pub FindsClaim : SurveyParts → List (List Value) → Proof → Option ℕ → Type 0
FindsClaim survey rows p None = AreClaims survey rows p p.claims
FindsClaim survey rows p (Some place) = IsWrongClaim survey rows p place

-- the claims are valid, or their first fault stands at this line
abbrev pub FindsClaims : SurveyParts → List (List Value) → Proof → Option ℕ → Type 0
FindsClaims survey rows p None = AreValidClaims survey rows p
FindsClaims survey rows p (Some line) = IsClaimsFault survey rows p line
