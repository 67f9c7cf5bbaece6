use Rattle.std.proofs.Common.{◌≡◌, ◌∙◌, ◌==◌, ℕ, zero, suc, ◌+◌, ◌<◌, ◌≤◌, Bool, true, false, nat_eq, List, [], ◌∷◌, All, IsSomeAnd, Some, inl, inr, length}
use Rattle.std.proofs.Common.{map, slice_get, slice_index_or, take, refl, sym, ap, subst, arith}
use Rattle.std.specs.Bool.{Decides}
use Rattle.std.specs.List.{AllByRecursion, IsDistinct, list_all, take-map}
use Rattle.std.proofs.lemmas.Bool.{and_parts}
use Rattle.std.proofs.lemmas.Bool.Decides.{nat_tests}
use Rattle.std.proofs.lemmas.List.{take-take}
use Rattle.std.proofs.lemmas.List.Elements.{All-from_recursion}
use Rattle.edit_model.specs.CleanRecords.{is_clean}
use Rattle.edit_model.specs.Parts.{SurveyParts}
use Rattle.edit_model.specs.declared.value.Value.{Value}
use Rattle.donor_book.specs.Claims.{first_free}
use Rattle.donor_book.specs.Entries.{IsEntryWithin, IsLegalHistory, won_of, wins_of}
use Rattle.donor_book.specs.declared.claim.Entry.{Entry}
use Rattle.donor_book.specs.declared.claim.Won.{Won}
use Rattle.donor_book.proofs.LegalLaws.{legal_fresh}
use Rattle.proof_grammar.specs.declared.proof.Proof.{Proof}
use Rattle.bound_cert.specs.Claims.{claims_donor}
use Rattle.cert_check.specs.Claims.{AreClaims, AreValidClaims, IsClaim, IsClaimsFault, IsDonor, IsWrongClaim}
use Rattle.cert_check.specs.inner.ClaimChecks.{AreCleanFlags}

-- Claims of donors, one after the other.

-- ---- the donors of a claim

module _ (survey : SurveyParts) where
  donor-is : (rows : List (List Value)) (donor : ℕ) → slice_index_or (map (is_clean survey) rows) donor false ≡ true → IsDonor survey rows donor
  donor-is [] donor is = absurd (cc)
  donor-is (row ∷ rows) zero is = is
  donor-is (row ∷ rows) (suc donor) is = donor-is rows donor is

  is-donor : (rows : List (List Value)) (donor : ℕ) → IsDonor survey rows donor → slice_index_or (map (is_clean survey) rows) donor false ≡ true
  is-donor [] donor is = absurd is
  is-donor (row ∷ rows) zero is = is
  is-donor (row ∷ rows) (suc donor) is = is-donor rows donor is

  -- what the flags say of each donor that is ranked
  pub clean-donors : (rows : List (List Value)) (ranking : List ℕ) → list_all (λ donor. slice_index_or (map (is_clean survey) rows) donor false) ranking ≡ true
      → AllByRecursion (IsDonor survey rows) ranking
  clean-donors rows [] all = tt
  clean-donors rows (donor ∷ ranking) all =
      let both = and_parts (slice_index_or (map (is_clean survey) rows) donor false) (list_all (λ d. slice_index_or (map (is_clean survey) rows) d false)
      ranking) all in
      (donor-is rows donor both.0, clean-donors rows ranking both.1)

  pub donors-clean : (rows : List (List Value)) (ranking : List ℕ) → AllByRecursion (IsDonor survey rows) ranking
      → list_all (λ donor. slice_index_or (map (is_clean survey) rows) donor false) ranking ≡ true
  donors-clean rows [] are = refl
  donors-clean rows (donor ∷ ranking) are = rw (is-donor rows donor are.0) (donors-clean rows ranking are.1)

-- ---- the first claims of some

-- what holds of the element at a place shows that there is one
some-below : {X : Type 0} (xs : List X) (i : ℕ) (P : X → Type 0) → IsSomeAnd (slice_get xs i) P → i < length xs
some-below [] i P is = absurd is
some-below (x ∷ xs) zero P is = omega arith
some-below (x ∷ xs) (suc i) P is = let rest = some-below xs i P is in omega (arith, rest)

-- what holds of each element holds of each of the first ones
all-take : {X : Type 0} (P : X → Type 0) (n : ℕ) (xs : List X) → AllByRecursion P xs → AllByRecursion P (take n xs)
all-take P zero xs all = tt
all-take P (suc n) [] all = tt
all-take P (suc n) (x ∷ xs) all = (all.0, all-take P n xs all.1)

distinct-take : (n : ℕ) (xs : List ℕ) → IsDistinct nat_eq xs → IsDistinct nat_eq (take n xs)
unfolding IsDistinct
distinct-take zero xs once = tt
distinct-take (suc n) [] once = tt
distinct-take (suc n) (x ∷ xs) once = (all-take (λ y. nat_eq x y ≡ false) n xs once.0, distinct-take n xs once.1)

-- one of the first ones stands at the same place
among-first : {X : Type 0} (n : ℕ) (xs : List X) (k : ℕ) (x : X) → slice_get (take n xs) k ≡ Some x → (k < n) × (slice_get xs k ≡ Some x)
among-first zero xs k x is = absurd (cc)
among-first (suc n) [] k x is = absurd (cc)
among-first (suc n) (y ∷ xs) zero x is = (omega arith, is)
among-first (suc n) (y ∷ xs) (suc k) x is = let rest = among-first n xs k x is in (omega (arith, rest.0), rest.1)

-- the first claims of a legal history are one
legal-take : (limit n : ℕ) (history : List Entry) → IsLegalHistory limit history → IsLegalHistory limit (take n history)
legal-take limit n history legal = record {
  replies = λ k entry is.
      let here = among-first n history k entry is in
      legal.replies k entry here.1 ∙ ap (λ (ws : List Won). first_free limit ws entry.ranking) (sym (before k (omega (arith, here.0))));
  once = subst (IsDistinct nat_eq) (take-map (λ (w : Won). w.row_no) n (wins_of history) ∙ ap (map (λ (w : Won). w.row_no)) (take-map won_of n history))
      (distinct-take n (map (λ (w : Won). w.row_no) (wins_of history)) legal.once);
}
  where
    before : (k : ℕ) → k ≤ n → take k (wins_of (take n history)) ≡ take k (wins_of history)
    before k le = ap (take k) (sym (take-map won_of n history)) ∙ take-take k n (wins_of history) le

module _ (survey : SurveyParts) (rows : List (List Value)) (p : Proof) where
  -- a claim is in form exactly where its donors are those that the flags say, if the rest is
  pub in-form : (clean : List Bool) (entry : Entry) (b : Bool) → AreCleanFlags survey rows clean
      → IsSomeAnd (slice_get p.rows entry.row_no) (λ said. claims_donor said.outcome ≡ true) → length entry.ranking ≤ p.near → IsDistinct nat_eq entry.ranking
      → b ≡ list_all (λ donor. slice_index_or clean donor false) entry.ranking → Decides b (IsClaim survey rows p entry)
  in-form clean entry b flags row few once is =
      let says : b ≡ list_all (λ donor. slice_index_or (map (is_clean survey) rows) donor false) entry.ranking = is
      ∙ ap (λ (cs : List Bool). list_all (λ donor. slice_index_or cs donor false) entry.ranking) flags in (
        λ yes. record { row = row; few = few; once = once; donors = clean-donors survey rows entry.ranking (sym says ∙ yes) },
        λ claim. says ∙ donors-clean survey rows entry.ranking claim.donors,
      )

  -- the records of claims in form are there, and so are their donors
  pub claims-within : (count : ℕ) (claims : List Entry) → count ≡ length rows → length p.rows ≡ length rows → AllByRecursion (IsClaim survey rows p) claims
      → All (IsEntryWithin count count) claims
  claims-within count claims counted one_each are = All-from_recursion (IsEntryWithin count count) claims (each claims are)
    where
      below : (ranking : List ℕ) → AllByRecursion (IsDonor survey rows) ranking → AllByRecursion (λ donor. donor < count) ranking
      below [] are = tt
      below (donor ∷ ranking) are = (let there = some-below rows donor _ are.0 in omega (arith, there, counted), below ranking are.1)

      each : (claims : List Entry) → AllByRecursion (IsClaim survey rows p) claims → AllByRecursion (IsEntryWithin count count) claims
      each [] are = tt
      each (entry ∷ claims) are = (
        (
          (let there = some-below p.rows entry.row_no _ are.0.row in omega (arith, there, counted, one_each)),
          All-from_recursion (λ donor. donor < count)
              entry.ranking (below entry.ranking are.0.donors),
        ),
        each claims are.1,
      )

  -- no claims are right
  pub none-right : (claims : List Entry) → (length claims == 0) ≡ true → AreClaims survey rows p claims
  none-right [] none = record { each = tt; legal = legal_fresh p.limit }
  none-right (entry ∷ claims) none = absurd (grind (arith, nat_tests))

  -- the first of right claims are right
  claims-take : (n : ℕ) (claims : List Entry) → AreClaims survey rows p claims → AreClaims survey rows p (take n claims)
  claims-take n claims are = record { each = all-take (IsClaim survey rows p) n claims are.each; legal = legal-take p.limit n claims are.legal }

  -- where a claim is wrong, the claims are not right
  wrong-not : (place : ℕ) → IsWrongClaim survey rows p place → ¬ AreClaims survey rows p p.claims
  wrong-not place is are = is.wrong (claims-take (place + 1) p.claims are)

  -- claims with a fault are not valid
  pub fault-invalid : (line : ℕ) → IsClaimsFault survey rows p line → ¬ AreValidClaims survey rows p
  fault-invalid line (inl (place, wrong, at)) valid = wrong-not place wrong valid.right
  fault-invalid line (inr (right, missing, at)) valid = missing valid.complete
