use Rattle.std.proofs.Common.{◌≡◌, ◌≢◌, ◌≤◌, ◌<◌, ◌+◌, ◌||◌, ◌∙◌, ℕ, zero, suc, Bool, true, false, nat_eq, List, [], ◌∷◌, All, Option, Some, None, IsSomeAnd}
use Rattle.std.proofs.Common.{length, map, slice_get, inl, inr, refl, sym, ap, subst, arith}
use Rattle.std.specs.Prelude.{option_map}
use Rattle.std.specs.List.{AllByRecursion, IsDistinct, list_any}
use Rattle.std.proofs.lemmas.Bool.Decides.{Decides-eqb}
use Rattle.std.proofs.lemmas.List.Sorted.{All-permutation, IsPermutation-sym}
use Rattle.std.proofs.lemmas.Option.{slice_get-map}
use Rattle.edit_model.specs.CleanRecords.{is_clean}
use Rattle.edit_model.specs.Parts.{SurveyParts}
use Rattle.edit_model.specs.declared.value.Value.{Value}
use Rattle.edit_line.specs.Reductions.{IsIn}
use Rattle.edit_line.proofs.ListPlaces.{get-map-out}
use Rattle.edit_line.proofs.Members.{in-left, in-right}
use Rattle.bound_cert.specs.Claims.{claims_donor}
use Rattle.bound_cert.specs.declared.outcome.GiftFault.{GiftFault}
use Rattle.bound_cert.specs.declared.outcome.Outcome.{Outcome}
use Rattle.bound_cert.specs.declared.outcome.Outcome.TheVariants.{Budget, Change, Contradictory, Overflow}
use Rattle.bound_cert.specs.declared.outcome.RowProof.{RowProof}
use Rattle.donor_book.specs.Claims.{claim_of}
use Rattle.donor_book.specs.Entries.{wins_of}
use Rattle.donor_book.specs.declared.claim.Entry.{Entry}
use Rattle.donor_book.specs.declared.claim.Won.{Won}
use Rattle.donor_book.proofs.IndexLaws.{no_row}
use Rattle.donor_measure.specs.Yardsticks.{yardsticks_of}
use Rattle.donor_search.specs.CleanRows.{IsCleanRow, row_at}
use Rattle.donor_search.specs.Places.{place_if, places_from}
use Rattle.donor_search.proofs.PlaceLaws.{each-place}
use Rattle.donor_search.proofs.RankedLaws.{ranking-few, ranking_all, ranking_distinct}
use Rattle.edit_report.specs.Ends.{path_found}
use Rattle.edit_report.specs.declared.end.RowEnd.{RowEnd}
use Rattle.record_editing.specs.Donations.{AreDonations, IsRanked, claimers_of, end_claims}
use Rattle.record_pieces.specs.Classes.{class_count, class_kept, donors_in}
use Rattle.record_pieces.specs.Needs.{IsRankingOf, rows_claimed}
use Rattle.record_editing.specs.declared.terms.Terms.{Terms}
use Rattle.record_pieces.proofs.ClassLaws.{class-clean, class-once}
use Rattle.record_pieces.proofs.NeedLaws.{in-other-order}
use Rattle.proof_grammar.specs.declared.proof.Proof.{Proof}
use Rattle.cert_check.specs.Claims.{AllClaim, AreValidClaims, IsClaim, IsDonor}
use Rattle.edit_release.specs.Edits.{proof_of, said, said_of}

-- The claims of an edit are valid claims of its proof.

-- ---- who claims

-- the proof says of a record that it claims a donor exactly where it does
claims-said : (o : Outcome) (stop : Option GiftFault) → claims_donor (said_of o stop).outcome ≡ claims_donor o
claims-said (Change path zero cert) None = refl
claims-said (Change path zero cert) (Some stop) = refl
claims-said (Change path (suc w) cert) None = refl
claims-said (Change path (suc w) cert) (Some stop) = refl
claims-said (Budget path work) stop = refl
claims-said (Overflow path event) stop = refl
claims-said (Contradictory cert) stop = refl

-- ---- the numbers of the records that claim

-- the number of each such record is among them
claimer-in : (i : ℕ) (ends : List RowEnd) (k : ℕ) (end : RowEnd) → slice_get ends k ≡ Some end → end_claims end ≡ true
    → IsIn (i + k) (places_from end_claims i ends)
claimer-in i [] k end at claims = absurd (cc)
claimer-in i (first ∷ ends) zero end at claims =
    let own : end_claims first ≡ true = ap end_claims (same-end first end at) ∙ claims in
    let here : i + 0 ≡ i = omega arith in
    in-left (i + 0) (place_if (end_claims first) i) (places_from end_claims (suc i) ends) (subst (λ (b : Bool). IsIn (i + 0) (place_if b i)) (sym own)
    (inl here))
  where
    same-end : (a b : RowEnd) → Some a ≡ Some b → a ≡ b
    same-end a b is = cc
claimer-in i (first ∷ ends) (suc k) end at claims =
    let next : suc i + k ≡ i + suc k = omega arith in
    in-right (i + suc k) (place_if (end_claims first) i) (places_from end_claims (suc i) ends)
    (subst (λ n. IsIn n (places_from end_claims (suc i) ends)) next (claimer-in (suc i) ends k end at claims))

in-any : (n : ℕ) (numbers : List ℕ) → IsIn n numbers → list_any (nat_eq n) numbers ≡ true
in-any n [] there = absurd there
in-any n (m ∷ numbers) (inl same) = ap (λ b. b || list_any (nat_eq n) numbers) ((Decides-eqb n m).1 same)
in-any n (m ∷ numbers) (inr there) = ap (λ b. nat_eq n m || b) (in-any n numbers there) ∙ either (nat_eq n m)
  where
    either : (b : Bool) → (b || true) ≡ true
    either true = refl
    either false = refl

-- the numbers of the records in a history
rows-won : (history : List Entry) → map (λ (w : Won). w.row_no) (wins_of history) ≡ map (λ (entry : Entry). entry.row_no) history
rows-won [] = refl
rows-won (entry ∷ history) = ap (λ (ns : List ℕ). entry.row_no ∷ ns) (rows-won history)

-- a number that is among them has a claim
has-claim : (history : List Entry) (n : ℕ) → IsIn n (map (λ (entry : Entry). entry.row_no) history) → claim_of n (wins_of history) ≢ None
has-claim history n there none =
    cc (sym (no_row (wins_of history) n none) ∙ ap (list_any (nat_eq n)) (rows-won history) ∙ in-any n (map (λ (entry : Entry). entry.row_no) history) there)

-- ---- the claims

module _ (survey : SurveyParts) (terms : Terms) (rows : List (List Value)) (ends : List RowEnd) (history : List Entry)
    (donations : AreDonations survey rows terms ends history) where
  abbrev p : Proof
  p = proof_of survey terms ends history

  said-claims : (end : RowEnd) → claims_donor (said end).outcome ≡ end_claims end
  said-claims end = claims-said end.proof.outcome end.proof.gift

  -- the record of this number claims a donor
  abbrev Claims : ℕ → Type 0
  Claims n = (end : RowEnd) × (slice_get ends n ≡ Some end) × (end_claims end ≡ true)

  -- a clean row is a donor
  donors-are : (ranking : List ℕ) → All (λ d. (d < length rows) × (is_clean survey (row_at rows d) ≡ true)) ranking
      → AllByRecursion (IsDonor survey rows) ranking
  donors-are [] all = tt
  donors-are (d ∷ ranking) all =
      let (below, clean) = all 0 0 (omega arith) in (there rows d below clean, donors-are ranking (λ k e lt. all (suc k) e (omega (arith, lt))))
    where
      there : (rows : List (List Value)) (d : ℕ) → d < length rows → is_clean survey (row_at rows d) ≡ true → IsDonor survey rows d
      there [] d below clean = absurd (omega (arith, below))
      there (row ∷ rows) zero below clean = clean
      there (row ∷ rows) (suc d) below clean = there rows d (omega (arith, below)) clean

  claim-formed : (entry : Entry) → Claims entry.row_no → IsRanked survey rows terms.class_field terms.near ends entry → IsClaim survey rows p entry
  claim-formed entry (end, at, claims) ranked = record {
    row = subst (λ (o : Option RowProof). IsSomeAnd o (λ s. claims_donor s.outcome ≡ true))
        (sym (slice_get-map said ends entry.row_no ∙ ap (option_map said) at)) (said-claims end ∙ claims);
    few = subst (λ (ds : List ℕ). length ds ≤ terms.near) (sym r.ranked) (ranking-few (yardsticks_of survey.fields) rows donors (row_at rows entry.row_no)
        r.kept terms.near);
    once = subst (IsDistinct nat_eq) (sym r.ranked) (ranking_distinct (yardsticks_of survey.fields) rows donors (row_at rows entry.row_no) r.kept terms.near
        (class-once survey rows terms.class_field class));
    donors = donors-are entry.ranking (subst (λ (ds : List ℕ). All (λ d. (d < length rows) × (is_clean survey (row_at rows d) ≡ true)) ds) (sym r.ranked)
        (ranking_all (yardsticks_of survey.fields) (IsCleanRow survey rows) rows donors (row_at rows entry.row_no) r.kept terms.near
        (class-clean survey rows terms.class_field class)));
  }
    where
      r : IsRankingOf survey rows terms.class_field terms.near (row_at rows entry.row_no) (path_found end.proof.outcome) entry.ranking
      r = subst (λ (o : Option RowEnd). IsSomeAnd o (λ (e : RowEnd). IsRankingOf survey rows terms.class_field terms.near (row_at rows entry.row_no)
          (path_found e.proof.outcome) entry.ranking)) at ranked

      class : ℕ
      class = class_kept (class_count survey.fields terms.class_field) terms.class_field (row_at rows entry.row_no) r.kept

      donors : List ℕ
      donors = donors_in survey rows terms.class_field class

  all-formed : (claims : List Entry) → All Claims (map (λ (entry : Entry). entry.row_no) claims)
      → AllByRecursion (IsRanked survey rows terms.class_field terms.near ends) claims → AllByRecursion (IsClaim survey rows p) claims
  all-formed [] claim ranked = tt
  all-formed (entry ∷ claims) claim ranked =
      (claim-formed entry (claim 0 0 (omega arith)) ranked.0, all-formed claims (λ k d lt. claim (suc k) d (omega (arith, lt))) ranked.1)

  all-claim : AllClaim p
  all-claim i s at claims =
      let (end, there, same) = get-map-out said ends i s at in
      let own : i ≡ 0 + i = omega arith in
      let claims_here : end_claims end ≡ true = sym (said-claims end) ∙ ap (λ (t : RowProof). claims_donor t.outcome) (sym same) ∙ claims in
      let claimer = subst (λ n. IsIn n (claimers_of ends)) (sym own) (claimer-in 0 ends i end there claims_here) in
      has-claim history i (in-other-order (rows_claimed history) (claimers_of ends) i (IsPermutation-sym (claimers_of ends) (rows_claimed history)
      donations.claimers) claimer)

  all-claimers : All Claims (claimers_of ends)
  all-claimers = each-place end_claims Claims 0 ends (λ k end at claims. let own : k ≡ 0 + k = omega arith in subst Claims own (end, at, claims))

  pub claims-valid : AreValidClaims survey rows p
  claims-valid = record {
    right = record {
      each = all-formed history (All-permutation Claims (claimers_of ends) (rows_claimed history) donations.claimers all-claimers) donations.ranked;
      legal = donations.legal;
    };
    complete = all-claim;
  }
