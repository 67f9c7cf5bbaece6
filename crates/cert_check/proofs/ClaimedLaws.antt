use Rattle.std.proofs.Common.{◌≡◌, ◌≢◌, ◌∙◌, ◌++◌, ⊎_elim, ℕ, ◌<◌, Bool, true, false, cond, eqb, List, [], ◌∷◌, Option, Some, None, length, get_or, set}
use Rattle.std.proofs.Common.{replicate, refl, sym, ap, arith}
use Rattle.std.specs.Prelude.{is_some}
use Rattle.std.specs.Option.{option_or}
use Rattle.std.proofs.Math.ListN.{get_or-replicate, length-replicate}
use Rattle.std.proofs.lemmas.Bool.Decides.{eqb_tells}
use Rattle.std.proofs.lemmas.List.{get_or-set_other, get_or-set_same, length-set, map-append}
use Rattle.std.proofs.lemmas.List.Folds.{find-append}
use Rattle.std.proofs.lemmas.Option.{slice_get_within}
use Rattle.donor_book.specs.Claims.{claim_of}
use Rattle.donor_book.specs.Entries.{won_of, wins_of}
use Rattle.donor_book.specs.declared.claim.Entry.{Entry}
use Rattle.donor_book.specs.declared.claim.Won.{Won}
use Rattle.proof_grammar.specs.declared.proof.Proof.{Proof}
use Rattle.cert_check.specs.Claims.{AllClaim}
use Rattle.cert_check.specs.inner.ClaimChecks.{AllMarked, AreMarked}

-- The records that have a claim, and are marked.

-- no claim, and no record is marked
pub marked-none : (count : ℕ) → AreMarked [] count (replicate count false)
marked-none count = record { long = length-replicate count false; marked = λ i below. get_or-replicate count i false false below }

-- one claim more, and its record is marked
pub marked-more : (claims : List Entry) (count : ℕ) (marks : List Bool) (e : Entry) → AreMarked claims count marks
    → AreMarked (claims ++ e ∷ []) count (set marks e.row_no true)
marked-more claims count marks e are = record { long = length-set marks e.row_no true ∙ are.long; marked = marked }
  where
    more : (i : ℕ) → claim_of i (wins_of (claims ++ e ∷ [])) ≡ option_or (claim_of i (wins_of claims)) (cond (eqb e.row_no i) (Some (won_of e)) None)
    more i = ap (λ (ws : List Won). claim_of i ws) (map-append won_of claims (e ∷ [])) ∙ find-append (λ (w : Won). eqb w.row_no i) (wins_of claims)
        (won_of e ∷ [])

    found : (o : Option Won) (w : Won) → is_some (option_or o (Some w)) ≡ true
    found None w = refl
    found (Some x) w = refl

    same : (o : Option Won) → option_or o None ≡ o
    same None = refl
    same (Some x) = refl

    here : (i : ℕ) → i < count → (eqb e.row_no i ≡ true) × (e.row_no ≡ i) → get_or (set marks e.row_no true) i false
        ≡ is_some (claim_of i (wins_of (claims ++ e ∷ [])))
    here i below is =
        let one : claim_of i (wins_of (claims ++ e ∷ [])) ≡ option_or (claim_of i (wins_of claims)) (Some (won_of e)) = more i
        ∙ ap (λ b. option_or (claim_of i (wins_of claims)) (cond b (Some (won_of e)) None)) is.0 in
        ap (λ n. get_or (set marks e.row_no true) n false) (sym is.1)
        ∙ get_or-set_same marks e.row_no true false (let l = are.long in let s = is.1 in omega (arith, l, s, below))
        ∙ sym (ap is_some one ∙ found (claim_of i (wins_of claims)) (won_of e))

    elsewhere : (i : ℕ) → i < count → (eqb e.row_no i ≡ false) × (e.row_no ≢ i) → get_or (set marks e.row_no true) i false
        ≡ is_some (claim_of i (wins_of (claims ++ e ∷ [])))
    elsewhere i below is =
        let none : claim_of i (wins_of (claims ++ e ∷ [])) ≡ claim_of i (wins_of claims) = more i
        ∙ ap (λ b. option_or (claim_of i (wins_of claims)) (cond b (Some (won_of e)) None)) is.0 ∙ same (claim_of i (wins_of claims)) in
        get_or-set_other marks e.row_no i true false (λ at. is.1 (sym at)) ∙ are.marked i below ∙ sym (ap is_some none)

    marked : (i : ℕ) → i < count → get_or (set marks e.row_no true) i false ≡ is_some (claim_of i (wins_of (claims ++ e ∷ [])))
    marked i below =
        ⊎_elim (λ (t : (eqb e.row_no i ≡ true) × (e.row_no ≡ i)). here i below t) (λ (f : (eqb e.row_no i ≡ false) × (e.row_no ≢ i)). elsewhere i below f)
        (eqb_tells e.row_no i)

-- ---- each record that claims a donor is marked exactly where it has a claim

module _ (p : Proof) (marks : List Bool) (are : AreMarked p.claims (length p.rows) marks) where
  pub marked-claim : AllMarked p.rows marks → AllClaim p
  marked-claim all i said at claims none = cc (sym (all i said at claims) ∙ are.marked i (slice_get_within p.rows i said at) ∙ ap is_some none)

  some-is : (o : Option Won) → o ≢ None → is_some o ≡ true
  some-is None some = absurd (some refl)
  some-is (Some w) some = refl

  pub claim-marked : AllClaim p → AllMarked p.rows marks
  claim-marked all i said at claims = are.marked i (slice_get_within p.rows i said at) ∙ some-is (claim_of i (wins_of p.claims)) (all i said at claims)
