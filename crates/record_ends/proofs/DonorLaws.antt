use Rattle.std.proofs.Common.{◌≡◌, ◌≢◌, ◌++◌, ℕ, suc, ◌+◌, ◌<◌, true, false, cond, eqb, List, [], ◌∷◌, ◌⊎◌, inl, inr, map, length, Option, None, Some, ⊎_elim}
use Rattle.std.proofs.Common.{refl, sym, ap, ◌∙◌, subst, take, drop, drop-cons, get_or, arith}
use Rattle.std.specs.Prelude.{replicate}
use Rattle.std.proofs.Math.ListN.{set}
use Rattle.std.specs.List.{IsDistinct}
use Rattle.std.specs.Option.{option_or}
use Rattle.std.proofs.Math.Seq.{take-suc}
use Rattle.std.proofs.lemmas.Bool.Decides.{eqb_tells}
use Rattle.std.proofs.lemmas.List.{get_or-replicate, get_or-set_other, get_or-set_same, map-append, take-append-drop}
use Rattle.std.proofs.lemmas.List.Folds.{find-append}
use Rattle.foundation.specs.Options.{◌>>?◌}
use Rattle.donor_book.specs.Claims.{claim_of}
use Rattle.donor_book.specs.Entries.{won_of, wins_of}
use Rattle.donor_book.specs.declared.claim.Entry.{Entry}
use Rattle.donor_book.specs.declared.claim.Won.{Won}
use Rattle.donor_book.proofs.LegalLaws.{wins_push}
use Rattle.donor_book.proofs.IndexLaws.{none_before}
use Rattle.record_ends.specs.Givings.{donor_in}
use Rattle.record_ends.specs.inner.Donors.{ListsDonors, donor_at}

-- What a record was given in a history, and in one with a claim more.

other-row : (a b : ℕ) → a ≢ b → eqb a b ≡ false
other-row a b apart = ⊎_elim (λ (t : (eqb a b ≡ true) × (a ≡ b)). absurd (apart t.1)) (λ (f : (eqb a b ≡ false) × (a ≢ b)). f.0) (eqb_tells a b)

same-row : (a : ℕ) → eqb a a ≡ true
same-row a = ⊎_elim (λ (t : (eqb a a ≡ true) × (a ≡ a)). t.0) (λ (f : (eqb a a ≡ false) × (a ≢ a)). absurd (f.1 refl)) (eqb_tells a a)

claim-push : (row_no : ℕ) (history : List Entry) (e : Entry)
    → claim_of row_no (wins_of (history ++ e ∷ [])) ≡ option_or (claim_of row_no (wins_of history)) (cond (eqb e.row_no row_no) (Some (won_of e)) None)
claim-push row_no history e = ap (claim_of row_no) (wins_push history e) ∙ find-append (λ (w : Won). eqb w.row_no row_no) (wins_of history) (won_of e ∷ [])

or-none : (o : Option Won) → option_or o None ≡ o
or-none None = refl
or-none (Some w) = refl

-- a claim of another record changes nothing
pub donor-other : (row_no : ℕ) (history : List Entry) (e : Entry) → e.row_no ≢ row_no → donor_in (history ++ e ∷ []) row_no ≡ donor_in history row_no
donor-other row_no history e apart =
    ap (λ (o : Option Won). (o >>? (λ w. w.reply)))
    (claim-push row_no history e ∙ ap (λ b. option_or (claim_of row_no (wins_of history)) (cond b (Some (won_of e)) None))
    (other-row e.row_no row_no apart) ∙ or-none (claim_of row_no (wins_of history)))

-- a first claim is the record's
pub donor-own : (history : List Entry) (e : Entry) → claim_of e.row_no (wins_of history) ≡ None → donor_in (history ++ e ∷ []) e.row_no ≡ e.reply
donor-own history e none =
    ap (λ (o : Option Won). (o >>? (λ w. w.reply)))
    (claim-push e.row_no history e ∙ ap (λ (o : Option Won). option_or o (cond (eqb e.row_no e.row_no) (Some (won_of e)) None)) none
    ∙ ap (λ b. cond b (Some (won_of e)) None) (same-row e.row_no))

-- ---- a list of the donors of all

pub donors-none : (rows : ℕ) → ListsDonors [] rows (replicate rows None)
donors-none rows i lt = get_or-replicate rows i None None lt

module _ (rows : ℕ) (history : List Entry) (once : IsDistinct eqb (map (λ (w : Won). w.row_no) (wins_of history))) (k : ℕ) (e : Entry)
    (lt : k < length history) (is : e ≡ get_or history k e) where
  at-k : history ≡ take k history ++ e ∷ drop (suc k) history
  at-k = sym (take-append-drop k history)
      ∙ ap (λ (rest : List Entry). take k history ++ rest) (drop-cons history k e lt ∙ ap (λ (x : Entry). x ∷ drop (suc k) history) (sym is))

  none : claim_of e.row_no (wins_of (take k history)) ≡ None
  none = none_before (wins_of (take k history)) (wins_of (drop (suc k) history)) (won_of e)
      (subst (λ (ws : List Won). IsDistinct eqb (map (λ (w : Won). w.row_no) ws))
      (ap wins_of at-k ∙ map-append won_of (take k history) (e ∷ drop (suc k) history)) once)

  one-more : take (k + 1) history ≡ take k history ++ e ∷ []
  one-more = let next : k + 1 ≡ suc k = omega arith in ap (λ n. take n history) next ∙ take-suc history k e lt
      ∙ ap (λ (x : Entry). take k history ++ x ∷ []) (sym is)

  -- with the donor of one claim more
  pub donors-more : (donors : List (Option ℕ)) → length donors ≡ rows → e.row_no < rows → ListsDonors (take k history) rows donors
      → ListsDonors (take (k + 1) history) rows (set donors e.row_no e.reply)
  donors-more donors as_many within lists i below = subst (λ (es : List Entry). donor_at (set donors e.row_no e.reply) i ≡ donor_in es i)
      (sym one-more) (by (eqb_tells e.row_no i))
    where
      by : ((eqb e.row_no i ≡ true) × (e.row_no ≡ i)) ⊎ ((eqb e.row_no i ≡ false) × (e.row_no ≢ i))
          → donor_at (set donors e.row_no e.reply) i ≡ donor_in (take k history ++ e ∷ []) i
      by (inl here) = subst (λ (j : ℕ). donor_at (set donors e.row_no e.reply) j ≡ donor_in (take k history ++ e ∷ []) j) here.1
          (get_or-set_same donors e.row_no e.reply None (omega (arith, within, as_many)) ∙ sym (donor-own (take k history) e none))
      by (inr other) = get_or-set_other donors e.row_no i e.reply None (λ same. absurd (other.1 (sym same))) ∙ lists i below
          ∙ sym (donor-other i (take k history) e other.1)
