use Rattle.std.proofs.Common.{◌≡◌, ◌≢◌, ◌⊎◌, ℕ, ◌++◌, true, false, eqb, List, [], ◌∷◌, Option, Some, None, IsSome, length, map, inl, inr, refl, sym, ap}
use Rattle.std.proofs.Common.{◌∙◌, subst}
use Rattle.std.proofs.lemmas.Bool.Decides.{eqb_tells}
use Rattle.std.proofs.lemmas.List.{append_assoc, map-append}
use Rattle.donor_book.specs.Claims.{answer_to, claim_of, first_free, given, had_or}
use Rattle.donor_book.specs.Entries.{entry_of, won_of}
use Rattle.donor_book.specs.Passes.{ArePlaced, Enters, IsAnswered, Leaves, PassState, StartsWith, having_seen, placed}
use Rattle.donor_book.specs.declared.claim.Claim.{Claim}
use Rattle.donor_book.specs.declared.claim.Claim.TheVariants as claim
use Rattle.donor_book.specs.declared.claim.Won.{Won}
use Rattle.donor_book.specs.declared.rule.Placed.{Placed}
use Rattle.class_books.specs.ClassPasses.{ClassPassState, pass_in, state_in}
use Rattle.record_pieces.specs.Needs.{need_in}
use Rattle.record_pieces.specs.declared.piece.Piece.{Piece}
use Rattle.record_workers.specs.Workers.{ArePlacedIn}
use Rattle.record_workers.specs.inner.Draws.{HasAsked, HasAskedIn, HasClaimed}

-- What a claim leaves in a pass.

-- ---- in one book

module _ (old new : PassState) (row : ℕ) (ranking : List ℕ) (history : List Won) (began : StartsWith history old.seen) where
  -- the row's entry is one more of its own claims
  entered : (reply : Option ℕ) → Enters (having_seen old history) (entry_of row ranking reply) new → HasClaimed row ranking old new
  entered reply (seen, mine) = (
    (began.0 ++ won ∷ [], seen ∙ ap (λ (ws : List Won). ws ++ won ∷ []) began.1 ∙ append_assoc old.seen began.0 (won ∷ [])),
    inl (ap (map (λ (m : Placed). need_in m.entry)) mine ∙ map-append (λ (m : Placed). need_in m.entry) old.mine (claimed ∷ [])),
  )
    where
      won : Won
      won = won_of (entry_of row ranking reply)

      claimed : Placed
      claimed = placed (length history) (entry_of row ranking reply)

  -- a row that had a reply is one that has claimed
  had-claimed : (o : Option Won) (free reply : Option ℕ) → claim.Had reply ≡ had_or o (given free) → IsSome o
  had-claimed (Some w) free reply is = refl
  had-claimed None None reply is = absurd (cc)
  had-claimed None (Some donor) reply is = absurd (cc)

  left : (limit : ℕ) (answer : Claim) → answer ≡ answer_to limit history row ranking → Leaves (having_seen old history) row ranking answer new
      → HasClaimed row ranking old new
  left limit (claim.Given donor) is leaves = entered (Some donor) leaves
  left limit claim.Nobody is leaves = entered None leaves
  left limit (claim.Had reply) is (seen, mine) = (
    (began.0, seen ∙ began.1),
    inr (
      ap (map (λ (m : Placed). need_in m.entry)) mine,
      subst (λ (ws : List Won). IsSome (claim_of row ws)) (sym seen) (had-claimed (claim_of row history) (first_free limit history ranking) reply is),
    ),
  )

-- the pass has a claim more, or the row had claimed before
answered-claimed : (old new : PassState) (row : ℕ) (ranking : List ℕ) (answer : Claim) → IsAnswered old row ranking answer new → HasClaimed row ranking old new
answered-claimed old new row ranking answer (history, began, is, leaves) = left old new row ranking history began old.book.terms.limit answer is leaves

-- ---- in the book of a class

module _ (last class : ℕ) (old new : ClassPassState) (others : (c : ℕ) → c ≢ class → pass_in c new ≡ pass_in c old) where
  -- where the claims of this class are at their places, those of all are
  pub placed-after : ArePlaced (state_in class new).seen (state_in class new).mine → ArePlacedIn last old → ArePlacedIn last new
  placed-after own before c lt = by (eqb_tells c class)
    where
      by : ((eqb c class ≡ true) × (c ≡ class)) ⊎ ((eqb c class ≡ false) × (c ≢ class)) → ArePlaced (state_in c new).seen (state_in c new).mine
      by (inl same) = subst (λ (n : ℕ). ArePlaced (state_in n new).seen (state_in n new).mine) (sym same.1) own
      by (inr apart) = subst (λ (p : PassState). ArePlaced p.seen p.mine) (sym (others c apart.1)) (before c lt)

  -- a piece of this class with a ranking has asked in its book alone
  pub asked-after : (piece : Piece) (ranking : List ℕ) (answer : Claim) → class ≡ piece.class → piece.ranking ≡ Some ranking
      → IsAnswered (pass_in class old) piece.row_no ranking answer (pass_in class new) → HasAskedIn last piece old new
  asked-after piece ranking answer own ranks answered = record {
    own = λ lt. subst (λ (o : Option (List ℕ)). HasAsked piece.row_no o (pass_in piece.class old) (pass_in piece.class new)) (sym ranks)
        (subst (λ (n : ℕ). HasClaimed piece.row_no ranking (pass_in n old) (pass_in n new)) own
        (answered-claimed (pass_in class old) (pass_in class new) piece.row_no ranking answer answered));
    others = λ c lt apart. others c (λ same. apart (same ∙ own));
  }
