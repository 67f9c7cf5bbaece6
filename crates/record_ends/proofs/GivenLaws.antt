use Rattle.std.proofs.Common.{◌≡◌, ℕ, ◌<◌, Bool, true, false, cond, eqb, List, [], ◌∷◌, All, Option, IfSome, get_or, length, map, nat_lt, take, Some, inl, inr}
use Rattle.std.proofs.Common.{refl, sym, ap, ◌∙◌, subst, arith}
use Rattle.std.specs.List.{AllZip, find}
use Rattle.std.proofs.lemmas.List.Elements.{All-head, All-tail}
use Rattle.std.proofs.lemmas.List.{length-map}
use Rattle.std.proofs.lemmas.List.FromFn.{length-range_with_len}
use Rattle.std.proofs.lemmas.Option.{slice_get-get_or}
use Rattle.edit_line.specs.Reductions.{IsIn}
use Rattle.edit_line.proofs.Members.{all-in, in-all, in-get, in-map}
use Rattle.foundation.specs.Options.{◌>>?◌}
use Rattle.donor_book.specs.Claims.{claim_of, uses_of}
use Rattle.donor_book.specs.Entries.{won_of, wins_of}
use Rattle.donor_book.specs.declared.claim.Entry.{Entry}
use Rattle.donor_search.specs.CleanRows.{IsCleanRow}
use Rattle.edit_report.specs.declared.end.RowEnd.{RowEnd}
use Rattle.record_pieces.specs.Needs.{AnswersNeeds, need_in, needs_of}
use Rattle.record_pieces.specs.Rests.{ArePiecesIn, IsPieceIn, rows_in}
use Rattle.record_pieces.specs.declared.piece.Piece.{Piece}
use Rattle.record_pieces.specs.declared.rest.Rest.{Rest}
use Rattle.record_pieces.proofs.NeedLaws.{in-other-order, need-from, place-in}
use Rattle.record_pieces.proofs.RankingLaws.{piece-clean}
use Rattle.record_ends.specs.Givings.{EndsBy, EndsIn, donor_in}
use Rattle.record_ends.specs.inner.Donors.{HasCleanDonor, ListsDonors, donor_at}

-- The donors that the records are given in a history.

-- what is found has what each of the list has
found-has : (P : ℕ → Type 0) (p : ℕ → Bool) (xs : List ℕ) → All P xs → IfSome (find p xs) P
found-has P p [] all = tt
found-has P p (x ∷ xs) all = by (p x) (All-head P x xs all) (found-has P p xs (All-tail P x xs all))
  where
    by : (b : Bool) → P x → IfSome (find p xs) P → IfSome (cond b (Some x) (find p xs)) P
    by true here rest = here
    by false here rest = rest

-- what holds of each reply holds of what a record was given
given-has : (P : ℕ → Type 0) (row_no : ℕ) (history : List Entry) → ((e : Entry) → IsIn e history → IfSome e.reply P) → IfSome (donor_in history row_no) P
given-has P row_no [] each = tt
given-has P row_no (e ∷ history) each = by (eqb e.row_no row_no) (each e (inl refl)) (given-has P row_no history (λ x there. each x (inr there)))
  where
    by : (b : Bool) → IfSome e.reply P → IfSome (donor_in history row_no) P
        → IfSome (cond b (Some (won_of e)) (claim_of row_no (wins_of history)) >>? (λ w. w.reply)) P
    by true here rest = here
    by false here rest = rest

-- an element at a place is one of the list
pub at-place : {X : Type 0} (xs : List X) (k : ℕ) (d x : X) → k < length xs → x ≡ get_or xs k d → IsIn x xs
at-place xs k d x lt is = subst (λ y. IsIn y xs) (sym is) (in-get (get_or xs k d) xs k (slice_get-get_or xs k d lt))

module _ {F : Type 0} (rest : Rest F) (pieces : List Piece) (are : ArePiecesIn rest pieces) where
  -- there are as many pieces as records
  pub as-many : length pieces ≡ length (rows_in rest)
  as-many = sym (length-map pieces (λ (p : Piece). p.row_no)) ∙ ap length are.rows ∙ length-range_with_len 0 (length (rows_in rest))

  -- so each row has a piece
  pub piece-within : (p : Piece) → IsIn p pieces → p.row_no < length pieces
  piece-within p there = let is = in-all (IsPieceIn rest) p pieces are.each there in let below = is.there in omega (arith, below, as-many)

  module _ (limit : ℕ) (history : List Entry) (answers : AnswersNeeds limit pieces history) where
    claim-of-piece : (e : Entry) → IsIn e history → (p : Piece) × IsIn p pieces × (p.row_no ≡ e.row_no) × (p.ranking ≡ Some e.ranking)
    claim-of-piece e there = need-from (need_in e) pieces
        (in-other-order (needs_of pieces) (map need_in history) (need_in e) answers.needs (in-map need_in e history there))

    -- each claim is of a row that there is
    pub claims-within : All (λ (e : Entry). e.row_no < length pieces) history
    claims-within = all-in (λ (e : Entry). e.row_no < length pieces) history
        (λ e there. (let (p, in_pieces, row, ranking) = claim-of-piece e there in let below = piece-within p in_pieces in omega (arith, below, row)))

    -- and who is given is a clean record
    pub given-clean : (row_no : ℕ) → IfSome (donor_in history row_no) (IsCleanRow rest.survey (rows_in rest))
    given-clean row_no = given-has (IsCleanRow rest.survey (rows_in rest)) row_no history (λ e there. (
        let (p, in_pieces, row, ranking) = claim-of-piece e there in
        let (place, at) = place-in e history there in
        let clean = piece-clean rest p (in-all (IsPieceIn rest) p pieces are.each in_pieces) e.ranking ranking in
        subst (λ (o : Option ℕ). IfSome o (IsCleanRow rest.survey (rows_in rest))) (sym (answers.legal.replies place e at))
        (found-has (IsCleanRow rest.survey (rows_in rest)) (λ donor. nat_lt (uses_of donor (take place (wins_of history))) limit) e.ranking clean)))

    -- so values can be given to the record of each piece, with a list of the donors
    pub piece-ready : (donors : List (Option ℕ)) → length donors ≡ length pieces → ListsDonors history (length pieces) donors → (p : Piece) → IsIn p pieces
        → IsPieceIn rest p × (p.row_no < length donors) × HasCleanDonor rest donors p.row_no
    piece-ready donors all lists p there =
        let below = piece-within p there in (
          in-all (IsPieceIn rest) p pieces are.each there,
          omega (arith, below, all),
          subst (λ (o : Option ℕ). IfSome o (IsCleanRow rest.survey (rows_in rest))) (sym (lists p.row_no below)) (given-clean p.row_no),
        )

  -- what becomes of the records by a list of their donors is what becomes of them by the history
  pub ends-by : (history : List Entry) (donors : List (Option ℕ)) → ListsDonors history (length pieces) donors → (ends : List RowEnd)
      → AllZip (λ (p : Piece) (end : RowEnd). EndsIn rest p (donor_at donors p.row_no) end) pieces ends → AllZip (EndsBy rest history) pieces ends
  ends-by history donors lists ends each = by pieces ends (λ p there. lists p.row_no (piece-within p there)) each
    where
      by : (ps : List Piece) (es : List RowEnd) → ((p : Piece) → IsIn p ps → donor_at donors p.row_no ≡ donor_in history p.row_no)
          → AllZip (λ (p : Piece) (end : RowEnd). EndsIn rest p (donor_at donors p.row_no) end) ps es → AllZip (EndsBy rest history) ps es
      by [] [] same each = tt
      by [] (e ∷ es) same each = absurd each
      by (p ∷ ps) [] same each = absurd each
      by (p ∷ ps) (e ∷ es) same each = (subst (λ (o : Option ℕ). EndsIn rest p o e) (same p (inl refl)) each.0, by ps es (λ q there. same q (inr there)) each.1)
