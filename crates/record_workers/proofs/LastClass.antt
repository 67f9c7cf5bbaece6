use Rattle.std.proofs.Common.{◌≡◌, ◌≢◌, ◌⊎◌, ℕ, ◌++◌, ◌&&◌, Bool, true, false, eqb, List, [], ◌∷◌, Option, Some, None, map, inl, inr, refl, sym, ap, ◌∙◌}
use Rattle.std.proofs.Common.{subst}
use Rattle.std.specs.Prelude.{◌==◌, if◌then◌else◌}
use Rattle.std.specs.List.{IsDistinct, filter}
use Rattle.std.specs.List.Sorted.{IsNonDecreasing, IsNonDecreasingBy, IsPermutation}
use Rattle.std.specs.Option.{is_some}
use Rattle.std.proofs.lemmas.Bool.{ne_eqb}
use Rattle.std.proofs.lemmas.List.{append-nil, append_assoc, map-append}
use Rattle.std.proofs.lemmas.List.Kept.{IsNonDecreasingBy-filter}
use Rattle.std.proofs.lemmas.List.Sorted.{IsPermutation-refl}
use Rattle.std.proofs.lemmas.Map.Keys.{IsStrictlyIncreasing-from_distinct}
use Rattle.edit_line.specs.Reductions.{IsIn}
use Rattle.edit_line.proofs.Members.{in-either}
use Rattle.donor_book.specs.Claims.{claim_of, first_free}
use Rattle.donor_book.specs.Entries.{IsLegalHistory, entry_of, won_of, wins_of}
use Rattle.donor_book.specs.declared.claim.Entry.{Entry}
use Rattle.donor_book.specs.declared.claim.Won.{Won}
use Rattle.donor_book.proofs.LegalLaws.{legal_fresh, legal_push}
use Rattle.record_pieces.specs.Needs.{AnswersNeeds, AreInRowOrder, Need, need_in, needs_by, needs_of, rows_claimed}
use Rattle.record_pieces.specs.Rests.{rows_of}
use Rattle.record_pieces.specs.declared.piece.Piece.{Piece}
use Rattle.record_workers.specs.Workers.{pieces_in}
use Rattle.record_workers.specs.inner.Gatherings.{unanswered, unanswered_for}
use Rattle.record_workers.proofs.ApartLaws.{rows-sorted}
use Rattle.record_workers.proofs.OrderLaws.{AreApart}

-- The claims of the last class, which has no donors: nobody is given to them.

-- they are for what the records of its pieces need
pub unanswered-needs : (last : ℕ) (pieces : List Piece) → unanswered last pieces ≡ unanswered_for (needs_of (pieces_in last pieces))
unanswered-needs last [] = refl
unanswered-needs last (p ∷ pieces) = by (p.class == last) (unanswered-needs last pieces)
  where
    by : (b : Bool) → unanswered last pieces ≡ unanswered_for (needs_of (pieces_in last pieces))
        → (if b then unanswered_for (needs_by p.row_no p.ranking) else []) ++ unanswered last pieces
        ≡ unanswered_for (needs_of (if b then p ∷ pieces_in last pieces else pieces_in last pieces))
    by true rest = ap (λ (l : List Entry). unanswered_for (needs_by p.row_no p.ranking) ++ l) rest
        ∙ sym (map-append (λ (need : Need). entry_of need.row_no need.ranking None) (needs_by p.row_no p.ranking) (needs_of (pieces_in last pieces)))
    by false rest = rest

needs-unanswered : (needs : List Need) → map need_in (unanswered_for needs) ≡ needs
needs-unanswered [] = refl
needs-unanswered (need ∷ needs) = ap (λ (ns : List Need). need ∷ ns) (needs-unanswered needs)

-- ---- they are legal behind other claims

-- a row that none of the claims is of has not claimed
unclaimed : (row_no : ℕ) (entries : List Entry) → ((e : Entry) → IsIn e entries → e.row_no ≢ row_no) → claim_of row_no (wins_of entries) ≡ None
unclaimed row_no [] lacks = refl
unclaimed row_no (e ∷ entries) lacks =
    ap (λ (b : Bool). if b then Some (won_of e) else claim_of row_no (wins_of entries)) (ne_eqb e.row_no row_no (lacks e (inl refl)))
    ∙ unclaimed row_no entries (λ x there. lacks x (inr there))

-- the row of the need has no claim among these
abbrev pub IsNew : List Entry → Need → Type 0
IsNew entries need = (e : Entry) → IsIn e entries → e.row_no ≢ need.row_no

pub legal-unanswered : (limit : ℕ) (first : List Entry) (needs : List Need) → IsLegalHistory limit first → AreApart (λ (need : Need). need.row_no) needs
    → ((need : Need) → IsIn need needs → IsNew first need) → ((need : Need) → IsIn need needs → need.ranking ≡ [])
    → IsLegalHistory limit (first ++ unanswered_for needs)
legal-unanswered limit first [] legal apart new empty = subst (IsLegalHistory limit) (sym (append-nil first)) legal
legal-unanswered limit first (need ∷ needs) legal apart new empty =
    subst (IsLegalHistory limit) (append_assoc first (entry ∷ []) (unanswered_for needs))
    (legal-unanswered limit (first ++ entry ∷ []) needs here apart.1 later (λ n there. empty n (inr there)))
  where
    entry : Entry
    entry = entry_of need.row_no need.ranking None

    here : IsLegalHistory limit (first ++ entry ∷ [])
    here = legal_push limit first entry legal (unclaimed need.row_no first (new need (inl refl)))
        (sym (ap (first_free limit (wins_of first)) (empty need (inl refl))))

    later : (n : Need) → IsIn n needs → IsNew (first ++ entry ∷ []) n
    later n there e in_more same = by (in-either e first (entry ∷ []) in_more)
      where
        by : IsIn e first ⊎ IsIn e (entry ∷ []) → ⊥
        by (inl before) = new n (inr there) e before same
        by (inr (inl is)) = apart.0 n there (sym same ∙ ap (λ (x : Entry). x.row_no) is)
        by (inr (inr none)) = none

-- ---- as a history of their own

-- the rows of claims, by what they were given
rows-won : (entries : List Entry) → map (λ (w : Won). w.row_no) (wins_of entries) ≡ rows_claimed entries
rows-won [] = refl
rows-won (e ∷ entries) = ap (λ (ns : List ℕ). e.row_no ∷ ns) (rows-won entries)

module _ (limit last : ℕ) (pieces : List Piece) (apart : AreApart (λ (need : Need). need.row_no) (needs_of (pieces_in last pieces)))
    (empty : (need : Need) → IsIn need (needs_of (pieces_in last pieces)) → need.ranking ≡ []) where
  pub last-answered : AnswersNeeds limit (pieces_in last pieces) (unanswered last pieces)
  last-answered = subst (AnswersNeeds limit (pieces_in last pieces)) (sym (unanswered-needs last pieces)) (record {
    legal = legal-unanswered limit [] (needs_of (pieces_in last pieces)) (legal_fresh limit) apart (λ need there e none. absurd none) empty;
    needs = subst (IsPermutation (needs_of (pieces_in last pieces))) (sym (needs-unanswered (needs_of (pieces_in last pieces))))
        (IsPermutation-refl (needs_of (pieces_in last pieces)));
  })

  -- a piece of the last class that needs a donor
  abbrev asks : Piece → Bool
  asks p = (p.class == last) && is_some p.ranking

  rows-unanswered : (ps : List Piece) → rows_claimed (unanswered last ps) ≡ rows_of (filter asks ps)
  rows-unanswered [] = refl
  rows-unanswered (p ∷ ps) = by (p.class == last) p.ranking (rows-unanswered ps)
    where
      by : (b : Bool) (o : Option (List ℕ)) → rows_claimed (unanswered last ps) ≡ rows_of (filter asks ps)
          → rows_claimed ((if b then unanswered_for (needs_by p.row_no o) else []) ++ unanswered last ps)
          ≡ rows_of (if b && is_some o then p ∷ filter asks ps else filter asks ps)
      by true (Some ranking) rest = ap (λ (ns : List ℕ). p.row_no ∷ ns) rest
      by true None rest = rest
      by false o rest = rest

  -- they are in row order, as the pieces are
  pub last-in-order : IsNonDecreasingBy (λ (p : Piece). p.row_no) pieces → AreInRowOrder (unanswered last pieces)
  last-in-order sorted = IsStrictlyIncreasing-from_distinct (rows_claimed (unanswered last pieces))
      (subst IsNonDecreasing (sym (rows-unanswered pieces))
      (rows-sorted (filter asks pieces) (IsNonDecreasingBy-filter (λ (p : Piece). p.row_no) asks pieces sorted)))
      (subst (IsDistinct eqb) (rows-won (unanswered last pieces)) last-answered.legal.once)
