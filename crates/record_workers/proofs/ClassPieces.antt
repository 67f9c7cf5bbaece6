use Rattle.std.proofs.Common.{◌≡◌, ◌≢◌, ℕ, ◌++◌, Bool, true, false, cond, eqb, List, [], ◌∷◌, ap, ◌∙◌}
use Rattle.std.proofs.lemmas.Bool.{eq-eqb, eqb-true, ne_eqb}
use Rattle.std.proofs.lemmas.List.{append-nil}
use Rattle.std.proofs.lemmas.List.Elements.{filter-append}
use Rattle.edit_line.specs.Reductions.{IsIn}
use Rattle.edit_line.proofs.Members.{in-filter, in-filter-out}
use Rattle.record_pieces.specs.declared.piece.Piece.{Piece}
use Rattle.record_workers.specs.Workers.{pieces_in}
use Rattle.record_workers.proofs.OrderLaws.{AreApart, Lacks}

-- The pieces of one class.

module _ (class : ℕ) where
  abbrev of : Piece → Bool
  of p = eqb p.class class

  -- they are among all pieces
  pub of-class : (p : Piece) (pieces : List Piece) → IsIn p (pieces_in class pieces) → IsIn p pieces × (p.class ≡ class)
  of-class p pieces there = let (in_pieces, is) = in-filter-out of p pieces there in (in_pieces, eqb-true p.class class is)

  -- and are those of the class
  pub in-class : (p : Piece) (pieces : List Piece) → IsIn p pieces → p.class ≡ class → IsIn p (pieces_in class pieces)
  in-class p pieces there is = in-filter of p pieces (eq-eqb p.class class is) there

  -- a piece of the class behind the others is one more
  pub one-more : (piece : Piece) (pieces : List Piece) → piece.class ≡ class → pieces_in class (pieces ++ piece ∷ []) ≡ pieces_in class pieces ++ piece ∷ []
  one-more piece pieces is = filter-append of pieces (piece ∷ [])
      ∙ ap (λ (b : Bool). pieces_in class pieces ++ cond b (piece ∷ []) []) (eq-eqb piece.class class is)

  -- and a piece of another class is none
  pub none-more : (piece : Piece) (pieces : List Piece) → piece.class ≢ class → pieces_in class (pieces ++ piece ∷ []) ≡ pieces_in class pieces
  none-more piece pieces apart = filter-append of pieces (piece ∷ [])
      ∙ ap (λ (b : Bool). pieces_in class pieces ++ cond b (piece ∷ []) []) (ne_eqb piece.class class apart)
      ∙ append-nil (pieces_in class pieces)

  -- where all rows are apart, those of the class are
  pub class-apart : (pieces : List Piece) → AreApart (λ (p : Piece). p.row_no) pieces → AreApart (λ (p : Piece). p.row_no) (pieces_in class pieces)
  class-apart [] apart = tt
  class-apart (p ∷ pieces) apart = by (of p) (class-apart pieces apart.1)
    where
      lacks : Lacks (λ (q : Piece). q.row_no) p.row_no (pieces_in class pieces)
      lacks q there same = apart.0 q (of-class q pieces there).0 same

      by : (b : Bool) → AreApart (λ (q : Piece). q.row_no) (pieces_in class pieces)
          → AreApart (λ (q : Piece). q.row_no) (cond b (p ∷ pieces_in class pieces) (pieces_in class pieces))
      by true rest = (lacks, rest)
      by false rest = rest
