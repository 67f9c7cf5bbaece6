use Rattle.std.proofs.Common.{◌≡◌, ◌≢◌, ◌⊎◌, ℕ, ◌+◌, ◌<◌, ◌++◌, true, false, cond, eqb, nat_eq, List, [], ◌∷◌, All, Option, Some, IsSome, length, map, inl, inr}
use Rattle.std.proofs.Common.{⊎_elim, refl, sym, ap, ◌∙◌, subst, arith}
use Rattle.std.specs.Prelude.{slice_get}
use Rattle.std.specs.List.{IsDistinct, AllByRecursion, range_with_len}
use Rattle.std.specs.List.Sorted.{IsNonDecreasing, IsPermutation}
use Rattle.std.proofs.lemmas.Bool.Decides.{eqb_tells}
use Rattle.std.proofs.lemmas.List.{length-map, map-append}
use Rattle.std.proofs.lemmas.List.Elements.{All-head, All-tail}
use Rattle.std.proofs.lemmas.List.Sorted.{IsPermutation-map, IsPermutation-sym, sum_by-IsPermutation}
use Rattle.std.proofs.lemmas.List.Sums.{sum_by-append, sum_by-cons}
use Rattle.std.proofs.lemmas.Option.{same_Some, slice_get_within}
use Rattle.edit_line.specs.Reductions.{IsIn}
use Rattle.edit_line.proofs.Members.{in-all, in-flat_map, in-flat_map-out, in-get, in-left, in-map, in-map-out}
use Rattle.ticket_row.specs.Tickets.{DrawnBelow, times, times_drawn}
use Rattle.donor_book.specs.Claims.{claim_of}
use Rattle.donor_book.specs.Entries.{entry_of, won_of, wins_of}
use Rattle.donor_book.specs.Passes.{AreCollected, IsWhole, PassState, StartsWith, claims_at}
use Rattle.donor_book.specs.declared.claim.Entry.{Entry}
use Rattle.donor_book.specs.declared.claim.Won.{Won}
use Rattle.donor_book.specs.declared.rule.Placed.{Placed}
use Rattle.class_books.specs.ClassPasses.{pass_in, passes_in}
use Rattle.record_pieces.specs.Needs.{Need, need_in, needs_of}
use Rattle.record_pieces.specs.Rests.{rows_of}
use Rattle.record_pieces.specs.declared.piece.Piece.{Piece}
use Rattle.record_pieces.proofs.NeedLaws.{in-other-order, need-from, need-in, piece-at, place-in}
use Rattle.record_workers.specs.Workers.{AreClaimed, HasSeen, needs_in, pieces_in}
use Rattle.record_workers.specs.declared.worker.Worker.{Worker}
use Rattle.record_workers.specs.inner.Gatherings.{entry_by, passes_of, pieces_of, ranking_at, ranking_or, seats_of}
use Rattle.record_workers.proofs.ApartLaws.{needs-apart, rows-apart, some-counts}
use Rattle.record_workers.proofs.ClassPieces.{class-apart, in-class, of-class}
use Rattle.record_workers.proofs.OrderLaws.{AreApart, Lacks, same-by-key, same-elements}
use Rattle.record_workers.proofs.RangeLaws.{one-other, sorted-range}

-- What workers found and claimed, all together: a piece for each row, and one history of each class.

-- ---- the pieces

-- the workers found pieces of the rows that their seats drew
abbrev pub FoundDrawn : Worker → Type 0
FoundDrawn w = rows_of w.pieces.items ≡ w.seat.drawn

all-times : (x : ℕ) (workers : List Worker) → All FoundDrawn workers → times x (rows_of (pieces_of workers)) ≡ times_drawn x (seats_of workers)
all-times x [] found = refl
all-times x (w ∷ workers) found =
    let row = λ (p : Piece). p.row_no in
    let one : times x (rows_of w.pieces.items) ≡ times x w.seat.drawn = ap (times x) (All-head FoundDrawn w workers found) in
    let rest = all-times x workers (All-tail FoundDrawn w workers found) in
    let whole : times x (rows_of (pieces_of (w ∷ workers))) ≡ times x (rows_of w.pieces.items ++ rows_of (pieces_of workers)) = ap (times x)
    (map-append row w.pieces.items (pieces_of workers)) in
    whole
    ∙ sum_by-append (λ y. cond (eqb y x) 1 0) (rows_of w.pieces.items) (rows_of (pieces_of workers))
    ∙ ap (λ n. n + times x (rows_of (pieces_of workers))) one
    ∙ ap (λ n. times x w.seat.drawn + n) rest
    ∙ sym (sum_by-cons (λ seat. times x seat.drawn) w.seat (seats_of workers))

module _ (workers : List Worker) (count : ℕ) (drawn : DrawnBelow count (seats_of workers)) (found : All FoundDrawn workers) (pieces : List Piece)
    (same : IsPermutation (pieces_of workers) pieces)
    (sorted : IsNonDecreasing (rows_of pieces)) where
  each-once : (x : ℕ) → times x (rows_of pieces) ≡ times_drawn x (seats_of workers)
  each-once x =
      sum_by-IsPermutation (λ y. cond (eqb y x) 1 0) (rows_of (pieces_of workers)) (rows_of pieces)
      (IsPermutation-map (λ (p : Piece). p.row_no) (pieces_of workers) pieces same)
      ∙ all-times x workers found

  -- there is one piece for each row, in row order
  pub all-rows : rows_of pieces ≡ range_with_len 0 count
  all-rows = sorted-range count (rows_of pieces) sorted (record {
    below = λ x lt. absurd (omega (arith, lt));
    once = λ x low lt. each-once x ∙ drawn.once x (omega (arith, lt));
    past = λ x low. each-once x ∙ drawn.no_other x (omega (arith, low));
  })

-- ---- the claims of one class

-- the claim at a place of the history is one of a pass
is-at : (k : ℕ) (m : Placed) → 0 < cond (eqb m.place k) 1 0 → m.place ≡ k
is-at k m some =
    ⊎_elim (λ (t : (eqb m.place k ≡ true) × (m.place ≡ k)). t.1)
    (λ (f : (eqb m.place k ≡ false) × (m.place ≢ k)). absurd (omega (arith, some, one-other k m.place f.1)))
    (eqb_tells m.place k)

-- a claim that is found is in the history
pub found-in : (row : ℕ) (history : List Won) → IsSome (claim_of row history) → (w : Won) × IsIn w history × (w.row_no ≡ row)
found-in row [] some = absurd (cc)
found-in row (w ∷ history) some = by (eqb_tells w.row_no row) (λ more. found-in row history more)
  where
    by : ((eqb w.row_no row ≡ true) × (w.row_no ≡ row)) ⊎ ((eqb w.row_no row ≡ false) × (w.row_no ≢ row))
        → (IsSome (claim_of row history) → (v : Won) × IsIn v history × (v.row_no ≡ row))
        → (v : Won) × IsIn v (w ∷ history) × (v.row_no ≡ row)
    by (inl here) later = (w, inl refl, here.1)
    by (inr other) later = let rest = later (subst IsSome (ap (λ b. cond b (Some w) (claim_of row history)) other.0) some) in (rest.0, inr rest.1, rest.2)

-- rows that stand once are apart
pub distinct-apart : (entries : List Entry) → IsDistinct nat_eq (map (λ (w : Won). w.row_no) (wins_of entries))
    → AreApart (λ (need : Need). need.row_no) (map need_in entries)
unfolding IsDistinct
distinct-apart [] once = tt
distinct-apart (e ∷ entries) once = (lacks entries once.0, distinct-apart entries once.1)
  where
    lacks : (rest : List Entry) → AllByRecursion (λ n. nat_eq e.row_no n ≡ false) (map (λ (w : Won). w.row_no) (wins_of rest))
        → Lacks (λ (need : Need). need.row_no) e.row_no (map need_in rest)
    lacks [] all need there same = there
    lacks (x ∷ rest) all need (inl is) same = ⊎_elim (λ (t : (eqb e.row_no x.row_no ≡ true) × (e.row_no ≡ x.row_no)). cc (sym t.0 ∙ all.0))
        (λ (f : (eqb e.row_no x.row_no ≡ false) × (e.row_no ≢ x.row_no)). f.1 (sym same ∙ ap (λ (n : Need). n.row_no) is)) (eqb_tells e.row_no x.row_no)
    lacks (x ∷ rest) all need (inr there) same = lacks rest all.1 need there same

module _ (class : ℕ) (workers : List Worker) (count : ℕ)
    (claimed : All (λ (w : Worker). AreClaimed (pieces_in class w.pieces.items) (pass_in class w.pass)) workers)
    (pieces : List Piece) (same : IsPermutation (pieces_of workers) pieces) (rows : rows_of pieces ≡ range_with_len 0 count)
    (limit : ℕ) (history : List Won) (whole : IsWhole limit (passes_in class (passes_of workers)) history)
    (entries : List Entry) (collected : AreCollected limit (passes_in class (passes_of workers)) history entries) where
  abbrev mine : Worker → List Piece
  mine w = pieces_in class w.pieces.items

  abbrev pass : Worker → PassState
  pass w = pass_in class w.pass

  apart : AreApart (λ (need : Need). need.row_no) (needs_of (pieces_in class pieces))
  apart = needs-apart (pieces_in class pieces) (class-apart class pieces (rows-apart 0 count pieces rows))

  -- what a worker's pieces need is among all needs
  need-of-all : (w : Worker) (need : Need) → IsIn w workers → IsIn need (needs_of (mine w)) → IsIn need (needs_of (pieces_in class pieces))
  need-of-all w need there needed =
      let (p, in_mine, row, ranking) = need-from need (mine w) needed in
      let (in_pieces, is) = of-class class p w.pieces.items in_mine in
      let in_all = in-flat_map (λ (v : Worker). v.pieces.items) w p workers there in_pieces in
      let found = in-other-order pieces (pieces_of workers) p (IsPermutation-sym (pieces_of workers) pieces same) in_all in
      need-in need p (pieces_in class pieces) (in-class class p pieces found is) row ranking

  -- the pass of a worker is one of all
  pass-among : (w : Worker) → IsIn w workers → IsIn (pass w) (passes_in class (passes_of workers))
  pass-among w there = in-map (pass_in class) w.pass (passes_of workers) (in-map (λ (w : Worker). w.pass) w workers there)

  -- each claim is of a worker's pass, at its place
  claim-at : (place : ℕ) → place < length history → (w : Worker) × IsIn w workers × (m : Placed) × IsIn m (pass w).mine × (m.place ≡ place)
  claim-at place lt =
      let (p, in_passes, some) = some-counts (λ (p : PassState). claims_at place p.mine) (passes_in class (passes_of workers))
      (omega (arith, whole.once place lt)) in
      let (c, in_all, of) = in-map-out (pass_in class) p (passes_of workers) in_passes in
      let (w, in_workers, is) = in-map-out (λ (w : Worker). w.pass) c workers in_all in
      let (m, in_mine, here) = some-counts (λ (m : Placed). cond (eqb m.place place) 1 0) p.mine some in
      (w, in_workers, m, subst (λ (p : PassState). IsIn m p.mine) (of ∙ ap (pass_in class) is) in_mine, is-at place m here)

  placed-of : (w : Worker) (m : Placed) → IsIn w workers → IsIn m (pass w).mine → slice_get entries m.place ≡ Some m.entry
  placed-of w m in_workers in_mine =
      in-all (λ (m : Placed). slice_get entries m.place ≡ Some m.entry) m (pass w).mine
      (in-all (λ (p : PassState). All (λ (m : Placed). slice_get entries m.place ≡ Some m.entry) p.mine) (pass w) (passes_in class (passes_of workers))
      collected.placed (pass-among w in_workers)) in_mine

  claims-of : (w : Worker) → IsIn w workers → AreClaimed (mine w) (pass w)
  claims-of w there = in-all (λ (w : Worker). AreClaimed (mine w) (pass w)) w workers claimed there

  -- each claim is for a need
  claim-needed : (e : Entry) → IsIn e entries → IsIn (need_in e) (needs_of (pieces_in class pieces))
  claim-needed e there =
      let (place, at) = place-in e entries there in
      let as_many : length entries ≡ length history = sym (length-map entries won_of) ∙ ap length collected.wins in
      let lt = slice_get_within entries place e at in
      let (w, in_workers, m, in_mine, is) = claim-at place (omega (arith, lt, as_many)) in
      let own : m.entry ≡ e = same_Some m.entry e (sym (placed-of w m in_workers in_mine) ∙ ap (slice_get entries) is ∙ at) in
      need-of-all w (need_in e) in_workers
      (in-all (λ (need : Need). IsIn need (needs_of (mine w))) (need_in e) (needs_in (pass w)) (claims-of w in_workers).needed
      (subst (λ (x : Entry). IsIn (need_in x) (needs_in (pass w))) own (in-map (λ (m : Placed). need_in m.entry) m (pass w).mine in_mine)))

  -- a row in the history has the claim for its need
  row-claimed : (need : Need) → IsIn need (needs_of (pieces_in class pieces)) → (x : Won) → IsIn x history → x.row_no ≡ need.row_no
      → IsIn need (map need_in entries)
  row-claimed need needed x there row =
      let (e, in_entries, is) = in-map-out won_of x entries (subst (IsIn x) (sym collected.wins) there) in
      let own : need_in e ≡ need = same-by-key (λ (n : Need). n.row_no) (needs_of (pieces_in class pieces)) (need_in e) need apart
      (claim-needed e in_entries) needed (sym (ap (λ (w : Won). w.row_no) is) ∙ row) in
      subst (λ (n : Need). IsIn n (map need_in entries)) own (in-map need_in e entries in_entries)

  -- each need has a claim
  need-claimed : (need : Need) → IsIn need (needs_of (pieces_in class pieces)) → IsIn need (map need_in entries)
  need-claimed need needed =
      let (p, in_class, row, ranking) = need-from need (pieces_in class pieces) needed in
      let (in_pieces, is) = of-class class p pieces in_class in
      let (w, in_workers, in_found) = in-flat_map-out (λ (v : Worker). v.pieces.items) p workers (in-other-order (pieces_of workers) pieces p same in_pieces) in
      by w in_workers (in-all (λ (n : Need). IsIn n (needs_in (pass w)) ⊎ HasSeen (pass w) n.row_no) need (needs_of (mine w))
      (claims-of w in_workers).claimed (need-in need p (mine w) (in-class class p w.pieces.items in_found is) row ranking))
    where
      by : (w : Worker) → IsIn w workers → IsIn need (needs_in (pass w)) ⊎ HasSeen (pass w) need.row_no → IsIn need (map need_in entries)
      by w in_workers (inl own) =
          let (m, in_mine, is) = in-map-out (λ (m : Placed). need_in m.entry) need (pass w).mine own in
          subst (λ (n : Need). IsIn n (map need_in entries)) (sym is)
          (in-map need_in m.entry entries (in-get m.entry entries m.place (placed-of w m in_workers in_mine)))
      by w in_workers (inr seen) =
          let (x, in_seen, row) = found-in need.row_no (pass w).seen seen in
          let (rest, is) = in-all (λ (p : PassState). StartsWith history p.seen) (pass w) (passes_in class (passes_of workers)) whole.seen
          (pass-among w in_workers) in
          row-claimed need needed x (subst (IsIn x) (sym is) (in-left x (pass w).seen rest in_seen)) row

  -- the claims are for the needs, each once
  pub needs-claimed : IsPermutation (needs_of (pieces_in class pieces)) (map need_in entries)
  needs-claimed = same-elements (λ (need : Need). need.row_no) (needs_of (pieces_in class pieces)) (map need_in entries) apart
      (distinct-apart entries collected.legal.once) need-claimed
      (λ need there. (let (e, in_entries, is) = in-map-out need_in need entries there in
      subst (λ (n : Need). IsIn n (needs_of (pieces_in class pieces))) (sym is) (claim-needed e in_entries)))

  -- and have the rankings of the pieces
  ranked : (e : Entry) → IsIn e entries → entry_by pieces (won_of e) ≡ e
  ranked e there =
      let (p, in_class, row, ranking) = need-from (need_in e) (pieces_in class pieces) (claim-needed e there) in
      let at = piece-at 0 count pieces rows p (of-class class p pieces in_class).0 e.row_no (omega (arith, row)) in
      ap (λ (o : Option Piece). entry_of e.row_no (ranking_at o) e.reply) at ∙ ap (λ (o : Option (List ℕ)). entry_of e.row_no (ranking_or o) e.reply) ranking

  all-ranked : (es : List Entry) → ((e : Entry) → IsIn e es → entry_by pieces (won_of e) ≡ e) → map (entry_by pieces) (wins_of es) ≡ es
  all-ranked [] each = refl
  all-ranked (e ∷ es) each = let first = each e (inl refl) in let rest = all-ranked es (λ x there. each x (inr there)) in λ i. first i ∷ rest i

  pub history-ranked : map (entry_by pieces) history ≡ entries
  history-ranked = ap (map (entry_by pieces)) (sym collected.wins) ∙ all-ranked entries ranked
