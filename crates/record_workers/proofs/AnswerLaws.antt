use Rattle.std.proofs.Common.{◌≡◌, ◌⊎◌, ℕ, ◌+◌, ◌<◌, ◌≤◌, ◌++◌, List, [], ◌∷◌, All, length, map, take, inl, inr, refl, sym, ap, ◌∙◌, subst, arith}
use Rattle.std.specs.Borrow.{Bor}
use Rattle.std.specs.Fn as closures
use Rattle.std.specs.List.Sorted.{IsNonDecreasingBy, IsPermutation, IsStrictlyIncreasing}
use Rattle.std.proofs.lemmas.Bool.{cases_lt}
use Rattle.std.proofs.lemmas.List.{get_or-take}
use Rattle.std.proofs.lemmas.List.Elements.{All-head}
use Rattle.std.proofs.lemmas.List.Sorted.{IsPermutation-sym}
use Rattle.edit_model.specs.declared.value.Value.{Value}
use Rattle.edit_line.specs.Reductions.{IsIn}
use Rattle.edit_line.proofs.Members.{in-all, in-map, in-map-out}
use Rattle.ticket_row.specs.Tickets.{DrawnBelow}
use Rattle.donor_book.specs.Entries.{IsLegalHistory}
use Rattle.donor_book.specs.Passes.{AreCollected, IsWhole}
use Rattle.donor_book.specs.declared.claim.Entry.{Entry}
use Rattle.donor_book.specs.declared.claim.Won.{Won}
use Rattle.class_books.specs.ClassPasses.{EachClass, pass_in, passes_in}
use Rattle.class_books.specs.Classes.{IsEntryIn}
use Rattle.class_books.specs.Histories.{AreCollectedInClasses, JoinedLaw, history_in, joined}
use Rattle.record_pieces.specs.Needs.{AnswersNeeds, AreInRowOrder, Need, need_in, needs_of}
use Rattle.record_pieces.specs.Rests.{IsPieceIn, rows_in}
use Rattle.record_pieces.specs.declared.piece.Piece.{Piece}
use Rattle.record_pieces.proofs.NeedLaws.{in-other-order, need-from, need-in, rows-asked}
use Rattle.record_workers.specs.Workers.{AnswersInClasses, IsShared, last_class, pieces_in}
use Rattle.record_workers.specs.declared.shared.Shared.{Shared}
use Rattle.record_workers.specs.declared.worker.Worker.{Worker}
use Rattle.record_workers.specs.inner.Gatherings.{HasRun, entry_by, passes_of, pieces_of, seats_of, unanswered}
use Rattle.record_workers.proofs.AloneLaws.{alone-rising}
use Rattle.record_workers.proofs.ApartLaws.{needs-apart, rows-apart}
use Rattle.record_workers.proofs.BookLaws.{piece-within, ranks-none}
use Rattle.record_workers.proofs.ClassPieces.{class-apart, in-class, of-class}
use Rattle.record_workers.proofs.GatherLaws.{distinct-apart, history-ranked, needs-claimed}
use Rattle.record_workers.proofs.JoinedLaws.{history-first, history-last, in-joined, joined-in, joined-map, joined-with_last, length-first, length-with_last}
use Rattle.record_workers.proofs.JoinedLaws.{with_last}
use Rattle.record_workers.proofs.LastClass.{IsNew, last-answered, last-in-order, legal-unanswered, unanswered-needs}
use Rattle.record_workers.proofs.OrderLaws.{AreApart, same-by-key, same-elements}
use Rattle.record_workers.proofs.RunLaws.{claims-run, pieces-are, rows-are}

-- What workers that have run claimed, class by class, and all together.

module _ {F : Type 0} (calls : closures.Shared F (ℕ × (Bor Value × (Bor Value × Unit {0}))) ℕ) (shared : Shared F) (is : IsShared calls shared)
    (ran : List Worker) (all : All (HasRun shared) ran) (count : ℕ) (drawn : DrawnBelow count (seats_of ran)) (all_drawn : count ≡ length (rows_in shared.rest))
    (pieces : List Piece) (same : IsPermutation (pieces_of ran) pieces) (sorted : IsNonDecreasingBy (λ (p : Piece). p.row_no) pieces)
    (wins : List (List Won)) (as_many : length wins ≡ shared.books.terms.classes)
    (whole : EachClass shared.books (λ class. IsWhole shared.books.terms.limit (passes_in class (passes_of ran)) (history_in class wins)))
    (claims : List (List Entry)) (collected : AreCollectedInClasses shared.books (passes_of ran) wins claims) where
  abbrev limit : ℕ
  limit = shared.books.terms.limit

  abbrev last : ℕ
  last = last_class shared

  many-wins : last ≤ length wins
  many-wins = let classes = is.classes in omega (arith, classes, as_many)

  many-claims : last ≤ length claims
  many-claims = let classes = is.classes in let many = collected.as_many in omega (arith, classes, many)

  -- ---- a class with donors

  module _ (class : ℕ) (less : class < last) where
    there : class < shared.books.terms.classes
    there = let classes = is.classes in omega (arith, classes, less)

    class-collected : AreCollected limit (passes_in class (passes_of ran)) (history_in class wins) (history_in class claims)
    class-collected = (collected.each class there).collected

    class-answered : AnswersNeeds limit (pieces_in class pieces) (history_in class claims)
    class-answered = record {
      legal = class-collected.legal;
      needs = needs-claimed class ran count (claims-run shared ran all class less) pieces same
          (rows-are shared ran all count drawn all_drawn pieces same sorted) limit (history_in class wins) (whole class there) (history_in class claims)
          class-collected;
    }

    class-ranked : map (entry_by pieces) (history_in class wins) ≡ history_in class claims
    class-ranked = history-ranked class ran count (claims-run shared ran all class less) pieces same
        (rows-are shared ran all count drawn all_drawn pieces same sorted) limit (history_in class wins) (whole class there) (history_in class claims)
        class-collected

    -- the claims of one worker are in row order
    class-in-order : length ran ≡ 1 → AreInRowOrder (history_in class claims)
    class-in-order one = by ran all one (whole class there) class-collected
      where
        by : (ran : List Worker) → All (HasRun shared) ran → length ran ≡ 1 → IsWhole limit (passes_in class (passes_of ran)) (history_in class wins)
            → AreCollected limit (passes_in class (passes_of ran)) (history_in class wins) (history_in class claims)
            → AreInRowOrder (history_in class claims)
        by [] all one whole of = absurd (omega (arith, one))
        by (w ∷ []) all one whole of =
            let run = All-head (HasRun shared) w [] all in
            subst IsStrictlyIncreasing (rows-asked (history_in class claims))
            (alone-rising limit (pass_in class w.pass) (pieces_in class w.pieces.items) (run.worked.claims class less) (run.worked.places class less)
            (history_in class wins) whole (history_in class claims) of)
        by (w ∷ v ∷ rest) all one whole of = absurd (omega (arith, one))

  -- ---- the last class

  all-apart : AreApart (λ (p : Piece). p.row_no) pieces
  all-apart = rows-apart 0 count pieces (rows-are shared ran all count drawn all_drawn pieces same sorted)

  found : (p : Piece) → IsIn p pieces → IsPieceIn shared.rest p
  found p there = in-all (IsPieceIn shared.rest) p pieces (pieces-are shared ran all count drawn all_drawn pieces same sorted).each there

  last-apart : AreApart (λ (need : Need). need.row_no) (needs_of (pieces_in last pieces))
  last-apart = needs-apart (pieces_in last pieces) (class-apart last pieces all-apart)

  last-empty : (need : Need) → IsIn need (needs_of (pieces_in last pieces)) → need.ranking ≡ []
  last-empty need needed =
      let (p, in_last, row, ranking) = need-from need (pieces_in last pieces) needed in
      let (in_pieces, class) = of-class last p pieces in_last in
      let many = is.rest.decks.as_many in
      ranks-none calls shared.rest is.rest p (found p in_pieces) need.ranking ranking (class ∙ many)

  -- ---- all classes

  abbrev histories : List (List Entry)
  histories = with_last last claims (unanswered last pieces)

  as-many : length histories ≡ last + 1
  as-many = length-with_last last claims (unanswered last pieces) many-claims

  first-or-last : (P : ℕ → Type 0) → ((class : ℕ) → class < last → P class) → P last → (class : ℕ) → class < length histories → P class
  first-or-last P first behind class lt = by (cases_lt class last)
    where
      by : (class < last) ⊎ (last ≤ class) → P class
      by (inl less) = first class less
      by (inr ge) = let many = as-many in let is_last : last ≡ class = omega (arith, lt, ge, many) in subst P is_last behind

  each-answered : (class : ℕ) → class < length histories → AnswersNeeds limit (pieces_in class pieces) (history_in class histories)
  each-answered = first-or-last (λ class. AnswersNeeds limit (pieces_in class pieces) (history_in class histories))
      (λ class less. subst (AnswersNeeds limit (pieces_in class pieces))
      (sym (history-first last claims (unanswered last pieces) many-claims class less)) (class-answered class less))
      (subst (AnswersNeeds limit (pieces_in last pieces)) (sym (history-last last claims (unanswered last pieces) many-claims))
      (last-answered limit last pieces last-apart last-empty))

  each-in-order : length ran ≡ 1 → (class : ℕ) → class < length histories → AreInRowOrder (history_in class histories)
  each-in-order one = first-or-last (λ class. AreInRowOrder (history_in class histories))
      (λ class less. subst AreInRowOrder (sym (history-first last claims (unanswered last pieces) many-claims class less)) (class-in-order class less one))
      (subst AreInRowOrder (sym (history-last last claims (unanswered last pieces) many-claims))
      (last-in-order limit last pieces last-apart last-empty sorted))

  -- a claim of a class is for the need of a piece of this class
  claim-piece : (class : ℕ) (lt : class < length histories) (e : Entry) → IsIn e (history_in class histories)
      → (p : Piece) × IsIn p pieces × (p.class ≡ class) × (p.row_no ≡ e.row_no) × IsIn (need_in e) (needs_of pieces)
  claim-piece class lt e there =
      let needed = in-other-order (needs_of (pieces_in class pieces)) (map need_in (history_in class histories)) (need_in e) (each-answered class lt).needs
      (in-map need_in e (history_in class histories) there) in
      let (p, in_class, row, ranking) = need-from (need_in e) (pieces_in class pieces) needed in
      let (in_pieces, own) = of-class class p pieces in_class in
      (p, in_pieces, own, row, need-in (need_in e) p pieces in_pieces row ranking)

  -- ---- all claims

  module _ (joins : JoinedLaw) where
    first-legal : IsLegalHistory limit (joined (take last claims))
    first-legal = joins shared.books.terms.class_of limit (take last claims) (record {
      legal = λ class lt. let less = first class lt in subst (IsLegalHistory limit) (sym (get_or-take last claims class [] less))
          (class-answered class less).legal;
      of_class = λ class lt. let less = first class lt in
          subst (All (IsEntryIn shared.books.terms.class_of class)) (sym (get_or-take last claims class [] less))
          (collected.each class (there class less)).of_class;
    })
      where
        first : (class : ℕ) → class < length (take last claims) → class < last
        first class lt = let many = length-first last claims [] many-claims in omega (arith, lt, many)

    -- no record of the last class claims in another
    last-new : (need : Need) → IsIn need (needs_of (pieces_in last pieces)) → IsNew (joined (take last claims)) need
    last-new need needed e in_first row =
        let (class, lt, in_class) = joined-in e (take last claims) in_first in
        let many = length-first last claims [] many-claims in
        let less : class < last = omega (arith, lt, many) in
        let in_history = subst (IsIn e)
        (get_or-take last claims class [] less ∙ sym (history-first last claims (unanswered last pieces) many-claims class less))
        in_class in
        let all_many = as-many in
        let (q, q_in, q_class, q_row, q_need) = claim-piece class (omega (arith, less, all_many)) e in_history in
        let (p, in_last, p_row, ranking) = need-from need (pieces_in last pieces) needed in
        let (p_in, p_class) = of-class last p pieces in_last in
        let one = same-by-key (λ (p : Piece). p.row_no) pieces q p all-apart q_in p_in (q_row ∙ row ∙ sym p_row) in
        let class_is = ap (λ (p : Piece). p.class) one in
        omega (arith, class_is, q_class, p_class, less)

    all-legal : IsLegalHistory limit (joined histories)
    all-legal = subst (IsLegalHistory limit)
        (sym (joined-with_last last claims (unanswered last pieces) many-claims
        ∙ ap (λ (l : List Entry). joined (take last claims) ++ l) (unanswered-needs last pieces)))
        (legal-unanswered limit (joined (take last claims)) (needs_of (pieces_in last pieces)) first-legal last-apart last-new last-empty)

    -- each need has its claim
    need-claimed : (need : Need) → IsIn need (needs_of pieces) → IsIn need (map need_in (joined histories))
    need-claimed need needed =
        let (p, in_pieces, row, ranking) = need-from need pieces needed in
        let le = piece-within calls shared.rest is.rest p (found p in_pieces) in
        let many = is.rest.decks.as_many in
        let all_many = as-many in
        let lt : p.class < length histories = omega (arith, le, many, all_many) in
        let own = need-in need p (pieces_in p.class pieces) (in-class p.class p pieces in_pieces refl) row ranking in
        let (e, in_class, of) = in-map-out need_in need (history_in p.class histories)
        (in-other-order (map need_in (history_in p.class histories)) (needs_of (pieces_in p.class pieces)) need
        (IsPermutation-sym (needs_of (pieces_in p.class pieces)) (map need_in (history_in p.class histories)) (each-answered p.class lt).needs) own) in
        subst (λ (n : Need). IsIn n (map need_in (joined histories))) (sym of)
        (in-map need_in e (joined histories) (in-joined e p.class histories lt in_class))

    all-answered : AnswersNeeds limit pieces (joined histories)
    all-answered = record {
      legal = all-legal;
      needs = same-elements (λ (need : Need). need.row_no) (needs_of pieces) (map need_in (joined histories)) (needs-apart pieces all-apart)
          (distinct-apart (joined histories) all-legal.once) need-claimed
          (λ need there. (
          let (e, in_all, of) = in-map-out need_in need (joined histories) there in
          let (class, lt, in_class) = joined-in e histories in_all in
          let (p, in_pieces, own, row, needed) = claim-piece class lt e in_class in
          subst (λ (n : Need). IsIn n (needs_of pieces)) (sym of) needed));
    }

    module _ (history : List Entry) (made : history ≡ map (entry_by pieces) (joined (take last wins)) ++ unanswered last pieces) where
      history-is : history ≡ joined histories
      history-is = made
          ∙ ap (λ (l : List Entry). l ++ unanswered last pieces) (joined-map (entry_by pieces) last wins claims many-wins many-claims class-ranked)
          ∙ sym (joined-with_last last claims (unanswered last pieces) many-claims)

      -- the needs of all pieces are answered
      pub needs-answered : AnswersNeeds limit pieces history
      needs-answered = subst (AnswersNeeds limit pieces) (sym history-is) all-answered

      -- and they are class by class
      pub classes-answered : (alone : Type 0) → (alone → length ran ≡ 1) → AnswersInClasses limit last alone pieces history
      classes-answered alone one = record {
        histories = histories;
        as_many = as-many;
        one_after_other = history-is;
        each = each-answered;
        order = λ is_alone. each-in-order (one is_alone);
      }
