use Rattle.std.proofs.Common.{◌≡◌, ◌<◌, ◌∙◌, ◌++◌, Global, IfOk, List, All, Ok, Result, Vec, ap, arith, length, map, rules, take, true, subst, sym}
use Rattle.std.specs.List.{Any}
use Rattle.std.specs.List.Sorted.{IsPermutation}
use Rattle.std.proofs.lemmas.List.{length-map}
use Rattle.std.proofs.lemmas.List.Sorted.{IsNonDecreasingBy-from_sort_by_key}
use Rattle.std.proofs.lemmas.Result.{IfOk-from_err}
use Rattle.ticket_row.specs.Tickets.{DrawnBelow, SeatState}
use Rattle.foundation.specs.declared.memory.OutOfMemory.{OutOfMemory}
use Rattle.donor_book.specs.Passes.{IsWhole}
use Rattle.donor_book.specs.declared.claim.Entry.{Entry}
use Rattle.class_books.specs.ClassPasses.{ClassPassState, EachClass, passes_in}
use Rattle.class_books.specs.Histories.{AreCollectedInClasses, history_in, joined}
use Rattle.record_pieces.specs.declared.piece.Piece.{Piece}
use Rattle.record_workers.specs.declared.worker.Worker.{Worker}
use Rattle.record_workers.specs.inner.Gatherings.{HasRun, entry_by, shared_of, unanswered}
use Rattle.record_workers.proofs.AnswerLaws.{classes-answered, needs-answered}
use Rattle.record_workers.proofs.RunLaws.{passes-shared, pieces-are, seats-shared, some-ended}
use Rattle.record_workers.proofs.gathered.found_by.Goals as goal

-- what holds of the workers that come where all have run
of-workers : {ran : Result (Vec Worker Global) OutOfMemory} {workers : Vec Worker Global} (P : List Worker → Type 0)
    → ran ≡ Ok workers → IfOk ran (λ ws. P ws.items) → P workers.items
of-workers P was each = subst (λ r. IfOk r (λ ws. P ws.items)) was each

pub close-requires-clause-row : goal.close-requires-clause-row
close-requires-clause-row g c =
    subst (All (λ (s : SeatState). s.row ≡ c.args.tickets.row)) (sym c.in_ok-seats.ensures.seats)
    (seats-shared (shared_of c.args.rest.now c.args.tickets c.args.books) c.in_ok-workers.workers.items
    (of-workers (λ ws. All (HasRun (shared_of c.args.rest.now c.args.tickets c.args.books)) ws) c.in_ok-workers.was c.requires.ran))

pub close-requires-clause-all : goal.close-requires-clause-all
close-requires-clause-all g c =
    let ran = c.in_ok-workers.workers.items in
    ap length c.in_ok-seats.ensures.seats ∙ length-map ran (λ (w : Worker). w.seat)
    ∙ of-workers (λ ws. length ws ≡ c.args.tickets.seats) c.in_ok-workers.was c.requires.seats

pub close-histories-requires-clause-all : goal.close-histories-requires-clause-all
close-histories-requires-clause-all g c =
    let ran = c.in_ok-workers.workers.items in
    ap length c.in_ok-seats.ensures.passes ∙ length-map ran (λ (w : Worker). w.pass)
    ∙ of-workers (λ ws. length ws ≡ c.args.tickets.seats) c.in_ok-workers.was c.requires.seats ∙ sym c.requires.passes

pub history_of-requires : goal.history_of-requires
history_of-requires g c =
    let many = ap length c.deref-2.ensures.value in
    omega (arith, c.last.ensures, many, c.close-histories.ensures.histories, c.requires.shared.classes)

pub close-histories-requires-clause-classes : goal.close-histories-requires-clause-classes
close-histories-requires-clause-classes g c =
    subst (All (λ (p : ClassPassState). p.classes ≡ c.args.books)) (sym c.in_ok-seats.ensures.passes)
    (passes-shared (shared_of c.args.rest.now c.args.tickets c.args.books) c.in_ok-workers.workers.items
    (of-workers (λ ws. All (HasRun (shared_of c.args.rest.now c.args.tickets c.args.books)) ws) c.in_ok-workers.was c.requires.ran))

pub returns : goal.returns
returns g c =
    let shared = shared_of c.args.rest.now c.args.tickets c.args.books in
    let is = c.requires.shared in
    let limit = shared.books.terms.limit in
    let ran = c.in_ok-workers.workers.items in
    let all = of-workers (λ ws. All (HasRun shared) ws) c.in_ok-workers.was c.requires.ran in
    let as_many = of-workers (λ ws. length ws ≡ c.args.tickets.seats) c.in_ok-workers.was c.requires.seats in
    let some = subst (λ n. 0 < n) (sym as_many) c.requires.some in
    let seats = c.in_ok-seats.ensures.seats in
    let passes = c.in_ok-seats.ensures.passes in
    let pieces = c.sort_unstable_by_key.new.self.items in
    let close = c.close-histories in
    let wins = map (λ h. h.items) close.result.items in
    let drawn = subst (DrawnBelow c.close.result) seats c.close.ensures.drawn in
    let ended = c.close.ensures.ended (subst (Any (λ (s : SeatState). s.ended ≡ true)) (sym seats) (some-ended shared ran all some)) in
    let same = subst (λ (ps : List Piece). IsPermutation ps pieces) c.in_ok-seats.ensures.pieces c.sort_unstable_by_key.ensures.permutation in
    let sorted = IsNonDecreasingBy-from_sort_by_key (λ (p : Piece). p.row_no) pieces c.sort_unstable_by_key.ensures.sorted (λ a r q k. search rules) in
    let whole = subst (λ (ps : List ClassPassState). EachClass shared.books (λ class. IsWhole limit (passes_in class ps) (history_in class wins))) passes
    close.ensures.whole in
    let legal = subst (λ (ps : List ClassPassState). (claims : List (List Entry)) × AreCollectedInClasses shared.books ps wins claims) passes
    close.ensures.legal in
    let many : length wins ≡ shared.books.terms.classes = length-map close.result.items (λ h. h.items) ∙ close.ensures.histories in
    let count = c.close.result in
    let all_drawn = ended ∙ is.tickets in
    let made = c.in_ok-history.ensures
    ∙ (λ i. map (entry_by (c.deref.ensures.value i)) (joined (take (c.last.ensures i) (map (λ h. h.items) (c.deref-2.ensures.value i))))
    ++ unanswered (c.last.ensures i) (c.deref.ensures.value i)) in
    let history = c.in_ok-history.history.items in
    let joins = c.class_laws.ensures in
    record {
      pieces = pieces-are shared ran all count drawn all_drawn pieces same sorted;
      history = needs-answered _ shared is ran all count drawn all_drawn pieces same sorted wins many whole legal.0 legal.1 joins history made;
      classes = classes-answered _ shared is ran all count drawn all_drawn pieces same sorted wins many whole legal.0 legal.1 joins history made
          (c.args.tickets.seats ≡ 1) (λ one. as_many ∙ one);
    }

pub returns-in_err-workers-clause-pieces : goal.returns-in_err-workers-clause-pieces
returns-in_err-workers-clause-pieces g c = IfOk-from_err _ _ c.from_residual.ensures.0

pub returns-in_err-workers-clause-history : goal.returns-in_err-workers-clause-history
returns-in_err-workers-clause-history g c = IfOk-from_err _ _ c.from_residual.ensures.0

pub returns-in_err-workers-clause-classes : goal.returns-in_err-workers-clause-classes
returns-in_err-workers-clause-classes g c = IfOk-from_err _ _ c.from_residual.ensures.0

pub returns-in_err-seats-clause-pieces : goal.returns-in_err-seats-clause-pieces
returns-in_err-seats-clause-pieces g c = IfOk-from_err _ _ c.from_residual-in_err-seats.ensures.0

pub returns-in_err-seats-clause-history : goal.returns-in_err-seats-clause-history
returns-in_err-seats-clause-history g c = IfOk-from_err _ _ c.from_residual-in_err-seats.ensures.0

pub returns-in_err-seats-clause-classes : goal.returns-in_err-seats-clause-classes
returns-in_err-seats-clause-classes g c = IfOk-from_err _ _ c.from_residual-in_err-seats.ensures.0

pub returns-in_err-history-clause-pieces : goal.returns-in_err-history-clause-pieces
returns-in_err-history-clause-pieces g c = IfOk-from_err _ _ c.from_residual-in_err-history.ensures.0

pub returns-in_err-history-clause-history : goal.returns-in_err-history-clause-history
returns-in_err-history-clause-history g c = IfOk-from_err _ _ c.from_residual-in_err-history.ensures.0

pub returns-in_err-history-clause-classes : goal.returns-in_err-history-clause-classes
returns-in_err-history-clause-classes g c = IfOk-from_err _ _ c.from_residual-in_err-history.ensures.0
