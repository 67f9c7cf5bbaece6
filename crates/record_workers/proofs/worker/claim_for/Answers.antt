use Rattle.std.proofs.Common.{ℕ, ◌≤◌, ◌∙◌, List, All, arith, length, refl, subst, sym}
use Rattle.foundation.specs.Limits.{most_near}
use Rattle.donor_book.specs.Passes.{IsAnswered}
use Rattle.class_books.specs.ClassPasses.{class_at, pass_in}
use Rattle.class_books.specs.Classes.{IsOfClass}
use Rattle.record_workers.specs.Workers.{last_class}
use Rattle.record_workers.proofs.AskedLaws.{asked-after, placed-after}
use Rattle.record_workers.proofs.BookLaws.{class-own, donors-own, not-last, ranks-few}
use Rattle.record_workers.proofs.worker.claim_for.Goals as goal

pub returns-then-piece-last-clause-asked : goal.returns-then-piece-last-clause-asked
returns-then-piece-last-clause-asked g c =
    let same = c.if-piece-last.true in
    record { own = λ lt. absurd (omega (arith, lt, same, c.last.ensures)); others = λ class lt apart. refl }

pub claim-requires-clause-classes : goal.claim-requires-clause-classes
claim-requires-clause-classes g c = c.requires.classes

pub returns-in-Some-clause-classes : goal.returns-in-Some-clause-classes
returns-in-Some-clause-classes g c = c.claim.ensures.classes

pub claim-requires-clause-few : goal.claim-requires-clause-few
claim-requires-clause-few g c =
    let shared = c.args.shared.now in
    subst (λ (ranking : List ℕ). length ranking ≤ most_near) (sym c.as_slice.ensures)
    (ranks-few _ shared.rest c.requires.shared.rest c.args.piece.now c.requires.piece c.in-Some.ranking c.in-Some.is)

pub claim-requires-clause-donors : goal.claim-requires-clause-donors
claim-requires-clause-donors g c =
    let shared = c.args.shared.now in
    let piece = c.args.piece.now in
    let own = not-last _ shared c.requires.shared piece c.requires.piece (λ same. c.if-piece-last.false (same ∙ sym c.last.ensures)) in
    subst (All (IsOfClass shared.books.terms.class_of (class_at shared.books piece.row_no))) (sym c.as_slice.ensures)
    (donors-own _ shared c.requires.shared piece c.requires.piece own c.in-Some.ranking c.in-Some.is)

pub returns-in-Some-clause-placed : goal.returns-in-Some-clause-placed
returns-in-Some-clause-placed g c =
    let shared = c.args.shared.now in
    placed-after (last_class shared) (class_at shared.books c.args.piece.now.row_no) c.args.pass.now c.claim.new.pass c.claim.ensures.others
    c.claim.ensures.placed c.requires.placed

pub returns-in-Some-clause-asked : goal.returns-in-Some-clause-asked
returns-in-Some-clause-asked g c =
    let shared = c.args.shared.now in
    let piece = c.args.piece.now in
    let class = class_at shared.books piece.row_no in
    let own = not-last _ shared c.requires.shared piece c.requires.piece (λ same. c.if-piece-last.false (same ∙ sym c.last.ensures)) in
    asked-after (last_class shared) class c.args.pass.now c.claim.new.pass c.claim.ensures.others piece c.in-Some.ranking c.claim.result
    (class-own _ shared c.requires.shared piece c.requires.piece own) c.in-Some.is
    (subst (λ (ranking : List ℕ). IsAnswered (pass_in class c.args.pass.now) piece.row_no ranking c.claim.result (pass_in class c.claim.new.pass))
    c.as_slice.ensures c.claim.ensures.answered)
