use Rattle.std.proofs.Common.{ℕ, ◌+◌, ◌<◌, ◌∙◌, All, ap, arith, length, subst, sym}
use Rattle.std.proofs.lemmas.List.{length-map}
use Rattle.record_pieces.specs.Classes.{class_read}
use Rattle.record_pieces.specs.Rests.{class_field_in, rows_in}
use Rattle.record_workers.proofs.BookLaws.{classes-within}
use Rattle.record_workers.proofs.ready.books_over.Goals as goal

pub share-requires-clause-classes : goal.share-requires-clause-classes
share-requires-clause-classes g c =
    let rest = c.args.rest.now in
    subst (λ (last : ℕ). All (λ class. class < last + 1) c.in_ok-class_of.class_of.items) (sym c.last-classes.ensures)
    (subst (All (λ class. class < length rest.decks.of_class.items + 1)) (sym c.in_ok-class_of.ensures) (classes-within _ rest c.requires.rest))

pub share-requires-clause-rows : goal.share-requires-clause-rows
share-requires-clause-rows g c =
    let rest = c.args.rest.now in
    let many = ap length c.in_ok-class_of.ensures ∙ length-map (rows_in rest) (class_read (length rest.decks.of_class.items) (class_field_in rest)) in
    omega (arith, c.requires.rows, many)
