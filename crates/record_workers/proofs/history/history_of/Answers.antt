use Rattle.std.proofs.Common.{List, ◌∙◌, ap, arith, map, sym, take}
use Rattle.std.specs.List.{flat_map}
use Rattle.std.proofs.lemmas.Grind.{common_steps}
use Rattle.std.proofs.lemmas.List.{append-nil, take-map, take_all}
use Rattle.donor_book.specs.declared.claim.Won.{Won}
use Rattle.class_books.specs.Histories.{joined}
use Rattle.record_workers.specs.inner.Gatherings.{entry_by}
use Rattle.record_workers.proofs.JoinedLaws.{joined-made}
use Rattle.record_workers.proofs.history.history_of.Goals as goal

pub loop-wins-preserved : goal.loop-wins-preserved
loop-wins-preserved c = grind (arith, common_steps)

pub loop-piece-init : goal.loop-piece-init
loop-piece-init c =
    let entry = entry_by c.args.pieces.now in
    let first = take c.args.last c.args.histories.now in
    let ended = c.loop-wins-test.false in
    c.loop-wins.invariant
    ∙ ap (flat_map (λ h. map entry h.items)) (take_all c.loop-wins.wins-index first (omega (arith, ended)))
    ∙ joined-made entry (λ h. h.items) first
    ∙ ap (λ (hs : List (List Won)). map entry (joined hs)) (sym (take-map (λ h. h.items) c.args.last c.args.histories.now))
    ∙ sym (append-nil _)

pub loop-piece-preserved : goal.loop-piece-preserved
loop-piece-preserved c = grind (arith, common_steps)
