use Rattle.std.proofs.Common.{◌∙◌, ap}
use Rattle.localise_tree.specs.inner.Knowns.{letters_number}
use Rattle.localise_tree.proofs.KnownLaws.{places-next}
use Rattle.localise_tree.proofs.known.places_of.Goals as goal

pub loop-place-preserved : goal.loop-place-preserved
loop-place-preserved c =
    places-next c.args.taken.now c.loop-place.place c.index-taken-place.result c.loop-place.places c.insert.new.self c.letters_number-number.result
    c.loop-place-test.true c.index-taken-place.is (c.letters_number-number.ensures ∙ ap letters_number c.letters.ensures)
    c.loop-place.invariant c.in_ok-insert.ensures.updates.0
