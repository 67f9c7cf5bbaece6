use Rattle.proof_text.proofs.PlaceLaws.{place-begins, place-reads}
use Rattle.proof_text.proofs.reading.places.next_place.Goals as goal

pub invariant_of-result : goal.invariant_of-result
invariant_of-result c = place-begins c.args.shared c.copy-begun.result c.args.lines.now c.next_row.new.lines c.in-Ok.row c.copy-begun.ensures c.in-Ok.ensures _
    _ c.weight_of.ensures (cc)

pub returns-in-Ok : goal.returns-in-Ok
returns-in-Ok c = place-reads c.args.shared c.copy-begun.result c.args.lines.now c.next_row.new.lines c.in-Ok.row c.copy-begun.ensures c.in-Ok.ensures
