use Rattle.proof_text.proofs.PlaceLaws.{row-again}
use Rattle.proof_text.proofs.reading.places.RowPlace.read.Goals as goal

pub returns-in-Ok : goal.returns-in-Ok
returns-in-Ok c = row-again c.self.inside.shared c.self.inside.lines c.copy-lines.result c.next_row.new.lines c.in-Ok.row c.args.self.now c.copy-lines.ensures
    c.in-Ok.ensures c.self.view_is
