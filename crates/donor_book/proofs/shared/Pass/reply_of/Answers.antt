use Rattle.std.proofs.Common.{◌<◌, ◌∙◌, sym, subst, length}
use Rattle.std.specs.Option.{IfNone}
use Rattle.donor_book.specs.Passes.{PassState}
use Rattle.donor_book.proofs.PassLaws.{room_if}
use Rattle.donor_book.proofs.shared.Pass.reply_of.Goals as goal

pub returns-clause-room : goal.returns-clause-room
returns-clause-room c =
    let inv = c.self.invariant in
    let is = c.self.view_is in
    let lt = subst (λ (p : PassState). c.args.row_no < p.book.terms.rows) (sym is) c.requires in
    subst (λ (p : PassState). IfNone c.index.result.now (length p.seen < p.book.terms.rows)) is
    (room_if c.self.inside.terms c.self.inside.seat.me.0.seen c.args.row_no c.index.result.now inv.7 lt
    (c.index.ensures ∙ inv.10.answered c.args.row_no c.index.result.now (subst (λ n. c.args.row_no < n) (sym inv.9) lt)))
