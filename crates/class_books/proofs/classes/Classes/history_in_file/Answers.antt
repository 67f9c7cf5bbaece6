use Rattle.std.proofs.Common.{◌<◌, All, None, length, subst, sym}
use Rattle.donor_book.specs.declared.claim.Won.{Won}
use Rattle.class_books.specs.inner.Numbers.{rows_in}
use Rattle.class_books.proofs.ClassTables.{history-more}
use Rattle.class_books.proofs.classes.Classes.history_in_file.Goals as goal

pub loop-won-preserved : goal.loop-won-preserved
loop-won-preserved c =
    let class_of = c.args.self.now.class_of in
    let rows = subst (All (λ (w : Won). w.row_no < length (rows_in class_of c.args.class))) (sym c.deref_mut-won-items.ensures.value) c.requires.rows in
    history-more class_of c.args.class c.rows_of-rows.result.now c.deref_mut-won-items.result.now c.loop-won.won-items c.loop-won.won-index
    (record { row_no = 0; reply = None }) c.donor_with.result
    c.rows_of-rows.ensures.rows rows c.loop-won-test.true c.loop-won.invariant c.donor_with.ensures
