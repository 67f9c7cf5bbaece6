use Rattle.std.proofs.Common.{List, ◌<◌, ◌≤◌, ℕ, arith, length, subst}
use Rattle.panel_files.proofs.KeyLaws.{table-all, table-more}
use Rattle.panel_files.specs.inner.KeyEntries.{IsNoted}
use Rattle.panel_files.proofs.keys.KeyTable.of.Goals as goal

pub loop-row_no-preserved : goal.loop-row_no-preserved
loop-row_no-preserved c =
    let n = c.loop-row_no.row_no in
    let row_texts = c.args.sheet.now.row_texts in
    let below : n < length row_texts = omega (arith, c.loop-row_no-test.true, c.len-row_no-end.ensures.row_texts) in
    table-more c.args.column row_texts n c.loop-row_no.table c.note_key.new.self below c.loop-row_no.invariant
    (subst (λ (key : List ℕ). IsNoted c.loop-row_no.table c.note_key.new.self key n) c.key_at-key.ensures c.in_ok-note_key.ensures)

pub returns : goal.returns
returns c =
    let row_texts = c.args.sheet.now.row_texts in
    let past : length row_texts ≤ c.loop-row_no.row_no = omega (arith, c.loop-row_no-test.false, c.len-row_no-end.ensures.row_texts) in
    table-all c.args.column row_texts c.loop-row_no.row_no c.loop-row_no.table past c.loop-row_no.invariant
