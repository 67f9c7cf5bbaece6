use Rattle.std.proofs.Common.{◌≡◌, ◌∙◌, ◌<◌, ap, arith, length, sym}
use Rattle.bound_cert.specs.declared.outcome.RowProof.{RowProof}
use Rattle.proof_grammar.specs.ProofLines.{row_lines}
use Rattle.cert_check.specs.inner.Checks.{rules_in}
use Rattle.cert_check.proofs.CountLaws.{count-fits, count-more}
use Rattle.cert_check.proofs.RowsLoop.{goes-fault, goes-more}
use Rattle.cert_check.proofs.rows_check.rows_fault.Goals as goal

pub row_fault-requires-clause-few : goal.row_fault-requires-clause-few
row_fault-requires-clause-few c =
    let below : c.loop-row_no.row_no < length c.args.saids.now = omega (arith, c.loop-row_no-test.true, c.len-row_no-end.ensures.rows, c.requires.one_each) in
    let fits = count-fits row_lines c.args.saids.now c.loop-row_no.row_no c.index-saids-row_no.result below c.index-saids-row_no.is in
    omega (arith, fits, c.requires.few, ap (λ (r : RowProof). length (row_lines r)) c.in_ok-said.ensures)

pub overflow_add-result : goal.overflow_add-result
overflow_add-result c =
    let below : c.loop-row_no.row_no < length c.args.saids.now = omega (arith, c.loop-row_no-test.true, c.len-row_no-end.ensures.rows, c.requires.one_each) in
    let fits = count-fits row_lines c.args.saids.now c.loop-row_no.row_no c.index-saids-row_no.result below c.index-saids-row_no.is in
    let within = rw c.in-Some.is at c.in_ok-fault.ensures.within in
    omega (arith, fits, c.requires.few, within, c.loop-row_no.invariant.1, ap (λ (r : RowProof). length (row_lines r)) c.in_ok-said.ensures)

pub row_line_count-offset-requires : goal.row_line_count-offset-requires
row_line_count-offset-requires c =
    let below : c.loop-row_no.row_no < length c.args.saids.now = omega (arith, c.loop-row_no-test.true, c.len-row_no-end.ensures.rows, c.requires.one_each) in
    let fits = count-fits row_lines c.args.saids.now c.loop-row_no.row_no c.index-saids-row_no.result below c.index-saids-row_no.is in
    omega (arith, fits, c.requires.few, ap (λ (r : RowProof). length (row_lines r)) c.in_ok-said.ensures)

pub overflow_add-offset : goal.overflow_add-offset
overflow_add-offset c =
    let below : c.loop-row_no.row_no < length c.args.saids.now = omega (arith, c.loop-row_no-test.true, c.len-row_no-end.ensures.rows, c.requires.one_each) in
    let fits = count-fits row_lines c.args.saids.now c.loop-row_no.row_no c.index-saids-row_no.result below c.index-saids-row_no.is in
    omega (
      arith,
      fits,
      c.requires.few,
      c.row_line_count-offset.ensures,
      c.loop-row_no.invariant.1,
      ap (λ (r : RowProof). length (row_lines r))
          c.in_ok-said.ensures,
    )

pub returns-in-Some : goal.returns-in-Some
returns-in-Some c =
    let below : c.loop-row_no.row_no < length c.args.saids.now = omega (arith, c.loop-row_no-test.true, c.len-row_no-end.ensures.rows, c.requires.one_each) in
    let fits = count-fits row_lines c.args.saids.now c.loop-row_no.row_no c.index-saids-row_no.result below c.index-saids-row_no.is in
    let also : length c.args.records.now.row_texts ≡ length c.args.records.now.rows = sym c.len-row_no-end.ensures.row_texts ∙ c.len-row_no-end.ensures.rows in
    let found = rw (c.in-Some.is, c.files_at-files.ensures, c.in_ok-said.ensures) at c.in_ok-fault.ensures.found in
    let within = rw (c.in-Some.is, c.in_ok-said.ensures) at c.in_ok-fault.ensures.within in
    goes-fault (rules_in c.args.checking.now) c.args.saids.now c.args.records.now.row_texts c.args.records.now.rows c.args.released.now.row_texts
    c.loop-row_no.row_no c.loop-row_no.next c.loop-row_no.offset c.loop-row_no.invariant.0 below c.requires.one_each also
    c.index-saids-row_no.result c.index-saids-row_no.is c.in-Some.fault found (omega (arith, fits, within, c.loop-row_no.invariant.1))

pub loop-row_no-preserved : goal.loop-row_no-preserved
loop-row_no-preserved c =
    let below : c.loop-row_no.row_no < length c.args.saids.now = omega (arith, c.loop-row_no-test.true, c.len-row_no-end.ensures.rows, c.requires.one_each) in
    let more = count-more row_lines c.args.saids.now c.loop-row_no.row_no c.index-saids-row_no.result below c.index-saids-row_no.is in
    let also : length c.args.records.now.row_texts ≡ length c.args.records.now.rows = sym c.len-row_no-end.ensures.row_texts ∙ c.len-row_no-end.ensures.rows in
    let valid = rw (c.in_default.is, c.files_at-files.ensures, c.in_ok-said.ensures) at c.in_ok-fault.ensures.found in (
      rw (c.row_line_count-offset.ensures, c.in_ok-said.ensures) (goes-more (rules_in c.args.checking.now) c.args.saids.now c.args.records.now.row_texts
          c.args.records.now.rows c.args.released.now.row_texts c.loop-row_no.row_no c.loop-row_no.next c.loop-row_no.offset c.loop-row_no.invariant.0 below
          c.requires.one_each also
          c.index-saids-row_no.result c.index-saids-row_no.is c.next_released_row-next.result valid c.next_released_row-next.ensures),
      omega (arith, more, c.row_line_count-offset.ensures, c.loop-row_no.invariant.1, ap (λ (r : RowProof). length (row_lines r)) c.in_ok-said.ensures),
    )
