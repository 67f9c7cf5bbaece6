use Rattle.std.proofs.Common.{◌∙◌, ◌++◌, ◌<◌, ℕ, List, [], ◌∷◌, ap, arith, length, length-append, subst, sym}
use Rattle.std.proofs.lemmas.Result.{IfOk-from_err}
use Rattle.ticket_row.specs.Tickets.{SeatState}
use Rattle.record_pieces.specs.Rests.{rows_of}
use Rattle.record_workers.proofs.DrawnLaws.{drawn-worked, ready-worked}
use Rattle.record_workers.proofs.worker.Worker.run_by.Goals as goal

pub loop-row_no-init : goal.loop-row_no-init
loop-row_no-init g c = record {
  worked = ready-worked _ c.args.shared.now c.args.self.now c.requires.shared c.requires.ready;
  found = ap rows_of c.requires.ready.pieces ∙ sym c.requires.ready.seat.drawn;
}

pub work_on-requires-clause-worked : goal.work_on-requires-clause-worked
work_on-requires-clause-worked g c =
    drawn-worked c.args.shared.now c.loop-row_no.self c.loop-row_no.invariant.worked c.draw.new.seat c.draw.ensures.row

pub work_on-requires-clause-row : goal.work_on-requires-clause-row
work_on-requires-clause-row g c = subst (λ (n : ℕ). c.in-Some.row_no < n) c.requires.shared.tickets c.in-Some.ensures.below

pub work_on-requires-clause-drawn : goal.work_on-requires-clause-drawn
work_on-requires-clause-drawn g c = record {
  last = c.in-Some.ensures.some.2 ∙ ap (λ (rows : List ℕ). rows ++ c.in-Some.row_no ∷ []) (sym c.loop-row_no.invariant.found);
  rising = c.in-Some.ensures.rising;
}

pub loop-row_no-smaller : goal.loop-row_no-smaller
loop-row_no-smaller g c =
    let more = length-append c.loop-row_no.self.seat.drawn (c.in-Some.row_no ∷ []) in
    let seat = ap (λ (s : SeatState). length s.drawn) c.work_on.ensures.seat in
    omega (arith, c.in-Some.ensures.few, ap length c.in-Some.ensures.some.2, more, seat)

pub loop-row_no-preserved : goal.loop-row_no-preserved
loop-row_no-preserved g c = record { worked = c.work_on.ensures.worked; found = c.in_ok-work_on.ensures.found }

pub returns-in_err-work_on-clause-worked : goal.returns-in_err-work_on-clause-worked
returns-in_err-work_on-clause-worked g c = c.work_on.ensures.worked

pub returns-clause-worked : goal.returns-clause-worked
returns-clause-worked g c = drawn-worked c.args.shared.now c.loop-row_no.self c.loop-row_no.invariant.worked c.draw.new.seat c.draw.ensures.row

pub returns-in_err-work_on-clause-ended : goal.returns-in_err-work_on-clause-ended
returns-in_err-work_on-clause-ended g c = IfOk-from_err _ _ c.from_residual.ensures.0

pub returns-in_err-work_on-clause-found : goal.returns-in_err-work_on-clause-found
returns-in_err-work_on-clause-found g c = IfOk-from_err _ _ c.from_residual.ensures.0
