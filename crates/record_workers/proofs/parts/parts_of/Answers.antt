use Rattle.std.proofs.lemmas.Result.{IfOk-from_err}
use Rattle.record_workers.specs.declared.worker.Worker.{Worker}
use Rattle.record_workers.proofs.MoveLaws.{flat-moved, map-moved}
use Rattle.record_workers.proofs.parts.parts_of.Goals as goal

pub loop-worker-preserved : goal.loop-worker-preserved
loop-worker-preserved c =
    let loop = c.loop-worker in
    let left = loop.worker-iterator.rest.items in
    let rest = c.next.new.self.rest.items in
    let is = c.in-Some.ensures.steps.0 in
    let all = loop.invariant in
    let added = c.in_ok-add.ensures in
    let parts = c.add.new.self in
    record {
      seats = map-moved c.in-Some.worker left rest is loop.parts.seats.items parts.seats.items _ (λ (w : Worker). w.seat) added.seats all.seats;
      passes = map-moved c.in-Some.worker left rest is loop.parts.passes.items parts.passes.items _ (λ (w : Worker). w.pass) added.passes all.passes;
      pieces = flat-moved c.in-Some.worker left rest is loop.parts.pieces.items parts.pieces.items _ (λ (w : Worker). w.pieces.items) added.pieces all.pieces;
    }

pub returns-in_err-add-clause-seats : goal.returns-in_err-add-clause-seats
returns-in_err-add-clause-seats c = IfOk-from_err _ _ c.from_residual.ensures.0

pub returns-in_err-add-clause-passes : goal.returns-in_err-add-clause-passes
returns-in_err-add-clause-passes c = IfOk-from_err _ _ c.from_residual.ensures.0

pub returns-in_err-add-clause-pieces : goal.returns-in_err-add-clause-pieces
returns-in_err-add-clause-pieces c = IfOk-from_err _ _ c.from_residual.ensures.0
