use Rattle.std.proofs.Common.{[], ◌∷◌, length, length-append, IfOk, Result, arith, ap, sym, subst}
use Rattle.std.specs.List.{All}
use Rattle.std.proofs.lemmas.List.Elements.{All-head, All-push, All-tail}
use Rattle.std.proofs.lemmas.Result.{IfOk-from_err}
use Rattle.foundation.specs.declared.memory.OutOfMemory.{OutOfMemory}
use Rattle.record_workers.specs.declared.worker.Worker.{Worker}
use Rattle.record_workers.specs.inner.Gatherings.{HasRun}
use Rattle.record_workers.proofs.gathered.run_each.Goals as goal

pub loop-worker-preserved : goal.loop-worker-preserved
loop-worker-preserved g c =
    let shared = c.args.shared.now in
    let loop = c.loop-worker in
    let R = λ (r : Result Worker OutOfMemory). IfOk r (HasRun shared) in
    let items = c.in_ok-push.ensures.items in
    let rest = subst (All R) c.in-Some.ensures.steps.0 loop.invariant.left in
    let worker = c.in_ok-worker.field-0 in
    let mine : HasRun shared worker = subst R c.in_ok-worker.was (All-head R c.in-Some.worker c.next.new.self.rest.items rest) in
    let len = length-append loop.ran.items (worker ∷ []) in
    record {
      as_many = omega (arith, loop.invariant.as_many, ap length c.in-Some.ensures.steps.0, ap length items, len);
      ran = subst (All (HasRun shared)) (sym items) (All-push (HasRun shared) loop.ran.items worker loop.invariant.ran mine);
      left = All-tail R c.in-Some.worker c.next.new.self.rest.items rest;
    }

pub returns-in_err-results-clause-as_many : goal.returns-in_err-results-clause-as_many
returns-in_err-results-clause-as_many g c = IfOk-from_err _ _ c.from_residual.ensures.0

pub returns-in_err-results-clause-ran : goal.returns-in_err-results-clause-ran
returns-in_err-results-clause-ran g c = IfOk-from_err _ _ c.from_residual.ensures.0

pub returns-in_err-worker-clause-as_many : goal.returns-in_err-worker-clause-as_many
returns-in_err-worker-clause-as_many g c = IfOk-from_err _ _ c.from_residual-in_err-worker.ensures.0

pub returns-in_err-worker-clause-ran : goal.returns-in_err-worker-clause-ran
returns-in_err-worker-clause-ran g c = IfOk-from_err _ _ c.from_residual-in_err-worker.ensures.0

pub returns-in_err-push-clause-as_many : goal.returns-in_err-push-clause-as_many
returns-in_err-push-clause-as_many g c = IfOk-from_err _ _ c.from_residual-in_err-push.ensures.0

pub returns-in_err-push-clause-ran : goal.returns-in_err-push-clause-ran
returns-in_err-push-clause-ran g c = IfOk-from_err _ _ c.from_residual-in_err-push.ensures.0
