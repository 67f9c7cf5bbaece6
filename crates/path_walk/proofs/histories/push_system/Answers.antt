use Rattle.std.proofs.lemmas.Result.{IfOk-from_err}
use Rattle.path_walk.proofs.histories.push_system.Goals as goal

pub returns-in_err-push-in-Ok-clause-serves : goal.returns-in_err-push-in-Ok-clause-serves
returns-in_err-push-in-Ok-clause-serves g c = c.own_system.ensures.serves

pub returns-in_err-push-in-Ok-clause-keeps : goal.returns-in_err-push-in-Ok-clause-keeps
returns-in_err-push-in-Ok-clause-keeps g c = c.own_system.ensures.keeps

pub returns-in_err-push-in-Ok-clause-counts : goal.returns-in_err-push-in-Ok-clause-counts
returns-in_err-push-in-Ok-clause-counts g c = c.own_system.ensures.counts

pub returns-in_ok-push-in-Ok-clause-serves : goal.returns-in_ok-push-in-Ok-clause-serves
returns-in_ok-push-in-Ok-clause-serves g c = c.own_system.ensures.serves

pub returns-in_ok-push-in-Ok-clause-keeps : goal.returns-in_ok-push-in-Ok-clause-keeps
returns-in_ok-push-in-Ok-clause-keeps g c = c.own_system.ensures.keeps

pub returns-in_ok-push-in-Ok-clause-counts : goal.returns-in_ok-push-in-Ok-clause-counts
returns-in_ok-push-in-Ok-clause-counts g c = c.own_system.ensures.counts

pub returns-in-Err-Overflow-clause-serves : goal.returns-in-Err-Overflow-clause-serves
returns-in-Err-Overflow-clause-serves g c = c.own_system.ensures.serves

pub returns-in-Err-Overflow-clause-keeps : goal.returns-in-Err-Overflow-clause-keeps
returns-in-Err-Overflow-clause-keeps g c = c.own_system.ensures.keeps

pub returns-in-Err-Overflow-clause-counts : goal.returns-in-Err-Overflow-clause-counts
returns-in-Err-Overflow-clause-counts g c = c.own_system.ensures.counts

pub returns-in-Err-OutOfMemory-clause-serves : goal.returns-in-Err-OutOfMemory-clause-serves
returns-in-Err-OutOfMemory-clause-serves g c = c.own_system.ensures.serves

pub returns-in-Err-OutOfMemory-clause-keeps : goal.returns-in-Err-OutOfMemory-clause-keeps
returns-in-Err-OutOfMemory-clause-keeps g c = c.own_system.ensures.keeps

pub returns-in-Err-OutOfMemory-clause-counts : goal.returns-in-Err-OutOfMemory-clause-counts
returns-in-Err-OutOfMemory-clause-counts g c = c.own_system.ensures.counts

pub returns-in_err-push-in-Ok-clause-history : goal.returns-in_err-push-in-Ok-clause-history
returns-in_err-push-in-Ok-clause-history g c = IfOk-from_err _ _ c.from_residual.ensures.0

pub returns-in_err-push-in-Ok-clause-grown : goal.returns-in_err-push-in-Ok-clause-grown
returns-in_err-push-in-Ok-clause-grown g c = IfOk-from_err _ _ c.from_residual.ensures.0
