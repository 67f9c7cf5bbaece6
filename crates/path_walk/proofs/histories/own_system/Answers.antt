use Rattle.path_walk.proofs.histories.own_system.Goals as goal

pub returns-in_err-in_arc-in-Ok-clause-serves : goal.returns-in_err-in_arc-in-Ok-clause-serves
returns-in_err-in_arc-in-Ok-clause-serves g c = c.system_along.ensures.serves

pub returns-in_err-in_arc-in-Ok-clause-keeps : goal.returns-in_err-in_arc-in-Ok-clause-keeps
returns-in_err-in_arc-in-Ok-clause-keeps g c = c.system_along.ensures.keeps

pub returns-in_err-in_arc-in-Ok-clause-counts : goal.returns-in_err-in_arc-in-Ok-clause-counts
returns-in_err-in_arc-in-Ok-clause-counts g c = c.system_along.ensures.counts

pub returns-in_ok-in_arc-in-Ok-clause-serves : goal.returns-in_ok-in_arc-in-Ok-clause-serves
returns-in_ok-in_arc-in-Ok-clause-serves g c = c.system_along.ensures.serves

pub returns-in_ok-in_arc-in-Ok-clause-keeps : goal.returns-in_ok-in_arc-in-Ok-clause-keeps
returns-in_ok-in_arc-in-Ok-clause-keeps g c = c.system_along.ensures.keeps

pub returns-in_ok-in_arc-in-Ok-clause-counts : goal.returns-in_ok-in_arc-in-Ok-clause-counts
returns-in_ok-in_arc-in-Ok-clause-counts g c = c.system_along.ensures.counts

pub returns-in-Err-clause-serves : goal.returns-in-Err-clause-serves
returns-in-Err-clause-serves g c = c.system_along.ensures.serves

pub returns-in-Err-clause-keeps : goal.returns-in-Err-clause-keeps
returns-in-Err-clause-keeps g c = c.system_along.ensures.keeps

pub returns-in-Err-clause-counts : goal.returns-in-Err-clause-counts
returns-in-Err-clause-counts g c = c.system_along.ensures.counts
