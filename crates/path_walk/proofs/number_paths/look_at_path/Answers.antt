use Rattle.std.proofs.Common.{arith}
use Rattle.edit_paths.proofs.LetterLaws.{count-kinds}
use Rattle.path_walk.specs.Problems.{case_in}
use Rattle.path_walk.proofs.number_paths.look_at_path.Goals as goal

pub keeps_bad-requires-clause-short : goal.keeps_bad-requires-clause-short
keeps_bad-requires-clause-short g c = omega (arith, c.requires.fit, count-kinds (case_in c.args.problem.now))

pub returns-in-Ok-clause-serves : goal.returns-in-Ok-clause-serves
returns-in-Ok-clause-serves g c = c.next_system.ensures.serves

pub returns-in-Ok-clause-keeps : goal.returns-in-Ok-clause-keeps
returns-in-Ok-clause-keeps g c = c.next_system.ensures.keeps

pub returns-in-Ok-clause-counts : goal.returns-in-Ok-clause-counts
returns-in-Ok-clause-counts g c = c.next_system.ensures.counts

pub returns-in-Err-Overflow-clause-serves : goal.returns-in-Err-Overflow-clause-serves
returns-in-Err-Overflow-clause-serves g c = c.next_system.ensures.serves

pub returns-in-Err-Overflow-clause-keeps : goal.returns-in-Err-Overflow-clause-keeps
returns-in-Err-Overflow-clause-keeps g c = c.next_system.ensures.keeps

pub returns-in-Err-Overflow-clause-counts : goal.returns-in-Err-Overflow-clause-counts
returns-in-Err-Overflow-clause-counts g c = c.next_system.ensures.counts

pub returns-in-Err-OutOfMemory-clause-serves : goal.returns-in-Err-OutOfMemory-clause-serves
returns-in-Err-OutOfMemory-clause-serves g c = c.next_system.ensures.serves

pub returns-in-Err-OutOfMemory-clause-keeps : goal.returns-in-Err-OutOfMemory-clause-keeps
returns-in-Err-OutOfMemory-clause-keeps g c = c.next_system.ensures.keeps

pub returns-in-Err-OutOfMemory-clause-counts : goal.returns-in-Err-OutOfMemory-clause-counts
returns-in-Err-OutOfMemory-clause-counts g c = c.next_system.ensures.counts
