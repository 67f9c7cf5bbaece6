use Rattle.std.proofs.Common.{arith}
use Rattle.std.proofs.lemmas.Grind.{common_steps}
use Rattle.edit_desk.proofs.file.FileDeskDesk.fetch.Goals as goal

pub read_file-answer-requires : goal.read_file-answer-requires
read_file-answer-requires g c κs = grind (arith, common_steps)

pub raise_count-requires : goal.raise_count-requires
raise_count-requires g c = grind (arith, common_steps)

pub returns-in-Err-Failed-clause-files : goal.returns-in-Err-Failed-clause-files
returns-in-Err-Failed-clause-files g c = grind (arith, common_steps)

pub returns-in-Err-Failed-clause-within : goal.returns-in-Err-Failed-clause-within
returns-in-Err-Failed-clause-within g c = grind (arith, common_steps)

pub returns-in-Err-Failed-clause-taken : goal.returns-in-Err-Failed-clause-taken
returns-in-Err-Failed-clause-taken g c = grind (arith, common_steps)

pub returns-in-Err-Failed-clause-bytes : goal.returns-in-Err-Failed-clause-bytes
returns-in-Err-Failed-clause-bytes g c = grind (arith, common_steps)

pub returns-in-Err-Failed-clause-calls : goal.returns-in-Err-Failed-clause-calls
returns-in-Err-Failed-clause-calls g c = grind (arith, common_steps)

pub returns-in-Err-Failed-clause-faults : goal.returns-in-Err-Failed-clause-faults
returns-in-Err-Failed-clause-faults g c = grind (arith, common_steps)

pub returns : goal.returns
returns g c = grind (arith, common_steps)

pub returns-2-clause-files : goal.returns-2-clause-files
returns-2-clause-files g c = grind (arith, common_steps)

pub returns-2-clause-within : goal.returns-2-clause-within
returns-2-clause-within g c = grind (arith, common_steps)

pub returns-2-clause-taken : goal.returns-2-clause-taken
returns-2-clause-taken g c = grind (arith, common_steps)

pub returns-2-clause-bytes : goal.returns-2-clause-bytes
returns-2-clause-bytes g c = grind (arith, common_steps)

pub returns-2-clause-calls : goal.returns-2-clause-calls
returns-2-clause-calls g c = grind (arith, common_steps)

pub returns-2-clause-faults : goal.returns-2-clause-faults
returns-2-clause-faults g c = grind (arith, common_steps)
