use Rattle.run_parts.proofs.StoreLaws.{one-left}
use Rattle.std.proofs.Common.{arith}
use Rattle.std.proofs.lemmas.Grind.{common_steps}
use Rattle.run_parts.proofs.storing.store_file.Goals as goal

pub returns-in-Err-Failed-clause-files : goal.returns-in-Err-Failed-clause-files
returns-in-Err-Failed-clause-files g c =
    rw (c.in-Ok.ensures, c.new.ensures) (one-left c.args.name.now c.args.bytes.now (g.D.Desk.files c.args.desk.now) (g.D.Desk.files c.store.new.self)
    (rw c.in-Err-Failed.field-0-is at c.in-Err-Failed.ensures.files))

pub returns-in-Err-Failed-clause-asked : goal.returns-in-Err-Failed-clause-asked
returns-in-Err-Failed-clause-asked g c = grind (arith, common_steps)
