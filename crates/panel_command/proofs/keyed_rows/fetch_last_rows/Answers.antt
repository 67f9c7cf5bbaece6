use Rattle.std.proofs.Common.{refl}
use Rattle.record_text.proofs.ColumnLaws.{column_is}
use Rattle.run_parts.specs.declared.fault.Fault.TheVariants as fault
use Rattle.run_parts.specs.declared.fault.RecordsFault.TheVariants as records
use Rattle.panel_command.proofs.InputParts.{key-calls}
use Rattle.panel_command.proofs.keyed_rows.fetch_last_rows.Goals as goal

pub returns-in_default-clause-asked : goal.returns-in_default-clause-asked
returns-in_default-clause-asked g c =
    key-calls (g.D.Desk.calls c.args.desk.now) (g.D.Desk.calls c.fetch_last.new.desk) c.args.name.now c.in_ok-sheet.ensures.asked
    (fault.Last records.NoKey) c.of.result refl c.of.ensures

pub returns-clause-within : goal.returns-clause-within
returns-clause-within g c =
    (column_is c.in_ok-sheet.sheet.header c.args.key.now c.in-Some.column (rw c.as_bytes.ensures.value at c.in-Some.ensures)).0
