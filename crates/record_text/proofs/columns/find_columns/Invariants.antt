use Rattle.std.proofs.Common.{◌≡◌, drop, take}
use Rattle.record_text.specs.Columns.{StandIn}
use Rattle.record_text.specs.Faults.{column_fault}
use Rattle.record_text.proofs.columns.find_columns.Given as goal

abbrev pub invariant-loop-number : goal.invariant-loop-number
invariant-loop-number l = StandIn (take l.number l.fields) l.header l.columns.items
    × (column_fault 0 l.fields l.header ≡ column_fault l.number (drop l.number l.fields) l.header)
