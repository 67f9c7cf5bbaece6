-- The numbers that the program ends with.
use Rattle.std.specs.Prelude.{ℕ}
use Rattle.run_parts.specs.declared.status.Status.{Status}
use Rattle.run_parts.specs.declared.status.Status.TheVariants.{Done, SomeUnresolved, Usage, Rules, Records, ReadFault, WriteFault, OutOfMemory, TooLong, Rejected, Class}

-- the number by which a caller of the program knows how it ended
abbrev pub status_number : Status → ℕ
status_number Done = 0
status_number SomeUnresolved = 1
status_number Usage = 2
status_number Rules = 3
status_number Records = 4
status_number ReadFault = 5
status_number WriteFault = 6
status_number OutOfMemory = 7
status_number TooLong = 8
status_number Rejected = 9
status_number Class = 11
