-- What the command `make` does on the desk.
use Rattle.std.specs.Prelude.{Result, Ok, Err}
use Rattle.edit_desk.specs.Desk.{Files}
use Rattle.command_words.specs.Asked.{MakeAsked}
use Rattle.make_command.specs.MakeRun.{AreMade, make_files}
use Rattle.run_parts.specs.Run.{LeavesOf}
use Rattle.run_parts.specs.declared.fault.Fault.{Fault}

-- what the command leaves of the files
abbrev pub MakeEnds : {A : Type 0} → MakeAsked → Result A Fault → Files → Files → Type 0
MakeEnds asked (Ok made) before after = AreMade asked before after
MakeEnds asked (Err fault) before after = LeavesOf (make_files asked) fault before after
