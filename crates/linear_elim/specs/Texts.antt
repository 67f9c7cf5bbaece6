use Rattle.std.specs.Prelude.{ℕ, List, codes}
use Rattle.linear_elim.specs.declared.fault.StepFault.{StepFault}
use Rattle.linear_elim.specs.declared.fault.StepFault.TheVariants as step
use Rattle.linear_elim.specs.declared.fault.SystemFault.{SystemFault}
use Rattle.linear_elim.specs.declared.fault.SystemFault.TheVariants as system

-- what is printed of a fault of a step
abbrev pub step_text : StepFault → List ℕ
step_text (step.Overflow first second place) = codes "a number of a combination is out of range"
step_text step.OutOfMemory = codes "out of memory"

-- what is printed of a fault of a system
abbrev pub system_text : SystemFault → List ℕ
system_text (system.Overflow field first second place) = codes "a number of a combination is out of range"
system_text system.OutOfMemory = codes "out of memory"
