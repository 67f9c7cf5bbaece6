use Rattle.std.specs.Prelude.{Option, Some, None}
use Rattle.linear_elim.specs.Steps.{StepOverflow}
use Rattle.linear_elim.specs.Systems.{SystemOverflow, overflow_at}
use Rattle.linear_elim.specs.declared.fault.StepFault.{StepFault}
use Rattle.linear_elim.specs.declared.fault.StepFault.TheVariants as step
use Rattle.linear_elim.specs.declared.fault.SystemFault.{SystemFault}
use Rattle.linear_elim.specs.declared.fault.SystemFault.TheVariants as system

-- the overflow that a fault of a step tells; want of memory tells nothing
abbrev pub told_step : StepFault → Option StepOverflow
told_step (step.Overflow first second place) = Some (record { first = first; second = second; place = place })
told_step step.OutOfMemory = None

-- the overflow that a fault of a system tells; want of memory tells nothing
abbrev pub told_system : SystemFault → Option SystemOverflow
told_system (system.Overflow field first second place) = Some (overflow_at field (record { first = first; second = second; place = place }))
told_system system.OutOfMemory = None
