use Rattle.std.specs.Prelude.{ℕ, List, ◌++◌, codes}
use Rattle.std.specs.Fmt.{decimal}
use Rattle.derivation.specs.declared.fault.StepsFault.{StepsFault}
use Rattle.derivation.specs.declared.fault.StepsFault.TheVariants.{Bad, OutOfMemory}

-- what is printed of a fault
abbrev pub text_of : StepsFault → List ℕ
text_of (Bad place) = codes "the step at place " ++ (decimal place ++ codes " is not valid")
text_of OutOfMemory = codes "out of memory"
