-- What is printed of a fault.
use Rattle.std.specs.Prelude.{ℕ, List, ◌++◌, codes}
use Rattle.std.specs.Fmt.{decimal}
use Rattle.proof_grammar.specs.declared.fault.ProofFault.{ProofFault}
use Rattle.proof_grammar.specs.declared.fault.ProofFault.TheVariants as fault

-- what is printed of a fault
abbrev pub text_of : ProofFault → List ℕ
text_of (fault.At line) = codes "line " ++ decimal line ++ codes " of the proof can't go on"
text_of fault.OutOfMemory = codes "out of memory"
