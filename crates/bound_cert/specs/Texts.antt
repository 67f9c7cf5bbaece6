use Rattle.std.specs.Prelude.{ℕ, List, ◌++◌, codes, Option, Some, None}
use Rattle.std.specs.Fmt.{decimal}
use Rattle.bound_cert.specs.declared.fault.CertFault.{CertFault}
use Rattle.bound_cert.specs.declared.fault.CertFault.TheVariants.{Bad, OutOfMemory}

-- what is printed of the leaf at fault, and of the step there, if one is named
abbrev pub place_text : ℕ → Option ℕ → List ℕ
place_text leaf None = codes "the leaf at place " ++ (decimal leaf ++ codes " is not valid")
place_text leaf (Some step) =
    codes "the step at place " ++ (decimal step ++ (codes " of the leaf at place " ++ (decimal leaf ++ codes " is not valid")))

-- what is printed of a fault
abbrev pub text_of : CertFault → List ℕ
text_of (Bad leaf step) = place_text leaf step
text_of OutOfMemory = codes "out of memory"
