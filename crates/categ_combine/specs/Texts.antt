use Rattle.std.specs.Prelude.{ℕ, List, ◌++◌, codes}
use Rattle.std.specs.Fmt.{decimal}
use Rattle.categ_combine.specs.declared.fault.BoxFault.{BoxFault}
use Rattle.categ_combine.specs.declared.fault.BoxFault.TheVariants.{OutOfMemory, Overflow}

-- what is printed of a fault
abbrev pub text_of : BoxFault → List ℕ
text_of (Overflow line field) = codes "a number of line " ++ (decimal line ++ (codes " is out of range at field " ++ decimal field))
text_of OutOfMemory = codes "out of memory"
