-- What is printed of a failed check.
use Rattle.std.specs.Prelude.{ℕ, List, ◌++◌, codes}
use Rattle.std.specs.Fmt.{decimal}
use Rattle.cert_check.specs.declared.fault.CheckFault.{CheckFault}
use Rattle.cert_check.specs.declared.fault.CheckFault.TheVariants as fault
use Rattle.cert_check.specs.declared.fault.Why.{Why}
use Rattle.cert_check.specs.declared.fault.Why.TheVariants as why

-- the word for a condition
abbrev pub why_text : Why → List ℕ
why_text why.Grammar = codes "Grammar"
why_text why.Head = codes "Head"
why_text why.Drop = codes "Drop"
why_text why.Table = codes "Table"
why_text why.Cert = codes "Cert"
why_text why.RowText = codes "RowText"
why_text why.Claims = codes "Claims"

-- what is printed of a fault
abbrev pub fault_text : CheckFault → List ℕ
fault_text (fault.Rejected line why) = codes "proof line " ++ (decimal line ++ (codes " " ++ why_text why))
fault_text fault.OutOfMemory = codes "out of memory"
