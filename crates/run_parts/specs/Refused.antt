-- The refusals that the parts of the program hand on.
use Rattle.std.specs.Prelude.{⊤, ◌<◌, List, length}
use Rattle.edit_language.specs.declared.fault.RulesFault.{RulesFault}
use Rattle.edit_language.specs.declared.fault.RulesFault.TheVariants as rules
use Rattle.edit_model.specs.declared.field.Field.{Field}
use Rattle.record_text.specs.declared.fault.SheetFault.{SheetFault}
use Rattle.record_text.specs.declared.fault.SheetFault.TheVariants as sheet
use Rattle.cert_check.specs.declared.fault.CheckFault.{CheckFault}
use Rattle.cert_check.specs.declared.fault.CheckFault.TheVariants as check
use Rattle.run_parts.specs.declared.fault.Fault.{Fault}
use Rattle.run_parts.specs.declared.fault.Fault.TheVariants.{Rules, Rejected, OutOfMemory}

-- the refusal for rules that were not read
abbrev pub rules_fault : RulesFault → Fault
rules_fault (rules.At line kind) = Rules line kind
rules_fault rules.OutOfMemory = OutOfMemory

-- the refusal for files that are no valid release
abbrev pub check_fault : CheckFault → Fault
check_fault (check.Rejected line why) = Rejected line why
check_fault check.OutOfMemory = OutOfMemory

-- a fault that names a field names one of these
abbrev pub IsOfFields : List Field → SheetFault → Type 0
IsOfFields fields (sheet.NoColumn number) = number < length fields
IsOfFields fields (sheet.DoubleColumn number) = number < length fields
IsOfFields fields fault = ⊤
