use Rattle.std.specs.Prelude.{ℕ, List, codes}
use Rattle.edit_model.specs.declared.fault.SurveyFault.{SurveyFault}
use Rattle.edit_model.specs.declared.fault.SurveyFault.TheVariants as faults

-- what a fault is told as
abbrev pub fault_text : SurveyFault → List ℕ
fault_text faults.Malformed = codes "the survey is not well formed"
fault_text faults.OutOfMemory = codes "out of memory"
