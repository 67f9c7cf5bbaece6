use Rattle.std.specs.Prelude.{ℕ, zero, suc, ◌^◌, List, [], ◌∷◌, ◌++◌, codes}
use Rattle.std.specs.Fmt.{decimal}
use Rattle.edit_model.specs.Parts.{SurveyParts}
use Rattle.edit_model.specs.declared.value.Value.{Value}
use Rattle.edit_language.specs.declared.fault.RulesFault.{RulesFault}
use Rattle.edit_language.specs.declared.fault.RulesFault.TheVariants as rules
use Rattle.edit_normal.specs.RuleEdits.{rule_edits}
use Rattle.record_text.specs.declared.fault.SheetFault.{SheetFault}
use Rattle.record_text.specs.declared.fault.SheetFault.TheVariants as sheet
use Rattle.bound_cert.specs.declared.outcome.Outcome.{Outcome}
use Rattle.bound_cert.specs.declared.outcome.Outcome.TheVariants.{Budget, Change, Contradictory, Overflow}
use Rattle.edit_paths.specs.Cases.{case_of}
use Rattle.edit_paths.specs.Outcomes.{outcome_of}
use Rattle.bench_frame.specs.declared.fault.Fault.{Fault}
use Rattle.bench_frame.specs.declared.fault.Fault.TheVariants as fault

-- ---- faults

-- the fault that a refused rule file is
abbrev pub rules_fault_of : RulesFault → Fault
rules_fault_of (rules.At line kind) = fault.Rules
rules_fault_of rules.OutOfMemory = fault.OutOfMemory

-- the fault that a refused record file is
abbrev pub sheet_fault_of : SheetFault → Fault
sheet_fault_of sheet.OutOfMemory = fault.OutOfMemory
sheet_fault_of _ = fault.Records

-- ---- what is told of the records

-- of a record: the least weight of a change, or why there is none
abbrev pub word_of : Outcome → List ℕ
word_of (Change path zero cert) = codes "clean"
word_of (Change path (suc w) cert) = decimal (suc w)
word_of (Budget path work) = codes "budget"
word_of (Overflow path event) = codes "overflow"
word_of (Contradictory cert) = codes "contradictory"

-- the line of the record of this number, from 0, over the edits of the survey's rules, with a budget of a million
abbrev pub record_line : SurveyParts → ℕ → List Value → List ℕ
record_line survey i row = decimal (suc i) ++ (44 ∷ (word_of (outcome_of (case_of survey (rule_edits survey) row) (10 ^ 6)) ++ 10 ∷ []))

-- the lines of the records, the first one's number being i
abbrev pub record_lines : SurveyParts → ℕ → List (List Value) → List ℕ
record_lines survey i [] = []
record_lines survey i (row ∷ rows) = record_line survey i row ++ record_lines survey (suc i) rows

-- what is printed of all records
abbrev pub search_text : SurveyParts → List (List Value) → List ℕ
search_text survey rows = (codes "record,weight" ++ 10 ∷ []) ++ record_lines survey 0 rows
