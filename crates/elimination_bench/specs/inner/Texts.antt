use Rattle.std.specs.Prelude.{◌≡◌, ⊤, ℕ, List, [], ◌∷◌, ◌++◌, Result, Ok, Err, codes, string_bytes, String}
use Rattle.std.specs.Fmt.{decimal}
use Rattle.std.specs.declared.alloc.Global.{Global}
use Rattle.bench_frame.specs.declared.fault.Fault.{Fault}
use Rattle.bench_frame.specs.declared.fault.Fault.TheVariants.{OutOfMemory, Overflow, Usage}
use Rattle.linear_elim.specs.declared.fault.StepFault.{StepFault}
use Rattle.linear_elim.specs.declared.fault.StepFault.TheVariants as step
use Rattle.linear_elim.specs.declared.fault.SystemFault.{SystemFault}
use Rattle.linear_elim.specs.declared.fault.SystemFault.TheVariants as system

-- the fault that is told of a step
abbrev pub step_fault_of : StepFault → Fault
step_fault_of (step.Overflow first second place) = Overflow
step_fault_of step.OutOfMemory = OutOfMemory

-- the fault that is told of a system that is not made
abbrev pub system_fault_of : SystemFault → Fault
system_fault_of (system.Overflow field first second place) = Overflow
system_fault_of system.OutOfMemory = OutOfMemory

-- a text is the answer's, and a fault is the answer's or want of memory
abbrev pub IsTold : Result (String Global) Fault → Result (List ℕ) Fault → Type 0
IsTold (Ok text) answer = answer ≡ Ok (string_bytes text)
IsTold (Err Usage) answer = answer ≡ Err Usage
IsTold (Err Overflow) answer = answer ≡ Err Overflow
IsTold (Err OutOfMemory) answer = ⊤
IsTold (Err _) answer = ⊥

-- what is printed of a fold: without how many fields, how many edits there were, and how many lines are left
abbrev pub fold_text : ℕ → ℕ → ℕ → List ℕ
fold_text count given left =
    codes "fields " ++ (decimal count ++ (codes " edits " ++ (decimal given ++ (codes " lines " ++ (decimal left ++ 10 ∷ [])))))

-- what is printed of a step: its field, the pairs that it combines, and the lines that are left
abbrev pub step_text : ℕ → ℕ → ℕ → List ℕ
step_text field pairs left =
    codes "field " ++ (decimal field ++ (codes " pairs " ++ (decimal pairs ++ (codes " lines " ++ (decimal left ++ 10 ∷ [])))))

-- what is printed of a list of this many steps that are all valid
abbrev pub accepted_text : ℕ → List ℕ
accepted_text count = codes "steps " ++ (decimal count ++ (codes " accepted" ++ 10 ∷ []))

-- what is printed of a list of this many steps, of which the one at the place is the first that is not valid
abbrev pub refused_text : ℕ → ℕ → List ℕ
refused_text count place = codes "steps " ++ (decimal count ++ (codes " refused at place " ++ (decimal place ++ 10 ∷ [])))
