-- A run that meets no fault of the desk or the printer.
use Rattle.std.proofs.Common.{◌≡◌, ◌∙◌, ◌+◌, ◌-◌, ◌^◌, ◌<◌, ℕ, arith, refl, sym}
use Rattle.std.proofs.Math.Nat.{min-eq_left}
use Rattle.edit_desk.specs.Desk.{raised}
use Rattle.run_parts.specs.Faults.{fault_status}
use Rattle.run_parts.specs.Run.{IsFaultless, Run, faults_by}
use Rattle.run_parts.specs.declared.fault.Fault.{Fault}
use Rattle.run_parts.specs.declared.fault.Fault.TheVariants as fault
use Rattle.run_parts.specs.declared.status.Status.TheVariants as status
use Rattle.run_parts.proofs.InputLaws.{IsBeside}

-- a count that does not stand at its end rises
pub raised-more : (n : ℕ) → n < 2 ^ 64 - 1 → raised n ≡ n → ⊥
raised-more n room same =
    let least : raised n ≡ n + 1 = min-eq_left (omega (arith, room)) in
    omega (arith, least, same)

-- where no fault is met, a refusal that says nothing of the files is want of memory
pub memory-left : (run : Run) (f : Fault) → IsBeside f → run.after.faults ≡ faults_by f run.before.faults → IsFaultless run → fault_status f
    ≡ status.OutOfMemory
memory-left run (fault.Read name) beside faults none = absurd (raised-more run.before.faults none.room (sym faults ∙ none.faults))
memory-left run (fault.Write name) beside faults none = absurd (raised-more run.before.faults none.room (sym faults ∙ none.faults))
memory-left run fault.OutOfMemory beside faults none = refl
memory-left run f beside faults none = absurd beside
