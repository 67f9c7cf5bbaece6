-- What an answer says, clause by clause.
use Rattle.std.proofs.Common.{◌≡◌, ℕ, Result, Ok, Err, IfOk, OnOk}
use Rattle.cert_check.specs.Releases.{Audit, IsFirstFailure, IsReleasedCount, IsValidRelease}
use Rattle.cert_check.specs.declared.fault.CheckFault.{CheckFault}
use Rattle.cert_check.specs.declared.fault.CheckFault.TheVariants as fault
use Rattle.cert_check.specs.declared.fault.Why.{Why}
use Rattle.cert_check.specs.inner.Answers.{Answers}

module _ (a : Audit) where
  pub answers-valid : {P : Type 0} → (IsValidRelease a → P) → (result : Result ℕ CheckFault) → Answers a result → OnOk result P
  answers-valid then (Ok count) answers = then answers.0
  answers-valid then (Err f) answers = tt

  pub answers-count : (result : Result ℕ CheckFault) → Answers a result → IfOk result (IsReleasedCount a)
  answers-count (Ok count) answers = answers.1
  answers-count (Err f) answers = tt

  refused : (result : Result ℕ CheckFault) (line : ℕ) (w : Why) → Answers a result → result ≡ Err (fault.Rejected line w) → IsFirstFailure a line w
      × ¬ IsValidRelease a
  refused result line w answers is = rw is at answers

  pub answers-rejected : (result : Result ℕ CheckFault) → Answers a result → (line : ℕ) (w : Why) → result ≡ Err (fault.Rejected line w)
      → IsFirstFailure a line w
  answers-rejected result answers line w is = (refused result line w answers is).0

  pub answers-invalid : (result : Result ℕ CheckFault) → Answers a result → (line : ℕ) (w : Why) → result ≡ Err (fault.Rejected line w) → ¬ IsValidRelease a
  answers-invalid result answers line w is = (refused result line w answers is).1
