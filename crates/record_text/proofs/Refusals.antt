-- What a call has answered that failed for want of memory.
use Rattle.std.proofs.Common.{◌≡◌, ◌≢◌, Result, Ok, Err}
use Rattle.std.specs.Prelude.{IfErr, IfOk}
use Rattle.std.specs.Result.{IsErrAnd}

-- no value
pub no_value : {T E : Type 0} (r : Result T E) (Q : E → Type 0) (P : T → Type 0) → IsErrAnd r Q → IfOk r P
no_value (Ok x) Q P failed = absurd failed
no_value (Err e) Q P failed = tt

-- no fault but this one
pub no_other_fault : {T E : Type 0} (r : Result T E) (refused : E) (P : E → Type 0) → IsErrAnd r (λ e. e ≡ refused)
    → IfErr r (λ e. e ≢ refused → P e)
no_other_fault (Ok x) refused P failed = tt
no_other_fault (Err e) refused P failed = λ other. absurd (other failed)
