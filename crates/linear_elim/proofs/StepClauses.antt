use Rattle.std.proofs.Common.{◌≡◌, Result, Ok, Err, IfOk, IfErr, IfSome, IsErrAnd, Option}
use Rattle.linear_elim.specs.Answers.{Answers}
use Rattle.linear_elim.proofs.StepLoops.{if_told}

-- What follows from an answer.

-- where a call answers, what follows from the lines that were computed
pub if_ok-lines : {A B E F : Type 0} (value : A → B) (told : E → Option F) (answer : Result B F) {P : A → Type 0} (result : Result A E)
    → ((a : A) → answer ≡ Ok (value a) → P a) → Answers value told result answer → IfOk result P
if_ok-lines value told answer (Ok a) follows answers = follows a answers
if_ok-lines value told answer (Err e) follows answers = tt

-- and where it tells a fault, what follows from that
pub if_err-fault : {A B E F : Type 0} (value : A → B) (told : E → Option F) (answer : Result B F) {P : F → Type 0} (result : Result A E)
    → ((f : F) → answer ≡ Err f → P f) → Answers value told result answer → IfErr result (λ e. IfSome (told e) P)
if_err-fault value told answer (Ok a) follows answers = tt
if_err-fault value told answer (Err e) follows answers = if_told (told e) follows answers

-- a fault that is handed on tells what it told
pub answers-handed : {A B E F : Type 0} (value : A → B) (told : E → Option F) (e : E) (result : Result A E) (answer : Result B F)
    → IsErrAnd result (λ x. x ≡ e) → IfSome (told e) (λ f. answer ≡ Err f) → Answers value told result answer
answers-handed value told e (Ok a) answer is tells = absurd is
answers-handed value told e (Err x) answer is tells = rw is tells

-- and what is said of it is said of the answer
pub said-handed : {A E : Type 0} (P : E → Type 0) (e : E) (result : Result A E) → IsErrAnd result (λ x. x ≡ e) → P e → IfErr result P
said-handed P e (Ok a) is said = tt
said-handed P e (Err x) is said = rw is said
