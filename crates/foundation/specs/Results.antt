-- Answers that may be faults, one after the other.
use Rattle.std.specs.Prelude.{Result, Ok, Err}
use Rattle.std.specs.Result.{result_map_both}

-- what `next` answers to the value, and the fault itself where it is a fault
infixl 10 ◌>>=◌
abbrev pub ◌>>=◌ : {A B E : Type 0} → Result A E → (A → Result B E) → Result B E
(Ok value) >>= next = next value
(Err fault) >>= next = Err fault

-- the same answer, but a fault is turned into another one by `tell`
abbrev pub fault_as : {A E F : Type 0} → (E → F) → Result A E → Result A F
fault_as tell answer = result_map_both (λ value. value) tell answer
