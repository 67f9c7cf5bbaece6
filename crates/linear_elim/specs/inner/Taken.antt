use Rattle.std.specs.Prelude.{◌≡◌, List, Option, Result, Ok, Err, IfSome}
use Rattle.std.specs.List.{fold}
use Rattle.edit_line.specs.Reductions.{with_derived}
use Rattle.edit_line.specs.declared.derived.Derived.{Derived}

-- the kept lines with those of the answer taken in, one by one, or the first fault
abbrev pub taken_in : {F : Type 0} → List Derived → Result (List Derived) F → Result (List Derived) F
taken_in kept (Ok more) = Ok (fold with_derived kept more)
taken_in kept (Err fault) = Err fault

-- the call takes what was computed in among the kept lines, or tells its first fault; a fault that tells nothing, as
-- want of memory, may always come
abbrev pub TakesIn : {A E F : Type 0}
    → (E → Option F) → List Derived → List Derived → Result A E → Result (List Derived) F → Type 0
TakesIn told old new (Ok done) answer = taken_in old answer ≡ Ok new
TakesIn told old new (Err e) answer = IfSome (told e) (λ f. answer ≡ Err f)
