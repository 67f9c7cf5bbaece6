use Rattle.std.specs.Prelude.{◌≡◌, Option, Result, Ok, Err, IfSome}

-- the call answers what was computed, or tells its first fault; a fault that tells nothing, as want of memory, may always come
abbrev pub Answers : {A B E F : Type 0} → (A → B) → (E → Option F) → Result A E → Result B F → Type 0
Answers value told (Ok a) answer = answer ≡ Ok (value a)
Answers value told (Err e) answer = IfSome (told e) (λ f. answer ≡ Err f)
