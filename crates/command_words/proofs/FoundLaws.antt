-- What is found for options, and how it is told.
use Rattle.std.proofs.Common.{◌≡◌, ◌&&◌, Bool, true, false, Bor, Option, Some, None, List, ℕ, refl, sym}
use Rattle.std.specs.Prelude.{IfNone, IfSome, option_map}

-- ---- the text of an option

pub some_text : (given : Option (Bor (List ℕ))) (text : Option (List ℕ)) → option_map (λ (t : Bor (List ℕ)). t.now) given ≡ text
    → IfSome given (λ t. text ≡ Some t.now)
some_text None text e = tt
some_text (Some t) text e = sym e

pub no_text : (given : Option (Bor (List ℕ))) (text : Option (List ℕ)) → option_map (λ (t : Bor (List ℕ)). t.now) given ≡ text → IfNone given (text ≡ None)
no_text None text e = sym e
no_text (Some t) text e = tt

-- ---- the kind of a command

pub both_left : (a b : Bool) → (a && b) ≡ true → a ≡ true
both_left true b e = refl
both_left false b e = e
