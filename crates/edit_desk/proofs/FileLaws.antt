-- One more read or write: what it moved follows what was moved before.
use Rattle.std.proofs.Common.{◌≡◌, ◌≤◌, ℕ, ◌+◌, ◌-◌, List, ◌++◌, take, drop, length, sym, ap, ◌∙◌, subst, arith, Option}
use Rattle.std.proofs.lemmas.List.{take-append-drop, take-append-le, drop-take, take-take, length-take, length-append}
use Rattle.std.specs.Io.KnownBytes.{Appends, Consumes}
use Rattle.std.proofs.KnownBytes.{Appends-trans, Consumes-trans}

-- the first bytes, and some of those that follow
take_on : (bytes : List ℕ) (done n : ℕ) → take done bytes ++ take n (drop done bytes) ≡ take (done + n) bytes
take_on bytes done n =
    ap (λ l. l ++ take n (drop done bytes)) (sym (take-take done (done + n) bytes (omega arith)))
    ∙ ap (λ l. take done (take (done + n) bytes) ++ l) (sym (drop-take done n bytes))
    ∙ take-append-drop done (take (done + n) bytes)

-- a read gave more of the bytes that the reader had left
pub read_more : (a b c : Option (List ℕ)) (old buffer rest new : List ℕ) (count : ℕ) → new ≡ old ++ take count (buffer ++ rest) → count ≤ length buffer
    → Consumes a b old → Consumes b c (take count buffer) → Consumes a c new
read_more a b c old buffer rest new count e h p q =
    subst (Consumes a c) (ap (λ l. old ++ l) (sym (take-append-le count buffer rest h)) ∙ sym e) (Consumes-trans a b c old (take count buffer) p q)

-- a read of no more than the room that is left keeps within the limit
pub read_fits : (old moved new : List ℕ) (count limit : ℕ) → new ≡ old ++ take count moved → length old ≤ limit → count ≤ limit - length old
    → length new ≤ limit
read_fits old moved new count limit e h k = rw e (omega (arith, length-append old (take count moved), length-take count moved))

-- a write took more of the bytes
pub write_more : (a b c : Option (List ℕ)) (bytes rest : List ℕ) (done n : ℕ) → rest ≡ drop done bytes → Appends a b (take done bytes)
    → Appends b c (take n rest) → Appends a c (take (done + n) bytes)
write_more a b c bytes rest done n e p q = subst (Appends a c) (take_on bytes done n)
    (Appends-trans a b c (take done bytes) (take n (drop done bytes)) p (subst (λ (l : List ℕ). Appends b c (take n l)) e q))
