use Rattle.std.proofs.Common.{◌≡◌, ◌&&◌, ◌||◌, Bool, true, false, refl}
use Rattle.std.specs.Bool.{Decides}

-- Two tests at once.

-- by the answer of a test
pub by_test : {P : Type 0} (b : Bool) → (b ≡ true → P) → (b ≡ false → P) → P
by_test true holds fails = holds refl
by_test false holds fails = fails refl

pub true-both : (a b : Bool) → a ≡ true → b ≡ true → (a && b) ≡ true
true-both true b first second = second
true-both false b first second = first

pub true-first : (a b : Bool) → a ≡ true → (a || b) ≡ true
true-first true b first = refl
true-first false b first = absurd (cc)

pub true-second : (a b : Bool) → b ≡ true → (a || b) ≡ true
true-second true b second = refl
true-second false b second = second

pub false-both : (a b : Bool) → (a || b) ≡ false → (a ≡ false) × (b ≡ false)
false-both true b neither = absurd (cc)
false-both false b neither = (refl, neither)

pub or_true : (b : Bool) → (b || true) ≡ true
or_true true = refl
or_true false = refl

pub and_true : (b : Bool) → (b && true) ≡ b
and_true true = refl
and_true false = refl

pub or_grouped : (a b c : Bool) → ((a || b) || c) ≡ (a || (b || c))
or_grouped true b c = refl
or_grouped false b c = refl

pub and_grouped : (a b c : Bool) → (a && (b && c)) ≡ ((a && b) && c)
and_grouped true b c = refl
and_grouped false b c = refl

pub or_none : (a : Bool) → (a || false) ≡ a
or_none true = refl
or_none false = refl

-- two tests, both true
pub both_true : (a b : Bool) → (a && b) ≡ true → (a ≡ true) × (b ≡ true)
both_true true b h = (refl, h)
both_true false b h = absurd (cc)

pub and_false : (a : Bool) → (a && false) ≡ false
and_false true = refl
and_false false = refl

-- both facts are decided by both tests
pub both_decide : {P Q : Type 0} (a b : Bool) → Decides a P → Decides b Q → Decides (a && b) (P × Q)
both_decide true b p q = (λ h. (p.0 refl, q.0 h), λ h. q.1 h.1)
both_decide false b p q = (λ h. absurd (cc), λ h. p.1 h.0)
