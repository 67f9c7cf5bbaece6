use Rattle.std.proofs.Common.{◌≡◌, ◌≢◌, ℕ, zero, suc, ◌+◌, ◌<◌, ◌≤◌, ◌&&◌, not, Bool, true, false, List, [], ◌∷◌, Some, drop, get_or, length, refl, sym, ap}
use Rattle.std.proofs.Common.{◌∙◌, add-one, arith}
use Rattle.std.specs.Bool.{beq}
use Rattle.std.proofs.Math.Seq.{drop-cons}
use Rattle.std.proofs.lemmas.List.{drop_all}
use Rattle.bound_cert.specs.inner.Tasks.{path_before}
use Rattle.bound_cert.specs.Trees.{all_changed, all_kept, comes_next}
use Rattle.bound_cert.specs.declared.cert.Leaf.{Leaf}

-- The loop that compares two paths, and the leaf before one.

-- a function of what is left of two lists, with the next element of both
pub at_both : {X Y Z : Type 0} (F : List X → List Y → Z) (xs : List X) (ys : List Y) (i : ℕ) (d : X) (e : Y) → i < length xs → i < length ys
    → F (drop i xs) (drop i ys) ≡ F (get_or xs i d ∷ drop (i + 1) xs) (get_or ys i e ∷ drop (i + 1) ys)
at_both F xs ys i d e within below = rw (add-one) (ap (λ zs. F zs (drop i ys)) (drop-cons xs i d within)
    ∙ ap (λ zs. F (get_or xs i d ∷ drop (suc i) xs) zs) (drop-cons ys i e below))

next-none : (first : List Bool) → comes_next first [] ≡ false
next-none [] = refl
next-none (true ∷ first) = refl
next-none (false ∷ first) = refl

-- where one path ends, the other does not come next
pub next-ended : (first second : List Bool) (i : ℕ) → length second ≤ i → comes_next (drop i first) (drop i second) ≡ comes_next first second → false
    ≡ comes_next first second
next-ended first second i past before = sym (next-none (drop i first)) ∙ ap (λ (q : List Bool). comes_next (drop i first) q) (sym (drop_all i second past))
    ∙ before

pub next-begun : (first second : List Bool) (i : ℕ) → length first ≤ i → comes_next (drop i first) (drop i second) ≡ comes_next first second → false
    ≡ comes_next first second
next-begun first second i past before = ap (λ (q : List Bool). comes_next q (drop i second)) (sym (drop_all i first past)) ∙ before

-- equal letters, and others
same-letters : (a b : Bool) → not (beq a b) ≡ false → a ≡ b
same-letters true true is = refl
same-letters false false is = refl
same-letters true false is = absurd (cc)
same-letters false true is = absurd (cc)

apart-letters : (a b : Bool) → not (beq a b) ≡ true → a ≢ b
apart-letters true true is = absurd (cc)
apart-letters false false is = absurd (cc)
apart-letters true false is = λ same. absurd (cc)
apart-letters false true is = λ same. absurd (cc)

-- past an equal letter
next-same : (a b : Bool) (first second : List Bool) → a ≡ b → comes_next (a ∷ first) (b ∷ second) ≡ comes_next first second
next-same true true first second same = refl
next-same false false first second same = refl
next-same true false first second same = absurd (cc)
next-same false true first second same = absurd (cc)

pub next-more : (first second : List Bool) (i : ℕ) → i < length first → i < length second → not (beq (get_or first i false) (get_or second i false)) ≡ false
    → comes_next (drop i first) (drop i second) ≡ comes_next first second → comes_next (drop (i + 1) first) (drop (i + 1) second) ≡ comes_next first second
next-more first second i within below same before =
    sym (next-same (get_or first i false) (get_or second i false) (drop (i + 1) first) (drop (i + 1) second) (same-letters _ _ same))
    ∙ sym (at_both comes_next first second i false false within below) ∙ before

-- at a letter that differs
next-differs : (a b : Bool) (first second : List Bool) → a ≢ b → comes_next (a ∷ first) (b ∷ second) ≡ (not a && (all_changed first && all_kept second))
next-differs true true first second apart = absurd (apart refl)
next-differs false false first second apart = absurd (apart refl)
next-differs true false first second apart = refl
next-differs false true first second apart = refl

pub next-decided : (first second : List Bool) (i : ℕ) → i < length first → i < length second → not (beq (get_or first i false) (get_or second i false)) ≡ true
    → comes_next (drop i first) (drop i second) ≡ comes_next first second
    → (not (get_or first i false) && (all_changed (drop (i + 1) first) && all_kept (drop (i + 1) second))) ≡ comes_next first second
next-decided first second i within below apart before =
    sym (next-differs (get_or first i false) (get_or second i false) (drop (i + 1) first) (drop (i + 1) second) (apart-letters _ _ apart))
    ∙ sym (at_both comes_next first second i false false within below) ∙ before

-- the path of the leaf before
pub path_before-at : (leaves : List Leaf) (i : ℕ) (leaf : Leaf) → i < length leaves → leaf ≡ get_or leaves i leaf → path_before leaves (suc i) ≡ Some leaf.path
path_before-at [] i leaf below is = absurd (omega arith)
path_before-at (l ∷ leaves) zero leaf below is = ap (λ (x : Leaf). Some x.path) (sym is)
path_before-at (l ∷ leaves) (suc i) leaf below is = path_before-at leaves i leaf (omega arith) is
