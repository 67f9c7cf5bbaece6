use Rattle.std.proofs.Common.{◌≡◌, ◌&&◌, ◌||◌, ◌==◌, ◌<◌, ◌++◌, not, if◌then◌else◌, Bool, true, false, ℕ, zero, suc, ℤ, pos, List, [], ◌∷◌, get_or, length}
use Rattle.std.proofs.Common.{refl, sym, ap, ◌∙◌, arith}
use Rattle.std.specs.List.{filter, fold, list_all, list_any, remove}
use Rattle.std.specs.Ordering.{int_eq}
use Rattle.std.proofs.lemmas.Bool.Decides.{Decides-int_eq}
use Rattle.edit_line.specs.inner.Keys.{key_of, key_with, keys_of, left_from, may_subsume, not_under}
use Rattle.edit_line.specs.Lines.{LineParts}
use Rattle.edit_line.specs.Reductions.{derived_from, with_derived}
use Rattle.edit_line.specs.declared.derived.Derived.{Derived}
use Rattle.edit_line.specs.declared.derived.Origin.{Origin}
use Rattle.edit_line.specs.Subsumption.{is_false, is_tighter, is_trivial, same_all, subsumes}
use Rattle.edit_line.proofs.BoolLaws.{true-first, true-second}
use Rattle.edit_line.proofs.SetLaws.{both_true}
use Rattle.edit_line.proofs.SubsumptionLaws.{same_all-Decides}

-- A line subsumes only lines with the same key, unless its own key is 0.

-- without a factor the key is 0
key-none : (factors : List ℤ) → list_all (λ a. int_eq a (pos 0)) factors ≡ true → key_of factors ≡ 0
key-none [] none = refl
key-none (a ∷ factors) none =
    let (here, rest) = both_true _ _ none in
    let is : a ≡ pos 0 = (Decides-int_eq a (pos 0)).0 here in
    ap (λ (b : ℤ). fold key_with (key_with 0 b) factors) is ∙ key-none factors rest

equal_itself : (m n : ℕ) → m ≡ n → (m == n) ≡ true
equal_itself m n same = grind arith

false_true : false ≡ true → ⊥
false_true e = cc

may-subsume : (a b : LineParts) → subsumes a b ≡ true → may_subsume (key_of a.factors) (key_of b.factors) ≡ true
may-subsume a b test = by (is_false a) refl (both_true _ _ test).1
  where
    by : (f : Bool) → is_false a ≡ f → (f || (same_all a.factors b.factors && is_tighter a b)) ≡ true → may_subsume (key_of a.factors) (key_of b.factors) ≡ true
    by true never either = true-second _ _ (equal_itself _ 0 (key-none a.factors (both_true _ _ never).0))
    by false _ either = true-first _ _ (equal_itself _ _ (ap key_of ((same_all-Decides a.factors b.factors).0 (both_true _ _ either).0)))

-- so a line subsumes no line whose key does not agree
pub keys-apart : (a b : LineParts) (m n : ℕ) → m ≡ key_of a.factors → n ≡ key_of b.factors → may_subsume m n ≡ false → subsumes a b ≡ false
keys-apart a b m n first second apart = by (subsumes a b) refl
  where
    by : (q : Bool) → subsumes a b ≡ q → subsumes a b ≡ false
    by true test = absurd (false_true (sym apart ∙ ap (λ k. may_subsume k n) first ∙ ap (λ k. may_subsume (key_of a.factors) k) second ∙ may-subsume a b test))
    by false test = test

-- the keys of what is left when a line is removed
pub keys-removed : (lines : List Derived) (place : ℕ) → remove (keys_of lines) place ≡ keys_of (remove lines place)
keys-removed [] place = keys-none place
  where
    keys-none : (place : ℕ) → remove (keys_of []) place ≡ keys_of (remove [] place)
    keys-none zero = refl
    keys-none (suc place) = refl
keys-removed (d ∷ lines) zero = refl
keys-removed (d ∷ lines) (suc place) = ap (λ ks. key_of d.line.factors ∷ ks) (keys-removed lines place)

-- the lines that are left, where the one at the place is subsumed and removed
pub left-removed : (line : LineParts) (lines : List Derived) (place : ℕ) (d : Derived) → place < length lines → d ≡ get_or lines place d
    → subsumes line d.line ≡ true → left_from place line (remove lines place) ≡ left_from place line lines
left-removed line [] place d below is under = absurd (omega arith)
left-removed line (e ∷ lines) zero d below is under =
    sym (ap (λ b. if not b then e ∷ not_under line lines else not_under line lines) (ap (λ (x : Derived). subsumes line x.line) (sym is) ∙ under))
left-removed line (e ∷ lines) (suc place) d below is under = ap (λ (ds : List Derived). e ∷ ds) (left-removed line lines place d (omega arith) is under)

-- the lines that are left, where the one at the place is not subsumed
pub left-passed : (line : LineParts) (lines : List Derived) (place : ℕ) (d : Derived) → place < length lines → d ≡ get_or lines place d
    → subsumes line d.line ≡ false → left_from (suc place) line lines ≡ left_from place line lines
left-passed line [] place d below is over = absurd (omega arith)
left-passed line (e ∷ lines) zero d below is over =
    sym (ap (λ b. if not b then e ∷ not_under line lines else not_under line lines) (ap (λ (x : Derived). subsumes line x.line) (sym is) ∙ over))
left-passed line (e ∷ lines) (suc place) d below is over = ap (λ (ds : List Derived). e ∷ ds) (left-passed line lines place d (omega arith) is over)

-- a line that says something, and that no kept line subsumes, comes last
pub taken-last : (kept : List Derived) (line copy : LineParts) (origin : Origin) → copy ≡ line → is_trivial line ≡ false
    → list_any (λ (a : Derived). subsumes a.line line) kept ≡ false
    → filter (λ (b : Derived). not (subsumes copy b.line)) kept ++ derived_from copy origin ∷ [] ≡ with_derived kept (derived_from line origin)
taken-last kept line copy origin is says over =
    (λ k. filter (λ (b : Derived). not (subsumes (is k) b.line)) kept ++ derived_from (is k) origin ∷ [])
    ∙ sym (λ k. if says k || over k then kept else filter (λ (b : Derived). not (subsumes line b.line)) kept ++ derived_from line origin ∷ [])
