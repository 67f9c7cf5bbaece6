use Rattle.std.proofs.Common.{◌≡◌, inl, inr, ℕ, suc, ◌+◌, ◌≤◌, ◌<◌, add-one, drop, get_or, length, Bool, true, false, if◌then◌else◌, IsSomeAnd}
use Rattle.std.proofs.Common.{slice_get, List, [], ◌∷◌, Option, Some, None, refl, sym, ap, ◌∙◌, subst, arith}
use Rattle.std.specs.List.{find}
use Rattle.std.proofs.Math.Seq.{drop-cons}
use Rattle.std.proofs.lemmas.List.{drop_all}
use Rattle.std.proofs.lemmas.Option.{same_Some, slice_get_cases, slice_get_read}
use Rattle.edit_line.specs.Reductions.{lines_of}
use Rattle.edit_line.specs.declared.derived.Derived.{Derived}
use Rattle.edit_line.proofs.ListPlaces.{StandsAt, first-at, later-at, some_with}
use Rattle.linear_elim.specs.Combinations.{determines}
use Rattle.linear_elim.specs.Steps.{count_with, equality_from, pairs_count, substituted_count}

-- The first equality in which a field stands, and its place.

module _ (f : ℕ) where
  -- it stands at its place, and the field in it
  pub equality-at : (whole : List Derived) (i : ℕ) (lines : List Derived) (e : ℕ × Derived) → StandsAt whole i lines → equality_from f i lines ≡ Some e
      → (slice_get whole e.0 ≡ Some e.1) × (determines f e.1.line ≡ true)
  equality-at whole i [] e at found = absurd (cc)
  equality-at whole i (s ∷ lines) e at found = by (determines f s.line) refl found (equality-at whole (suc i) lines e (later-at whole i s lines at))
    where
      by : (b : Bool) → determines f s.line ≡ b → (if b then Some (i, s) else equality_from f (suc i) lines) ≡ Some e
          → (equality_from f (suc i) lines ≡ Some e → (slice_get whole e.0 ≡ Some e.1) × (determines f e.1.line ≡ true))
          → (slice_get whole e.0 ≡ Some e.1) × (determines f e.1.line ≡ true)
      by true is h rest =
          let same : (i, s) ≡ e = same_Some (i, s) e h in
          subst (λ (p : ℕ × Derived). (slice_get whole p.0 ≡ Some p.1) × (determines f p.1.line ≡ true)) same (first-at whole i s lines at, is)
      by false is h rest = rest h

  -- and not before the place where the search begins
  pub equality-past : (i : ℕ) (lines : List Derived) (e : ℕ × Derived) → equality_from f i lines ≡ Some e → i ≤ e.0
  equality-past i [] e found = absurd (cc)
  equality-past i (s ∷ lines) e found = by (determines f s.line) found (equality-past (suc i) lines e)
    where
      by : (b : Bool) → (if b then Some (i, s) else equality_from f (suc i) lines) ≡ Some e → (equality_from f (suc i) lines ≡ Some e → suc i ≤ e.0) → i ≤ e.0
      by true h rest = let same : i ≡ e.0 = ap (λ (p : ℕ × Derived). p.0) (same_Some (i, s) e h) in omega (arith, same)
      by false h rest = let later = rest h in omega (arith, later)

  -- without places it is the same
  pub equality-plain : (i : ℕ) (lines : List Derived) (e : ℕ × Derived) → equality_from f i lines ≡ Some e
      → find (determines f) (lines_of lines) ≡ Some e.1.line
  equality-plain i [] e found = absurd (cc)
  equality-plain i (s ∷ lines) e found = by (determines f s.line) found (equality-plain (suc i) lines e)
    where
      by : (b : Bool) → (if b then Some (i, s) else equality_from f (suc i) lines) ≡ Some e
          → (equality_from f (suc i) lines ≡ Some e → find (determines f) (lines_of lines) ≡ Some e.1.line)
          → (if b then Some s.line else find (determines f) (lines_of lines)) ≡ Some e.1.line
      by true h rest = ap (λ (p : ℕ × Derived). Some p.1.line) (same_Some (i, s) e h)
      by false h rest = rest h

  pub no_equality-plain : (i : ℕ) (lines : List Derived) → equality_from f i lines ≡ None → find (determines f) (lines_of lines) ≡ None
  no_equality-plain i [] none = refl
  no_equality-plain i (s ∷ lines) none = by (determines f s.line) none (no_equality-plain (suc i) lines)
    where
      by : (b : Bool) → (if b then Some (i, s) else equality_from f (suc i) lines) ≡ None
          → (equality_from f (suc i) lines ≡ None → find (determines f) (lines_of lines) ≡ None)
          → (if b then Some s.line else find (determines f) (lines_of lines)) ≡ None
      by true h rest = absurd (cc)
      by false h rest = rest h

-- ---- as it is found in Rust

-- the first equality, as it is told: the line at this place
abbrev pub IsFirstEquality : ℕ → List Derived → ℕ → Type 0
IsFirstEquality f lines k = IsSomeAnd (slice_get lines k) (λ (e : Derived). equality_from f 0 lines ≡ Some (k, e))

-- it is found where the search comes to it
pub equality-found : (f : ℕ) (lines : List Derived) (i : ℕ) (s : Derived) → i < length lines → s ≡ get_or lines i s → determines f s.line ≡ true
    → equality_from f i (drop i lines) ≡ equality_from f 0 lines → IsFirstEquality f lines i
equality-found f lines i s below at is so_far =
    let split : drop i lines ≡ s ∷ drop (suc i) lines = drop-cons lines i s below ∙ ap (λ (x : Derived). x ∷ drop (suc i) lines) (sym at) in
    let found : equality_from f 0 lines ≡ Some (i, s) =
    sym so_far ∙ ap (λ (ls : List Derived). equality_from f i ls) split
    ∙ ap (λ (b : Bool). if b then Some (i, s) else equality_from f (suc i) (drop (suc i) lines)) is in
    subst (λ (o : Option Derived). IsSomeAnd o (λ (e : Derived). equality_from f 0 lines ≡ Some (i, e)))
    (sym (slice_get_read lines (length lines) i s refl below at)) found

-- and past the last line there is none
pub equality-none : (f : ℕ) (lines : List Derived) (i : ℕ) → length lines ≤ i → equality_from f i (drop i lines) ≡ equality_from f 0 lines
    → equality_from f 0 lines ≡ None
equality-none f lines i past so_far = sym so_far ∙ ap (λ (ls : List Derived). equality_from f i ls) (drop_all i lines past)

-- a line further
pub equality-more : (f : ℕ) (lines : List Derived) (i : ℕ) (s : Derived) → i < length lines → s ≡ get_or lines i s → determines f s.line ≡ false
    → equality_from f i (drop i lines) ≡ equality_from f 0 lines → equality_from f (i + 1) (drop (i + 1) lines) ≡ equality_from f 0 lines
equality-more f lines i s below at is so_far =
    let split : drop i lines ≡ s ∷ drop (suc i) lines = drop-cons lines i s below ∙ ap (λ (x : Derived). x ∷ drop (suc i) lines) (sym at) in
    rw (add-one) (sym (ap (λ (ls : List Derived). equality_from f i ls) split
    ∙ ap (λ (b : Bool). if b then Some (i, s) else equality_from f (suc i) (drop (suc i) lines)) is) ∙ so_far)

module _ (f : ℕ) (lines : List Derived) (k : ℕ) (first : IsFirstEquality f lines k) where
  -- the line that is read at its place is it
  pub equality-read : (s : Derived) → k < length lines → s ≡ get_or lines k s → equality_from f 0 lines ≡ Some (k, s)
  equality-read s below at =
      subst (λ (o : Option Derived). IsSomeAnd o (λ (e : Derived). equality_from f 0 lines ≡ Some (k, e)))
      (slice_get_read lines (length lines) k s refl below at) first

  -- so there is one
  pub equality-below : length lines ≤ k → ⊥
  equality-below past = elim (slice_get_cases lines k).1 [
    | inl there ↦ (let (x, below, is, same) = there in omega (arith, below, past))
    | inr none ↦ subst (λ (o : Option Derived). IsSomeAnd o (λ (e : Derived). equality_from f 0 lines ≡ Some (k, e))) none.1 first
  ]

  -- its substitutions are counted
  pub equality-count : pairs_count lines f ≡ substituted_count f k 0 lines
  equality-count =
      let (e, at, is) = some_with (λ (e : Derived). equality_from f 0 lines ≡ Some (k, e)) (slice_get lines k) first in
      ap (λ o. count_with o lines f) is
