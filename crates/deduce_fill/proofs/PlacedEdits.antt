use Rattle.std.proofs.Common.{◌≡◌, ℕ, zero, suc, ◌+◌, ◌<◌, ◌++◌, true, false, List, [], ◌∷◌, Some, get_or, inl, inr, length, map, slice_get, slice_index_or}
use Rattle.std.proofs.Common.{refl, sym, ap, ◌∙◌, subst, arith}
use Rattle.std.specs.List.Sorted.{IsStrictlyIncreasing}
use Rattle.std.proofs.lemmas.List.{length-map}
use Rattle.edit_line.specs.EditSets.{lines_without}
use Rattle.edit_line.specs.Lines.{LineParts}
use Rattle.edit_line.specs.Reductions.{IsIn}
use Rattle.derivation.specs.Refutations.{trues}
use Rattle.edit_paths.specs.Cases.{AreUsableAmong}
use Rattle.deduce_fill.specs.Tests.{ArePlacedFrom}

-- Edits that are numbered by their places.

abbrev numbers : List (ℕ × LineParts) → List ℕ
numbers edits = map (λ (e : ℕ × LineParts). e.0) edits

number-at : (i k : ℕ) (edits : List (ℕ × LineParts)) → ArePlacedFrom i edits → k < length edits → get_or (numbers edits) k 0 ≡ i + k
number-at i k [] placed below = absurd (omega arith)
number-at i zero (e ∷ edits) placed below = placed.0 ∙ omega arith
number-at i (suc k) (e ∷ edits) placed below = number-at (suc i) k edits placed.1 (omega arith) ∙ omega arith

pub placed-rising : (edits : List (ℕ × LineParts)) → ArePlacedFrom 0 edits → IsStrictlyIncreasing (numbers edits)
placed-rising edits placed k below =
    let long = length-map edits (λ (e : ℕ × LineParts). e.0) in
    let here = number-at 0 k edits placed (omega (arith, long, below)) in
    let next = number-at 0 (k + 1) edits placed (omega (arith, long, below)) in
    omega (arith, here, next)

pub placed-more : (i n : ℕ) (edits : List (ℕ × LineParts)) (line : LineParts) → ArePlacedFrom i edits → n ≡ i + length edits
    → ArePlacedFrom i (edits ++ (n, line) ∷ [])
placed-more i n [] line placed is = (is ∙ omega arith, tt)
placed-more i n (e ∷ edits) line placed is = (placed.0, placed-more (suc i) n edits line placed.1 (is ∙ omega arith))

-- each stands among the lines at its number
there-at : (i : ℕ) (edits : List (ℕ × LineParts)) (e : ℕ × LineParts) → ArePlacedFrom i edits → IsIn e edits
    → (k : ℕ) × (e.0 ≡ i + k) × (slice_get (lines_without edits) k ≡ Some e.1) × (slice_index_or (trues (length (lines_without edits))) k false ≡ true)
there-at i [] e placed there = absurd there
there-at i (first ∷ edits) e placed (inl same) =
    (0, ap (λ (x : ℕ × LineParts). x.0) same ∙ placed.0 ∙ omega arith, ap (λ (x : ℕ × LineParts). Some x.1) (sym same), refl)
there-at i (first ∷ edits) e placed (inr there) =
    let (k, number, at, usable) = there-at (suc i) edits e placed.1 there in (suc k, number ∙ omega arith, at, usable)

pub placed-usable : (edits : List (ℕ × LineParts)) → ArePlacedFrom 0 edits → AreUsableAmong (lines_without edits) (trues (length (lines_without edits))) edits
placed-usable edits placed e there =
    let (k, number, at, usable) = there-at 0 edits e placed there in (
      subst (λ n. slice_get (lines_without edits) n ≡ Some e.1) (sym (number ∙ omega arith)) at,
      subst
          (λ n. slice_index_or (trues (length (lines_without edits))) n false ≡ true) (sym (number ∙ omega arith)) usable,
    )
