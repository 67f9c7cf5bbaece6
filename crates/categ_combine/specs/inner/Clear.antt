use Rattle.std.specs.Prelude.{◌≡◌, ◌||◌, ℕ, not, Bool, true, false, List, All, bit_and, nat_eq, slice_index_or, slice_set}
use Rattle.edit_line.specs.Reductions.{IsIn}
use Rattle.edit_line.specs.Sets.{are_subsets}
use Rattle.categ_combine.specs.Covers.{is_whole_at}
use Rattle.categ_combine.specs.declared.box_from.BoxFrom.{BoxFrom}
use Rattle.categ_combine.specs.declared.box_from.BoxOrigin.{BoxOrigin}
use Rattle.categ_combine.specs.declared.box_from.BoxOrigin.TheVariants.{Fixed}

-- whether the box was made whole at a field
abbrev pub was_fixed : BoxOrigin → Bool
was_fixed (Fixed i) = true
was_fixed _ = false

-- whether a later box is compared with a kept one of this origin: where the boxes lie apart, if that was made whole
abbrev pub is_compared : Bool → BoxOrigin → Bool
is_compared apart origin = not apart || was_fixed origin

-- whether the box has no code at the place but those of the whole set
abbrev pub is_within_at : ℕ → ℕ → List ℕ → Bool
is_within_at place whole sets = nat_eq (bit_and (slice_index_or sets place 0) whole) (slice_index_or sets place 0)

-- the kept box and a later one need no comparison but where a box was made whole at the place: the later one, made whole there,
-- does not lie inside a kept box that was not, and where the later one is whole there already, the kept box does not lie inside it
pub record IsClear (place whole : ℕ) (kept : BoxFrom) (sets : List ℕ) : Type 0 where
  pub unchanged : was_fixed kept.origin ≡ false → is_within_at place whole sets ≡ true
      → are_subsets (slice_set sets place whole) kept.code_box.sets ≡ false
  pub outside : is_whole_at place whole sets ≡ true → are_subsets kept.code_box.sets sets ≡ false

-- each kept box is clear of each later one, as above
abbrev pub AllClear : ℕ → ℕ → List BoxFrom → List BoxFrom → Type 0
AllClear place whole kept later = (b : BoxFrom) → IsIn b later → All (λ (k : BoxFrom). IsClear place whole k b.code_box.sets) kept
