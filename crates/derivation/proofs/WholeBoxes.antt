use Rattle.std.proofs.Common.{◌≡◌, ℕ, ◌<◌, true, List, Some, length, slice_index_or, slice_set, sym, ap, subst, arith}
use Rattle.edit_line.specs.inner.SetBounds.{AreWithin}
use Rattle.edit_line.specs.Combinations.{in_both}
use Rattle.edit_line.specs.Sets.{AreSets, none_is_empty}
use Rattle.edit_line.specs.Shapes.{Domain, code_fields, whole_sets}
use Rattle.edit_line.proofs.SetLaws.{AreSets-within, AreWithin-length}
use Rattle.derivation.specs.inner.Meanings.{place_there}
use Rattle.derivation.proofs.CodePlaces.{place-wholes}
use Rattle.edit_line.proofs.WholeSets.{AreSets-whole, AreSets-wide, AreWithin-common, AreWithin-whole}

-- Boxes that are made whole at the place of a categorical field.

-- a place among the whole sets is one of each box
pub within-box : (shape own : List Domain) (place : ℕ) (sets read : List ℕ) → place < length (whole_sets shape) → own ≡ shape → AreSets sets (whole_sets own)
    → read ≡ sets → place < length read
within-box shape own place sets read below over are is =
    omega (
      arith,
      below,
      AreWithin-length sets (whole_sets own) (AreSets-wide sets (whole_sets own) are),
      ap length is,
      ap (λ (s : List Domain). length (whole_sets s)) over,
    )

-- sets that are within the whole sets are as many as those of a box
pub as-many : (wholes common sets : List ℕ) → AreWithin common wholes → AreSets sets wholes → length sets ≡ length common
as-many wholes common sets within are =
    omega (arith, AreWithin-length common wholes within, AreWithin-length sets wholes (AreSets-wide sets wholes are))

-- and what they have in common with it is within the whole sets
pub still-within : (wholes common sets next : List ℕ) → AreWithin common wholes → AreSets sets wholes → next ≡ in_both common sets → AreWithin next wholes
still-within wholes common sets next within are next_is =
    subst (λ (ns : List ℕ). AreWithin ns wholes) (sym next_is) (AreWithin-common common sets wholes within (AreSets-wide sets wholes are))

module _ (shape : List Domain) (f place : ℕ) (wholes : List ℕ) (at : place_there (code_fields shape) f ≡ Some place)
    (wholes_are : wholes ≡ whole_sets shape) where
  -- the place is within the sets
  pub within-wholes : place < length wholes
  within-wholes = omega (arith, place-wholes shape f place at, ap length wholes_are)

  pub within-sets : (sets : List ℕ) → AreWithin sets (whole_sets shape) → place < length sets
  within-sets sets within = omega (arith, place-wholes shape f place at, AreWithin-length sets (whole_sets shape) within)

  -- a box of its own, made whole
  pub whole-fits : (own : List Domain) (sets read : List ℕ) → own ≡ shape → AreSets sets (whole_sets own) → read ≡ sets
      → AreSets (slice_set read place (slice_index_or wholes place 0)) (whole_sets shape)
  whole-fits own sets read over are is =
      subst (λ (rs : List ℕ). AreSets (slice_set rs place (slice_index_or wholes place 0)) (whole_sets shape)) (sym is) (
      subst (λ (ws : List ℕ). AreSets (slice_set sets place (slice_index_or ws place 0)) (whole_sets shape)) (sym wholes_are)
      (AreSets-whole sets (whole_sets shape) place (subst (λ (s : List Domain). AreSets sets (whole_sets s)) over are))
      )

  -- what the parts have in common is a box, where it has codes
  pub common-fits : (common : List ℕ) → AreWithin common (whole_sets shape) → none_is_empty (slice_set common place (slice_index_or wholes place 0)) ≡ true
      → AreSets (slice_set common place (slice_index_or wholes place 0)) (whole_sets shape)
  common-fits common within full =
      AreSets-within (slice_set common place (slice_index_or wholes place 0)) (whole_sets shape) full
      (subst (λ (ws : List ℕ). AreWithin (slice_set common place (slice_index_or ws place 0)) (whole_sets shape)) (sym wholes_are)
      (AreWithin-whole common (whole_sets shape) place within))
