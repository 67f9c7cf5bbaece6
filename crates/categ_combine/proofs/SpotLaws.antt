use Rattle.std.proofs.Common.{◌≡◌, ℕ, zero, suc, ◌-◌, ◌<◌, ◌^◌, true, List, [], ◌∷◌, length, map, slice_index_or, slice_set, pow-suc, sym, ap, ◌∙◌}
use Rattle.std.proofs.Common.{subst, arith}
use Rattle.std.proofs.lemmas.Nat.{pow_pos}
use Rattle.edit_line.specs.inner.SetBounds.{AreWithin}
use Rattle.edit_line.specs.Sets.{AreSets, none_is_empty}
use Rattle.edit_line.specs.Shapes.{Domain, domain_with, whole_sets}
use Rattle.edit_line.proofs.SetLaws.{AreSets-length, AreSets-within}
use Rattle.edit_line.proofs.CombinationLaws.{length-meets}
use Rattle.edit_line.proofs.ShapeLaws.{length-wholes}
use Rattle.edit_line.proofs.WholeSets.{AreSets-whole, AreSets-wide, AreWithin-common, AreWithin-whole}
use Rattle.edit_line.specs.CodeFields.{TakesCodes, place_of, size_of, whole_of}
use Rattle.edit_line.specs.Combinations.{in_both}
use Rattle.categ_combine.specs.inner.Spots.{IsSpot}
use Rattle.edit_line.proofs.PointCodes.{place_of-below, whole_of-is}

-- A field's place in a box, and the sets of a box there.

-- the place is within each box
pub spot-within : (shape own : List Domain) (sets : List ℕ) (place whole : ℕ) → IsSpot shape place whole → own ≡ shape → AreSets sets (whole_sets own)
    → place < length sets
spot-within shape own sets place whole is over are = omega (arith, is.within, AreSets-length sets (whole_sets own) are, ap (λ s. length (whole_sets s)) over)

-- the whole set is that of a box over the same fields
own-whole : (shape own : List Domain) (place whole : ℕ) → IsSpot shape place whole → own ≡ shape → whole ≡ slice_index_or (whole_sets own) place 0
own-whole shape own place whole is over = is.whole_is ∙ ap (λ s. slice_index_or (whole_sets s) place 0) (sym over)

-- a box made whole there
pub made-whole : (shape own : List Domain) (sets : List ℕ) (place whole : ℕ) → IsSpot shape place whole → own ≡ shape → AreSets sets (whole_sets own)
    → AreSets (slice_set sets place whole) (whole_sets own)
made-whole shape own sets place whole is over are =
    subst (λ (w : ℕ). AreSets (slice_set sets place w) (whole_sets own)) (sym (own-whole shape own place whole is over))
    (AreSets-whole sets (whole_sets own) place are)

-- what two boxes have in common, made whole there
pub common-sets : (shape own other : List Domain) (first second : List ℕ) (place whole : ℕ) → IsSpot shape place whole → own ≡ shape → other ≡ shape
    → AreSets first (whole_sets own) → AreSets second (whole_sets other)
    → none_is_empty (slice_set (in_both first second) place whole) ≡ true → AreSets (slice_set (in_both first second) place whole) (whole_sets own)
common-sets shape own other first second place whole is over over' a b some =
    AreSets-within (slice_set (in_both first second) place whole) (whole_sets own) some (
    subst (λ (w : ℕ). AreWithin (slice_set (in_both first second) place w) (whole_sets own)) (sym (own-whole shape own place whole is over)) (
    AreWithin-whole (in_both first second) (whole_sets own) place (
    AreWithin-common first second (whole_sets own) (AreSets-wide first (whole_sets own) a)
    (AreSets-wide second (whole_sets own) (subst (λ s. AreSets second (whole_sets s)) (over' ∙ sym over) b))
    )
    )
    )

pub common-within : (shape own other : List Domain) (first second : List ℕ) (place whole : ℕ) → IsSpot shape place whole → own ≡ shape → other ≡ shape
    → AreSets first (whole_sets own) → AreSets second (whole_sets other) → place < length (in_both first second)
common-within shape own other first second place whole is over over' a b =
    omega (
      arith,
      spot-within shape own first place whole is over a,
      spot-within shape other second place whole is over' b,
      length-meets first second (omega (
        arith,
        AreSets-length first (whole_sets own) a,
        AreSets-length second (whole_sets other) b,
        ap (λ s. length (whole_sets s)) (over ∙ sym over'),
      )),
    )

-- the whole sets are sets
pub some_codes : (k : ℕ) → 0 < k → 0 < 2 ^ k - 1
some_codes zero some = absurd (omega arith)
some_codes (suc k) some = omega (arith, pow-suc 2 k, pow_pos k)

pub wholes-are : (counts : List ℕ) → AreSets (whole_sets (map domain_with counts)) (whole_sets (map domain_with counts))
wholes-are [] = tt
wholes-are (zero ∷ counts) = wholes-are counts
wholes-are (suc k ∷ counts) = (some_codes (suc k) (omega arith), omega arith, wholes-are counts)

-- where a field stands
pub spot-of : (shape : List Domain) (f place whole : ℕ) → TakesCodes shape f → place ≡ place_of shape f → whole ≡ whole_of shape f → IsSpot shape place whole
spot-of shape f place whole takes at is = record {
  within = omega (arith, at, place_of-below shape f takes, length-wholes 0 shape);
  whole_is = is ∙ ap (λ n. slice_index_or (whole_sets shape) n 0) (sym at);
  some = omega (arith, is, whole_of-is shape f takes, some_codes (size_of shape f) takes);
}
