use Rattle.std.proofs.Common.{◌≡◌, ℕ, zero, suc, ◌+◌, ◌-◌, ◌<◌, ◌≤◌, ◌^◌, ◌++◌, not, nat_eq, true, List, [], ◌∷◌, bit_and, drop, get_or, length, map}
use Rattle.std.proofs.Common.{slice_index_or, slice_set, refl, sym, ap, ◌∙◌, subst, add-one, arith}
use Rattle.std.proofs.Math.Nat.{mod-eq_of_lt, one-le-pow}
use Rattle.std.proofs.Math.Seq.{drop-cons}
use Rattle.std.proofs.lemmas.Nat.{and_comm, and_le_l, and_mask}
use Rattle.std.proofs.lemmas.Nat.Bits.{bit_at_and, same_from_bits}
use Rattle.edit_line.specs.inner.SetBounds.{AreWithin}
use Rattle.edit_line.specs.Combinations.{all_meet, in_both}
use Rattle.edit_line.specs.Sets.{AreCodesIn, AreSets}
use Rattle.edit_line.specs.Shapes.{Categorical, Domain, Numerical, domain_with, whole_sets}
use Rattle.edit_line.proofs.BoolLaws.{true-both}
use Rattle.edit_line.proofs.CombinationLaws.{meets-inside}

-- Sets of codes that are made whole at a place, and what sets have in common.

-- sets with codes of their own are within their fields' codes
pub AreSets-wide : (sets wholes : List ℕ) → AreSets sets wholes → AreWithin sets wholes
AreSets-wide [] [] are = tt
AreSets-wide [] (w ∷ wholes) are = absurd are
AreSets-wide (s ∷ sets) [] are = absurd are
AreSets-wide (s ∷ sets) (w ∷ wholes) are = (are.1, AreSets-wide sets wholes are.2)

-- they stay so where one is made whole
pub AreSets-whole : (sets wholes : List ℕ) (place : ℕ) → AreSets sets wholes → AreSets (slice_set sets place (slice_index_or wholes place 0)) wholes
AreSets-whole [] wholes place are = are
AreSets-whole (s ∷ sets) [] place are = absurd are
AreSets-whole (s ∷ sets) (w ∷ wholes) zero are = (omega (arith, are.0, are.1), omega arith, are.2)
AreSets-whole (s ∷ sets) (w ∷ wholes) (suc place) are = (are.0, are.1, AreSets-whole sets wholes place are.2)

-- and so do sets that may be empty
pub AreWithin-whole : (sets wholes : List ℕ) (place : ℕ) → AreWithin sets wholes → AreWithin (slice_set sets place (slice_index_or wholes place 0)) wholes
AreWithin-whole [] wholes place within = within
AreWithin-whole (s ∷ sets) [] place within = absurd within
AreWithin-whole (s ∷ sets) (w ∷ wholes) zero within = (omega arith, within.1)
AreWithin-whole (s ∷ sets) (w ∷ wholes) (suc place) within = (within.0, AreWithin-whole sets wholes place within.1)

-- what two have in common is within both
pub AreWithin-common : (first second wholes : List ℕ) → AreWithin first wholes → AreWithin second wholes → AreWithin (in_both first second) wholes
AreWithin-common [] [] [] a b = tt
AreWithin-common [] [] (w ∷ wholes) a b = absurd a
AreWithin-common [] (t ∷ second) [] a b = absurd b
AreWithin-common [] (t ∷ second) (w ∷ wholes) a b = absurd a
AreWithin-common (s ∷ first) second [] a b = absurd a
AreWithin-common (s ∷ first) [] (w ∷ wholes) a b = absurd b
AreWithin-common (s ∷ first) (t ∷ second) (w ∷ wholes) a b = (omega (arith, and_le_l s t, a.0), AreWithin-common first second wholes a.1 b.1)

-- sets have themselves in common with themselves
pub in_both-same : (sets : List ℕ) → in_both sets sets ≡ sets
in_both-same [] = refl
in_both-same (s ∷ sets) = let here = and_same s in let rest = in_both-same sets in λ i. here i ∷ rest i
  where
    and_same : (s : ℕ) → bit_and s s ≡ s
    and_same s = same_from_bits (bit_and s s) s (λ i. omega (arith, bit_at_and s s i))

-- ---- sets among the whole ones

within-ones : (s k : ℕ) → s ≤ 2 ^ k - 1 → bit_and (2 ^ k - 1) s ≡ s
within-ones s k within = and_comm (2 ^ k - 1) s ∙ and_mask s k ∙ mod-eq_of_lt (omega (arith, within, one-le-pow k 2 (omega arith)))

-- whole sets and others have the others in common
pub whole-common : (shape : List Domain) (sets : List ℕ) → AreSets sets (whole_sets shape) → in_both (whole_sets shape) sets ≡ sets
whole-common [] [] are = refl
whole-common [] (s ∷ sets) are = absurd are
whole-common (Numerical ∷ shape) sets are = whole-common shape sets are
whole-common (Categorical k ∷ shape) [] are = absurd are
whole-common (Categorical k ∷ shape) (s ∷ sets) are = let here = within-ones s k are.1 in let rest = whole-common shape sets are.2 in λ i. here i ∷ rest i

-- so they meet
pub whole-meets : (shape : List Domain) (sets : List ℕ) → AreSets sets (whole_sets shape) → all_meet (whole_sets shape) sets ≡ true
whole-meets [] sets are = refl
whole-meets (Numerical ∷ shape) sets are = whole-meets shape sets are
whole-meets (Categorical k ∷ shape) [] are = absurd are
whole-meets (Categorical k ∷ shape) (s ∷ sets) are = true-both _ _ (ap (λ n. not (nat_eq n 0)) (within-ones s k are.1) ∙ some s are.0)
    (whole-meets shape sets are.2)
  where
    some : (n : ℕ) → 0 < n → not (nat_eq n 0) ≡ true
    some n above = grind (arith, above)

-- and codes of the sets are among the whole ones
pub whole-inside : (shape : List Domain) (sets codes : List ℕ) → AreSets sets (whole_sets shape) → AreCodesIn sets codes → AreCodesIn (whole_sets shape) codes
whole-inside shape sets codes are inside =
    (meets-inside (whole_sets shape) sets codes (subst (λ (ss : List ℕ). AreCodesIn ss codes) (sym (whole-common shape sets are)) inside)).0

-- ---- the whole sets of a shape, field by field

wholes-cons : (d : Domain) (shape : List Domain) → whole_sets (d ∷ shape) ≡ whole_sets (d ∷ []) ++ whole_sets shape
wholes-cons Numerical shape = refl
wholes-cons (Categorical k) shape = refl

pub wholes-at : (counts : List ℕ) (i k : ℕ) → i < length counts
    → whole_sets (map domain_with (drop i counts)) ≡ whole_sets (domain_with (get_or counts i k) ∷ []) ++ whole_sets (map domain_with (drop (i + 1) counts))
wholes-at counts i k below = rw (add-one) (ap (λ (ns : List ℕ). whole_sets (map domain_with ns)) (drop-cons counts i k below)
    ∙ wholes-cons (domain_with (get_or counts i k)) (map domain_with (drop (suc i) counts)))
