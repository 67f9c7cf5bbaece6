use Rattle.std.proofs.Common.{◌≡◌, ℕ, zero, suc, ◌+◌, ◌<◌, ◌≤◌, ◌&&◌, not, nat_eq, true, false, List, [], ◌∷◌, get_or, length, drop, bit_and, slice_index_or}
use Rattle.std.proofs.Common.{slice_set, refl, sym, ap, ◌∙◌, add-one, arith}
use Rattle.std.specs.Bool.{Decides}
use Rattle.std.specs.Int.{bit_at}
use Rattle.std.proofs.Math.Seq.{drop-cons}
use Rattle.std.proofs.lemmas.Bool.Decides.{Decides-eqb}
use Rattle.std.proofs.lemmas.List.{drop_all}
use Rattle.std.proofs.lemmas.Nat.Bits.{bit_at_and, bit_at-lt}
pub use Rattle.edit_line.proofs.BoolLaws.{and_false, both_decide, both_true}
use Rattle.edit_line.specs.inner.SetBounds.{AreWithin}
use Rattle.edit_model.specs.Points.{has_code}
use Rattle.edit_line.specs.Sets.{AreCodesIn, AreSets, HasCode, are_subsets, none_is_empty, are_codes_in}

-- Sets of codes, as bits, and lists of them.

-- a code of a set is one of each set that has it inside
pub has-inside : (s t code : ℕ) → nat_eq (bit_and s t) s ≡ true → HasCode s code → HasCode t code
has-inside s t code inside in_first =
    let same : bit_and s t ≡ s = (Decides-eqb (bit_and s t) s).0 inside in
    let at : bit_at (bit_and s t) code ≡ bit_at s code = ap (λ n. bit_at n code) same in
    omega (arith, bit_at_and s t code, at, in_first, bit_at-lt t code)

-- codes inside the first sets are inside the second, where the first lie inside the second
pub inside-all_inside : (first second codes : List ℕ) → are_subsets first second ≡ true → AreCodesIn first codes → AreCodesIn second codes
inside-all_inside first [] codes lie inside = tt
inside-all_inside [] (t ∷ second) codes lie inside = absurd (cc)
inside-all_inside (s ∷ first) (t ∷ second) [] lie inside = tt
inside-all_inside (s ∷ first) (t ∷ second) (code ∷ codes) lie inside =
    let (here, rest) = both_true _ _ lie in (has-inside s t code here inside.0, inside-all_inside first second codes rest inside.1)

-- the test of codes inside sets
pub is_inside-Decides : (sets codes : List ℕ) → Decides (are_codes_in sets codes) (AreCodesIn sets codes)
is_inside-Decides [] codes = (λ _. tt, λ _. refl)
is_inside-Decides (set ∷ sets) [] = (λ _. tt, λ _. refl)
is_inside-Decides (set ∷ sets) (code ∷ codes) = both_decide (has_code set code) (are_codes_in sets codes) (Decides-eqb (bit_at set code) 1)
    (is_inside-Decides sets codes)

-- ---- a loop over two lists of sets

-- fewer sets do not lie inside more
pub all_inside-fewer : (first second : List ℕ) → length first < length second → are_subsets first second ≡ false
all_inside-fewer first [] fewer = absurd (omega arith)
all_inside-fewer [] (t ∷ second) fewer = refl
all_inside-fewer (s ∷ first) (t ∷ second) fewer = ap (λ b. nat_eq (bit_and s t) s && b) (all_inside-fewer first second (omega arith)) ∙ and_false _

-- from one place on
pub all_inside-at : (first second : List ℕ) (i : ℕ) → i < length second → length second ≤ length first
    → are_subsets (drop i first) (drop i second)
    ≡ (nat_eq (bit_and (get_or first i 0) (get_or second i 0)) (get_or first i 0) && are_subsets (drop (i + 1) first) (drop (i + 1) second))
all_inside-at first second i below many =
    rw (add-one) (ap (λ ss. are_subsets ss (drop i second)) (drop-cons first i 0 (omega arith))
    ∙ ap (λ ts. are_subsets (get_or first i 0 ∷ drop (suc i) first) ts) (drop-cons second i 0 below))

-- past the last set of the second list
pub all_inside-end : (first second : List ℕ) (i : ℕ) → length second ≤ i → are_subsets (drop i first) (drop i second) ≡ true
all_inside-end first second i past = ap (λ ts. are_subsets (drop i first) ts) (drop_all i second past) ∙ no_more (drop i first)
  where
    no_more : (ss : List ℕ) → are_subsets ss [] ≡ true
    no_more [] = refl
    no_more (s ∷ ss) = refl

-- where one set has a code that the other has not, the sets do not lie inside the others
pub outside_at : (first second : List ℕ) (i : ℕ) → i < length first → i < length second → nat_eq (bit_and (get_or first i 0) (get_or second i 0))
    (get_or first i 0) ≡ false → are_subsets first second ≡ false
outside_at [] second i short below apart = absurd (omega (arith, short))
outside_at (s ∷ first) [] i short below apart = absurd (omega (arith, below))
outside_at (s ∷ first) (t ∷ second) zero short below apart = ap (λ b. b && are_subsets first second) apart
outside_at (s ∷ first) (t ∷ second) (suc i) short below apart = ap (λ b. nat_eq (bit_and s t) s && b)
    (outside_at first second i (omega (arith, short)) (omega (arith, below)) apart) ∙ and_false _

-- ---- sets within their fields' codes

pub AreWithin-length : (sets wholes : List ℕ) → AreWithin sets wholes → length sets ≡ length wholes
AreWithin-length [] [] within = refl
AreWithin-length [] (w ∷ wholes) within = absurd within
AreWithin-length (s ∷ sets) [] within = absurd within
AreWithin-length (s ∷ sets) (w ∷ wholes) within = let rest = AreWithin-length sets wholes within.1 in omega arith

-- the whole sets are
pub AreWithin-wholes : (wholes : List ℕ) → AreWithin wholes wholes
AreWithin-wholes [] = tt
AreWithin-wholes (w ∷ wholes) = (omega arith, AreWithin-wholes wholes)

-- and stay so where one is made smaller
pub AreWithin-set : (sets wholes : List ℕ) (place set : ℕ) → set ≤ slice_index_or sets place 0 → AreWithin sets wholes
    → AreWithin (slice_set sets place set) wholes
AreWithin-set [] [] place set smaller within = tt
AreWithin-set [] (w ∷ wholes) place set smaller within = absurd within
AreWithin-set (s ∷ sets) [] place set smaller within = absurd within
AreWithin-set (s ∷ sets) (w ∷ wholes) zero set smaller within = (omega (arith, within.0), within.1)
AreWithin-set (s ∷ sets) (w ∷ wholes) (suc place) set smaller within = (within.0, AreWithin-set sets wholes place set smaller within.1)

-- where none is empty, they are the sets of a line
pub AreSets-within : (sets wholes : List ℕ) → none_is_empty sets ≡ true → AreWithin sets wholes → AreSets sets wholes
AreSets-within [] [] full within = tt
AreSets-within [] (w ∷ wholes) full within = absurd within
AreSets-within (s ∷ sets) [] full within = absurd within
AreSets-within (s ∷ sets) (w ∷ wholes) full within =
    let (here, rest) = both_true _ _ full in (above s here, within.0, AreSets-within sets wholes rest within.1)
  where
    above : (s : ℕ) → not (nat_eq s 0) ≡ true → 0 < s
    above zero h = absurd (cc)
    above (suc s) h = omega arith

-- a line has as many sets as there are whole ones
pub AreSets-length : (sets wholes : List ℕ) → AreSets sets wholes → length sets ≡ length wholes
AreSets-length [] [] are = refl
AreSets-length [] (w ∷ wholes) are = absurd are
AreSets-length (s ∷ sets) [] are = absurd are
AreSets-length (s ∷ sets) (w ∷ wholes) are = let rest = AreSets-length sets wholes are.2 in omega arith

-- so sets within the same ones are as many
pub same-sets : (first second wholes : List ℕ) → AreSets first wholes → AreSets second wholes → length first ≡ length second
same-sets first second wholes p q = AreSets-length first wholes p ∙ sym (AreSets-length second wholes q)
