use Rattle.std.proofs.Common.{◌≡◌, ◌==◌, inl, inr, ℕ, zero, suc, ◌+◌, ◌-◌, ◌<◌, ◌≤◌, ◌^◌, ◌++◌, Bool, true, false, if◌then◌else◌, List, [], ◌∷◌, All}
use Rattle.std.proofs.Common.{append_assoc, append-nil, bit_xor, drop, get_or, length, map, slice_index_or, slice_set, ℤ, pos, negsuc, refl, sym, ap, ◌∙◌}
use Rattle.std.proofs.Common.{subst, arith}
use lib.IntN.{neg_ℤ}
use Rattle.std.proofs.Math.Nat.{one-le-pow}
use Rattle.std.proofs.lemmas.Bool.Decides.{Decides-eqb}
use Rattle.std.proofs.Math.ListN.{replicate}
use Rattle.std.proofs.lemmas.List.{drop_all, drop_more, length-map}
use Rattle.std.specs.Int.Bits.{xor_add_and}
use Rattle.std.proofs.lemmas.Nat.{and_le_l, and_le_r, xor_lt}
use Rattle.fraction128.specs.Range.{InRange}
use Rattle.edit_line.specs.Lines.{IsLine, LineParts, parts_of}
use Rattle.edit_line.specs.Reductions.{IsIn}
use Rattle.edit_line.specs.Sets.{AreSets}
use Rattle.edit_line.specs.Shapes.{Categorical, Domain, Numerical, number_fields, whole_sets}
use Rattle.edit_line.proofs.Members.{all-in, in-all, in-map-out}
use Rattle.edit_line.specs.declared.relation.Relation.{Relation}
use Rattle.edit_line.proofs.RelationLaws.{least_apart}
use Rattle.edit_line.proofs.SetLaws.{AreSets-length}
use Rattle.edit_line.specs.Negations.{contrary, contrary_relation, negation_of, never, never_outside}

-- The lines of a negation are lines.

pub negative-in : (z : ℤ) → InRange z → InRange (neg_ℤ z)
negative-in (pos zero) h = h
negative-in (pos (suc n)) h = h
negative-in (negsuc n) h = h

pub negatives-in : (factors : List ℤ) → All InRange factors → All InRange (map neg_ℤ factors)
negatives-in factors are = all-in InRange (map neg_ℤ factors) (λ z there. let (a, was, is) = in-map-out neg_ℤ z factors there in
    subst (λ (x : ℤ). InRange x) (sym is) (negative-in a (in-all InRange a factors are was)))

pub wholes-sets : (sets wholes : List ℕ) → AreSets sets wholes → AreSets wholes wholes
wholes-sets [] [] are = tt
wholes-sets [] (w ∷ wholes) are = absurd are
wholes-sets (s ∷ sets) [] are = absurd are
wholes-sets (s ∷ sets) (w ∷ wholes) are = (omega (arith, are.0, are.1), omega arith, wholes-sets sets wholes are.2)

-- the other codes of a field
pub others-above : (k set : ℕ) → set ≤ 2 ^ k - 1 → ((set ≡ 2 ^ k - 1) → ⊥) → 0 < bit_xor (2 ^ k - 1) set
others-above k set within other = by (bit_xor (2 ^ k - 1) set) refl
  where
    by : (x : ℕ) → bit_xor (2 ^ k - 1) set ≡ x → 0 < x
    by zero e = absurd (other (omega (arith, within, e, xor_add_and (2 ^ k - 1) set, and_le_l (2 ^ k - 1) set, and_le_r (2 ^ k - 1) set)))
    by (suc x) e = omega arith

pub others-within : (k set : ℕ) → set ≤ 2 ^ k - 1 → bit_xor (2 ^ k - 1) set ≤ 2 ^ k - 1
others-within k set within = omega (
  arith,
  xor_lt k (2 ^ k - 1) set (omega (arith, one-le-pow k 2 (omega arith)))
      (omega (arith, within, one-le-pow k 2 (omega arith))),
)

-- one set of the wholes replaced by another
pub set-among : (wholes : List ℕ) (place set : ℕ) → AreSets wholes wholes → 0 < set → set ≤ slice_index_or wholes place 0
    → AreSets (slice_set wholes place set) wholes
set-among [] place set are above within = tt
set-among (w ∷ wholes) zero set are above within = (above, within, are.2)
set-among (w ∷ wholes) (suc place) set are above within = (are.0, are.1, set-among wholes place set are.2 above within)

pub never-is : (shape : List Domain) (sets : List ℕ) → AreSets sets (whole_sets shape) → IsLine (never shape sets)
never-is shape sets are = record {
  sets = are;
  factors = length-map (number_fields shape) (λ f. pos 0);
  in_range =
      (zeros (number_fields shape), one_in);
  whole = λ equal. absurd (least_apart equal);
}
  where
    zero_in : InRange (pos 0)
    zero_in = omega arith

    one_in : InRange (negsuc 0)
    one_in = omega arith

    zeros : (fields : List ℕ) → All InRange (map (λ f. pos 0) fields)
    zeros fields = all-in InRange (map (λ f. pos 0) fields) (λ z there. let (f, was, is) = in-map-out (λ (f : ℕ). pos 0) z fields there in
        subst (λ (x : ℤ). InRange x) (sym is) zero_in)

pub contrary-is : (line : LineParts) → IsLine line → IsLine (contrary line)
contrary-is line is = record {
  sets = wholes-sets line.sets (whole_sets line.shape) is.sets;
  factors = length-map line.factors neg_ℤ ∙ is.factors;
  in_range =
      (negatives-in line.factors is.in_range.0, negative-in line.constant is.in_range.1);
  whole = λ _. refl;
}

module _ (shape : List Domain) (all : AreSets (whole_sets shape) (whole_sets shape)) where
  -- the whole set at a place is of all codes
  whole-form : (shape : List Domain) (place : ℕ) → place < length (whole_sets shape) → (k : ℕ) × (slice_index_or (whole_sets shape) place 0 ≡ 2 ^ k - 1)
  whole-form [] place below = absurd (omega arith)
  whole-form (Numerical ∷ shape) place below = whole-form shape place below
  whole-form (Categorical k ∷ shape) zero below = (k, refl)
  whole-form (Categorical k ∷ shape) (suc place) below = whole-form shape place (omega arith)

  outside-are : (place : ℕ) (sets wholes : List ℕ) → AreSets sets wholes → place + length wholes ≤ length (whole_sets shape)
      → ((i : ℕ) → i < length wholes → slice_index_or (whole_sets shape) (place + i) 0 ≡ slice_index_or wholes i 0)
      → (m : LineParts) → IsIn m (never_outside shape place sets wholes) → IsLine m
  outside-are place [] wholes are fits same m there = absurd there
  outside-are place (s ∷ sets) [] are fits same m there = absurd there
  outside-are place (s ∷ sets) (w ∷ wholes) are fits same m there =
      by (s == w) refl there (outside-are (suc place) sets wholes are.2 (omega (arith, fits))
      (λ i below. ap (λ n. slice_index_or (whole_sets shape) n 0) (moved place i) ∙ same (suc i) (omega (arith, below))) m)
    where
      moved : (place i : ℕ) → suc place + i ≡ place + suc i
      moved place i = omega arith

      own : slice_index_or (whole_sets shape) place 0 ≡ w
      own = ap (λ n. slice_index_or (whole_sets shape) n 0) (first place) ∙ same 0 (omega arith)
        where
          first : (place : ℕ) → place ≡ place + 0
          first place = omega arith

      made : (s ≡ w → ⊥) → IsLine (never shape (slice_set (whole_sets shape) place (bit_xor w s)))
      made other =
          let (k, form) = whole-form shape place (omega (arith, fits)) in
          let w_is : w ≡ 2 ^ k - 1 = sym own ∙ form in
          let within : s ≤ 2 ^ k - 1 = omega (arith, are.1, w_is) in
          never-is shape (slice_set (whole_sets shape) place (bit_xor w s)) (set-among (whole_sets shape) place (bit_xor w s) all
          (subst (λ n. 0 < bit_xor n s) (sym w_is) (others-above k s within (λ e. other (e ∙ sym w_is))))
          (subst (λ n. bit_xor w s ≤ n) (sym own) (subst (λ n. bit_xor n s ≤ n) (sym w_is) (others-within k s within))))

      by : (b : Bool) → (s == w) ≡ b → IsIn m (if b then never_outside shape (suc place) sets wholes else never shape
          (slice_set (whole_sets shape) place (bit_xor w s)) ∷ never_outside shape (suc place) sets wholes)
          → (IsIn m (never_outside shape (suc place) sets wholes) → IsLine m) → IsLine m
      by true e there rest = rest there
      by false e (inl is) rest = subst (λ (l : LineParts). IsLine l) (sym is) (made (λ same_set. absurd (cc (sym e ∙ (Decides-eqb s w).1 same_set))))
      by false e (inr there) rest = rest there

pub negation-lines : (line m : LineParts) → IsLine line → IsIn m (negation_of line) → IsLine m
negation-lines line m is (inl same) = subst (λ (l : LineParts). IsLine l) (sym same) (contrary-is line is)
negation-lines line m is (inr there) =
    outside-are line.shape (wholes-sets line.sets (whole_sets line.shape) is.sets) 0 line.sets (whole_sets line.shape) is.sets (omega arith)
    (λ i below. ap (λ n. slice_index_or (whole_sets line.shape) n 0) (nothing i)) m there
  where
    nothing : (i : ℕ) → 0 + i ≡ i
    nothing i = omega arith

-- ---- in Rust

-- a line with the parts of the contrary one
pub contrary-parts : (line : LineParts) (shape : List Domain) (sets : List ℕ) (factors : List ℤ) (constant : ℤ) (relation : Relation) → IsLine line → shape
    ≡ line.shape → sets ≡ whole_sets line.shape → factors ≡ map neg_ℤ line.factors → constant ≡ neg_ℤ line.constant → relation ≡ contrary_relation line.relation
    → IsLine (parts_of shape sets factors constant relation)
contrary-parts line shape sets factors constant relation is shape_is sets_are factors_are constant_is relation_is =
    subst (λ (l : LineParts). IsLine l)
    (sym (ap (λ (s : List Domain). parts_of s sets factors constant relation) shape_is
    ∙ ap (λ (ss : List ℕ). parts_of line.shape ss factors constant relation) sets_are
    ∙ ap (λ (fs : List ℤ). parts_of line.shape (whole_sets line.shape) fs constant relation) factors_are
    ∙ ap (λ (z : ℤ). parts_of line.shape (whole_sets line.shape) (map neg_ℤ line.factors) z relation) constant_is
    ∙ ap (λ (r : Relation). parts_of line.shape (whole_sets line.shape) (map neg_ℤ line.factors) (neg_ℤ line.constant) r) relation_is)) (contrary-is line is)

pub zeros-are : (fields : List ℕ) (n : ℕ) → n ≡ length fields → replicate n (pos 0) ≡ map (λ f. pos 0) fields
zeros-are [] zero same = refl
zeros-are [] (suc n) same = absurd (omega (arith, same))
zeros-are (f ∷ fields) zero same = absurd (omega (arith, same))
zeros-are (f ∷ fields) (suc n) same = ap (λ (zs : List ℤ). pos 0 ∷ zs) (zeros-are fields n (omega (arith, same)))

set-within : (sets wholes : List ℕ) (place : ℕ) → AreSets sets wholes → place < length sets → slice_index_or sets place 0 ≤ slice_index_or wholes place 0
set-within [] wholes place are below = absurd (omega arith)
set-within (s ∷ sets) [] place are below = absurd are
set-within (s ∷ sets) (w ∷ wholes) zero are below = are.1
set-within (s ∷ sets) (w ∷ wholes) (suc place) are below = set-within sets wholes place are.2 (omega arith)

pub place-within : (shape : List Domain) (sets wholes : List ℕ) (place : ℕ) → AreSets sets (whole_sets shape) → wholes ≡ whole_sets shape → place < length sets
    → place < length wholes
place-within shape sets wholes place are is below = omega (arith, below, AreSets-length sets (whole_sets shape) are, ap (λ (ws : List ℕ). length ws) is)

-- the other codes of one field are a set among the whole ones
pub others-among : (shape : List Domain) (sets wholes items : List ℕ) (place set : ℕ) → AreSets sets (whole_sets shape) → wholes ≡ whole_sets shape → items
    ≡ wholes → place < length sets → set ≡ slice_index_or sets place 0 → ((set ≡ slice_index_or wholes place 0) → ⊥)
    → AreSets (slice_set items place (bit_xor (slice_index_or wholes place 0) set)) (whole_sets shape)
others-among shape sets wholes items place set are is items_are below set_is other =
    let all = wholes-sets sets (whole_sets shape) are in
    let (k, form) = whole-form shape all shape place (place-within shape sets (whole_sets shape) place are refl below) in
    let same : slice_index_or wholes place 0 ≡ 2 ^ k - 1 = ap (λ (ws : List ℕ). slice_index_or ws place 0) is ∙ form in
    let within : set ≤ 2 ^ k - 1 = omega (arith, set_is, form, set-within sets (whole_sets shape) place are below) in
    subst (λ (ws : List ℕ). AreSets (slice_set ws place (bit_xor (slice_index_or wholes place 0) set)) (whole_sets shape)) (sym (items_are ∙ is))
    (set-among (whole_sets shape) place (bit_xor (slice_index_or wholes place 0) set) all (subst (λ n. 0 < bit_xor n set) (sym same)
    (others-above k set within (λ e. other (e ∙ sym same))))
    (subst (λ n. bit_xor (slice_index_or wholes place 0) set ≤ n) (sym form) (subst (λ n. bit_xor n set ≤ 2 ^ k - 1) (sym same) (others-within k set within))))

-- one place more
pub outside-more : (shape : List Domain) (sets wholes : List ℕ) (place : ℕ) (before after all : List LineParts) → AreSets sets wholes → place < length sets
    → before ++ never_outside shape place (drop place sets) (drop place wholes) ≡ all
    → after ≡ before ++ (if slice_index_or sets place 0 == slice_index_or wholes place 0 then [] else never shape
    (slice_set (whole_sets shape) place (bit_xor (slice_index_or wholes place 0) (slice_index_or sets place 0))) ∷ [])
    → after ++ never_outside shape (place + 1) (drop (place + 1) sets) (drop (place + 1) wholes) ≡ all
outside-more shape sets wholes place before after all are below so_far after_is =
    let high : place < length wholes = omega (arith, below, AreSets-length sets wholes are) in
    ap (λ (ls : List LineParts). ls ++ never_outside shape (place + 1) (drop (place + 1) sets) (drop (place + 1) wholes)) after_is
    ∙ append_assoc before _ (never_outside shape (place + 1) (drop (place + 1) sets) (drop (place + 1) wholes))
    ∙ ap (λ (ls : List LineParts). before ++ ls) (by (slice_index_or sets place 0 == slice_index_or wholes place 0) (next place)
    ∙ sym (ap (λ (ss : List ℕ). never_outside shape place ss (drop place wholes)) (drop_more sets place 0 below)
    ∙ ap (λ (ws : List ℕ). never_outside shape place (get_or sets place 0 ∷ drop (place + 1) sets) ws) (drop_more wholes place 0 high)))
    ∙ so_far
  where
    next : (n : ℕ) → n + 1 ≡ suc n
    next n = omega arith

    by : (b : Bool) → place + 1 ≡ suc place
        → (if b then [] else never shape (slice_set (whole_sets shape) place (bit_xor (slice_index_or wholes place 0) (slice_index_or sets place 0))) ∷ [])
        ++ never_outside shape (place + 1) (drop (place + 1) sets) (drop (place + 1) wholes)
        ≡ (if b then never_outside shape (suc place) (drop (place + 1) sets) (drop (place + 1) wholes) else never shape
        (slice_set (whole_sets shape) place (bit_xor (slice_index_or wholes place 0) (slice_index_or sets place 0)))
        ∷ never_outside shape (suc place) (drop (place + 1) sets) (drop (place + 1) wholes))
    by true e = ap (λ n. never_outside shape n (drop (place + 1) sets) (drop (place + 1) wholes)) e
    by false e = ap (λ n. never shape (slice_set (whole_sets shape) place (bit_xor (slice_index_or wholes place 0) (slice_index_or sets place 0)))
        ∷ never_outside shape n (drop (place + 1) sets) (drop (place + 1) wholes)) e

-- all of them are lines
pub negation-all : (line : LineParts) (lines : List LineParts) → IsLine line → lines ≡ negation_of line → All IsLine lines
negation-all line lines is are = subst (λ (ls : List LineParts). All IsLine ls) (sym are)
    (all-in IsLine (negation_of line) (λ m there. negation-lines line m is there))

-- past the last set the negation is whole
pub negation-end : (line : LineParts) (lines : List LineParts) (place : ℕ) {n : ℕ} → length line.sets ≡ n → n ≤ place
    → lines ++ never_outside line.shape place (drop place line.sets) (drop place (whole_sets line.shape)) ≡ negation_of line → lines ≡ negation_of line
negation-end line lines place same past is =
    sym (append-nil lines) ∙ ap (λ (ls : List LineParts). lines ++ ls)
    (sym (ap (λ (ss : List ℕ). never_outside line.shape place ss (drop place (whole_sets line.shape)))
    (drop_all place line.sets (omega (arith, same, past))))) ∙ is
