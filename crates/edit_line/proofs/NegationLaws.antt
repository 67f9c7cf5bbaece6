use Rattle.std.proofs.Common.{◌≡◌, ◌≢◌, ◌↔◌, ℕ, zero, suc, ◌+◌, ◌<◌, ◌≤◌, ◌^◌, ◌-◌, ◌%◌, ◌==◌, not, Bool, true, false, if◌then◌else◌, List, [], ◌∷◌, length}
use Rattle.std.proofs.Common.{map, bit_xor, slice_index_or, slice_set, ℤ, pos, negsuc, ◌<ℤ◌, ◌≤ℤ◌, ◌+ℤ◌, ◌*ℤ◌, inl, inr, refl, sym, ap, ◌∙◌, subst, arith}
use lib.IntN.{neg_ℤ}
use Rattle.std.specs.Bool.{Decides}
use Rattle.std.specs.Int.{bit_at}
use Rattle.std.specs.List.{list_all}
use Rattle.std.specs.Ordering.{int_eq}
use Rattle.std.proofs.Math.Nat.{one-le-pow}
use Rattle.std.proofs.lemmas.Bool.Decides.{Decides-eqb}
use Rattle.std.proofs.lemmas.Int.{ints}
use Rattle.std.proofs.lemmas.Nat.Bits.{bit_at-lt, bit_at_above, bit_at_xor}
use Rattle.fraction128.proofs.Whole.{parts, ring, same_dif}
use Rattle.edit_model.specs.Points.{Point}
use Rattle.edit_line.specs.Lines.{AllHold, Follows, IsEnough, IsLine, LineHolds, LineParts, amount, weighted}
use Rattle.edit_line.specs.Reductions.{IsIn}
use Rattle.edit_line.specs.Sets.{AreCodesIn, AreSets, HasCode, are_codes_in}
use Rattle.edit_line.specs.Shapes.{Categorical, Domain, HasCodes, Numerical, codes_at, codes_from, number_fields, numerators_at, whole_sets}
use Rattle.edit_line.specs.Subsumption.{is_enough}
use Rattle.edit_line.specs.declared.relation.Relation.{Relation}
use Rattle.edit_line.specs.declared.relation.Relation.TheVariants.{Above, AtLeast, Equal}
use Rattle.edit_line.proofs.Enough.{is_enough-Decides}
use Rattle.edit_line.proofs.Members.{all-in, in-all}
use Rattle.edit_line.proofs.PointCodes.{wholes-inside}
use Rattle.edit_line.proofs.SubsumptionLaws.{amount-constant}
use Rattle.edit_line.proofs.SetLaws.{AreSets-length, is_inside-Decides}
use Rattle.edit_line.specs.Negations.{contrary, contrary_relation, negation_of, never, never_outside}

-- The negation of a line holds where the line fails, and nowhere else.

-- ---- the line -1 >= 0

minus_one : (d : ℤ) → negsuc 0 *ℤ d ≡ neg_ℤ d
minus_one d = rw (parts d) (simp ring (same_dif _ _ _ _ (omega arith)))

no_factors : (fields : List ℕ) → list_all (λ a. int_eq a (pos 0)) (map (λ (f : ℕ). pos 0) fields) ≡ true
no_factors [] = refl
no_factors (f ∷ fields) = no_factors fields

-- the line -1 >= 0 holds where some code is outside its set
pub never-Decides : (shape : List Domain) (sets : List ℕ) (p : Point) → Decides (not (are_codes_in sets (codes_at shape p))) (LineHolds (never shape sets) p)
never-Decides shape sets p = by (are_codes_in sets (codes_at shape p)) (is_inside-Decides sets (codes_at shape p))
  where
    below : pos 0 ≤ℤ amount (never shape sets) p → ⊥
    below h =
        let is : amount (never shape sets) p ≡ neg_ℤ p.denominator = amount-constant (never shape sets) p (no_factors (number_fields shape))
        ∙ minus_one p.denominator in
        let least : pos 0 ≤ℤ neg_ℤ p.denominator = subst (λ (z : ℤ). pos 0 ≤ℤ z) is h in negative p.denominator p.positive least
      where
        negative : (d : ℤ) → pos 0 <ℤ d → pos 0 ≤ℤ neg_ℤ d → ⊥
        negative d above least = omega (arith, ints)

    by : (i : Bool) → Decides i (AreCodesIn sets (codes_at shape p)) → Decides (not i) (LineHolds (never shape sets) p)
    by true q = (λ h. absurd (cc), λ holds. absurd (below (holds.enough (q.0 refl))))
    by false q = (λ _. record { enough = λ inside. absurd (cc (q.1 inside)) }, λ _. refl)

-- ---- codes inside a line's sets are of their domains
in-domain : (set k code : ℕ) → set ≤ 2 ^ k - 1 → bit_at set code ≡ 1 → code < k
in-domain set k code below has = by (code_apart)
  where
    code_apart : (k ≤ code → ⊥)
    code_apart past = let none = bit_at_above set k code (omega (arith, one-le-pow k 2 (omega arith))) past in absurd (omega (arith, none, has))

    by : (k ≤ code → ⊥) → code < k
    by apart = omega (arith, apart)

inside-codes : (i : ℕ) (shape : List Domain) (sets : List ℕ) (p : Point) → AreSets sets (whole_sets shape) → AreCodesIn sets (map p.code (codes_from i shape))
    → HasCodes i shape p
inside-codes i [] sets p are inside = tt
inside-codes i (Numerical ∷ shape) sets p are inside = inside-codes (suc i) shape sets p are inside
inside-codes i (Categorical k ∷ shape) [] p are inside = absurd are
inside-codes i (Categorical k ∷ shape) (set ∷ sets) p are inside = (in-domain set k (p.code i) are.1 inside.0, inside-codes (suc i) shape sets p are.2 inside.1)

-- ---- the negated sum
weighted-negative : (factors values : List ℤ) → weighted (map neg_ℤ factors) values ≡ neg_ℤ (weighted factors values)
weighted-negative [] values = refl
weighted-negative (a ∷ factors) [] = refl
weighted-negative (a ∷ factors) (x ∷ values) = ap (λ (z : ℤ). neg_ℤ a *ℤ x +ℤ z) (weighted-negative factors values) ∙ turned a x (weighted factors values)
  where
    turned : (a x w : ℤ) → neg_ℤ a *ℤ x +ℤ neg_ℤ w ≡ neg_ℤ (a *ℤ x +ℤ w)
    turned a x w = rw (parts a, parts x, parts w) (simp ring (same_dif _ _ _ _ (omega arith)))

amount-contrary : (line : LineParts) (p : Point) → amount (contrary line) p ≡ neg_ℤ (amount line p)
amount-contrary line p = ap (λ (z : ℤ). z +ℤ neg_ℤ line.constant *ℤ p.denominator) (weighted-negative line.factors (numerators_at line.shape p))
    ∙ turned (weighted line.factors (numerators_at line.shape p)) line.constant p.denominator
  where
    turned : (w c d : ℤ) → neg_ℤ w +ℤ neg_ℤ c *ℤ d ≡ neg_ℤ (w +ℤ c *ℤ d)
    turned w c d = rw (parts w, parts c, parts d) (simp ring (same_dif _ _ _ _ (omega arith)))

not_enough : (relation : Relation) (z : ℤ) → relation ≢ Equal → is_enough relation z ≡ false → IsEnough (contrary_relation relation) (neg_ℤ z)
not_enough AtLeast z other h = grind (arith, ints)
not_enough Above z other h = grind (arith, ints)
not_enough Equal z other h = absurd (other refl)

-- ---- the codes are in the sets
no-other : (whole set code : ℕ) → bit_at whole code ≡ 1 → bit_at set code ≡ 1 → bit_at (bit_xor whole set) code ≡ 1 → ⊥
no-other whole set code all one other =
    absurd (omega (arith, sym other ∙ bit_at_xor whole set code ∙ ap (λ n. (n + bit_at set code) % 2) all ∙ ap (λ n. (1 + n) % 2) one))

-- a code inside a set of one place
inside-at : (sets codes : List ℕ) (place set : ℕ) → place < length sets → place < length codes → AreCodesIn (slice_set sets place set) codes
    → HasCode set (slice_index_or codes place 0)
inside-at [] codes place set below within inside = absurd (omega arith)
inside-at (s ∷ sets) [] place set below within inside = absurd (omega arith)
inside-at (s ∷ sets) (c ∷ codes) zero set below within inside = inside.0
inside-at (s ∷ sets) (c ∷ codes) (suc place) set below within inside = inside-at sets codes place set (omega arith) (omega arith) inside.1

module _ (shape : List Domain) (p : Point) where
  -- no line that a code is never outside its set is broken; `done` sets and codes stand before the place
  outside-holds : (place : ℕ) (sets wholes codes : List ℕ) → place + length wholes ≤ length (whole_sets shape)
      → place + length codes ≤ length (codes_at shape p)
      → ((k : ℕ) → k < length codes → slice_index_or (codes_at shape p) (place + k) 0 ≡ slice_index_or codes k 0)
      → length wholes ≤ length codes → AreCodesIn sets codes → AreCodesIn wholes codes → (line : LineParts) → IsIn line (never_outside shape place sets wholes)
      → LineHolds line p
  outside-holds place [] wholes codes fits within same few inside whole line there = absurd there
  outside-holds place (set ∷ sets) [] codes fits within same few inside whole line there = absurd there
  outside-holds place (set ∷ sets) (w ∷ wholes) [] fits within same few inside whole line there = absurd (omega arith)
  outside-holds place (set ∷ sets) (w ∷ wholes) (code ∷ codes) fits within same few inside whole line there =
      by (set == w) there (outside-holds (suc place) sets wholes codes (omega arith) (omega arith) later (omega arith) inside.1 whole.1 line)
    where
      later : (k : ℕ) → k < length codes → slice_index_or (codes_at shape p) (suc place + k) 0 ≡ slice_index_or codes k 0
      later k below = ap (λ n. slice_index_or (codes_at shape p) n 0) (omega arith) ∙ same (suc k) (omega arith)

      here : LineHolds (never shape (slice_set (whole_sets shape) place (bit_xor w set))) p
      here = record {
        enough = λ all.
            let other : HasCode (bit_xor w set) (slice_index_or (codes_at shape p) place 0) = inside-at (whole_sets shape) (codes_at shape p) place
            (bit_xor w set) (omega arith) (omega arith) all in
            let own : slice_index_or (codes_at shape p) place 0 ≡ code = ap (λ n. slice_index_or (codes_at shape p) n 0) (omega arith) ∙ same 0 (omega arith) in
            absurd (no-other w set code whole.0 inside.0 (subst (λ c. HasCode (bit_xor w set) c) own other));
      }

      by : (b : Bool) → IsIn line (if b then never_outside shape (suc place) sets wholes else never shape (slice_set (whole_sets shape) place (bit_xor w set))
          ∷ never_outside shape (suc place) sets wholes)
          → (IsIn line (never_outside shape (suc place) sets wholes) → LineHolds line p) → LineHolds line p
      by true h rest = rest h
      by false (inl first) rest = subst (λ (l : LineParts). LineHolds l p) (sym first) here
      by false (inr h) rest = rest h

-- a point at which the line fails meets its negation, and has codes of their domains
pub fails-negation : (line : LineParts) (p : Point) → IsLine line → line.relation ≢ Equal → AreCodesIn line.sets (codes_at line.shape p)
    → is_enough line.relation (amount line p) ≡ false
    → HasCodes 0 line.shape p × AllHold (negation_of line) p
fails-negation line p is other inside short =
    let held : HasCodes 0 line.shape p = inside-codes 0 line.shape line.sets p is.sets inside in
    let whole : AreCodesIn (whole_sets line.shape) (codes_at line.shape p) = (is_inside-Decides (whole_sets line.shape) (codes_at line.shape p)).0
    (wholes-inside line.shape p held) in (
      held,
      all-in (λ l. LineHolds l p) (negation_of line)
          (λ l there. each l there (outside-holds line.shape p 0 line.sets (whole_sets line.shape) (codes_at line.shape p) (omega arith) (omega arith)
          (λ k below. ap (λ n. slice_index_or (codes_at line.shape p) n 0) (omega arith)) (sizes line.shape) inside whole l)),
    )
  where
    sizes-from : (i : ℕ) (shape : List Domain) → length (whole_sets shape) ≤ length (map p.code (codes_from i shape))
    sizes-from i [] = omega arith
    sizes-from i (Numerical ∷ shape) = sizes-from (suc i) shape
    sizes-from i (Categorical k ∷ shape) = let rest = sizes-from (suc i) shape in omega arith

    sizes : (shape : List Domain) → length (whole_sets shape) ≤ length (codes_at shape p)
    sizes shape = sizes-from 0 shape

    each : (l : LineParts) → IsIn l (negation_of line) → (IsIn l (never_outside line.shape 0 line.sets (whole_sets line.shape)) → LineHolds l p) → LineHolds l p
    each l (inl first) rest =
        subst (λ (m : LineParts). LineHolds m p) (sym first)
        (record {
          enough = λ _. subst (λ (z : ℤ). IsEnough (contrary_relation line.relation) z) (sym (amount-contrary line p))
              (not_enough line.relation (amount line p) other short);
        })
    each l (inr later) rest = rest later

-- the law of the negation: where no point of codes of their domains meets the lines and the negation of a line, a line
-- that is no equality follows from the lines
pub refuted-follows : (lines : List LineParts) (line : LineParts) → IsLine line → line.relation ≢ Equal
    → ((p : Point) → HasCodes 0 line.shape p → AllHold lines p → AllHold (negation_of line) p → ⊥) → Follows lines line
refuted-follows lines line is other none p hold =
    record { enough = λ inside. (is_enough-Decides line.relation (amount line p)).0 (by (is_enough line.relation (amount line p)) refl inside) }
  where
    by : (b : Bool) → is_enough line.relation (amount line p) ≡ b → AreCodesIn line.sets (codes_at line.shape p) → b ≡ true
    by true e inside = refl
    by false e inside = let (held, meets) = fails-negation line p is other inside e in absurd (none p held hold meets)

-- ---- a point that meets the negation fails the line

inside-set : (sets codes : List ℕ) (place set : ℕ) → AreCodesIn sets codes → HasCode set (slice_index_or codes place 0)
    → AreCodesIn (slice_set sets place set) codes
inside-set [] codes place set inside has = tt
inside-set (s ∷ sets) [] place set inside has = none place
  where
    none : (place : ℕ) → AreCodesIn (slice_set (s ∷ sets) place set) []
    none zero = tt
    none (suc place) = tt
inside-set (s ∷ sets) (c ∷ codes) zero set inside has = (has, inside.1)
inside-set (s ∷ sets) (c ∷ codes) (suc place) set inside has = (inside.0, inside-set sets codes place set inside.1 has)

other-bit : (whole set code : ℕ) → bit_at whole code ≡ 1 → (bit_at set code ≡ 1 → ⊥) → bit_at (bit_xor whole set) code ≡ 1
other-bit whole set code all out =
    let none : bit_at set code ≡ 0 = omega (arith, bit_at-lt set code, out) in
    bit_at_xor whole set code ∙ ap (λ n. (n + bit_at set code) % 2) all ∙ ap (λ n. (1 + n) % 2) none

never-false : (shape : List Domain) (sets : List ℕ) (p : Point) → LineHolds (never shape sets) p → AreCodesIn sets (codes_at shape p) → ⊥
never-false shape sets p holds inside = absurd (cc (sym (ap not ((is_inside-Decides sets (codes_at shape p)).1 inside)) ∙ (never-Decides shape sets p).1 holds))

module _ (shape : List Domain) (p : Point) (all : AreCodesIn (whole_sets shape) (codes_at shape p)) where
  outside-inside : (place : ℕ) (sets wholes codes : List ℕ) → ((k : ℕ) → k < length codes → slice_index_or (codes_at shape p) (place + k) 0
      ≡ slice_index_or codes k 0)
      → AreCodesIn wholes codes → length sets ≡ length wholes → ((line : LineParts) → IsIn line (never_outside shape place sets wholes) → LineHolds line p)
      → AreCodesIn sets codes
  outside-inside place [] wholes codes same whole sized hold = tt
  outside-inside place (set ∷ sets) [] codes same whole sized hold = absurd (omega arith)
  outside-inside place (set ∷ sets) (w ∷ wholes) [] same whole sized hold = tt
  outside-inside place (set ∷ sets) (w ∷ wholes) (code ∷ codes) same whole sized hold = by (set == w) refl hold
      (λ h. outside-inside (suc place) sets wholes codes later whole.1 (omega arith) h)
    where
      later : (k : ℕ) → k < length codes → slice_index_or (codes_at shape p) (suc place + k) 0 ≡ slice_index_or codes k 0
      later k below = ap (λ n. slice_index_or (codes_at shape p) n 0) (omega arith) ∙ same (suc k) (omega arith)

      own : slice_index_or (codes_at shape p) place 0 ≡ code
      own = ap (λ n. slice_index_or (codes_at shape p) n 0) (omega arith) ∙ same 0 (omega arith)

      has : LineHolds (never shape (slice_set (whole_sets shape) place (bit_xor w set))) p → HasCode set code
      has holds = at (bit_at set code == 1) refl
        where
          at : (b : Bool) → (bit_at set code == 1) ≡ b → HasCode set code
          at true e = (Decides-eqb (bit_at set code) 1).0 e
          at false e =
              let out : bit_at set code ≡ 1 → ⊥ = λ one. absurd (cc (sym e ∙ (Decides-eqb (bit_at set code) 1).1 one)) in
              absurd (never-false shape (slice_set (whole_sets shape) place (bit_xor w set)) p holds
              (inside-set (whole_sets shape) (codes_at shape p) place (bit_xor w set) all
              (subst (λ c. HasCode (bit_xor w set) c) (sym own) (other-bit w set code whole.0 out))))

      by : (b : Bool) → (set == w) ≡ b
          → ((line : LineParts) → IsIn line (if b then never_outside shape (suc place) sets wholes else never shape
          (slice_set (whole_sets shape) place (bit_xor w set)) ∷ never_outside shape (suc place) sets wholes) → LineHolds line p)
          → (((line : LineParts) → IsIn line (never_outside shape (suc place) sets wholes) → LineHolds line p) → AreCodesIn sets codes) → HasCode set code
          × AreCodesIn sets codes
      by true e h rest = (subst (λ s. HasCode s code) (sym ((Decides-eqb set w).0 e)) whole.0, rest h)
      by false e h rest = (has (h _ (inl refl)), rest (λ line there. h line (inr there)))

-- a point of codes of their domains that meets the negation of a line fails the line
pub negation-fails : (line : LineParts) (p : Point) → IsLine line → line.relation ≢ Equal → HasCodes 0 line.shape p → AllHold (negation_of line) p
    → LineHolds line p → ⊥
negation-fails line p is other held meets holds =
    let whole : AreCodesIn (whole_sets line.shape) (codes_at line.shape p) = (is_inside-Decides (whole_sets line.shape) (codes_at line.shape p)).0
    (wholes-inside line.shape p held) in
    let turned : IsEnough (contrary_relation line.relation) (amount (contrary line) p) = (meets 0 (contrary line) (omega arith)).enough whole in
    let inside : AreCodesIn line.sets (codes_at line.shape p) =
    outside-inside line.shape p whole 0 line.sets (whole_sets line.shape) (codes_at line.shape p)
    (λ k below. ap (λ n. slice_index_or (codes_at line.shape p) n 0) (omega arith)) whole
    (AreSets-length line.sets (whole_sets line.shape) is.sets) (λ l there. in-all (λ k. LineHolds k p) l
    (never_outside line.shape 0 line.sets (whole_sets line.shape)) (λ k d below. meets (suc k) d (omega arith)) there) in
    both_ways line.relation (amount line p) other (holds.enough inside) (subst (λ (z : ℤ). IsEnough (contrary_relation line.relation) z)
    (amount-contrary line p) turned)
  where
    both_ways : (relation : Relation) (z : ℤ) → relation ≢ Equal → IsEnough relation z → IsEnough (contrary_relation relation) (neg_ℤ z) → ⊥
    both_ways AtLeast z other h g = absurd (omega (arith, ints))
    both_ways Above z other h g = absurd (omega (arith, ints))
    both_ways Equal z other h g = other refl

-- so it holds exactly where the line does not
pub negation-meets : (line : LineParts) (p : Point) → IsLine line → line.relation ≢ Equal → HasCodes 0 line.shape p
    → AllHold (negation_of line) p ↔ (¬ LineHolds line p)
negation-meets line p is other held = (
  negation-fails line p is other held,
  λ fails. by (are_codes_in line.sets (codes_at line.shape p))
      (is_enough line.relation (amount line p)) (is_inside-Decides line.sets (codes_at line.shape p)) refl fails,
)
  where
    by : (inside enough : Bool) → Decides inside (AreCodesIn line.sets (codes_at line.shape p)) → is_enough line.relation (amount line p) ≡ enough
        → (¬ LineHolds line p) → AllHold (negation_of line) p
    by true true i e fails = absurd (fails (record { enough = λ _. (is_enough-Decides line.relation (amount line p)).0 e }))
    by true false i e fails = (fails-negation line p is other (i.0 refl) e).1
    by false enough i e fails = absurd (fails (record { enough = λ inside. absurd (cc (i.1 inside)) }))
