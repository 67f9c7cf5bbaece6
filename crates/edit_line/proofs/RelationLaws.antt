use Rattle.std.proofs.Common.{◌≡◌, ◌≢◌, ◌||◌, not, Bool, true, false, ℤ, pos, ◌<ℤ◌, ◌^◌, unsigned_abs, refl, sym, arith}
use Rattle.std.specs.Bool.{Decides}
use Rattle.fraction128.specs.Range.{InRange}
use Rattle.std.specs.Ordering.{int_eq}
use Rattle.std.proofs.lemmas.Bool.Decides.{Decides-int_eq, Decides-ltb}
use Rattle.std.proofs.lemmas.Int.{ints}
use Rattle.edit_line.specs.Combinations.{in_range, joined, may_multiply}
use Rattle.edit_line.specs.Equality.{same_relation}
use Rattle.edit_line.specs.Lines.{bound_relation, is_above, is_equal}
use Rattle.edit_line.specs.Subsumption.{implies}
use Rattle.edit_line.specs.declared.relation.Relation.{Relation}
use Rattle.edit_line.specs.declared.relation.Relation.TheVariants.{Above, AtLeast, Equal}
use Rattle.edit_line.proofs.AllowedSums.{KeepsEnough}
use Rattle.edit_line.proofs.BoolLaws.{true-both}

-- What a line asks of its sum: three relations.

pub least_apart : AtLeast ≢ Equal
least_apart e = absurd (cc)

pub above_apart : Above ≢ Equal
above_apart e = absurd (cc)

least_above : AtLeast ≢ Above
least_above e = absurd (cc)

pub is_equal-Decides : (r : Relation) → Decides (is_equal r) (r ≡ Equal)
is_equal-Decides AtLeast = (λ h. absurd (cc), λ same. absurd (least_apart same))
is_equal-Decides Above = (λ h. absurd (cc), λ same. absurd (above_apart same))
is_equal-Decides Equal = (λ _. refl, λ _. refl)

-- what is no equality is not that of one
pub not_equal : (r : Relation) → is_equal r ≡ false → r ≢ Equal
not_equal r h same = absurd (cc ((is_equal-Decides r).1 same))

pub same_relation-Decides : (a b : Relation) → Decides (same_relation a b) (a ≡ b)
same_relation-Decides AtLeast AtLeast = (λ _. refl, λ _. refl)
same_relation-Decides AtLeast Above = (λ h. absurd (cc), λ same. absurd (least_above same))
same_relation-Decides AtLeast Equal = (λ h. absurd (cc), λ same. absurd (least_apart same))
same_relation-Decides Above AtLeast = (λ h. absurd (cc), λ same. absurd (least_above (sym same)))
same_relation-Decides Above Above = (λ _. refl, λ _. refl)
same_relation-Decides Above Equal = (λ h. absurd (cc), λ same. absurd (above_apart same))
same_relation-Decides Equal AtLeast = (λ h. absurd (cc), λ same. absurd (least_apart (sym same)))
same_relation-Decides Equal Above = (λ h. absurd (cc), λ same. absurd (above_apart (sym same)))
same_relation-Decides Equal Equal = (λ _. refl, λ _. refl)

-- ---- bounds

pub bound_apart : (strict : Bool) → is_equal (bound_relation strict) ≡ false
bound_apart true = refl
bound_apart false = refl

pub bound_implies : (first second : Bool) → implies (bound_relation first) (bound_relation second) ≡ (first || not second)
bound_implies true true = refl
bound_implies true false = refl
bound_implies false true = refl
bound_implies false false = refl

-- each relation but that of an equality is a bound's
pub bound_is : (r : Relation) → is_equal r ≡ false → bound_relation (is_above r) ≡ r
bound_is AtLeast apart = refl
bound_is Above apart = refl
bound_is Equal apart = absurd (cc)

-- and so of two
pub bounds_joined : (first second : Relation) → is_equal first ≡ false → is_equal second ≡ false → joined first second
    ≡ bound_relation (is_above first || is_above second)
bounds_joined AtLeast AtLeast one two = refl
bounds_joined AtLeast Above one two = refl
bounds_joined Above AtLeast one two = refl
bounds_joined Above Above one two = refl
bounds_joined Equal second one two = absurd (cc)
bounds_joined AtLeast Equal one two = absurd (cc)
bounds_joined Above Equal one two = absurd (cc)

-- ---- multiples

-- a number above 0 keeps what is enough
pub keeps-above : (r : Relation) (m : ℤ) → pos 0 <ℤ m → KeepsEnough r m
keeps-above AtLeast m above = above
keeps-above Above m above = above
keeps-above Equal m above = tt

-- so does each by which a line may be multiplied
pub may-keeps : (r : Relation) (m : ℤ) → may_multiply r m ≡ true → KeepsEnough r m
may-keeps AtLeast m may = grind (arith, ints)
may-keeps Above m may = grind (arith, ints)
may-keeps Equal m may = tt

-- and by such a number in range, but for 0, a line may be multiplied
pub keeps-may : (r : Relation) (m : ℤ) → KeepsEnough r m → InRange m → m ≢ pos 0 → may_multiply r m ≡ true
keeps-may AtLeast m keeps fits apart = grind (arith, ints)
keeps-may Above m keeps fits apart = grind (arith, ints)
keeps-may Equal m keeps fits apart = true-both (in_range m) _ ((Decides-ltb (unsigned_abs m) (2 ^ 127)).1 fits) (by (int_eq m (pos 0)) refl)
  where
    by : (b : Bool) → int_eq m (pos 0) ≡ b → not b ≡ true
    by true e = absurd (apart ((Decides-int_eq m (pos 0)).0 e))
    by false e = refl

-- a sum is an equality where both lines are
pub joined-equal : (first second : Relation) → joined first second ≡ Equal → (first ≡ Equal) × (second ≡ Equal)
joined-equal AtLeast AtLeast e = absurd (cc)
joined-equal AtLeast Above e = absurd (cc)
joined-equal AtLeast Equal e = absurd (cc)
joined-equal Above second e = absurd (cc)
joined-equal Equal second e = (refl, e)
