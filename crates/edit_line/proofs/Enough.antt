use Rattle.std.proofs.Common.{◌≡◌, true, false, ℤ, pos, ◌<ℤ◌, ◌≤ℤ◌, ◌+ℤ◌, ◌*ℤ◌, sym, ◌∙◌, arith}
use Rattle.std.specs.Bool.{Decides}
use Rattle.std.proofs.lemmas.Bool.Decides.{Decides-int_eq}
use Rattle.std.proofs.lemmas.Int.{ints}
use Rattle.fraction128.proofs.Signs.{above-*, above_cancel, at_least-*, at_least_cancel, same_cancel}
use Rattle.fraction128.proofs.Whole.{parts, ring, same_dif}
use Rattle.edit_line.specs.Lines.{IsEnough, is_equal}
use Rattle.edit_line.specs.Subsumption.{implies, is_enough}
use Rattle.edit_line.specs.declared.relation.Relation.{Relation}
use Rattle.edit_line.specs.declared.relation.Relation.TheVariants.{Above, AtLeast, Equal}

-- When a number is enough: at least 0, above 0, or 0, as the relation says.

pub is_enough-Decides : (relation : Relation) (z : ℤ) → Decides (is_enough relation z) (IsEnough relation z)
is_enough-Decides AtLeast z = (λ h. grind (arith, ints), λ h. grind (arith, ints))
is_enough-Decides Above z = (λ h. grind (arith, ints), λ h. grind (arith, ints))
is_enough-Decides Equal z = Decides-int_eq z (pos 0)

-- what is above 0 is enough, but for an equality
pub IsEnough-above : (relation : Relation) (z : ℤ) → is_equal relation ≡ false → pos 0 <ℤ z → IsEnough relation z
IsEnough-above AtLeast z apart h = omega (arith, ints)
IsEnough-above Above z apart h = h
IsEnough-above Equal z apart h = absurd (cc)

-- what is enough is at least 0
pub IsEnough-at_least : (relation : Relation) (z : ℤ) → IsEnough relation z → pos 0 ≤ℤ z
IsEnough-at_least AtLeast z h = h
IsEnough-at_least Above z h = omega (arith, ints)
IsEnough-at_least Equal z h = omega (arith, ints, h)

none_times : (d : ℤ) → pos 0 *ℤ d ≡ pos 0
none_times d = rw (parts d) (simp ring (same_dif _ _ _ _ (omega arith)))

-- a positive number times what is enough is enough
pub IsEnough-times : (relation : Relation) (z d : ℤ) → pos 0 <ℤ d → IsEnough relation z → IsEnough relation (z *ℤ d)
IsEnough-times AtLeast z d above h = at_least-* z d h (omega (arith, ints))
IsEnough-times Above z d above h = above-* z d h above
IsEnough-times Equal z d above h = rw h (none_times d)

-- and the positive number can be taken away
pub IsEnough_cancel : (relation : Relation) (z d : ℤ) → pos 0 <ℤ d → IsEnough relation (z *ℤ d) → IsEnough relation z
IsEnough_cancel AtLeast z d above h = at_least_cancel z d above h
IsEnough_cancel Above z d above h = above_cancel z d above h
IsEnough_cancel Equal z d above h = same_cancel z (pos 0) d above (h ∙ sym (none_times d))

-- what is enough for a relation is enough for each that it implies
pub IsEnough-weaker : (first second : Relation) (z : ℤ) → implies first second ≡ true → IsEnough first z → IsEnough second z
IsEnough-weaker first AtLeast z stronger h = IsEnough-at_least first z h
IsEnough-weaker AtLeast Above z stronger h = absurd (cc)
IsEnough-weaker Above Above z stronger h = h
IsEnough-weaker Equal Above z stronger h = absurd (cc)
IsEnough-weaker AtLeast Equal z stronger h = absurd (cc)
IsEnough-weaker Above Equal z stronger h = absurd (cc)
IsEnough-weaker Equal Equal z stronger h = h

-- what is enough, and a positive number, is enough, but for an equality
pub IsEnough-more : (first second : Relation) (y z : ℤ) → is_equal second ≡ false → IsEnough first y → pos 0 <ℤ z → IsEnough second (y +ℤ z)
IsEnough-more first second y z apart h above = IsEnough-above second (y +ℤ z) apart (more (IsEnough-at_least first y h))
  where
    more : pos 0 ≤ℤ y → pos 0 <ℤ (y +ℤ z)
    more least = omega (arith, ints)
