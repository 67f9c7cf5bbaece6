use Rattle.std.proofs.Common.{List, Ok, Err, ◌^◌, ◌-◌, ◌≡◌, true, false, Some, None, ℤ, pos, negsuc, refl, arith, [], ◌∷◌}
use Rattle.std.proofs.lemmas.Int.{ints}
use Rattle.fraction128.specs.Formulas.{Ratio}
use Rattle.edit_line.specs.Lines.{parts_of}
use Rattle.edit_line.specs.Shapes.{Domain, Numerical}
use Rattle.edit_line.specs.declared.relation.Relation.TheVariants.{Above, AtLeast, Equal}
use Rattle.fraction128.specs.Divisor.{gcd}
use Rattle.edit_model.specs.declared.value.Value.TheVariants.{Bad}
use Rattle.back_subst.specs.Intervals.{End, nearest}
use Rattle.back_subst.specs.NumberWalk.{number_result}

-- Worked values.

abbrev whole : ℤ → Ratio
whole n = record { numerator = n; denominator = pos 1 }

closed_at : ℤ → End
closed_at n = record { at = record { numerator = n; denominator = pos 1 }; positive = omega (arith, ints); strict = false }

open_at : ℤ → End
open_at n = record { at = record { numerator = n; denominator = pos 1 }; positive = omega (arith, ints); strict = true }

-- A > 0, A < 1, and no donor: 1/2
between_open : nearest (record { lower = Some (open_at (pos 0)); upper = Some (open_at (pos 1)) }) (whole (pos 0))
    ≡ record { numerator = pos 1; denominator = pos 2 }
unfolding open_at
between_open = refl

-- A > 0, and no donor: 1
above_open : nearest (record { lower = Some (open_at (pos 0)); upper = None }) (whole (pos 0)) ≡ whole (pos 1)
unfolding open_at
above_open = refl

-- A < 0: -1
below_open : nearest (record { lower = None; upper = Some (open_at (pos 0)) }) (whole (pos 0)) ≡ whole (negsuc 0)
unfolding open_at
below_open = refl

-- 1 <= B <= 9: the donor's 4 is taken; 0 gives 1, and 12 gives 9
donor_taken : nearest (record { lower = Some (closed_at (pos 1)); upper = Some (closed_at (pos 9)) }) (whole (pos 4)) ≡ whole (pos 4)
unfolding closed_at
donor_taken = refl

at_lower : nearest (record { lower = Some (closed_at (pos 1)); upper = Some (closed_at (pos 9)) }) (whole (pos 0)) ≡ whole (pos 1)
unfolding closed_at
at_lower = refl

at_upper : nearest (record { lower = Some (closed_at (pos 1)); upper = Some (closed_at (pos 9)) }) (whole (pos 12)) ≡ whole (pos 9)
unfolding closed_at
at_upper = refl

-- ---- the same by the lines

abbrev one_field : List Domain
one_field = Numerical ∷ []

-- A > 0 and A < 1, of a record that is blank: 1/2
walked_between : number_result (parts_of one_field [] (pos 1 ∷ []) (pos 0) Above ∷ parts_of one_field [] (negsuc 0 ∷ []) (pos 1) Above ∷ []) (Bad ∷ []) 0
    (whole (pos 0)) ≡ Ok (record { numerator = pos 1; denominator = pos 2 })
unfolding gcd
walked_between = refl

-- 3 A - 1 >= 0: 1/3
walked_third : number_result (parts_of one_field [] (pos 3 ∷ []) (negsuc 0) AtLeast ∷ []) (Bad ∷ []) 0 (whole (pos 0))
    ≡ Ok (record { numerator = pos 1; denominator = pos 3 })
unfolding gcd
walked_third = refl

-- A > 2^126 and A < 2^127 - 1, and no donor: the sum of both ends leaves the range, at the line of the lower end
walked_out : number_result (parts_of one_field [] (negsuc 0 ∷ []) (pos (2 ^ 127 - 1)) Above ∷ parts_of one_field [] (pos 1 ∷ []) (negsuc (2 ^ 126 - 1))
    Above ∷ []) (Bad ∷ []) 0 (whole (pos 0)) ≡ Err 1
unfolding gcd
walked_out = refl

-- 3 A - 1 = 0: 1/3 for each target
walked_equal : number_result (parts_of one_field [] (pos 3 ∷ []) (negsuc 0) Equal ∷ []) (Bad ∷ []) 0 (whole (pos 7))
    ≡ Ok (record { numerator = pos 1; denominator = pos 3 })
unfolding gcd
walked_equal = refl
