use Rattle.std.specs.Prelude.{ℤ, pos, negsuc, ◌<ℤ◌, ◌≤ℤ◌, ◌+ℤ◌, ◌-ℤ◌, ◌*ℤ◌, ◌&&◌, Bool, true, Option, Some, None, if◌then◌else◌}
use Rattle.fraction128.specs.Formulas.{Ratio}
use Rattle.edit_line.specs.Lines.{bound_relation}
use Rattle.edit_line.specs.Subsumption.{is_enough}

-- an end of an interval: the number there, and whether it is left out
pub record End : Type 0 where
  pub at : Ratio
  pub positive : pos 0 <ℤ at.denominator
  pub strict : Bool

-- the numbers between two ends, where there are these
pub record Interval : Type 0 where
  pub lower : Option End
  pub upper : Option End

-- whether a number is on the inner side of an end: that of the greater numbers (1) of a lower end, that of the lesser (-1)
-- of an upper one
abbrev pub is_past : ℤ → End → Ratio → Bool
is_past side end x =
    is_enough (bound_relation end.strict) (side *ℤ (x.numerator *ℤ end.at.denominator -ℤ end.at.numerator *ℤ x.denominator))

-- whether a number is on the inner side of an end, if there is one
abbrev pub is_past_any : ℤ → Option End → Ratio → Bool
is_past_any side None x = true
is_past_any side (Some end) x = is_past side end x

-- whether a number is in the interval
abbrev pub is_between : Interval → Ratio → Bool
is_between i x = is_past_any (pos 1) i.lower x && is_past_any (negsuc 0) i.upper x

-- halfway between two numbers
abbrev pub halfway : Ratio → Ratio → Ratio
halfway x y = record {
  numerator = x.numerator *ℤ y.denominator +ℤ y.numerator *ℤ x.denominator;
  denominator = pos 2 *ℤ (x.denominator *ℤ y.denominator);
}

-- the middle of both ends, or one further in, where there is no other end
abbrev pub further_in : ℤ → Ratio → Option End → Ratio
further_in side x None = record { numerator = x.numerator +ℤ side *ℤ x.denominator; denominator = x.denominator }
further_in side x (Some other) = halfway x other.at

-- the number of the interval at this end: the end, or, where it is left out, one further in
abbrev pub nearest_at : ℤ → End → Option End → Ratio
nearest_at side end other = if end.strict then further_in side end.at other else end.at

-- the target, or the number at this end, where the target is not past it
abbrev pub kept_past : ℤ → Option End → Option End → Ratio → Ratio → Ratio
kept_past side None other target next = next
kept_past side (Some end) other target next = if is_past side end target then next else nearest_at side end other

-- the number of an interval that is given for a target: the target, where it is in the interval, and else the number at
-- the end that it is not past
abbrev pub nearest : Interval → Ratio → Ratio
nearest i target = kept_past (pos 1) i.lower i.upper target (kept_past (negsuc 0) i.upper i.lower target target)

-- ---- the ends by the numbers alone

-- how far y lies inside x, seen from a side
abbrev pub gap_from : ℤ → Ratio → Ratio → ℤ
gap_from side x y = side *ℤ (y.numerator *ℤ x.denominator -ℤ x.numerator *ℤ y.denominator)

-- no allowed number is outside u, seen from the side
abbrev pub HasNoneOutside : ℤ → (Ratio → Type 0) → Ratio → Type 0
HasNoneOutside side allowed u = (x : Ratio) → pos 0 <ℤ x.denominator → allowed x → pos 0 ≤ℤ gap_from side u x

-- no allowed number is outside u, seen from the side, and u is the innermost such fraction: the greatest that none of them
-- is below, or the least that none is above
pub record IsEndOf (side : ℤ) (allowed : Ratio → Type 0) (u : Ratio) : Type 0 where
  pub none_outside : HasNoneOutside side allowed u
  pub innermost : (w : Ratio) → pos 0 <ℤ w.denominator → HasNoneOutside side allowed w → pos 0 ≤ℤ gap_from side w u
