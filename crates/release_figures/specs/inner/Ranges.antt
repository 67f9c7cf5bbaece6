-- From where to where the numbers of a field reach, in thousandths, and the bins over them.
use Rattle.std.specs.Prelude.{◌≡◌, ◌&&◌, ◌⊎◌, ℤ, pos, ◌*ℤ◌, ◌≤ℤ◌, if◌then◌else◌, Bool, true, List, Option, Some, None}
use Rattle.std.specs.Int.{int_div_euclid, int_max, int_min}
use Rattle.std.specs.List.{list_all}
use Rattle.std.specs.Option.{option_and_then, option_map}
use Rattle.std.specs.Ordering.{int_eq}
use Rattle.fraction128.specs.declared.fraction.Fraction.{Fraction}
use Rattle.edit_model.specs.declared.value.Value.{Value}
use Rattle.edit_model.specs.declared.value.Value.TheVariants.{Bad, Code, Number}
use Rattle.page_counts.specs.Bins.{IsNarrowest, bins_needed}
use Rattle.page_counts.specs.Numbers.{IsGreatest, IsLeast}
use Rattle.page_counts.specs.Thousandths.{thousandths_of}
use Rattle.page_counts.specs.declared.bins.Bins.{Bins}
use Rattle.release_figures.specs.declared.range.Range.{Range}

-- whether a value is no number, or a whole one
abbrev pub is_whole : Value → Bool
is_whole (Number x) = int_eq x.denominator (pos 1)
is_whole (Code c) = true
is_whole Bad = true

-- the least width of bins over the numbers of both columns, in thousandths
abbrev pub unit_over : List Value → List Value → ℤ
unit_over before after = if list_all is_whole before && list_all is_whole after then pos 1000 else pos 1

-- the two ends of a range
pub record Ends : Type 0 where
  pub least : ℤ
  pub greatest : ℤ

-- the ends of a range, where there is one
abbrev pub ends_of : Option Range → Option Ends
ends_of range = option_map (λ (r : Range). record { least = r.least; greatest = r.greatest }) range

-- the range of one number, where there is one and its thousandths can be told
abbrev pub point_ends : Option Fraction → Option Ends
point_ends number = option_map (λ t. record { least = t; greatest = t }) (option_and_then thousandths_of number)

-- one range over two, or the one that there is
abbrev pub joined_ends : Option Ends → Option Ends → Option Ends
joined_ends (Some a) (Some b) = Some (record { least = int_min a.least b.least; greatest = int_max a.greatest b.greatest })
joined_ends (Some a) None = Some a
joined_ends None other = other

-- a number's thousandths, where it is the least or the greatest of some values and they can be told
pub record IsEnd (values : List Value) (t : ℤ) : Type 0 where
  pub number : Fraction
  pub last : IsLeast values number ⊎ IsGreatest values number
  pub told : thousandths_of number ≡ Some t

-- the range is that of the numbers of which this holds; there is none where there is no such number
abbrev pub AreEndsOf : (ℤ → Type 0) → Option Ends → Type 0
AreEndsOf P (Some ends) =
    P ends.least × P ends.greatest × ((t : ℤ) → P t → (ends.least ≤ℤ t) × (t ≤ℤ ends.greatest))
AreEndsOf P None = (t : ℤ) → ¬ P t

-- the narrowest bins over a range, not narrower than the unit; no bins where there is no range
abbrev pub AreBinsOver : Option Ends → ℤ → Option Bins → Type 0
AreBinsOver (Some ends) unit (Some bins) =
    IsNarrowest ends.least ends.greatest unit bins.width
    × (bins.first ≡ int_div_euclid ends.least bins.width *ℤ bins.width)
    × (pos bins.count ≡ bins_needed ends.least ends.greatest bins.width)
AreBinsOver None unit None = Unit {0}
AreBinsOver _ unit bins = ⊥

-- the bins over the numbers of both columns
pub record AreBinsOf (before after : List Value) (bins : Option Bins) : Type 0 where
  pub ends : Option Ends
  pub are_ends : AreEndsOf (λ t. IsEnd before t ⊎ IsEnd after t) ends
  pub over : AreBinsOver ends (unit_over before after) bins
