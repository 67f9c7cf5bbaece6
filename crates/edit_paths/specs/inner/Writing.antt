use Rattle.std.specs.Prelude.{◌≡◌, ℕ, suc, List, [], ◌∷◌, Option, Some, None, if◌then◌else◌}
use Rattle.std.specs.BTreeMap.{BTreeMap, get}
use Rattle.std.specs.Option.{option_map}
use Rattle.std.specs.Ordering.{nat_cmp, ordering_then}
use Rattle.std.specs.declared.cmp.Ordering.{Ordering}
use Rattle.edit_paths.specs.Histories.{Element, is_element}
use Rattle.edit_paths.specs.declared.making.Making.{Making}
use Rattle.edit_paths.specs.declared.making.Making.TheVariants.{By, Same}
use Rattle.edit_paths.specs.declared.making.Written.{Written}

-- the place in the list before from which an element was taken over; none of one that a step made
abbrev pub earlier_of : Making → Option ℕ
earlier_of (By step) = None
earlier_of (Same place) = Some place

-- the number of the step that proves the element, if it has one
abbrev pub number_of : List Written → Element → Option ℕ
number_of [] element = None
number_of (w ∷ written) element = if is_element w.element element then Some 0 else option_map suc (number_of written element)

-- elements in order: by the lists that stand before their own, and by their places there
abbrev pub element_cmp : Element → Element → Ordering
element_cmp a b = ordering_then (nat_cmp a.0 b.0) (nat_cmp a.1 b.1)

-- the map has the number of each element's step
abbrev pub HasNumbers : BTreeMap Element ℕ → List Written → Type 0
HasNumbers numbers written = (element : Element) → get element_cmp numbers element ≡ number_of written element
