use Rattle.std.specs.Prelude.{ℤ, ◌&&◌, ◌||◌, not, Bool, true, List, pos, int_le, int_lt}
use Rattle.std.specs.Ordering.{int_eq}
use Rattle.std.specs.Cmp.Lexicographic.{pointwise}
use Rattle.std.specs.List.{list_all}
use Rattle.edit_line.specs.Lines.{LineParts, is_above, is_equal}
use Rattle.edit_line.specs.declared.relation.Relation.{Relation}
use Rattle.edit_line.specs.declared.relation.Relation.TheVariants.{Above, AtLeast, Equal}
use Rattle.edit_line.specs.Sets.{are_subsets}

-- whether two lists of whole numbers are equal
abbrev pub same_all : List ℤ → List ℤ → Bool
same_all first second = pointwise int_eq first second

-- whether a number is at least 0, above 0, or 0, as the relation says
abbrev pub is_enough : Relation → ℤ → Bool
is_enough AtLeast z = int_le (pos 0) z
is_enough Above z = int_lt (pos 0) z
is_enough Equal z = int_eq z (pos 0)

-- whether each number that is enough for the first relation is enough for the second
abbrev pub implies : Relation → Relation → Bool
implies first AtLeast = true
implies first Above = is_above first
implies first Equal = is_equal first

-- whether no numerical field stands in the line
abbrev pub has_no_factor : LineParts → Bool
has_no_factor line = list_all (λ a. int_eq a (pos 0)) line.factors

-- whether the line has no factor, and always holds
abbrev pub is_trivial : LineParts → Bool
is_trivial line = has_no_factor line && is_enough line.relation line.constant

-- whether the line has no factor, and never holds where its codes are
abbrev pub is_false : LineParts → Bool
is_false line = has_no_factor line && not (is_enough line.relation line.constant)

-- whether a's constant is less and b is no equality, or the constants are equal and a's relation implies b's
abbrev pub is_tighter : LineParts → LineParts → Bool
is_tighter a b =
    (int_lt a.constant b.constant && not (is_equal b.relation)) || (int_eq a.constant b.constant && implies a.relation b.relation)

-- whether a subsumes b: each set of b is inside a's, and a is false, or has the same factors and is as tight
abbrev pub subsumes : LineParts → LineParts → Bool
subsumes a b = are_subsets b.sets a.sets && (is_false a || (same_all a.factors b.factors && is_tighter a b))
