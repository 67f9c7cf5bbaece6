use Rattle.std.specs.Prelude.{ℕ, suc, ℤ, pos, ◌^◌, ◌&&◌, not, Bool, true, List, [], ◌∷◌, ◌++◌, Option, Some, None, is_none, Result, Ok, Err, map, int_lt, int_rem, bit_and, nat_eq, nat_lt, unsigned_abs, ◌+ℤ◌, ◌*ℤ◌, if◌then◌else◌}
use Rattle.std.specs.List.{list_all}
use Rattle.std.specs.Ordering.{int_eq}
use Rattle.edit_line.specs.Lines.{LineParts, parts_of}
use Rattle.edit_line.specs.declared.relation.Relation.{Relation}
use Rattle.edit_line.specs.declared.relation.Relation.TheVariants.{Above, AtLeast, Equal}

-- some code of each field is in both sets
abbrev pub all_meet : List ℕ → List ℕ → Bool
all_meet (s ∷ first) (t ∷ second) = not (nat_eq (bit_and s t) 0) && all_meet first second
all_meet _ _ = true

-- the codes that are in the first and in the second; a missing set counts as whole
abbrev pub in_both : List ℕ → List ℕ → List ℕ
in_both (s ∷ first) (t ∷ second) = bit_and s t ∷ in_both first second
in_both [] second = second
in_both first [] = first

-- m times the first and n times the second, place by place; a missing number counts as 0
abbrev pub combined : ℤ → ℤ → List ℤ → List ℤ → List ℤ
combined m n (a ∷ first) (b ∷ second) = (m *ℤ a +ℤ n *ℤ b) ∷ combined m n first second
combined m n [] second = map (λ b. n *ℤ b) second
combined m n first [] = map (λ a. m *ℤ a) first

-- the relation of a sum of two lines: equal where both are, above where one is, else at least
abbrev pub joined : Relation → Relation → Relation
joined Equal other = other
joined Above other = Above
joined AtLeast Above = Above
joined AtLeast AtLeast = AtLeast
joined AtLeast Equal = AtLeast

-- the line that is m times s and n times t, asked where the codes are in the sets of both
abbrev pub sum_of : ℤ → ℤ → LineParts → LineParts → LineParts
sum_of m n s t = parts_of s.shape (in_both s.sets t.sets) (combined m n s.factors t.factors)
    (m *ℤ s.constant +ℤ n *ℤ t.constant) (joined s.relation t.relation)

-- ---- the numbers formed on the way

-- whether a whole number is of absolute value at most 2 ^ 127 - 1
abbrev pub in_range : ℤ → Bool
in_range z = nat_lt (unsigned_abs z) (2 ^ 127)

-- whether both products and their sum are in range
abbrev pub sum_fits : ℤ → ℤ → ℤ → ℤ → Bool
sum_fits m n a b = in_range (m *ℤ a) && (in_range (n *ℤ b) && in_range (m *ℤ a +ℤ n *ℤ b))

-- the first place, counted from i, at which a number of m * first + n * second leaves the range
abbrev pub first_overflow : ℕ → ℤ → ℤ → List ℤ → List ℤ → Option ℕ
first_overflow i m n (a ∷ first) (b ∷ second) = if sum_fits m n a b then first_overflow (suc i) m n first second else Some i
first_overflow i m n _ _ = None

-- a line's numbers: the factors, and then the constant
abbrev pub numbers : LineParts → List ℤ
numbers line = line.factors ++ line.constant ∷ []

-- the value, unless a place leaves the range
abbrev pub unless_overflow : {B : Type 0} → Option ℕ → B → Result B ℕ
unless_overflow None value = Ok value
unless_overflow (Some place) value = Err place

-- ---- a combination that may be taken

-- whether all numbers of the line are multiples of g
abbrev pub divides : ℤ → LineParts → Bool
divides g line = list_all (λ z. int_eq (int_rem z g) (pos 0)) (numbers line)

-- whether m times s and n times t have codes of each field in common, no product and no sum leaves the range, and g divides all numbers
abbrev pub may_sum : ℤ → ℤ → ℤ → LineParts → LineParts → Bool
may_sum m n g s t =
    all_meet s.sets t.sets && (is_none (first_overflow 0 m n (numbers s) (numbers t)) && divides g (sum_of m n s t))

-- whether a line with this relation may be multiplied so: by a number above 0, and an equality by any in range but 0
abbrev pub may_multiply : Relation → ℤ → Bool
may_multiply Equal m = in_range m && not (int_eq m (pos 0))
may_multiply AtLeast m = int_lt (pos 0) m
may_multiply Above m = int_lt (pos 0) m

-- whether m times s and n times t, divided by g, may be taken: both lines may be multiplied so, g is above 0, and the sum may be taken
abbrev pub may_combine : ℤ → ℤ → ℤ → LineParts → LineParts → Bool
may_combine m n g s t =
    may_multiply s.relation m && (may_multiply t.relation n && (int_lt (pos 0) g && may_sum m n g s t))
