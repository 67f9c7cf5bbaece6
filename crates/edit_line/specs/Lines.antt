use Rattle.std.specs.Prelude.{◌≡◌, ℕ, ℤ, Bool, true, false, List, ◌∷◌, All, length, pos, ◌<ℤ◌, ◌≤ℤ◌, ◌+ℤ◌, ◌*ℤ◌}
use Rattle.fraction128.specs.Range.{InRange}
use Rattle.edit_model.specs.Points.{Point}
use Rattle.edit_line.specs.Sets.{AreCodesIn, AreSets}
use Rattle.edit_line.specs.declared.relation.Relation.{Relation}
use Rattle.edit_line.specs.declared.relation.Relation.TheVariants.{Above, AtLeast, Equal}
use Rattle.edit_line.specs.Shapes.{Domain, beside, code_fields, codes_at, number_fields, numerators_at, whole_sets}

-- a linear edit: IF each code is in its set THEN the sum of factor * value, and the constant, is at least 0, above 0, or 0, as the
-- relation says. A set for each categorical field and a factor for each numerical one, both in declared order
pub record LineParts : Type 0 where
  pub shape : List Domain
  pub sets : List ℕ
  pub factors : List ℤ
  pub constant : ℤ
  pub relation : Relation

-- the line of these parts
abbrev pub parts_of : List Domain → List ℕ → List ℤ → ℤ → Relation → LineParts
parts_of shape sets factors constant relation =
    record { shape = shape; sets = sets; factors = factors; constant = constant; relation = relation }

-- a set with codes of its own for each categorical field, a factor for each numerical field, and all numbers in range; an
-- equality has whole sets
pub record IsLine (line : LineParts) : Type 0 where
  pub sets : AreSets line.sets (whole_sets line.shape)
  pub factors : length line.factors ≡ length (number_fields line.shape)
  pub in_range : All InRange line.factors × InRange line.constant
  pub whole : line.relation ≡ Equal → line.sets ≡ whole_sets line.shape

-- the sum of factor * value
abbrev pub weighted : List ℤ → List ℤ → ℤ
weighted (a ∷ factors) (x ∷ values) = a *ℤ x +ℤ weighted factors values
weighted _ _ = pos 0

-- the linear part at a point, times its denominator
abbrev pub amount : LineParts → Point → ℤ
amount line p = weighted line.factors (numerators_at line.shape p) +ℤ line.constant *ℤ p.denominator

-- whether the relation is that of an equality
abbrev pub is_equal : Relation → Bool
is_equal Equal = true
is_equal AtLeast = false
is_equal Above = false

-- whether the relation asks for more than 0
abbrev pub is_above : Relation → Bool
is_above Above = true
is_above AtLeast = false
is_above Equal = false

-- the number is at least 0, above 0, or 0, as the relation says
abbrev pub IsEnough : Relation → ℤ → Type 0
IsEnough AtLeast z = pos 0 ≤ℤ z
IsEnough Above z = pos 0 <ℤ z
IsEnough Equal z = z ≡ pos 0

-- the relation of a bound: above 0 where it is strict, else at least 0
abbrev pub bound_relation : Bool → Relation
bound_relation true = Above
bound_relation false = AtLeast

-- the line holds at the point
pub record LineHolds (line : LineParts) (p : Point) : Type 0 where
  pub enough : AreCodesIn line.sets (codes_at line.shape p) → IsEnough line.relation (amount line p)

-- all lines hold at the point
abbrev pub AllHold : List LineParts → Point → Type 0
AllHold lines p = All (λ line. LineHolds line p) lines

-- every point at which the lines hold is one at which the line holds
abbrev pub Follows : List LineParts → LineParts → Type 0
Follows lines line = (p : Point) → AllHold lines p → LineHolds line p

-- the line's factor at a field, 0 where the field is not numerical
abbrev pub factor : LineParts → ℕ → ℤ
factor line f = beside (pos 0) (number_fields line.shape) line.factors f

-- the line is over this survey's fields: its sets are of their codes, and an equality's of all
pub record HasShape (shape : List Domain) (line : LineParts) : Type 0 where
  pub same : line.shape ≡ shape
  pub sets : length line.sets ≡ length (code_fields shape)
  pub factors : length line.factors ≡ length (number_fields shape)
  pub fit : AreSets line.sets (whole_sets shape)
  pub whole : line.relation ≡ Equal → line.sets ≡ whole_sets shape

-- all lines are over this survey's fields
abbrev pub HaveShape : List Domain → List LineParts → Type 0
HaveShape shape lines = All (λ line. HasShape shape line) lines

-- all lines are over the fields of this shape
abbrev pub AreOver : List Domain → List LineParts → Type 0
AreOver shape lines = All (λ (line : LineParts). line.shape ≡ shape) lines

-- all lines are over the fields of one shape
abbrev pub HaveOneShape : List LineParts → Type 0
HaveOneShape lines = (shape : List Domain) × AreOver shape lines
