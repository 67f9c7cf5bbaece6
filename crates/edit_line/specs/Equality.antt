use Rattle.std.specs.Prelude.{ℕ, ◌&&◌, Bool, true, false, List, nat_eq}
use Rattle.std.specs.Cmp.Lexicographic.{pointwise}
use Rattle.std.specs.Ordering.{int_eq}
use Rattle.edit_line.specs.EditSets.{EditsParts}
use Rattle.edit_line.specs.Lines.{LineParts}
use Rattle.edit_line.specs.Shapes.{Categorical, Domain, Numerical}
use Rattle.edit_line.specs.Subsumption.{same_all}
use Rattle.edit_line.specs.declared.relation.Relation.{Relation}
use Rattle.edit_line.specs.declared.relation.Relation.TheVariants.{Above, AtLeast, Equal}

-- whether two fields take the same values
abbrev pub same_domain : Domain → Domain → Bool
same_domain Numerical Numerical = true
same_domain (Categorical m) (Categorical n) = nat_eq m n
same_domain _ _ = false

-- whether two shapes are equal
abbrev pub same_shape : List Domain → List Domain → Bool
same_shape first second = pointwise same_domain first second

-- whether two relations are the same
abbrev pub same_relation : Relation → Relation → Bool
same_relation AtLeast AtLeast = true
same_relation Above Above = true
same_relation Equal Equal = true
same_relation _ _ = false

-- whether two lines ask for the same linear part
abbrev pub same_linear : LineParts → LineParts → Bool
same_linear a b = same_all a.factors b.factors && (int_eq a.constant b.constant && same_relation a.relation b.relation)

-- whether two lines are equal
abbrev pub same_line : LineParts → LineParts → Bool
same_line a b = same_shape a.shape b.shape && (pointwise nat_eq a.sets b.sets && same_linear a b)

-- whether two numbered lines are equal
abbrev pub same_numbered : (ℕ × LineParts) → (ℕ × LineParts) → Bool
same_numbered a b = nat_eq a.0 b.0 && same_line a.1 b.1

-- whether two surveys' edits are equal
abbrev pub same_edits : EditsParts → EditsParts → Bool
same_edits a b = same_shape a.shape b.shape && pointwise same_numbered a.lines b.lines
