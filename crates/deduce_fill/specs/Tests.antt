use Rattle.std.specs.Prelude.{◌≡◌, ℕ, ℤ, suc, ◌*◌, ◌^◌, ◌==◌, ◌++◌, Bool, List, [], ◌∷◌, length, map, pos, slice_set, if◌then◌else◌}
use Rattle.std.specs.List.{filter}
use lib.IntN.{neg_ℤ}
use Rattle.foundation.specs.Limits.{most_rules}
use Rattle.fraction128.specs.declared.fraction.Fraction.{Fraction}
use Rattle.edit_model.specs.Corrections.{path_order}
use Rattle.edit_model.specs.FieldSets.{set_of}
use Rattle.edit_model.specs.Rows.{is_bad, value_of}
use Rattle.edit_model.specs.declared.field.Field.{Field}
use Rattle.edit_model.specs.declared.value.Value.{Value}
use Rattle.edit_model.specs.declared.value.Value.TheVariants.{Bad, Code, Number}
use Rattle.edit_line.specs.Lines.{LineParts, parts_of}
use Rattle.edit_line.specs.Negations.{never}
use Rattle.edit_line.specs.declared.relation.Relation.TheVariants.{Above}
use Rattle.edit_line.specs.Shapes.{Domain, code_fields, number_fields, place_in, whole_sets}
use Rattle.edit_paths.specs.Cases.{SearchCase}

-- ---- the fields without a value

-- the fields at which the record has no value, in path order
abbrev pub bad_fields : List Field → List Value → List ℕ
bad_fields fields row = filter (λ f. is_bad (value_of row f)) (path_order fields)

-- the set of these fields
abbrev pub bad_set : List Field → List Value → ℕ
bad_set fields row = set_of (bad_fields fields row)

-- the path of the record: it changes just these fields
abbrev pub own_path : List Field → List Value → List Bool
own_path fields row = map (λ f. is_bad (value_of row f)) (path_order fields)

-- ---- the lines that a value at a field is tested by

-- the factors of a line in which this field stands alone
abbrev pub alone_at : List Domain → ℕ → ℤ → List ℤ
alone_at shape f a = map (λ g. if g == f then a else pos 0) (number_fields shape)

-- the number at the field is above x
abbrev pub above_line : List Domain → ℕ → Fraction → LineParts
above_line shape f x = parts_of shape (whole_sets shape) (alone_at shape f x.denominator) (neg_ℤ x.numerator) Above

-- the number at the field is below x
abbrev pub below_line : List Domain → ℕ → Fraction → LineParts
below_line shape f x = parts_of shape (whole_sets shape) (alone_at shape f (neg_ℤ x.denominator)) x.numerator Above

-- the code at the field is another one
abbrev pub other_line : List Domain → ℕ → ℕ → LineParts
other_line shape f code = never shape (slice_set (whole_sets shape) (place_in (code_fields shape) f) (2 ^ code))

-- the lines of which one holds exactly where a point has another value at the field
abbrev pub test_lines : List Domain → ℕ → Value → List LineParts
test_lines shape f (Number x) = above_line shape f x ∷ below_line shape f x ∷ []
test_lines shape f (Code code) = other_line shape f code ∷ []
test_lines shape f Bad = []

-- the case with one more line, numbered after the edits
abbrev pub with_line : SearchCase → LineParts → SearchCase
with_line c line = record { survey = c.survey; edits = c.edits ++ (length c.edits, line) ∷ []; row = c.row }

-- how many edits there may be: at most two of each rule
abbrev pub most_edits : ℕ
most_edits = 2 * most_rules

-- each edit is numbered by its place, the first one's number being i
abbrev pub ArePlacedFrom : ℕ → List (ℕ × LineParts) → Type 0
ArePlacedFrom i [] = Unit {0}
ArePlacedFrom i (edit ∷ edits) = (edit.0 ≡ i) × ArePlacedFrom (suc i) edits
