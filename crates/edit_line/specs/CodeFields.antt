use Rattle.std.specs.Prelude.{ℕ, zero, suc, ◌<◌, ◌==◌, Bool, List, [], ◌∷◌, if◌then◌else◌, map, slice_index_or, slice_set}
use Rattle.edit_model.specs.Points.{Point, has_code}
use Rattle.edit_model.specs.RowPoints.{code_in}
use Rattle.edit_model.specs.Rows.{value_of}
use Rattle.edit_model.specs.declared.value.Value.{Value}
use Rattle.edit_line.specs.Shapes.{Categorical, Domain, Numerical, code_fields, place_in, whole_sets}

-- this number of codes, one after the other, from the given one on
abbrev pub codes_up : ℕ → ℕ → List ℕ
codes_up code zero = []
codes_up code (suc k) = code ∷ codes_up (suc code) k

-- how many codes the field has, of those from number i on; none where it is not categorical
abbrev pub size_from : ℕ → List Domain → ℕ → ℕ
size_from i [] f = 0
size_from i (Numerical ∷ shape) f = size_from (suc i) shape f
size_from i (Categorical k ∷ shape) f = if i == f then k else size_from (suc i) shape f

-- how many codes the field has, none where it is not categorical
abbrev pub size_of : List Domain → ℕ → ℕ
size_of shape f = size_from 0 shape f

-- the field is categorical, with a code at least
abbrev pub TakesCodes : List Domain → ℕ → Type 0
TakesCodes shape f = 0 < size_of shape f

-- the codes of the field, in declared order
abbrev pub codes_of : List Domain → ℕ → List ℕ
codes_of shape f = codes_up 0 (size_of shape f)

-- the field's place among the categorical ones
abbrev pub place_of : List Domain → ℕ → ℕ
place_of shape f = place_in (code_fields shape) f

-- the set of all codes of the field
abbrev pub whole_of : List Domain → ℕ → ℕ
whole_of shape f = slice_index_or (whole_sets shape) (place_of shape f) 0

-- the sets, made whole at the field
abbrev pub whole_at : List Domain → ℕ → List ℕ → List ℕ
whole_at shape f sets = slice_set sets (place_of shape f) (whole_of shape f)

-- whether the set at a place has the code
abbrev pub has_code_at : ℕ → ℕ → List ℕ → Bool
has_code_at place code sets = has_code (slice_index_or sets place 0) code

-- the point with this code at the field
abbrev pub with_code_at : Point → ℕ → ℕ → Point
with_code_at p f code = record p { code = λ i. if i == f then code else p.code i }

-- the record's codes at the categorical fields; where it is Bad, the field's first code
abbrev pub codes_in : List Domain → List Value → List ℕ
codes_in shape row = map (λ f. code_in (value_of row f)) (code_fields shape)
