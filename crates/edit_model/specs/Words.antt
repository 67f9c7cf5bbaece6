use Rattle.std.specs.Prelude.{ℕ, List, map, slice_index_or}
use Rattle.edit_model.specs.declared.field.Field.{Field}

-- A word says of the first fields in path order, each by a letter, whether it is kept (false) or changed (true).

-- the weight of the field of this number
abbrev pub weight_at : List Field → ℕ → ℕ
weight_at fields f = slice_index_or (map (λ (field : Field). field.weight) fields) f 0
