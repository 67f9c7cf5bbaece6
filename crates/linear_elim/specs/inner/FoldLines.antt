use Rattle.std.specs.Prelude.{ℕ, List, [], ◌∷◌, Option, Some, None, Vec}
use Rattle.std.specs.declared.alloc.Global.{Global}
use Rattle.std.specs.List.{filter}
use Rattle.edit_model.specs.FieldSets.{has_number}
use Rattle.edit_line.specs.Shapes.{domain_with, numbers_from}
use Rattle.edit_line.specs.declared.derived.Derived.{Derived}

-- the lines of the fold so far: those that it begins with, until a step has made others
abbrev pub so_far : List Derived → Option (Vec Derived Global) → List Derived
so_far base None = base
so_far base (Some lines) = lines.items

-- the field of this number, with this number of codes, if it is numerical and of the set
abbrev pub next_fields : ℕ → ℕ → ℕ → List ℕ
next_fields fields field count = filter (has_number fields) (numbers_from field (domain_with count ∷ []))
