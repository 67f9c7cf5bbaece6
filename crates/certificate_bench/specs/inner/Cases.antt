use Rattle.std.specs.Prelude.{ℕ, zero, suc, ◌+◌, true, List, [], ◌∷◌, None, map, negsuc, pos, replicate}
use Rattle.std.specs.List.{range_with_len}
use Rattle.edit_model.specs.Parts.{survey_of}
use Rattle.edit_model.specs.declared.field.Field.{Field}
use Rattle.edit_model.specs.declared.field.Kind.TheVariants as kind
use Rattle.edit_model.specs.declared.value.Value.{Value}
use Rattle.edit_model.specs.declared.value.Value.TheVariants.{Bad}
use Rattle.edit_line.specs.Lines as lines
use Rattle.edit_line.specs.Shapes.{shape_of}
use Rattle.edit_line.specs.declared.relation.Relation.TheVariants.{AtLeast}
use Rattle.bound_cert.specs.ValidTrees.{TreeCase, tree_case}

-- how many fields there are for a tree of this depth: one for each place of its paths, and one at least
abbrev pub field_count : ℕ → ℕ
field_count zero = 1
field_count (suc depth) = suc depth

-- a numerical field of weight 1, with this letter for its name
abbrev pub field_named : ℕ → Field
field_named letter = record { name = letter ∷ []; weight = 1; kind = kind.Number 1 }

-- this number of them, named by the letters from a on
abbrev pub fields_of : ℕ → List Field
fields_of count = map (λ i. field_named (97 + i)) (range_with_len 0 count)

-- the line -1 >= 0 over these fields, which is false at every point
abbrev pub false_line : ℕ → lines.LineParts
false_line count = lines.parts_of (shape_of (fields_of count)) [] (replicate count (pos 0)) (negsuc 0) AtLeast

-- a record of which nothing is known
abbrev pub unknown_row : ℕ → List Value
unknown_row count = replicate count Bad

-- what the certificate of this depth is about: such fields, that line, which is usable, and such a record, to which
-- there is said to be no correction
abbrev pub case_of : ℕ → TreeCase
case_of depth =
    let count = field_count depth in
    tree_case (survey_of (fields_of count) []) (false_line count ∷ []) (true ∷ []) (unknown_row count) None
