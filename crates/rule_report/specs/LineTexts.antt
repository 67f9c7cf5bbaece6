-- A line as a text: IF the codes are in its sets THEN its sum compares with 0.
use Rattle.std.specs.Prelude.{ℕ, ℤ, pos, false, ◌==◌, ◌++◌, List, [], ◌∷◌, codes, if◌then◌else◌}
use Rattle.std.specs.Ordering.{int_eq}
use Rattle.edit_model.specs.declared.field.Field.{Field}
use Rattle.edit_model.specs.declared.rule.Compare.{Compare}
use Rattle.edit_model.specs.declared.rule.Compare.TheVariants.{Eq, Ge, Gt}
use Rattle.edit_model.specs.declared.rule.Linear.{Linear}
use Rattle.edit_model.specs.declared.rule.Term.{Term}
use Rattle.edit_model.specs.declared.rule.Test.{Test}
use Rattle.edit_model.specs.declared.rule.Test.TheVariants as test
use Rattle.edit_language.specs.Printing.{conditions_text, linear_text}
use Rattle.edit_line.specs.Lines.{LineParts}
use Rattle.edit_line.specs.Shapes.{code_fields, number_fields, whole_sets}
use Rattle.edit_line.specs.Subsumption.{is_false}
use Rattle.edit_line.specs.declared.relation.Relation.{Relation}
use Rattle.edit_line.specs.declared.relation.Relation.TheVariants.{Above, AtLeast, Equal}

-- the fields that stand in a line, each with its factor
abbrev pub line_terms : List ℕ → List ℤ → List Term
line_terms (f ∷ fields) (a ∷ factors) =
    if int_eq a (pos 0)
    then line_terms fields factors
    else record { field = f; factor = a } ∷ line_terms fields factors
line_terms _ _ = []

-- for each categorical field whose set is not whole, that its code is in the set
abbrev pub conditions_of : List ℕ → List ℕ → List ℕ → List Test
conditions_of (f ∷ fields) (set ∷ sets) (whole ∷ wholes) =
    if set == whole
    then conditions_of fields sets wholes
    else test.Codes f false set ∷ conditions_of fields sets wholes
conditions_of _ _ _ = []

-- how a line's sum is compared with 0
abbrev pub compare_of : Relation → Compare
compare_of AtLeast = Ge
compare_of Above = Gt
compare_of Equal = Eq

-- the linear part of a line
abbrev pub linear_part : LineParts → Linear
linear_part line = record {
  terms = line_terms (number_fields line.shape) line.factors;
  constant = line.constant;
  compare = compare_of line.relation;
}

-- what a line says where its codes are in its sets: `never` where that is never true
abbrev pub linear_words : List Field → LineParts → List ℕ
linear_words fields line = if is_false line then codes "never" else linear_text fields (linear_part line)

-- the text of a line over the fields
abbrev pub line_text : List Field → LineParts → List ℕ
line_text fields line =
    conditions_text fields (conditions_of (code_fields line.shape) line.sets (whole_sets line.shape)) ++ linear_words fields line
