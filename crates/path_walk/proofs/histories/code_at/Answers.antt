use Rattle.std.proofs.Common.{◌≡◌, ◌<◌, ℕ, arith, refl, sym, ap, subst, ◌∙◌}
use Rattle.edit_model.proofs.RowLaws.{row-length}
use Rattle.edit_model.specs.RowPoints.{code_in}
use Rattle.edit_model.specs.Rows.{value_of}
use Rattle.edit_model.specs.declared.value.Value.{Value}
use Rattle.edit_model.specs.declared.value.Value.TheVariants.{Bad, Code, Number}
use Rattle.edit_line.specs.CodeFields.{TakesCodes, size_of}
use Rattle.edit_line.specs.Shapes.{shape_of}
use Rattle.edit_paths.specs.Cases.{IsCase, SearchCase}
use Rattle.path_walk.specs.Problems.{case_in}
use Rattle.path_walk.proofs.RowCodes.{row-code}
use Rattle.path_walk.proofs.histories.code_at.Goals as goal

pub value-requires : goal.value-requires
value-requires c =
    omega (arith, c.requires.within, row-length (case_in c.args.problem.now).survey.fields (case_in c.args.problem.now).row c.requires.problem.case.row)

-- the code of a value that the record has at a categorical field is one of the field's
code-known : (c : SearchCase) → IsCase c → (f : ℕ) → TakesCodes (shape_of c.survey.fields) f → (v : Value) → value_of c.row f ≡ v
    → code_in v < size_of (shape_of c.survey.fields) f
code-known c is f takes (Code k) own = row-code c is f k own
code-known c is f takes (Number x) own = takes
code-known c is f takes Bad own = takes

pub returns-clause-known : goal.returns-clause-known
returns-clause-known c =
    let own = c.code_number.ensures ∙ ap code_in c.value.ensures in
    subst (λ (n : ℕ). n < size_of (shape_of (case_in c.args.problem.now).survey.fields) c.args.field) (sym own)
    (code-known (case_in c.args.problem.now) c.requires.problem.case c.args.field c.requires.takes (value_of (case_in c.args.problem.now).row c.args.field)
    refl)
