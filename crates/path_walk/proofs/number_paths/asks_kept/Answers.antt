use Rattle.std.proofs.Common.{ℕ, List, nat_eq, false, true, refl, sym, ap, ◌∙◌}
use Rattle.std.specs.Cmp.Lexicographic.{pointwise}
use Rattle.edit_line.specs.Boxes.{are_whole}
use Rattle.edit_line.specs.Shapes.{shape_of, number_fields}
use Rattle.edit_line.specs.Sums.{stands_only}
use Rattle.edit_model.specs.FieldSets.{has_number}
use Rattle.path_walk.specs.Problems.{case_in}
use Rattle.path_walk.proofs.NumberPathLaws.{asked-when}
use Rattle.path_walk.proofs.number_paths.asks_kept.Goals as goal

pub returns-then-stands_only_in : goal.returns-then-stands_only_in
returns-then-stands_only_in c =
    asked-when (case_in c.args.problem.now) c.requires.problem.case c.args.path.now c.requires.held c.args.line.now c.requires.over true c.eq.result
    (sym c.if-stands_only_in.true ∙ c.stands_only_in.ensures
    ∙ ap (λ (set : ℕ). stands_only (has_number set) (number_fields c.args.line.now.shape) c.args.line.now.factors) c.requires.kept)
    (c.eq.ensures ∙ ap (λ (sets : List ℕ). pointwise nat_eq sets c.args.problem.now.wholes.now) c.sets.ensures.sets
    ∙ ap (λ (wholes : List ℕ). pointwise nat_eq c.args.line.now.sets wholes) c.requires.problem.wholes)

pub returns-else-stands_only_in : goal.returns-else-stands_only_in
returns-else-stands_only_in c =
    c.if-stands_only_in.false
    ∙ asked-when (case_in c.args.problem.now) c.requires.problem.case c.args.path.now c.requires.held c.args.line.now c.requires.over false
    (are_whole (shape_of c.args.problem.now.survey.now.fields) c.args.line.now.sets)
    (sym c.if-stands_only_in.false ∙ c.stands_only_in.ensures
    ∙ ap (λ (set : ℕ). stands_only (has_number set) (number_fields c.args.line.now.shape) c.args.line.now.factors) c.requires.kept) refl
