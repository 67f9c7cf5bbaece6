use Rattle.std.proofs.Common.{◌∙◌, ap, length, not, sym, List, ℕ}
use Rattle.edit_model.specs.Corrections.{is_numerical}
use Rattle.edit_line.specs.Sets.{are_codes_in}
use Rattle.edit_line.specs.Shapes.{whole_sets}
use Rattle.edit_line.proofs.FactorLoops.{codes_of_row}
use Rattle.edit_line.proofs.RowFields.{kind-within}
use Rattle.edit_line.proofs.SetLaws.{AreSets-length}
use Rattle.edit_line.proofs.ShapeLaws.{length-wholes, same_codes}
use Rattle.edit_line.proofs.line.Line.admits_codes_of.Goals as goal

pub admits_codes-requires-clause-count : goal.admits_codes-requires-clause-count
admits_codes-requires-clause-count c =
    let line = c.args.self.now in
    ap length c.sets.ensures.sets ∙ AreSets-length line.sets (whole_sets line.shape) c.sets.ensures.fit ∙ length-wholes 0 line.shape
    ∙ sym (ap length (same_codes c.codes.result.now c.args.survey.now.fields line.shape c.codes.ensures c.requires.shape))

pub admits_codes-requires-clause-within : goal.admits_codes-requires-clause-within
admits_codes-requires-clause-within c = kind-within (λ k. not (is_numerical k)) c.args.survey.now.fields c.args.row.now c.codes.result.now c.requires.row
    c.codes.ensures

pub returns : goal.returns
returns c =
    let line = c.args.self.now in
    c.admits_codes.ensures ∙ ap (λ (ss : List ℕ). are_codes_in ss (codes_of_row c.args.row.now c.codes.result.now)) c.sets.ensures.sets
    ∙ ap (λ (fs : List ℕ). are_codes_in line.sets (codes_of_row c.args.row.now fs)) (same_codes c.codes.result.now c.args.survey.now.fields line.shape
    c.codes.ensures c.requires.shape)
