use Rattle.std.proofs.Common.{Bool, Result, Ok, ℕ, length, not, sym, ap, ◌∙◌, arith}
use Rattle.edit_model.specs.Corrections.{is_numerical}
use Rattle.edit_model.proofs.OrderLaws.{numbers-below}
use Rattle.edit_model.proofs.RowLaws.{row-length}
use Rattle.localise_tree.specs.inner.AllKept.{holds_by, is_for}
use Rattle.localise_tree.proofs.CodeTests.{codes-counted, line-codes}
use Rattle.localise_tree.proofs.all_kept.holds_at.Goals as goal

pub are_codes_in_sets-requires-clause-count : goal.are_codes_in_sets-requires-clause-count
are_codes_in_sets-requires-clause-count c =
    codes-counted c.args.survey.now.fields c.args.line.now c.sets.result.now c.codes.result.now c.requires.over c.sets.ensures.sets c.codes.ensures

pub are_codes_in_sets-requires-clause-places : goal.are_codes_in_sets-requires-clause-places
are_codes_in_sets-requires-clause-places c =
    numbers-below (λ k. not (is_numerical k)) (length c.args.row.now) c.args.survey.now.fields c.codes.result.now
    (omega (arith, row-length c.args.survey.now.fields c.args.row.now c.requires.row)) c.codes.ensures

pub returns-in-Ok-true : goal.returns-in-Ok-true
returns-in-Ok-true c =
    ap not (c.are_codes_in_sets.ensures ∙ line-codes c.args.survey.now.fields c.args.row.now c.args.line.now c.sets.result.now c.codes.result.now
    c.requires.over c.sets.ensures.sets c.codes.ensures)
    ∙ ap (λ (r : Result Bool ℕ). holds_by r (is_for c.args.row.now c.args.line.now))
    (sym (c.in-Ok-true.ensures.answer ∙ ap (λ (b : Bool). Ok b) c.in-Ok-true.field-0-test))
