use Rattle.std.proofs.Common.{List, sym, subst, arith}
use Rattle.categ_combine.specs.Apart.{LieApart}
use Rattle.categ_combine.specs.declared.box_from.BoxFrom.{BoxFrom}
use Rattle.edit_paths.specs.Paths.{before_last}
use Rattle.edit_model.proofs.RowLaws.{row-length}
use Rattle.path_walk.specs.Problems.{case_in}
use Rattle.path_walk.proofs.ApartPaths.{apart-along}
use Rattle.path_walk.proofs.CodePathLaws.{changed-look, changed-passed, codes-over, codes-takes, kept-look}
use Rattle.path_walk.proofs.code_paths.look_at_codes.Goals as goal

pub look_at_changed-requires-clause-over : goal.look_at_changed-requires-clause-over
look_at_changed-requires-clause-over c =
    codes-over (case_in c.args.problem.now) c.requires.problem.case c.args.letters.now c.requires.more c.requires.fit c.requires.reached c.args.before.now
    c.requires.boxes c.path_field-field.result c.path_field-field.ensures.field

pub look_at_changed-requires-clause-takes : goal.look_at_changed-requires-clause-takes
look_at_changed-requires-clause-takes c =
    codes-takes (case_in c.args.problem.now) c.requires.problem.case c.args.letters.now c.requires.more c.requires.fit c.requires.reached c.args.before.now
    c.requires.boxes c.path_field-field.result c.path_field-field.ensures.field

pub look_at_kept-requires-clause-over : goal.look_at_kept-requires-clause-over
look_at_kept-requires-clause-over c =
    codes-over (case_in c.args.problem.now) c.requires.problem.case c.args.letters.now c.requires.more c.requires.fit c.requires.reached c.args.before.now
    c.requires.boxes c.path_field-field.result c.path_field-field.ensures.field

pub look_at_changed-requires-clause-apart : goal.look_at_changed-requires-clause-apart
look_at_changed-requires-clause-apart c =
    subst (λ (bs : List BoxFrom). LieApart bs) (sym c.requires.boxes) (apart-along (case_in c.args.problem.now) (before_last c.args.letters.now))

pub look_at_kept-requires-clause-apart : goal.look_at_kept-requires-clause-apart
look_at_kept-requires-clause-apart c =
    subst (λ (bs : List BoxFrom). LieApart bs) (sym c.requires.boxes) (apart-along (case_in c.args.problem.now) (before_last c.args.letters.now))

pub look_at_kept-requires-clause-within : goal.look_at_kept-requires-clause-within
look_at_kept-requires-clause-within c =
    omega (arith, c.path_field-field.ensures.within, row-length c.args.problem.now.survey.now.fields c.args.problem.now.row.now c.requires.problem.case.row)

pub returns-then-letters-last-clause-passed : goal.returns-then-letters-last-clause-passed
returns-then-letters-last-clause-passed c =
    changed-passed (case_in c.args.problem.now) c.requires.problem.case c.args.letters.now c.requires.more c.requires.fit c.requires.reached
    c.args.before.now c.requires.boxes c.path_field-field.result c.path_field-field.ensures.field
    c.if-letters-last.true c.args.most c.look_at_changed.result c.look_at_changed.ensures.passed

pub returns-then-letters-last-clause-look : goal.returns-then-letters-last-clause-look
returns-then-letters-last-clause-look c =
    changed-look (case_in c.args.problem.now) c.requires.problem.case c.args.letters.now c.requires.more c.requires.fit c.requires.reached
    c.args.before.now c.requires.boxes c.path_field-field.result c.path_field-field.ensures.field
    c.if-letters-last.true c.args.most c.look_at_changed.result c.look_at_changed.ensures.look

pub returns-in_ok-look_at_kept-clause-look : goal.returns-in_ok-look_at_kept-clause-look
returns-in_ok-look_at_kept-clause-look c =
    kept-look (case_in c.args.problem.now) c.requires.problem.case c.args.letters.now c.requires.more c.requires.fit c.requires.reached c.args.before.now
    c.requires.boxes c.path_field-field.result c.path_field-field.ensures.field
    c.if-letters-last.false c.args.most c.in_ok-look_at_kept.field-0 c.requires.some c.in_ok-look_at_kept.ensures.work c.in_ok-look_at_kept.ensures.look
