use Rattle.std.proofs.Common.{false, length, List, slice_index_or, sym, ap, ◌-◌, ◌∙◌, subst}
use Rattle.edit_line.specs.CodeFields.{TakesCodes}
use Rattle.edit_line.specs.Shapes.{shape_of}
use Rattle.categ_combine.specs.Apart.{LieApart}
use Rattle.categ_combine.specs.BoxLists.{AreBoxesOver}
use Rattle.categ_combine.specs.declared.box_from.BoxFrom.{BoxFrom}
use Rattle.edit_paths.specs.Paths.{before_last}
use Rattle.path_walk.specs.Problems.{case_in}
use Rattle.path_walk.specs.inner.Histories.{boxes_by}
use Rattle.path_walk.proofs.ApartPaths.{apart-along}
use Rattle.path_walk.proofs.BoxTurns.{last-along, last-takes}
use Rattle.path_walk.proofs.OverPaths.{over-along}
use Rattle.path_walk.proofs.histories.path_boxes.Goals as goal

pub boxes_after-requires-clause-over : goal.boxes_after-requires-clause-over
boxes_after-requires-clause-over c =
    subst (λ (bs : List BoxFrom). AreBoxesOver (shape_of c.args.problem.now.survey.now.fields) bs) (sym c.requires.before)
    (over-along (case_in c.args.problem.now) c.requires.problem.case (before_last c.args.path.letters.now))

pub boxes_after-requires-clause-apart : goal.boxes_after-requires-clause-apart
boxes_after-requires-clause-apart c =
    subst (λ (bs : List BoxFrom). LieApart bs) (sym c.requires.before) (apart-along (case_in c.args.problem.now) (before_last c.args.path.letters.now))

pub boxes_after-requires-clause-takes : goal.boxes_after-requires-clause-takes
boxes_after-requires-clause-takes c =
    subst (λ f. TakesCodes (shape_of c.args.problem.now.survey.now.fields) f) (sym c.requires.field)
    (last-takes (case_in c.args.problem.now) c.args.path.letters.now c.requires.many c.requires.fit c.requires.problem.case)

pub returns : goal.returns
returns c =
    record {
      boxes =
          c.in_ok-new.ensures.ok ∙ c.in_ok-boxes.ensures.boxes
          ∙ ap (λ f. boxes_by (case_in c.args.problem.now) (slice_index_or c.args.path.letters.now (length c.args.path.letters.now - 1) false)
          c.args.before.now f) c.requires.field
          ∙ last-along (case_in c.args.problem.now) c.args.path.letters.now c.requires.many c.requires.fit c.args.before.now c.requires.before;
    }
