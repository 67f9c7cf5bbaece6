use Rattle.std.proofs.Common.{◌≡◌, ℕ, true, List, All, Ok, fold, refl, sym, subst}
use Rattle.edit_model.specs.Points.{Point}
use Rattle.edit_line.specs.EditSets.{base_lines}
use Rattle.edit_line.specs.Lines.{AllHold, HaveShape, LineParts}
use Rattle.edit_line.specs.Reductions.{lines_of, reduce_derived}
use Rattle.edit_line.specs.Shapes.{IsNumerical, has_field, shape_of}
use Rattle.edit_line.specs.declared.derived.Derived.{Derived}
use Rattle.linear_elim.specs.Parts.{AreFlat}
use Rattle.linear_elim.specs.PointChanges.{DiffersOnlyIn}
use Rattle.linear_elim.specs.Steps.{step}
use Rattle.linear_elim.specs.Systems.{system_of}
use Rattle.linear_elim.proofs.FlatLaws.{fold-flat}
use Rattle.linear_elim.proofs.FoldLaws.{HaveShape-folded, HaveShape-start, start-same}
use Rattle.linear_elim.proofs.ResultLaws.{fold-plain}
use Rattle.linear_elim.proofs.SystemLaws.{fold-holds, fold-lifts}
use Rattle.edit_paths.specs.Cases.{SearchCase, IsCase, edit_lines}

-- The systems of a case: which points meet them, and which fields are gone.

module _ (c : SearchCase) (is : IsCase c) where
  abbrev start : List Derived
  start = reduce_derived (base_lines c.edits)

  pub start_over : HaveShape (shape_of c.survey.fields) (lines_of (reduce_derived (base_lines c.edits)))
  start_over = HaveShape-start (shape_of c.survey.fields) c.edits start is.edits.edits refl is.edits.are_lines

  module _ (fields : List ℕ) (lines : List Derived) (made : system_of c.edits fields ≡ Ok lines) where
    pub system-over : HaveShape (shape_of c.survey.fields) (lines_of lines)
    system-over = HaveShape-folded (shape_of c.survey.fields) start fields lines made start_over

    plain : lines_of lines ≡ fold step (lines_of start) fields
    plain = fold-plain start fields lines made

    -- where the edits hold, the system's lines do
    pub system-follows : (q : Point) → All (IsNumerical (shape_of c.survey.fields)) fields → AllHold (edit_lines c) q → AllHold (lines_of lines) q
    system-follows q numerical holds =
        subst (λ (ls : List LineParts). AllHold ls q) (sym plain)
        (fold-holds (shape_of c.survey.fields) (lines_of start) fields q q start_over numerical
        (record { codes = λ i outside. refl; numbers = λ i outside. refl })
        ((start-same (shape_of c.survey.fields) c.edits start is.edits.edits refl q).1 holds))

    -- where the system's lines hold, some values at the fields make the edits hold
    pub system-lifts : (p : Point) → AllHold (lines_of lines) p → (q : Point) × DiffersOnlyIn fields p q × ((i : ℕ) → q.code i ≡ p.code i)
        × AllHold (edit_lines c) q
    system-lifts p holds =
        let (q, differs, codes, at_q) = fold-lifts (shape_of c.survey.fields) (lines_of start) fields p start_over
        (subst (λ (ls : List LineParts). AllHold ls p) plain holds) in
        (q, differs, codes, (start-same (shape_of c.survey.fields) c.edits start is.edits.edits refl q).0 at_q)

    -- the fields are gone from the system's lines
    pub system-flat : (f : ℕ) → has_field fields f ≡ true → AreFlat f (lines_of lines)
    system-flat f there = subst (λ (ls : List LineParts). AreFlat f ls) (sym plain) (fold-flat (shape_of c.survey.fields) (lines_of start) fields f start_over
        there)
