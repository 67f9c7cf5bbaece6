use Rattle.std.proofs.Common.{◌≡◌, true, map, ℕ, List, [], ◌∷◌, ◌++◌, All, Ok, refl, sym, ap, ◌∙◌, subst}
use Rattle.std.specs.List.{fold}
use Rattle.edit_model.specs.Points.{Point}
use Rattle.edit_line.specs.EditSets.{EditsParts, IsReducedOf, base_lines}
use Rattle.edit_line.specs.Lines.{AllHold, HaveShape, LineParts}
use Rattle.edit_line.specs.Reductions.{IsIn, lines_of}
use Rattle.edit_line.specs.Shapes.{IsNumerical, has_field}
use Rattle.edit_line.specs.declared.derived.Derived.{Derived}
use Rattle.edit_line.specs.declared.derived.Origin.TheVariants.{Base}
use Rattle.edit_line.proofs.Members.{all-in, in-map-out}
use Rattle.linear_elim.specs.Origins.{AllComeFrom, IsEdit}
use Rattle.linear_elim.specs.Parts.{AreFlat, IsMade, parts_of_system}
use Rattle.linear_elim.specs.PointChanges.{DiffersOnlyIn}
use Rattle.linear_elim.specs.Steps.{step}
use Rattle.linear_elim.specs.Systems.{AreNumerical, chosen_fields, fold_result, system_at, system_of}
use Rattle.linear_elim.proofs.ChosenFields.{chosen-has}
use Rattle.linear_elim.proofs.FlatLaws.{fold-flat}
use Rattle.linear_elim.proofs.FoldLaws.{HaveShape-folded, HaveShape-start, fold-next, start-same}
use Rattle.linear_elim.proofs.OriginLaws.{derived-from, origins-result}
use Rattle.linear_elim.proofs.ResultLaws.{fold-plain, ok_same}
use Rattle.linear_elim.proofs.SystemLaws.{chosen-numerical, fold-holds, fold-lifts}

-- What is known of each system of edits.

module _ (edits : EditsParts) (start : List Derived) (of : IsReducedOf edits.shape edits.lines start) where
  pub start_over : HaveShape edits.shape (lines_of start)
  start_over = HaveShape-start edits.shape edits.lines start of.edits of.lines_are of.are_lines

  -- the lines that the fold begins with are edits
  pub start-edits : All (IsEdit edits.lines) start
  start-edits = all-in (IsEdit edits.lines) start (λ d there.
      let was = derived-from d (base_lines edits.lines) (subst (λ (ds : List Derived). IsIn d ds) of.lines_are there) in
      let (e, e_in, is) = in-map-out (λ (e : ℕ × LineParts). record { line = e.1; origin = Base e.0 }) d edits.lines was in
      (e, e_in, is))

  -- of the edits without any list of fields
  module _ (fields : List ℕ) (ys : List Derived) (is : system_of edits.lines fields ≡ Ok ys) where
    folded : fold_result start fields ≡ Ok ys
    folded = ap (λ (ds : List Derived). fold_result ds fields) of.lines_are ∙ is

    plain : lines_of ys ≡ fold step (lines_of start) fields
    plain = fold-plain start fields ys folded

    -- the lines are over the fields of the edits
    pub made-over : HaveShape edits.shape (lines_of ys)
    made-over = HaveShape-folded edits.shape start fields ys folded start_over

    -- the fields stand in none of them
    pub made-flat : (f : ℕ) → has_field fields f ≡ true → AreFlat f (lines_of ys)
    made-flat f there = subst (λ (ls : List LineParts). AreFlat f ls) (sym plain) (fold-flat edits.shape (lines_of start) fields f start_over there)

    -- they hold where some values at the fields make the edits hold
    pub made-holds : (p q : Point) → All (IsNumerical edits.shape) fields → DiffersOnlyIn fields p q
        → AllHold (map (λ (e : ℕ × LineParts). e.1) edits.lines) q → AllHold (lines_of ys) p
    made-holds p q numbers differs holds =
        subst (λ (ls : List LineParts). AllHold ls p) (sym plain)
        (fold-holds edits.shape (lines_of start) fields p q start_over numbers differs
        ((start-same edits.shape edits.lines start of.edits of.lines_are q).1 holds))

    -- and where they hold, some values at the fields, with the same codes, make the edits hold
    pub made-lifts : (p : Point) → AllHold (lines_of ys) p
        → (q : Point) × DiffersOnlyIn fields p q × ((i : ℕ) → q.code i ≡ p.code i) × AllHold (map (λ (e : ℕ × LineParts). e.1) edits.lines) q
    made-lifts p holds =
        let (q, differs, codes, at_q) = fold-lifts edits.shape (lines_of start) fields p start_over
        (subst (λ (ls : List LineParts). AllHold ls p) plain holds) in
        (q, differs, codes, (start-same edits.shape edits.lines start of.edits of.lines_are q).0 at_q)

    -- without fields the lines are edits
    pub made-edits : fields ≡ [] → All (IsEdit edits.lines) ys
    made-edits none =
        subst (λ (ds : List Derived). All (IsEdit edits.lines) ds)
        (ok_same start ys (fold_result start []) refl (ap (λ fs. fold_result start fs) (sym none) ∙ folded)) start-edits

    -- else they come from those of the system without all fields but the last
    pub made-comes : (before : List ℕ) (last : ℕ) → fields ≡ before ++ last ∷ []
        → (lines : List Derived) × (system_of edits.lines before ≡ Ok lines) × AllComeFrom lines ys
    made-comes before last are =
        let (reached, reached_is, stepped) = fold-next start before last ys (ap (λ fs. fold_result start fs) (sym are) ∙ folded) in (
          reached,
          ap (λ (ds : List Derived). fold_result ds before) (sym of.lines_are) ∙ reached_is,
          origins-result edits.shape reached last (HaveShape-folded edits.shape start before reached reached_is start_over) ys stepped,
        )

  -- all that is known of a system is so of the one of the edits without a set of fields
  pub system-made : (bits : ℕ) (ys : List Derived) → AreNumerical edits.shape bits → system_at edits bits ≡ Ok ys → IsMade (parts_of_system edits bits ys)
  system-made bits ys numerical is =
      let fields = chosen_fields edits.shape bits in
      record {
        system = record { numerical = numerical; lines_are = is };
        over = made-over fields ys is;
        lifts = λ p. (
          λ holds. let (q, differs, codes, at_q) = made-lifts fields ys is p holds in (q, differs, at_q),
          λ can. let (q, differs, at_q) = can in made-holds fields ys is p q (chosen-numerical edits.shape bits) differs at_q,
        );
        flat = λ f there. made-flat fields ys is f (chosen-has edits.shape bits f numerical there);
        origins = record { edits = made-edits fields ys is; lines = made-comes fields ys is };
      }
