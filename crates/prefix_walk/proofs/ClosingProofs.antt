use Rattle.std.proofs.Common.{◌≡◌, ℕ, ◌&&◌, Bool, true, false, not, List, Option, Some, None, if◌then◌else◌, slice_get, refl, sym, ap, ◌∙◌}
use Rattle.std.specs.Cmp.Lexicographic.{same_text}
use Rattle.std.specs.List.{filter}
use Rattle.std.specs.Result.{result_unwrap_or}
use Rattle.foundation.specs.Options.{◌>>?◌}
use Rattle.edit_model.specs.Corrections.{path_order}
use Rattle.edit_model.specs.FieldSets.{has_number}
use Rattle.edit_model.specs.Rows.{is_bad, value_of}
use Rattle.edit_model.proofs.FieldSetLaws.{has-set_of}
use Rattle.edit_line.specs.Lines.{LineParts}
use Rattle.edit_line.specs.Reductions.{IsIn}
use Rattle.edit_line.specs.Shapes.{shape_of, whole_sets}
use Rattle.edit_line.proofs.FieldLists.{has-there, there-has}
use Rattle.edit_line.proofs.Members.{in-filter, in-filter-out}
use Rattle.edit_line.proofs.SetLaws.{both_true}
use Rattle.derivation.specs.Premises.{Premises, premises_of}
use Rattle.derivation.specs.ValidSteps.{AreValidSteps}
use Rattle.derivation.specs.declared.proved.Proved.{Proved}
use Rattle.derivation.specs.declared.proved.Proved.TheVariants as proved
use Rattle.derivation.specs.declared.step.Step.{Step}
use Rattle.bound_cert.specs.Paths.{keeps, keeps_bad, kept_set}
use Rattle.bound_cert.specs.ValidTrees.{Refutes}
use Rattle.edit_paths.specs.Cases.{AreUsableAmong, IsCase, SearchCase}
use Rattle.edit_paths.specs.PathStates.{is_closed}
use Rattle.edit_paths.specs.States.{state_of}
use Rattle.edit_paths.specs.declared.state.PathState.{PathState}
use Rattle.edit_paths.specs.declared.state.PathState.TheVariants.{ClosedBad, ClosedBox, ClosedLine, Open, Overflows}
use Rattle.edit_paths.proofs.BadFields.{is-bad}
use Rattle.edit_paths.proofs.ClosingSteps.{closing-box, closing-line, only-kept}
use Rattle.edit_paths.proofs.KeptLines.{asks-whole, kept-number}
use Rattle.edit_paths.proofs.LineHistories.{AreUsable}
use Rattle.prefix_walk.specs.PathWalks.{closing_steps, prefixes}
use Rattle.prefix_walk.proofs.KeptMore.{refutes-more, valid-more}
use Rattle.prefix_walk.proofs.Prefixes.{bad-on, keeps-on}

-- The steps that close a prefix of a path prove what no point meets that keeps what the path keeps.

true-and : (a b : Bool) → a ≡ true → b ≡ true → (a && b) ≡ true
true-and true b first second = second
true-and false b first second = absurd (cc)

-- what a set of kept fields has, a set for a longer path has
pub kept-inside : (c : SearchCase) (path q : List Bool) → IsIn q (prefixes path) → (f : ℕ) → has_number (kept_set c.survey.fields c.row q) f ≡ true
    → has_number (kept_set c.survey.fields c.row path) f ≡ true
kept-inside c path q there f h =
    let (among, passes) = in-filter-out (held q) f (path_order c.survey.fields)
    (has-there f (filter (held q) (path_order c.survey.fields)) (sym (has-set_of (filter (held q) (path_order c.survey.fields)) f) ∙ h)) in
    let (kept, full) = both_true (keeps c.survey.fields q f) (not (is_bad (value_of c.row f))) passes in
    has-set_of (filter (held path) (path_order c.survey.fields)) f
    ∙ there-has f (filter (held path) (path_order c.survey.fields))
    (in-filter (held path) f (path_order c.survey.fields) (true-and _ _ (keeps-on c.survey.fields path q there f kept) full) among)
  where
    held : List Bool → ℕ → Bool
    held p f = keeps c.survey.fields p f && not (is_bad (value_of c.row f))

module _ (c : SearchCase) (is : IsCase c) (given : List LineParts) (usable : List Bool) (are : AreUsableAmong given usable c.edits) where
  abbrev premises_for : List Bool → Premises
  premises_for path = premises_of (shape_of c.survey.fields) given usable c.row (kept_set c.survey.fields c.row path)

  -- the steps prove what no point meets that keeps what the path keeps
  abbrev pub Refuted : List Bool → List Step → Type 0
  Refuted path steps = (x : Proved) × AreValidSteps (premises_for path) steps x × Refutes (premises_for path) x

  module _ (q : List Bool) (none : keeps_bad c.survey.fields c.row q ≡ false) where
    usable_is : AreUsable (premises_for q) c.edits
    usable_is e there =
        let (at, may) = are e there in
        ap (λ b. if b then (slice_get given e.0 >>? (λ line. Some (proved.Line line))) else None) may
        ∙ ap (λ (o : Option LineParts). (o >>? (λ line. Some (proved.Line line)))) at

    refuted-here : (s : PathState) → state_of c q ≡ s → is_closed s ≡ true → Refuted q (closing_steps c q s)
    refuted-here (ClosedLine i) e closed =
        let (line, closing) = closing-line c is q none given usable (kept_set c.survey.fields c.row q) (kept-number c is q none) usable_is i e in
        let (whole, alone) = asks-whole c is q line closing.asks in (
          proved.Line line,
          closing.valid,
          (
            whole,
            true-and _ _ (only-kept c is q none given usable (kept_set c.survey.fields c.row q)
                (kept-number c is q none) usable_is line closing.over alone) (ap (λ r. (result_unwrap_or r false)) closing.fails),
          ),
        )
    refuted-here (ClosedBox i) e closed =
        let (b, closing) = closing-box c is q none given usable (kept_set c.survey.fields c.row q) (kept-number c is q none) usable_is i e in
        (proved.Box b.code_box, closing.valid, same_text b.code_box.sets (whole_sets (shape_of c.survey.fields)) (sym closing.whole))
    refuted-here ClosedBad e closed = absurd (cc (sym none ∙ is-bad c q e))
    refuted-here Open e closed = absurd (cc)
    refuted-here (Overflows event) e closed = absurd (cc)

  pub refuted-on : (path q : List Bool) → (keeps_bad c.survey.fields c.row path ≡ true → ⊥) → IsIn q (prefixes path) → is_closed (state_of c q) ≡ true
      → Refuted path (closing_steps c q (state_of c q))
  refuted-on path q none there closed =
      let (x, valid, refutes) = refuted-here q (never (keeps_bad c.survey.fields c.row q) (λ bad. none (bad-on c.survey.fields c.row path q there bad)))
      (state_of c q) refl closed in (
        x,
        valid-more (shape_of c.survey.fields) given usable c.row (kept_set c.survey.fields c.row q) (kept_set c.survey.fields c.row path)
            (kept-inside c path q there) (closing_steps c q (state_of c q)) x valid,
        refutes-more (shape_of c.survey.fields) given usable c.row (kept_set c.survey.fields c.row q) (kept_set c.survey.fields c.row path)
            (kept-inside c path q there) x refutes,
      )
    where
      never : (b : Bool) → (b ≡ true → ⊥) → b ≡ false
      never true h = absurd (h refl)
      never false h = refl
