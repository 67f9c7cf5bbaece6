use Rattle.std.proofs.Common.{◌≡◌, inl, inr, ℕ, ◌<◌, List, [], ◌∷◌, refl, sym, ap, ◌∙◌, subst}
use Rattle.edit_model.specs.Parts.{SurveyParts}
use Rattle.edit_model.specs.Rows.{value_of}
use Rattle.edit_model.specs.declared.value.Value.{Value}
use Rattle.edit_model.proofs.RowLaws.{row-length}
use Rattle.edit_line.specs.EditSets.{EditsParts, lines_without}
use Rattle.edit_line.specs.Lines.{LineParts}
use Rattle.edit_line.specs.Reductions.{IsIn}
use Rattle.edit_line.specs.Shapes.{shape_of}
use Rattle.derivation.specs.declared.step.Step.{Step}
use Rattle.edit_paths.specs.Cases.{case_of}
use Rattle.prefix_walk.specs.PathWalks.{walk_along}
use Rattle.prefix_walk.specs.declared.walk_end.WalkEnd.{WalkEnd}
use Rattle.prefix_walk.specs.declared.walk_end.WalkEnd.TheVariants as walk
use Rattle.deduce_fill.specs.Filled.{IsCandidate, IsFilled, IsFilledAfter, IsFilledWith, filled_from}
use Rattle.deduce_fill.specs.Forced.{IsForced}
use Rattle.deduce_fill.specs.Laws.{AreRefuting, AreRefutingEach, FillsForced, HasForced, HasNoCompletion, IsRuleCase, IsShown, with_forced}
use Rattle.deduce_fill.specs.Tests.{bad_fields, own_path, test_lines}
use Rattle.deduce_fill.specs.declared.filled.Filled.{Filled}
use Rattle.deduce_fill.specs.declared.filled.Filled.TheVariants as filled
use Rattle.deduce_fill.specs.declared.filled.Forced.{Forced}
use Rattle.deduce_fill.proofs.Completions.{closed-none}
use Rattle.deduce_fill.proofs.FoundFields.{AllClose, IsFoundFrom, filled-found, found-exact, found-out, never-blocked, test-case}
use Rattle.deduce_fill.proofs.OwnPaths.{bad-in}
use Rattle.deduce_fill.proofs.ShownSteps.{refuting, refuting-line}

-- What an answer says of the record.

module _ (survey : SurveyParts) (edits : EditsParts) (row : List Value) (is : IsRuleCase survey edits row) where
  abbrev Says : Filled → Type 0
  Says answer = FillsForced survey row answer × HasNoCompletion survey row answer × IsShown survey (lines_without edits.lines) row answer

  -- an answer that is neither says nothing
  says-nothing : (answer : Filled) → ((new : List Value) (forced : List Forced) → answer ≡ filled.Done new forced → ⊥)
      → ((steps : List Step) → answer ≡ filled.Blocked steps → ⊥) → Says answer
  says-nothing answer not_done not_blocked = (
    λ new forced e. absurd (not_done new forced e),
    λ steps e. absurd (not_blocked steps e),
    record { forced = λ new all e. absurd (not_done new all e); blocked = λ steps e. absurd (not_blocked steps e) },
  )

  -- a record without a field to fill
  says-full : bad_fields survey.fields row ≡ [] → (answer : Filled) → answer ≡ filled.Done row [] → Says answer
  says-full none answer is_done =
      (fills, λ steps e. absurd (cc (sym is_done ∙ e)), record { forced = proofs; blocked = λ steps e. absurd (cc (sym is_done ∙ e)) })
    where
      empty : (new : List Value) (forced : List Forced) → answer ≡ filled.Done new forced → (new ≡ row) × (forced ≡ [])
      empty new forced e = by (sym is_done ∙ e)
        where
          by : filled.Done row [] ≡ filled.Done new forced → (new ≡ row) × (forced ≡ [])
          by h = (cc, cc)

      fills : FillsForced survey row answer
      fills new forced e =
          let (same, no_one) = empty new forced e in (
            same ∙ ap (with_forced row) (sym no_one),
            λ f v. (
              λ (e, e_in, field_is, value_is). absurd (subst (IsIn e) no_one e_in),
              λ forced_is. absurd (subst (IsIn f) none
                  (bad-in survey.fields row f (subst (λ n. f < n) (row-length survey.fields row is.case.row) forced_is.within) forced_is.bad)),
            ),
          )

      proofs : (new : List Value) (all : List Forced) → answer ≡ filled.Done new all → (e : Forced) → IsIn e all
          → AreRefutingEach survey (lines_without edits.lines) row (test_lines (shape_of survey.fields) e.field e.value) e.proofs
      proofs new all e one there = absurd (subst (IsIn one) (empty new all e).1 there)

  -- an answer after a candidate
  says-tested : (new : List Value) → IsCandidate survey edits row new → (budget work : ℕ) (answer : Filled)
      → answer ≡ filled_from (case_of survey edits row) new budget 0 work row [] (bad_fields survey.fields row) → Says answer
  says-tested new candidate budget work answer told = (
    λ r all e.
        let found = found_at r all e in (
          found.row_is ∙ ap (with_forced row) (sym found.behind),
          λ f v. subst (λ (es : List Forced). (HasForced es f v → IsForced survey row f v) × (IsForced survey row f v → HasForced es f v)) (sym found.behind)
              (found-exact survey edits row is new candidate budget found.more found.found f v),
        ),
    λ steps e. absurd (never-blocked survey edits row is new candidate budget (bad_fields survey.fields row) 0 work row [] steps (sym told ∙ e)),
    record {
      forced = λ r all e one there.
          let found = found_at r all e in
          let (f, f_in, at) = found-out survey edits row is new candidate budget (bad_fields survey.fields row) found.more found.found one
          (subst (IsIn one) found.behind there) in
          subst (λ n. AreRefutingEach survey (lines_without edits.lines) row (test_lines (shape_of survey.fields) n one.value) one.proofs) (sym at.field_is)
          (subst (λ (v : Value). AreRefutingEach survey (lines_without edits.lines) row (test_lines (shape_of survey.fields) f v) one.proofs) (sym at.value_is)
          (each f (test_lines (shape_of survey.fields) f (value_of new f)) one.proofs (λ l l_in. l_in) at.close));
      blocked = λ steps e. absurd (never-blocked survey edits row is new candidate budget (bad_fields survey.fields row) 0 work row [] steps (sym told ∙ e));
    },
  )
    where
      found_at : (r : List Value) (all : List Forced) → answer ≡ filled.Done r all
          → IsFoundFrom survey edits row is new candidate budget (bad_fields survey.fields row) row [] r all
      found_at r all e = filled-found survey edits row is new candidate budget (bad_fields survey.fields row) 0 work row [] r all (sym told ∙ e)

      each : (f : ℕ) (lines : List LineParts) (proofs : List (List Step))
          → ((line : LineParts) → IsIn line lines → IsIn line (test_lines (shape_of survey.fields) f (value_of new f)))
          → AllClose survey edits row is new candidate budget lines proofs → AreRefutingEach survey (lines_without edits.lines) row lines proofs
      each f [] [] among close = tt
      each f [] (steps ∷ proofs) among close = absurd close
      each f (line ∷ lines) [] among close = absurd close
      each f (line ∷ lines) (steps ∷ proofs) among close =
          let (spent, done, ended) = close.0 in (
            refuting-line (case_of survey edits row) line
                (test-case survey edits row is new candidate budget f line (among line (inl refl))) is.placed budget spent done steps ended,
            each f lines proofs (λ l l_in. among l (inr l_in)) close.1,
          )

  -- an answer after the walk over the edits
  says-after : (budget : ℕ) (end : WalkEnd) → walk_along (case_of survey edits row) (own_path survey.fields row) budget 0 ≡ end → (answer : Filled)
      → IsFilledAfter survey edits row budget end answer → Says answer
  says-after budget (walk.Open work) ended answer (inl (new, candidate, told)) = says-tested new candidate budget work answer told
  says-after budget (walk.Open work) ended answer (inr (fault, stops, told)) =
      says-nothing answer (λ new forced e. cc (sym told ∙ e)) (λ steps e. cc (sym told ∙ e))
  says-after budget (walk.Closed steps work) ended answer told = (
    λ new forced e. absurd (cc (sym told ∙ e)),
    λ others e p done. closed-none survey edits row is budget 0 work steps ended p done,
    record {
      forced = λ new all e. absurd (cc (sym told ∙ e));
      blocked =
          λ others e. subst (AreRefuting survey (lines_without edits.lines) row) (same others e)
          (refuting (case_of survey edits row) is.case is.placed budget 0 work steps ended);
    },
  )
    where
      same : (others : List Step) → answer ≡ filled.Blocked others → steps ≡ others
      same others e = by (sym told ∙ e)
        where
          by : filled.Blocked steps ≡ filled.Blocked others → steps ≡ others
          by h = cc
  says-after budget (walk.Budget work) ended answer told = says-nothing answer (λ new forced e. cc (sym told ∙ e)) (λ steps e. cc (sym told ∙ e))
  says-after budget walk.Overflow ended answer told = says-nothing answer (λ new forced e. cc (sym told ∙ e)) (λ steps e. cc (sym told ∙ e))

  pub says : (budget : ℕ) (answer : Filled) → IsFilled survey edits row budget answer → Says answer
  says budget answer told = by (bad_fields survey.fields row) refl told
    where
      by : (fields : List ℕ) → bad_fields survey.fields row ≡ fields → IsFilledWith survey edits row budget fields answer → Says answer
      by [] none told = says-full none answer told
      by (f ∷ fields) some told = says-after budget (walk_along (case_of survey edits row) (own_path survey.fields row) budget 0) refl answer told
