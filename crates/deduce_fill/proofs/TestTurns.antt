use Rattle.std.proofs.Common.{◌≡◌, ℕ, suc, ◌+◌, ◌<◌, ◌≤◌, ◌++◌, Bool, List, [], ◌∷◌, Result, Ok, Err, IfOk, drop, get_or, length, refl, sym, ap, ◌∙◌, arith}
use Rattle.std.proofs.lemmas.List.{at_drop_more}
use Rattle.edit_line.specs.EditSets.{EditsParts}
use Rattle.edit_line.specs.Lines.{LineParts}
use Rattle.edit_model.specs.Parts.{SurveyParts}
use Rattle.edit_model.specs.declared.value.Value.{Value}
use Rattle.derivation.specs.declared.step.Step.{Step}
use Rattle.edit_paths.specs.Cases.{SearchCase, case_of}
use Rattle.prefix_walk.specs.PathWalks.{prefixes, walk_along}
use Rattle.prefix_walk.specs.declared.walk_end.WalkEnd.{WalkEnd}
use Rattle.prefix_walk.specs.declared.walk_end.WalkEnd.TheVariants as walk
use Rattle.prefix_walk.proofs.WalkEnds.{closed-within, open-within}
use Rattle.deduce_fill.specs.Filled.{tested_by, tested_from, walk_with}
use Rattle.deduce_fill.specs.Tests.{own_path, with_line}
use Rattle.deduce_fill.specs.declared.filled.Tested.{Tested}
use Rattle.deduce_fill.specs.declared.filled.Tested.TheVariants as tested

-- One test of a field, and how much all of them take.

-- the case of the edits and one line
pub more-case : (survey : SurveyParts) (edits more : EditsParts) (row : List Value) (line : LineParts)
    → more.lines ≡ edits.lines ++ (length edits.lines, line) ∷ [] → case_of survey more row ≡ with_line (case_of survey edits row) line
more-case survey edits more row line is = ap (λ (ls : List (ℕ × LineParts)). record { survey = survey; edits = ls; row = row }) is

-- a walk along the record's path over these is the walk with the line
pub walked-line : {F : Type 0} (survey : SurveyParts) (edits more : EditsParts) (row : List Value) (line : LineParts) (path : List Bool) (budget spent : ℕ)
    (r : Result WalkEnd F)
    → more.lines ≡ edits.lines ++ (length edits.lines, line) ∷ [] → path ≡ own_path survey.fields row
    → IfOk r (λ end. end ≡ walk_along (case_of survey more row) path budget spent)
    → IfOk r (λ end. end ≡ walk_with (case_of survey edits row) line budget spent)
walked-line survey edits more row line path budget spent (Ok end) lines_are path_is told =
    told ∙ ap (λ (c : SearchCase). walk_along c path budget spent) (more-case survey edits more row line lines_are)
    ∙ ap (λ (p : List Bool). walk_along (with_line (case_of survey edits row) line) p budget spent) path_is
walked-line survey edits more row line path budget spent (Err fault) lines_are path_is told = tt

module _ (c : SearchCase) (budget : ℕ) where
  -- ---- a turn

  -- the tests that are left, after these
  pub record IsTesting (lines : List LineParts) (first start : ℕ) (i tests work : ℕ) (proofs : List (List Step)) : Type 0 where
    pub rest : tested_from c budget tests work proofs (drop i lines) ≡ tested_from c budget first start [] lines
    pub within : work ≤ budget
    pub count : tests ≡ first + i

  module _ (lines : List LineParts) (first start i tests work : ℕ) (proofs : List (List Step)) (testing : IsTesting lines first start i tests work proofs)
      (none line : LineParts) (below : i < length lines) (line_is : line ≡ get_or lines i none) (end : WalkEnd)
      (walked : end ≡ walk_with c line budget work) where
    abbrev next : List Step → ℕ → Tested
    next steps w = tested_from c budget (tests + 1) w (proofs ++ steps ∷ []) (drop (i + 1) lines)

    -- what the walk tells of the tests
    pub test-is : tested_by (tests + 1) end next ≡ tested_from c budget first start [] lines
    test-is =
        ap (λ (e : WalkEnd). tested_by (tests + 1) e next) walked
        ∙ ap (λ n. tested_by n (walk_with c line budget work) (λ steps w. tested_from c budget n w (proofs ++ steps ∷ []) (drop (i + 1) lines))) one_more
        ∙ ap (λ (l : LineParts). tested_from c budget tests work proofs (l ∷ drop (i + 1) lines)) line_is
        ∙ sym (at_drop_more (λ (ls : List LineParts). tested_from c budget tests work proofs ls) lines i none below) ∙ testing.rest
      where
        one_more : tests + 1 ≡ suc tests
        one_more = omega arith

    pub test-goes : (steps : List Step) (w : ℕ) (after : List (List Step)) → end ≡ walk.Closed steps w → after ≡ proofs ++ steps ∷ []
        → IsTesting lines first start (i + 1) (tests + 1) w after
    test-goes steps w after closed after_is = record {
      rest = ap (λ (ps : List (List Step)). tested_from c budget (tests + 1) w ps (drop (i + 1) lines)) after_is
          ∙ sym (ap (λ (e : WalkEnd). tested_by (tests + 1) e next) closed) ∙ test-is;
      within = closed-within (with_line c line) budget work w steps (prefixes (own_path c.survey.fields c.row)) (sym walked ∙ closed);
      count = let n = testing.count in omega (arith, n);
    }

  -- ---- all tests of a field

  -- the work stays within the budget, and the tests are no more than this
  abbrev pub IsWithin : ℕ → Tested → Type 0
  IsWithin most (tested.Closed proofs tests work) = (work ≤ budget) × (tests ≤ most)
  IsWithin most (tested.Free tests work) = (work ≤ budget) × (tests ≤ most)
  IsWithin most (tested.Stopped answer) = Unit {0}

  pub tested-within : (tests work most : ℕ) (proofs : List (List Step)) (lines : List LineParts) → work ≤ budget → tests + length lines ≤ most
      → IsWithin most (tested_from c budget tests work proofs lines)
  tested-within tests work most proofs [] fits few = (fits, omega (arith, few))
  tested-within tests work most proofs (line ∷ lines) fits few =
      by (walk_with c line budget work) refl (λ steps w below. tested-within (suc tests) w most (proofs ++ steps ∷ []) lines below (omega (arith, few)))
    where
      by : (end : WalkEnd) → walk_with c line budget work ≡ end
          → ((steps : List Step) (w : ℕ) → w ≤ budget → IsWithin most (tested_from c budget (suc tests) w (proofs ++ steps ∷ []) lines))
          → IsWithin most (tested_by (suc tests) end (λ steps w. tested_from c budget (suc tests) w (proofs ++ steps ∷ []) lines))
      by (walk.Closed steps w) ended rest =
          rest steps w (closed-within (with_line c line) budget work w steps (prefixes (own_path c.survey.fields c.row)) ended)
      by (walk.Open w) ended rest = (open-within (with_line c line) budget work w (own_path c.survey.fields c.row) ended, omega (arith, few))
      by (walk.Budget w) ended rest = tt
      by walk.Overflow ended rest = tt
