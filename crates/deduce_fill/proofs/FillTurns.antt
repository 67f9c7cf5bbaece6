use Rattle.std.proofs.Common.{◌≡◌, ℕ, zero, suc, ◌+◌, ◌*◌, ◌<◌, ◌≤◌, ◌++◌, Bool, true, false, if◌then◌else◌, List, [], ◌∷◌, drop, get_or, inl, inr, length}
use Rattle.std.proofs.Common.{slice_set, refl, sym, ap, ◌∙◌, subst, arith}
use Rattle.std.specs.List.{filter}
use Rattle.std.proofs.lemmas.List.{at_drop_more}
use Rattle.edit_line.specs.Reductions.{IsIn}
use Rattle.edit_line.specs.Shapes.{Domain, shape_of}
use Rattle.edit_model.specs.Corrections.{path_order}
use Rattle.edit_model.specs.Rows.{IsRow, is_bad, value_of}
use Rattle.edit_model.specs.declared.field.Field.{Field}
use Rattle.edit_model.specs.declared.value.Value.{Value}
use Rattle.edit_model.specs.declared.value.Value.TheVariants.{Bad, Code, Number}
use Rattle.edit_model.proofs.OrderLaws.{order-length}
use Rattle.derivation.specs.declared.step.Step.{Step}
use Rattle.edit_paths.specs.Cases.{SearchCase}
use Rattle.edit_paths.proofs.FieldPlaces.{order-within}
use Rattle.deduce_fill.specs.Filled.{filled_by, filled_from, tested_from}
use Rattle.deduce_fill.specs.Tests.{bad_fields, test_lines}
use Rattle.deduce_fill.specs.declared.filled.Filled.{Filled}
use Rattle.deduce_fill.specs.declared.filled.Forced.{Forced}
use Rattle.deduce_fill.specs.declared.filled.Tested.{Tested}
use Rattle.deduce_fill.specs.declared.filled.Tested.TheVariants as tested
use Rattle.deduce_fill.specs.declared.filling.Filling.{Filling}
use Rattle.deduce_fill.specs.inner.Fillings.{IsTurn, filled_on}
use Rattle.deduce_fill.proofs.OwnPaths.{bad-out}
use Rattle.deduce_fill.proofs.TestTurns.{IsWithin, tested-within}

-- One field more is tested.

-- a field has at most two tests
pub two-tests : (shape : List Domain) (f : ℕ) (v : Value) → length (test_lines shape f v) ≤ 2
two-tests shape f (Number x) = omega arith
two-tests shape f (Code code) = omega arith
two-tests shape f Bad = omega arith

-- ---- the turn of a field

module _ (c : SearchCase) (new : List Value) (budget f : ℕ) (before : Filling) (fits : before.work ≤ budget) (told : Tested)
    (told_is : told ≡ tested_from c budget before.tests before.work [] (test_lines (shape_of c.survey.fields) f (value_of new f))) where
  -- what follows where the tests tell this
  abbrev after_tests : List ℕ → Tested → Filled
  after_tests fields t =
      filled_by t
      (λ proofs tests work. filled_from c new budget tests work (slice_set before.row f (value_of new f))
      (before.forced.items ++ record { field = f; value = value_of new f; proofs = proofs } ∷ []) fields)
      (λ tests work. filled_from c new budget tests work before.row before.forced.items fields)

  next-is : (fields : List ℕ) → filled_on c new budget before (f ∷ fields) ≡ after_tests fields told
  next-is fields = ap (after_tests fields) (sym told_is)

  inside : IsWithin c budget (before.tests + 2) told
  inside =
      subst (IsWithin c budget (before.tests + 2)) (sym told_is)
      (tested-within c budget before.tests before.work (before.tests + 2) [] (test_lines (shape_of c.survey.fields) f (value_of new f)) fits
      (let few = two-tests (shape_of c.survey.fields) f (value_of new f) in omega (arith, few)))

  same-on : (after : Filling) (tests work : ℕ) (row : List Value) (forced : List Forced) → after.tests ≡ tests → after.work ≡ work → after.row ≡ row
      → after.forced.items ≡ forced
      → (fields : List ℕ) → filled_from c new budget tests work row forced fields ≡ filled_on c new budget after fields
  same-on after tests work row forced tests_are work_is row_is forced_are fields =
      sym (ap (λ n. filled_from c new budget n after.work after.row after.forced.items fields) tests_are
      ∙ ap (λ n. filled_from c new budget tests n after.row after.forced.items fields) work_is
      ∙ ap (λ (r : List Value). filled_from c new budget tests work r after.forced.items fields) row_is
      ∙ ap (λ (fs : List Forced). filled_from c new budget tests work row fs fields) forced_are)

  module _ (tests work : ℕ) (after : Filling) (tests_are : after.tests ≡ tests) (work_is : after.work ≡ work) (row : IsRow c.survey.fields after.row) where
    -- all tests close
    pub turn-closed : (proofs : List (List Step)) → told ≡ tested.Closed proofs tests work → after.row ≡ slice_set before.row f (value_of new f)
        → after.forced.items ≡ before.forced.items ++ record { field = f; value = value_of new f; proofs = proofs } ∷ [] → IsTurn c new budget f before after
    turn-closed proofs closed row_is forced_are =
        let within = subst (IsWithin c budget (before.tests + 2)) closed inside in
        record {
          same = λ fields. next-is fields ∙ ap (after_tests fields) closed ∙ same-on after tests work _ _ tests_are work_is row_is forced_are fields;
          within = let w = within.0 in omega (arith, w, work_is);
          tests = let t = within.1 in omega (arith, t, tests_are);
          row = row;
        }

    -- one stays open
    pub turn-free : told ≡ tested.Free tests work → after.row ≡ before.row → after.forced.items ≡ before.forced.items → IsTurn c new budget f before after
    turn-free free row_is forced_are =
        let within = subst (IsWithin c budget (before.tests + 2)) free inside in
        record {
          same = λ fields. next-is fields ∙ ap (after_tests fields) free ∙ same-on after tests work _ _ tests_are work_is row_is forced_are fields;
          within = let w = within.0 in omega (arith, w, work_is);
          tests = let t = within.1 in omega (arith, t, tests_are);
          row = row;
        }

  -- one ends all
  pub turn-stopped : (answer : Filled) → told ≡ tested.Stopped answer → (fields : List ℕ) → filled_on c new budget before (f ∷ fields) ≡ answer
  turn-stopped answer stopped fields = next-is fields ∙ ap (after_tests fields) stopped

-- ---- all fields

module _ (c : SearchCase) (new : List Value) (budget start : ℕ) (fields : List ℕ) where
  -- what was found of the first fields
  pub record IsFoundSoFar (i : ℕ) (found : Filling) : Type 0 where
    pub rest : filled_on c new budget found (drop i fields) ≡ filled_from c new budget 0 start c.row [] fields
    pub within : found.work ≤ budget
    pub tests : found.tests ≤ 2 * i
    pub row : IsRow c.survey.fields found.row

  module _ (i : ℕ) (found : Filling) (so_far : IsFoundSoFar i found) (f : ℕ) (below : i < length fields) (f_is : f ≡ get_or fields i 0) where
    here : filled_on c new budget found (f ∷ drop (i + 1) fields) ≡ filled_from c new budget 0 start c.row [] fields
    here = ap (λ g. filled_on c new budget found (g ∷ drop (i + 1) fields)) f_is
        ∙ sym (at_drop_more (λ (fs : List ℕ). filled_on c new budget found fs) fields i 0 below) ∙ so_far.rest

    pub found-more : (after : Filling) → IsTurn c new budget f found after → IsFoundSoFar (i + 1) after
    found-more after turn = record {
      rest = sym (turn.same (drop (i + 1) fields)) ∙ here;
      within = turn.within;
      tests = let few = turn.tests in let before = so_far.tests in omega (arith, few, before);
      row = turn.row;
    }

    pub found-ends : (answer : Filled) → ((others : List ℕ) → filled_on c new budget found (f ∷ others) ≡ answer)
        → answer ≡ filled_from c new budget 0 start c.row [] fields
    found-ends answer ends = sym (ends (drop (i + 1) fields)) ∙ here

-- ---- the fields without a value

in-at : (xs : List ℕ) (i : ℕ) → i < length xs → IsIn (get_or xs i 0) xs
in-at [] i below = absurd (omega arith)
in-at (x ∷ xs) zero below = inl refl
in-at (x ∷ xs) (suc i) below = inr (in-at xs i (omega arith))

filter-few : (t : ℕ → Bool) (xs : List ℕ) → length (filter t xs) ≤ length xs
filter-few t [] = omega arith
filter-few t (x ∷ xs) = by (t x) (filter-few t xs)
  where
    by : (b : Bool) → length (filter t xs) ≤ length xs → length (if b then x ∷ filter t xs else filter t xs) ≤ suc (length xs)
    by true few = omega (arith, few)
    by false few = omega (arith, few)

module _ (fields : List Field) (row : List Value) where
  pub bad-few : length (bad_fields fields row) ≤ length fields
  bad-few = omega (arith, filter-few (λ f. is_bad (value_of row f)) (path_order fields), order-length fields)

  pub bad-within : (i : ℕ) → i < length (bad_fields fields row) → get_or (bad_fields fields row) i 0 < length fields
  bad-within i below = order-within fields (get_or (bad_fields fields row) i 0)
      (bad-out fields row (get_or (bad_fields fields row) i 0) (in-at (bad_fields fields row) i below)).0
