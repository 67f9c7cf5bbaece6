use Rattle.std.proofs.Common.{◌≡◌, ◌↔◌, ◌<◌, ◌≤◌, ◌+◌, ◌^◌, ◌++◌, inl, inr, ℕ, nat_lt, Bool, true, false, if◌then◌else◌, List, [], ◌∷◌, None, Some}
use Rattle.std.proofs.Common.{drop, length, take, refl, sym, ap, ◌∙◌, subst, arith}
use Rattle.std.proofs.lemmas.Bool.Decides.{Decides-eqb}
use Rattle.std.proofs.lemmas.List.{length-take-le, take-append-drop, take-take}
use Rattle.std.specs.Option.{unwrap_or}
use Rattle.edit_model.specs.Corrections.{IsCorrection, IsLeastWeight}
use Rattle.edit_model.specs.Parts.{SurveyParts}
use Rattle.edit_model.specs.Points.{Point}
use Rattle.edit_model.specs.declared.value.Value.{Value}
use Rattle.edit_line.specs.EditSets.{EditsParts}
use Rattle.edit_line.specs.Reductions.{IsIn}
use Rattle.edit_line.specs.Shapes.{shape_of}
use Rattle.edit_line.proofs.Members.{in-either, in-left, in-right}
use Rattle.bound_cert.specs.Paths.{path_weight}
use Rattle.bound_cert.specs.declared.cert.Cert.{Cert}
use Rattle.bound_cert.specs.declared.outcome.Outcome.TheVariants as outcome
use Rattle.edit_paths.specs.Cases.{SearchCase, IsCase, Meets, case_of}
use Rattle.edit_paths.specs.Certificates.{certificate_of}
use Rattle.edit_paths.specs.Outcomes.{end_by, outcome_from, outcome_of}
use Rattle.edit_paths.specs.Paths.{field_count, is_complete}
use Rattle.edit_paths.specs.ReachedPaths.{AreInOrder, IsReached, is_before, reached_paths}
use Rattle.edit_paths.specs.States.{IsOpen, state_of}
use Rattle.edit_paths.specs.Works.{work_of, work_of_all}
use Rattle.edit_paths.specs.declared.state.PathState.{PathState}
use Rattle.edit_paths.specs.declared.state.PathState.TheVariants.{ClosedBad, ClosedBox, ClosedLine, Open, Overflows}
use Rattle.edit_paths.proofs.ChoiceLaws.{EndsNot, FoundAt, change-choice, found-from, sorted-after}
use Rattle.edit_paths.proofs.LeastLaws.{choice-least}
use Rattle.edit_paths.proofs.PathOrder.{before-equal, before-extends}
use Rattle.edit_paths.proofs.ReachedLaws.{reached-are, reached-sorted}
use Rattle.back_subst.specs.Gifts.{CanGive, IsCheap, IsNeeded, path_of}

-- Where the search finds a change within a budget below 2^64, values can be given at the fields that it changes, and the set of these is needed.

-- ---- the works of the paths that are taken are within the budget

module _ (c : SearchCase) (budget : ℕ) (chosen : List Bool) (weight : ℕ) (cert : Cert) where
  first-within : (taken : List (List Bool)) (path : List Bool) (paths : List (List Bool))
      → outcome_from c budget taken (path ∷ paths) ≡ outcome.Change chosen weight cert → work_of c path ≤ budget
  first-within taken path paths e = by (nat_lt budget (work_of_all c taken + work_of c path)) refl e
    where
      by : (over : Bool) → nat_lt budget (work_of_all c taken + work_of c path) ≡ over
          → (unwrap_or (if over then Some (outcome.Budget path (work_of_all c taken)) else end_by c taken path (state_of c path))
          (outcome_from c budget (taken ++ path ∷ []) paths)) ≡ outcome.Change chosen weight cert → work_of c path ≤ budget
      by true is h = absurd (cc)
      by false is h = grind (arith, is)

  then-later : (taken : List (List Bool)) (path : List Bool) (paths : List (List Bool)) → EndsNot c path
      → outcome_from c budget taken (path ∷ paths) ≡ outcome.Change chosen weight cert
      → outcome_from c budget (taken ++ path ∷ []) paths ≡ outcome.Change chosen weight cert
  then-later taken path paths ends e = by (nat_lt budget (work_of_all c taken + work_of c path)) (state_of c path) refl e
    where
      by : (over : Bool) (s : PathState) → state_of c path ≡ s
          → (unwrap_or (if over then Some (outcome.Budget path (work_of_all c taken)) else end_by c taken path s)
          (outcome_from c budget (taken ++ path ∷ []) paths)) ≡ outcome.Change chosen weight cert
          → outcome_from c budget (taken ++ path ∷ []) paths ≡ outcome.Change chosen weight cert
      by true s is h = absurd (cc)
      by false (Overflows event) is h = absurd (ends.0 event is)
      by false Open is h = at (is_complete c path) refl h
        where
          at : (full : Bool) → is_complete c path ≡ full
              → (unwrap_or (if full then Some (outcome.Change path (path_weight c.survey.fields path)
              (record { leaves = certificate_of c (if nat_lt 0 (path_weight c.survey.fields path) then taken else []) })) else None)
              (outcome_from c budget (taken ++ path ∷ []) paths)) ≡ outcome.Change chosen weight cert
              → outcome_from c budget (taken ++ path ∷ []) paths ≡ outcome.Change chosen weight cert
          at true full h = absurd (ends.1 is full)
          at false full h = h
      by false ClosedBad is h = h
      by false (ClosedLine i) is h = h
      by false (ClosedBox i) is h = h

  works-within : (taken before : List (List Bool)) (path : List Bool) (after : List (List Bool)) → ((p : List Bool) → IsIn p before → EndsNot c p)
      → outcome_from c budget taken (before ++ path ∷ after) ≡ outcome.Change chosen weight cert → (p : List Bool) → IsIn p (before ++ path ∷ [])
      → work_of c p ≤ budget
  works-within taken [] path after each e p (inl same) = subst (λ (q : List Bool). work_of c q ≤ budget) (sym same) (first-within taken path after e)
  works-within taken [] path after each e p (inr none) = absurd none
  works-within taken (x ∷ before) path after each e p (inl same) =
      subst (λ (q : List Bool). work_of c q ≤ budget) (sym same) (first-within taken x (before ++ path ∷ after) e)
  works-within taken (x ∷ before) path after each e p (inr there) =
      works-within (taken ++ x ∷ []) before path after (λ q at. each q (inr at)) (then-later taken x (before ++ path ∷ after) (each x (inl refl)) e) p there

-- ---- a path that is found, and those that it extends

module _ (c : SearchCase) (is : IsCase c) (budget : ℕ) (path : List Bool) (weight : ℕ) (cert : Cert)
    (e : outcome_of c budget ≡ outcome.Change path weight cert) where
  found : FoundAt c [] (reached_paths c) path weight cert
  found = found-from c budget [] (reached_paths c) path weight cert e

  whole : length path ≡ field_count c
  whole = (Decides-eqb (length path) (field_count c)).0 found.complete

  reached : IsReached c path
  reached =
      ((reached-are c path).0 (subst (λ (ps : List (List Bool)). IsIn path ps) (sym found.paths_are)
      (in-right path found.before (path ∷ found.after) (inl refl)))).1

  prefix-taken : (k : ℕ) → k ≤ length path → IsIn (take k path) (found.before ++ path ∷ [])
  prefix-taken k few =
      elim (in-either (take k path) found.before (path ∷ found.after) (subst (λ (ps : List (List Bool)). IsIn (take k path) ps) found.paths_are there)) [
        | inl at ↦ in-left (take k path) found.before (path ∷ []) at
        | inr at ↦ in-right (take k path) found.before (path ∷ []) (inl (elim at [
          | inl same ↦ same
          | inr late ↦ before-equal c (take k path) path extends (sorted-after c is found.before path (take k path) found.after sorted late)
        ]))
      ]
    where
      there : IsIn (take k path) (reached_paths c)
      there = (reached-are c (take k path)).1 (
        omega (arith, few, whole, length-take-le k path few),
        λ j below. let j_below : j < k = omega (arith, below, length-take-le k path few) in
            subst (λ (p : List Bool). IsOpen c p) (sym (take-take j k path (omega (arith, j_below)))) (reached j (omega (arith, j_below, few))),
      )

      extends : is_before c.survey.fields (take k path) path ≡ true
      extends =
          subst (λ (p : List Bool). is_before c.survey.fields (take k path) p ≡ true) (take-append-drop k path) (before-extends c (take k path) (drop k path))

      sorted : AreInOrder (is_before c.survey.fields) (found.before ++ path ∷ found.after)
      sorted = subst (λ (ps : List (List Bool)). AreInOrder (is_before c.survey.fields) ps) found.paths_are (reached-sorted c)

  cheap : budget < 2 ^ 64 → IsCheap c path
  cheap small k few =
      let within = works-within c budget path weight cert [] found.before path found.after found.not_before
      (ap (λ ps. outcome_from c budget [] ps) (sym found.paths_are) ∙ e) (take k path) (prefix-taken k few) in
      omega (arith, within, small)

-- ---- what `give` asks

module _ (survey : SurveyParts) (edits : EditsParts) (row : List Value) (budget : ℕ) (path : List Bool) (weight : ℕ) (cert : Cert)
    (is : IsCase (case_of survey edits row))
    (e : outcome_of (case_of survey edits row) budget ≡ outcome.Change path weight cert) where
  -- the path says something of all fields
  pub change-whole : length path ≡ length survey.fields
  change-whole = whole (case_of survey edits row) is budget path weight cert e

  module _ (same : (p : Point) → Meets (case_of survey edits row) p ↔ IsCorrection survey p) (changed : ℕ) (path_is : path_of survey.fields changed ≡ path)
    where
      -- values can be given at the changed fields
      pub change-given : edits.shape ≡ shape_of survey.fields → budget < 2 ^ 64 → CanGive survey edits row changed
      change-given shape small = record {
        is_row = is.row;
        shape = shape;
        path =
            subst (λ (p : List Bool). IsOpen (case_of survey edits row) p) (sym path_is)
            (found (case_of survey edits row) is budget path weight cert e).open_there;
        sound = λ p meets. (same p).0 meets;
        complete = λ p correction agrees. ((same p).1 correction).edits;
        few = subst (λ (p : List Bool). IsCheap (case_of survey edits row) p) (sym path_is)
            (cheap (case_of survey edits row) is budget path weight cert e small);
      }

      -- and their set is needed
      pub change-needed : IsNeeded survey row changed
      change-needed =
          inl (subst (λ (p : List Bool). IsLeastWeight survey row (path_weight survey.fields p)) (sym path_is)
          (choice-least survey edits row is same path (change-choice (case_of survey edits row) is budget path weight cert e).0))
