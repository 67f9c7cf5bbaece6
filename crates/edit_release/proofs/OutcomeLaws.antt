use Rattle.std.proofs.Common.{◌≡◌, ◌≤◌, ◌+◌, ◌++◌, not, nat_lt, ℕ, zero, suc, Bool, true, false, if◌then◌else◌, List, [], ◌∷◌, Some, None, refl, sym, ap, ◌∙◌}
use Rattle.std.proofs.Common.{arith}
use Rattle.std.proofs.lemmas.Bool.Decides.{Decides-eqb, nat_tests}
use Rattle.std.proofs.lemmas.List.Sums.{sum_by-append, sum_by-cons}
use Rattle.std.specs.Option.{unwrap_or}
use Rattle.edit_line.proofs.BoolLaws.{true-both}
use Rattle.bound_cert.specs.Paths.{path_weight}
use Rattle.bound_cert.specs.declared.cert.Cert.{Cert}
use Rattle.bound_cert.specs.declared.outcome.Outcome.TheVariants as outcome
use Rattle.proof_grammar.specs.Limits.{clean_leaves}
use Rattle.edit_paths.specs.Cases.{SearchCase}
use Rattle.edit_paths.specs.Certificates.{certificate_of, leaves_from}
use Rattle.edit_paths.specs.Outcomes.{end_by, outcome_from, outcome_of}
use Rattle.edit_paths.specs.Paths.{field_count, is_complete}
use Rattle.edit_paths.specs.ReachedPaths.{reached_paths}
use Rattle.edit_paths.specs.States.{state_of}
use Rattle.edit_paths.specs.Works.{work_of, work_of_all}
use Rattle.edit_paths.specs.declared.state.PathState.{PathState}
use Rattle.edit_paths.specs.declared.state.PathState.TheVariants.{ClosedBad, ClosedBox, ClosedLine, Open, Overflows}
use Rattle.edit_paths.proofs.BadFields.{not-bad}
use Rattle.edit_paths.proofs.ChoiceLaws.{found-from}
use Rattle.cert_check.specs.RowChecks.{fits_change}

-- What the outcome of a record says is right.

module _ (c : SearchCase) (budget : ℕ) where
  -- ---- a change

  module _ (path : List Bool) (weight : ℕ) (cert : Cert) (e : outcome_of c budget ≡ outcome.Change path weight cert) where
    -- its path says something of all fields, keeps none without a value, and has its weight
    pub change-is : fits_change c.survey.fields c.row path weight ≡ true
    change-is =
        let found = found-from c budget [] (reached_paths c) path weight cert e in
        true-both _ _ found.complete
        (true-both _ _ (ap not (not-bad c path Open found.open_there (λ h. absurd (cc))))
        ((Decides-eqb (path_weight c.survey.fields path) weight).1 (sym found.weight_is)))

    -- where it weighs nothing, its tree is the one leaf of a clean record
    pub change-clean : weight ≡ 0 → cert.leaves ≡ clean_leaves
    change-clean none =
        let found = found-from c budget [] (reached_paths c) path weight cert e in
        found.cert_is ∙ ap (λ n. certificate_of c (if nat_lt 0 n then [] ++ found.before else [])) (sym found.weight_is ∙ none) ∙ nothing-taken (field_count c)
      where
        nothing-taken : (fields : ℕ) → leaves_from c [] fields [] ≡ clean_leaves
        nothing-taken zero = refl
        nothing-taken (suc fields) = refl

  -- ---- a budget that was passed

  work-more : (taken : List (List Bool)) (path : List Bool) → work_of_all c (taken ++ path ∷ []) ≡ work_of_all c taken + work_of c path
  work-more taken path = sum_by-append (work_of c) taken (path ∷ []) ∙ ap (λ n. work_of_all c taken + n) (sum_by-cons (work_of c) path [] ∙ omega arith)

  work-from : (taken paths : List (List Bool)) (path : List Bool) (work : ℕ) → work_of_all c taken ≤ budget → outcome_from c budget taken paths
      ≡ outcome.Budget path work → work ≤ budget
  work-from taken [] q work within e = absurd (cc)
  work-from taken (path ∷ paths) q work within e =
      by (nat_lt budget (work_of_all c taken + work_of c path)) refl (state_of c path) (λ more. work-from (taken ++ path ∷ []) paths q work more) e
    where
      more : nat_lt budget (work_of_all c taken + work_of c path) ≡ false → work_of_all c (taken ++ path ∷ []) ≤ budget
      more below = let least : work_of_all c taken + work_of c path ≤ budget = grind (arith, nat_tests, below) in omega (arith, least, work-more taken path)

      by : (over : Bool) → nat_lt budget (work_of_all c taken + work_of c path) ≡ over → (s : PathState)
          → (work_of_all c (taken ++ path ∷ []) ≤ budget → outcome_from c budget (taken ++ path ∷ []) paths ≡ outcome.Budget q work → work ≤ budget)
          → (unwrap_or (if over then Some (outcome.Budget path (work_of_all c taken)) else end_by c taken path s)
          (outcome_from c budget (taken ++ path ∷ []) paths)) ≡ outcome.Budget q work → work ≤ budget
      by true over s rest h = let same : work_of_all c taken ≡ work = cc in omega (arith, within, same)
      by false below (Overflows event) rest h = absurd (cc)
      by false below Open rest h = at (is_complete c path) (rest (more below)) h
        where
          at : (full : Bool) → (outcome_from c budget (taken ++ path ∷ []) paths ≡ outcome.Budget q work → work ≤ budget)
              → (unwrap_or (if full then Some (outcome.Change path (path_weight c.survey.fields path)
              (record { leaves = certificate_of c (if nat_lt 0 (path_weight c.survey.fields path) then taken else []) })) else None)
              (outcome_from c budget (taken ++ path ∷ []) paths)) ≡ outcome.Budget q work
              → work ≤ budget
          at true rest h = absurd (cc)
          at false rest h = rest h
      by false below ClosedBad rest h = rest (more below) h
      by false below (ClosedLine i) rest h = rest (more below) h
      by false below (ClosedBox i) rest h = rest (more below) h

  -- the work that was done is within it
  pub work-within : (path : List Bool) (work : ℕ) → outcome_of c budget ≡ outcome.Budget path work → work ≤ budget
  work-within path work e = work-from [] (reached_paths c) path work (omega arith) e
