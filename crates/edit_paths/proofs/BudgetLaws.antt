use Rattle.std.proofs.Common.{Bool, List, None, Some, [], ap, arith, false, if◌then◌else◌, nat_lt, refl, true, ℕ, ◌&&◌, ◌++◌, ◌+◌, ◌∙◌, ◌∷◌, ◌≡◌, ◌≤◌}
use Rattle.std.proofs.lemmas.Bool.Decides.{Decides-ltb}
use Rattle.std.proofs.lemmas.List.Sums.{sum_by-append, sum_by-cons}
use Rattle.std.specs.Option.{unwrap_or}
use Rattle.edit_model.specs.Points.{Point}
use Rattle.edit_paths.specs.Cases.{SearchCase, IsCase, Meets}
use Rattle.edit_paths.specs.Certificates.{certificate_of}
use Rattle.edit_paths.specs.Outcomes.{end_by, outcome_from, outcome_of, total_work, work_up_to}
use Rattle.edit_paths.specs.ReachedPaths.{reached_paths}
use Rattle.edit_paths.specs.Works.{work_of, work_of_all}
use Rattle.edit_paths.specs.Paths.{is_complete}
use Rattle.bound_cert.specs.Paths.{path_weight}
use Rattle.edit_paths.specs.PathStates.{is_open}
use Rattle.edit_paths.specs.States.{state_of}
use Rattle.edit_paths.specs.declared.state.PathState.{PathState}
use Rattle.edit_paths.specs.declared.state.PathState.TheVariants.{ClosedBad, ClosedBox, ClosedLine, Open, Overflows}
use Rattle.bound_cert.specs.declared.cert.Cert.{Cert}
use Rattle.bound_cert.specs.declared.outcome.Event.{Event}
use Rattle.bound_cert.specs.declared.outcome.Outcome.{Outcome}
use Rattle.edit_paths.proofs.ChoiceLaws.{contradictory}
use Rattle.bound_cert.specs.declared.outcome.Outcome.TheVariants as outcome

-- A budget of at least the total work is never passed.

module _ (c : SearchCase) (budget : ℕ) where
  work-more : (taken : List (List Bool)) (path : List Bool) → work_of_all c (taken ++ path ∷ []) ≡ work_of_all c taken + work_of c path
  work-more taken path = sum_by-append (work_of c) taken (path ∷ []) ∙ ap (λ n. work_of_all c taken + n) (sum_by-cons (work_of c) path [] ∙ omega arith)

  -- where a path is not open, the work goes on behind it
  work-on : (path : List Bool) (paths : List (List Bool)) → is_open (state_of c path) ≡ false
      → work_of c path + (if is_complete c path && is_open (state_of c path) then 0 else work_up_to c paths) ≡ work_of c path + work_up_to c paths
  work-on path paths e = ap (λ b. work_of c path + (if is_complete c path && b then 0 else work_up_to c paths)) e ∙ none (is_complete c path)
    where
      none : (b : Bool) → work_of c path + (if b && false then 0 else work_up_to c paths) ≡ work_of c path + work_up_to c paths
      none true = refl
      none false = refl

  enough-from : (taken paths : List (List Bool)) → work_of_all c taken + work_up_to c paths ≤ budget → (path : List Bool) (work : ℕ)
      → outcome_from c budget taken paths ≡ outcome.Budget path work → ⊥
  enough-from taken [] enough q work e = absurd (cc)
  enough-from taken (path ∷ paths) enough q work e =
      by (nat_lt budget (work_of_all c taken + work_of c path)) refl (state_of c path) refl (is_complete c path) refl
      (λ h. enough-from (taken ++ path ∷ []) paths h q work) e
    where
      by : (over : Bool) → nat_lt budget (work_of_all c taken + work_of c path) ≡ over → (s : PathState) → state_of c path ≡ s → (full : Bool)
          → is_complete c path ≡ full
          → (work_of_all c (taken ++ path ∷ []) + work_up_to c paths ≤ budget → outcome_from c budget (taken ++ path ∷ []) paths ≡ outcome.Budget q work → ⊥)
          → (unwrap_or (if over then Some (outcome.Budget path (work_of_all c taken)) else end_by c taken path s)
          (outcome_from c budget (taken ++ path ∷ []) paths)) ≡ outcome.Budget q work → ⊥
      by true passed s is full whole rest h = let more = (Decides-ltb budget _).0 passed in omega (arith, more, enough)
      by false passed (Overflows event) is full whole rest h = absurd (cc)
      by false passed Open is full whole rest h = at (is_complete c path) refl rest h
        where
          at : (full : Bool) → is_complete c path ≡ full → (work_of_all c (taken ++ path ∷ []) + work_up_to c paths ≤ budget
              → outcome_from c budget (taken ++ path ∷ []) paths ≡ outcome.Budget q work → ⊥)
              → (unwrap_or (if full then Some (outcome.Change path (path_weight c.survey.fields path)
              (record { leaves = certificate_of c (if nat_lt 0 (path_weight c.survey.fields path) then taken else []) })) else None)
              (outcome_from c budget (taken ++ path ∷ []) paths)) ≡ outcome.Budget q work → ⊥
          at true e rest h = absurd (cc)
          at false e rest h =
              rest (omega (
                arith,
                enough,
                work-more taken path,
                ap (λ b. work_of c path + (if b && is_open (state_of c path) then 0 else work_up_to c paths))
                    e,
              )) h
      by false passed ClosedBad is full whole rest h = rest (omega (arith, enough, work-more taken path, work-on path paths (ap is_open is))) h
      by false passed (ClosedLine i) is full whole rest h = rest (omega (arith, enough, work-more taken path, work-on path paths (ap is_open is))) h
      by false passed (ClosedBox i) is full whole rest h = rest (omega (arith, enough, work-more taken path, work-on path paths (ap is_open is))) h

  -- the outcome is Budget only where the total work is more
  pub enough-budget : total_work c ≤ budget → (path : List Bool) (work : ℕ) → outcome_of c budget ≡ outcome.Budget path work → ⊥
  enough-budget enough path work e = enough-from [] (reached_paths c) (omega (arith, enough)) path work e

-- where some point meets the edits, the budget is at least the total work, and no number leaves the range, the outcome is Change
pub always-change : (c : SearchCase) → IsCase c → (budget : ℕ) → (p : Point) → Meets c p → total_work c ≤ budget
    → ((path : List Bool) (event : Event) → outcome_of c budget ≡ outcome.Overflow path event → ⊥)
    → (path : List Bool) × (weight : ℕ) × (cert : Cert) × (outcome_of c budget ≡ outcome.Change path weight cert)
always-change c is budget p meets enough fits = by (outcome_of c budget) refl
  where
    by : (o : Outcome) → outcome_of c budget ≡ o → (path : List Bool) × (weight : ℕ) × (cert : Cert) × (outcome_of c budget ≡ outcome.Change path weight cert)
    by (outcome.Change path weight cert) e = (path, weight, cert, e)
    by (outcome.Budget path work) e = absurd (enough-budget c budget enough path work e)
    by (outcome.Overflow path event) e = absurd (fits path event e)
    by (outcome.Contradictory cert) e = absurd (contradictory c is budget cert e p meets)
