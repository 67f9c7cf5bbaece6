use Rattle.std.proofs.Common.{ap, Bool, List, None, Some, [], false, if◌then◌else◌, inl, inr, nat_lt, refl, sym, true, ℕ, ◌++◌, ◌+◌, ◌∙◌, ◌∷◌, ◌≡◌}
use Rattle.std.specs.Option.{unwrap_or}
use Rattle.edit_line.specs.Reductions.{IsIn}
use Rattle.bound_cert.specs.Paths.{path_weight}
use Rattle.edit_paths.specs.Certificates.{certificate_of}
use Rattle.edit_paths.specs.Cases.{SearchCase}
use Rattle.edit_paths.specs.Outcomes.{end_by, outcome_from, outcome_of}
use Rattle.edit_paths.specs.Paths.{is_complete}
use Rattle.edit_paths.specs.ReachedPaths.{reached_paths}
use Rattle.edit_paths.specs.States.{state_of}
use Rattle.edit_paths.specs.Works.{work_of, work_of_all}
use Rattle.edit_paths.specs.Events.{IsStepOverflow, IsTestOverflow}
use Rattle.edit_paths.specs.declared.state.PathState.{PathState}
use Rattle.edit_paths.specs.declared.state.PathState.TheVariants.{ClosedBad, ClosedBox, ClosedLine, Open, Overflows}
use Rattle.edit_paths.proofs.EventLaws.{step-names, test-names}
use Rattle.edit_paths.proofs.ReachedLaws.{reached-are}
use Rattle.edit_line.specs.declared.place.Place.{Place}
use Rattle.bound_cert.specs.declared.outcome.Event.{Event}
use Rattle.bound_cert.specs.declared.outcome.Event.TheVariants as event
use Rattle.bound_cert.specs.declared.outcome.Outcome.TheVariants as outcome

-- An outcome that is an overflow names numbers that leave the range.

-- the search stops at the path, which is one of these
pub record StopsIn (c : SearchCase) (paths : List (List Bool)) (path : List Bool) (e : Event) : Type 0 where
  pub there : IsIn path paths
  pub state : state_of c path ≡ Overflows e

module _ (c : SearchCase) (budget : ℕ) where
  later : (first : List Bool) (paths : List (List Bool)) (path : List Bool) (e : Event) → StopsIn c paths path e → StopsIn c (first ∷ paths) path e
  later first paths path e stops = record { there = inr stops.there; state = stops.state }

  pub stops-from : (taken paths : List (List Bool)) (path : List Bool) (e : Event) → outcome_from c budget taken paths ≡ outcome.Overflow path e
      → StopsIn c paths path e
  stops-from taken [] path e is = absurd (cc)
  stops-from taken (first ∷ paths) path e is =
      by (nat_lt budget (work_of_all c taken + work_of c first)) (state_of c first) refl (λ h. stops-from (taken ++ first ∷ []) paths path e h) is
    where
      by : (over : Bool) (s : PathState) → state_of c first ≡ s
          → (outcome_from c budget (taken ++ first ∷ []) paths ≡ outcome.Overflow path e → StopsIn c paths path e)
          → (unwrap_or (if over then Some (outcome.Budget first (work_of_all c taken)) else end_by c taken first s)
          (outcome_from c budget (taken ++ first ∷ []) paths)) ≡ outcome.Overflow path e
          → StopsIn c (first ∷ paths) path e
      by true s state rest h = absurd (cc)
      by false (Overflows d) state rest h =
          let same : first ≡ path = cc in
          let event : d ≡ e = cc in
          record { there = inl (sym same); state = ap (λ (p : List Bool). state_of c p) (sym same) ∙ state ∙ ap Overflows event }
      by false Open state rest h = at (is_complete c first) rest h
        where
          at : (full : Bool) → (outcome_from c budget (taken ++ first ∷ []) paths ≡ outcome.Overflow path e → StopsIn c paths path e)
              → (unwrap_or (if full then Some
              (outcome.Change first (path_weight c.survey.fields first)
              (record { leaves = certificate_of c (if nat_lt 0 (path_weight c.survey.fields first) then taken else []) })) else None)
              (outcome_from c budget (taken ++ first ∷ []) paths)) ≡ outcome.Overflow path e
              → StopsIn c (first ∷ paths) path e
          at true rest h = absurd (cc)
          at false rest h = later first paths path e (rest h)
      by false ClosedBad state rest h = later first paths path e (rest h)
      by false (ClosedLine i) state rest h = later first paths path e (rest h)
      by false (ClosedBox i) state rest h = later first paths path e (rest h)

  pub step-shown : (path : List Bool) (first second : ℕ) (place : Place)
      → outcome_of c budget ≡ outcome.Overflow path (event.Step first second place) → IsStepOverflow c path first second place
  step-shown path first second place is =
      let stops = stops-from [] (reached_paths c) path (event.Step first second place) is in
      let reached = (reached-are c path).0 stops.there in
      step-names c path first second place reached.0 reached.1 stops.state

  pub test-shown : (path : List Bool) (line field : ℕ) → outcome_of c budget ≡ outcome.Overflow path (event.Test line field) → IsTestOverflow c path line field
  test-shown path line field is = test-names c path line field (stops-from [] (reached_paths c) path (event.Test line field) is).state
