use Rattle.std.specs.Prelude.{ℕ, ◌+◌, ◌++◌, ◌&&◌, Bool, List, [], ◌∷◌, Option, Some, None, if◌then◌else◌, nat_lt}
use Rattle.std.specs.Option.{unwrap_or}
use Rattle.bound_cert.specs.Paths.{path_weight}
use Rattle.bound_cert.specs.declared.cert.Cert.{Cert}
use Rattle.bound_cert.specs.declared.outcome.Outcome.{Outcome}
use Rattle.bound_cert.specs.declared.outcome.Outcome.TheVariants as outcome
use Rattle.edit_paths.specs.Cases.{SearchCase}
use Rattle.edit_paths.specs.Certificates.{certificate_of}
use Rattle.edit_paths.specs.PathStates.{is_open}
use Rattle.edit_paths.specs.Paths.{is_complete}
use Rattle.edit_paths.specs.ReachedPaths.{reached_paths}
use Rattle.edit_paths.specs.States.{state_of}
use Rattle.edit_paths.specs.Works.{work_of, work_of_all}
use Rattle.edit_paths.specs.declared.state.PathState.{PathState}
use Rattle.edit_paths.specs.declared.state.PathState.TheVariants.{Open, Overflows}

-- the certificate of a change at the path, by the paths taken before it; without them where it weighs nothing
abbrev pub change_cert : SearchCase → List (List Bool) → List Bool → Cert
change_cert c taken path =
    record { leaves = certificate_of c (if nat_lt 0 (path_weight c.survey.fields path) then taken else []) }

-- where a path ends the search, by its state: a number leaves the range, or it is open and says something of all fields
abbrev pub end_by : SearchCase → List (List Bool) → List Bool → PathState → Option Outcome
end_by c taken path (Overflows e) = Some (outcome.Overflow path e)
end_by c taken path Open =
    if is_complete c path
    then Some (outcome.Change path (path_weight c.survey.fields path) (change_cert c taken path))
    else None
end_by c taken path _ = None

-- where the path ends the search after those taken: the work with it passes the budget, or its state does
abbrev pub end_at : SearchCase → ℕ → List (List Bool) → List Bool → Option Outcome
end_at c budget taken path =
    if nat_lt budget (work_of_all c taken + work_of c path)
    then Some (outcome.Budget path (work_of_all c taken))
    else end_by c taken path (state_of c path)

-- the paths are taken in order after those taken; the first that ends the search gives the outcome
abbrev pub outcome_from : SearchCase → ℕ → List (List Bool) → List (List Bool) → Outcome
outcome_from c budget taken [] = outcome.Contradictory (record { leaves = certificate_of c taken })
outcome_from c budget taken (path ∷ paths) =
    unwrap_or (end_at c budget taken path) (outcome_from c budget (taken ++ path ∷ []) paths)

-- the outcome of a record: the reached paths are taken in order
abbrev pub outcome_of : SearchCase → ℕ → Outcome
outcome_of c budget = outcome_from c budget [] (reached_paths c)

-- the work of the paths, up to and with the first that is open and says something of all fields
abbrev pub work_up_to : SearchCase → List (List Bool) → ℕ
work_up_to c [] = 0
work_up_to c (path ∷ paths) = work_of c path + (if is_complete c path && is_open (state_of c path) then 0 else work_up_to c paths)

-- the work of the record's search, whatever the budget is
abbrev pub total_work : SearchCase → ℕ
total_work c = work_up_to c (reached_paths c)
