-- Each system that is published is of the edits, and stays in its place.
use Rattle.std.proofs.Common.{◌≡◌, List, [], ◌∷◌, ◌++◌, refl, sym, ◌∙◌, subst, append_assoc, append-nil}
use Rattle.std.specs.List.{All}
use Rattle.std.proofs.lemmas.List.Elements.{All-nil, All-push}
use Rattle.run_core.specs.Laws.{Begins, IsSystemOf, PublishedLaw}
use Rattle.run_core.specs.Runs.{MayCome, run}
use Rattle.run_core.specs.States.{CoreParts, start_of}
use Rattle.run_core.specs.Steps.{after, after_draw}
use Rattle.run_core.specs.declared.event.CoreEvent.{CoreEvent}
use Rattle.run_core.specs.declared.event.CoreEvent.TheVariants as event

systems_run : (state : CoreParts) (events : List CoreEvent) → MayCome state events → All (IsSystemOf state.edits) state.published
    → All (IsSystemOf state.edits) (run state events).published
systems_run state [] may all = all
systems_run state (event.Draw worker ∷ events) may all = systems_run (after_draw state worker) events may.2 all
systems_run state (event.Publish worker system ∷ events) may all = systems_run (after state (event.Publish worker system)) events may.2
    (All-push (IsSystemOf state.edits) state.published system all (may.1.1, may.0))
systems_run state (event.Claim worker row ranking ∷ events) may all = systems_run (after state (event.Claim worker row ranking)) events may.2 all

begins_run : (state : CoreParts) (events : List CoreEvent) → Begins state.published (run state events).published
begins_run state [] = ([], sym (append-nil state.published))
begins_run state (event.Draw worker ∷ events) = begins_run (after_draw state worker) events
begins_run state (event.Publish worker system ∷ events) = let rest = begins_run (after state (event.Publish worker system)) events in
    (system ∷ rest.0, rest.1 ∙ append_assoc state.published (system ∷ []) rest.0)
begins_run state (event.Claim worker row ranking ∷ events) = begins_run (after state (event.Claim worker row ranking)) events

run_on : (state : CoreParts) (events later : List CoreEvent) → run state (events ++ later) ≡ run (run state events) later
run_on state [] later = refl
run_on state (e ∷ events) later = run_on (after state e) events later

pub published_stays : PublishedLaw
published_stays rows workers edits book events later may =
    let state = start_of rows workers edits book in (
      systems_run state events may (All-nil (IsSystemOf edits)),
      subst (λ (end : CoreParts). Begins (run state events).published end.published) (sym (run_on state events later)) (begins_run (run state events) later),
    )
