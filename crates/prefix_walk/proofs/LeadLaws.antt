use Rattle.std.proofs.Common.{◌≡◌, ℕ, Bool, List, refl, sym, ap, ◌∙◌}
use Rattle.derivation.specs.declared.step.Step.{Step}
use Rattle.edit_paths.specs.Cases.{SearchCase}
use Rattle.edit_paths.specs.Histories.{steps_to}
use Rattle.edit_paths.specs.Levels.{history_of}
use Rattle.edit_paths.specs.States.{state_of}
use Rattle.edit_paths.specs.declared.levels.Level.{Level}
use Rattle.edit_paths.specs.declared.state.PathState.{PathState}
use Rattle.edit_paths.specs.declared.state.PathState.TheVariants.{ClosedBox, ClosedLine}
use Rattle.path_walk.specs.Lists.{HasLists}
use Rattle.path_walk.proofs.LeadLaws.{leads-to}
use Rattle.prefix_walk.specs.PathWalks.{ended_by}
use Rattle.prefix_walk.specs.declared.walk_end.WalkEnd.{WalkEnd}
use Rattle.prefix_walk.specs.declared.walk_end.WalkEnd.TheVariants as walk

-- The steps that are written of the lists which lead to a closed path.

module _ (c : SearchCase) (path : List Bool) (place : ℕ) (levels : List Level) (work : ℕ) (next : WalkEnd) (state : PathState) (told : List Step)
    (is : state_of c path ≡ state) (lists : HasLists c path levels) where
  -- a line closes it
  pub steps-line : state ≡ ClosedLine place → told ≡ steps_to (history_of levels) place → ended_by c path work next state ≡ walk.Closed told work
  steps-line closed told_is =
      ap (λ (s : PathState). ended_by c path work next s) closed
      ∙ ap (λ (steps : List Step). walk.Closed steps work)
      (sym (told_is ∙ ap (λ h. steps_to h place) ((leads-to c path (ClosedLine place) levels (is ∙ closed) lists).line place refl)))

  -- or a box
  pub steps-box : state ≡ ClosedBox place → told ≡ steps_to (history_of levels) place → ended_by c path work next state ≡ walk.Closed told work
  steps-box closed told_is =
      ap (λ (s : PathState). ended_by c path work next s) closed
      ∙ ap (λ (steps : List Step). walk.Closed steps work)
      (sym (told_is ∙ ap (λ h. steps_to h place) ((leads-to c path (ClosedBox place) levels (is ∙ closed) lists).box place refl)))
