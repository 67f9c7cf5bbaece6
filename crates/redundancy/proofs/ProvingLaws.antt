use Rattle.std.proofs.Common.{◌≡◌, ℕ, suc, ◌+◌, Bool, true, false, List, [], ◌∷◌, ◌++◌, Some, None, cond, if◌then◌else◌, length, nat_lt, refl, sym, ap, ◌∙◌}
use Rattle.std.proofs.Common.{arith}
use Rattle.std.specs.List.{fold, list_any, position, position_or_len}
use Rattle.std.specs.Option.{unwrap_or}
use Rattle.derivation.specs.declared.step.Step.{Step}
use Rattle.edit_paths.specs.Histories.{Element, History, is_element, maker, making_at, step_number, step_parts, proof_by, with_step_numbers, with_proof}
use Rattle.edit_paths.specs.Histories.{with_step}
use Rattle.edit_paths.specs.declared.making.Making.{Making}
use Rattle.edit_paths.specs.declared.making.Making.TheVariants.{By}
use Rattle.edit_paths.specs.declared.making.Written.{Written}
use Rattle.redundancy.proofs.WalkPaths.{position-cons}

-- The steps that prove an element of the last list, from those of the lists before.

-- an element's step has its place among the steps as its number
pub number-place : (done : List Written) (e : Element) → step_number done e ≡ unwrap_or (position (λ (w : Written). is_element w.element e) done) (length done)
number-place [] e = refl
number-place (w ∷ done) e = by (is_element w.element e) (nat_lt (position_or_len is_its done) (length done)) (number-place done e)
    ∙ sym (ap (λ o. unwrap_or o (suc (length done))) (position-cons is_its w done))
  where
    is_its : Written → Bool
    is_its w = is_element w.element e

    by : (b l : Bool) → step_number done e ≡ unwrap_or (cond l (Some (position_or_len is_its done)) None) (length done)
        → (if b then 0 else suc (step_number done e)) ≡ unwrap_or (if b then Some 0 else cond l (Some (1 + position_or_len is_its done)) None)
        (suc (length done))
    by true l h = refl
    by false true h = omega (arith, h)
    by false false h = ap (λ n. suc n) h

module _ (list : List Making) (before : History) (place : ℕ) (done : List Written) (step : Step) (made : making_at list place ≡ By step) where
  -- it has its step already
  pub proof-there : list_any (λ (w : Written). is_element w.element (length before, place)) done ≡ true → done ≡ with_proof (list ∷ before) place done
  proof-there there =
      sym (
      ap (λ (m : Making). proof_by (length before, place) (λ i. maker before i) (λ i done. with_proof before i done) m done) made
      ∙ ap (λ b. if b then done else with_step (length before, place) (λ i. maker before i) step
      (fold (λ done i. with_proof before i done) done (step_parts step))) there
      )

  -- its step comes behind those of its parts
  pub proof-here : (parted : List Written) (written : Step) → list_any (λ (w : Written). is_element w.element (length before, place)) done ≡ false → parted
      ≡ fold (λ done i. with_proof before i done) done (step_parts step)
      → written ≡ with_step_numbers (λ i. step_number parted (maker before i)) step → parted ++ record { element = (length before, place); step = written } ∷ []
      ≡ with_proof (list ∷ before) place done
  proof-here parted written new parts number =
      sym (
      ap (λ (m : Making). proof_by (length before, place) (λ i. maker before i) (λ i done. with_proof before i done) m done) made
      ∙ ap (λ b. if b then done else with_step (length before, place) (λ i. maker before i) step
      (fold (λ done i. with_proof before i done) done (step_parts step))) new
      ∙ ap (λ (ws : List Written). with_step (length before, place) (λ i. maker before i) step ws) (sym parts)
      ∙ ap (λ (s : Step). parted ++ record { element = (length before, place); step = s } ∷ []) (sym number)
      )
