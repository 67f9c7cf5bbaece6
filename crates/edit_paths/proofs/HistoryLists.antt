use Rattle.std.proofs.Common.{Bool, List, None, [], ap, arith, drop, false, if◌then◌else◌, length, refl, sym, true, ℕ, ◌&&◌, ◌++◌, ◌+◌, ◌<◌, ◌==◌, ◌||◌, ◌∙◌}
use Rattle.std.proofs.Common.{◌∷◌, ◌≡◌, ◌≤◌}
use Rattle.std.proofs.lemmas.List.{at_drop_all}
use Rattle.std.specs.List.{fold, list_any}
use Rattle.derivation.specs.declared.step.Step.{Step}
use Rattle.edit_paths.specs.Histories.{Element, History, is_element, made_or, maker, making_at, step_number, step_parts, proof_by, with_step_numbers}
use Rattle.edit_paths.specs.Histories.{with_proof}
use Rattle.edit_paths.specs.Histories.{with_step}
use Rattle.edit_paths.specs.Levels.{history_of, makings_of}
use Rattle.edit_paths.specs.declared.levels.Level.{Level}
use Rattle.edit_paths.specs.declared.making.Making.{Making}
use Rattle.edit_paths.specs.declared.making.Making.TheVariants.{By, Same}
use Rattle.edit_paths.specs.declared.making.Written.{Written}
use Rattle.edit_paths.specs.inner.Writing.{earlier_of}

-- The history of lists, and of one list more.

fold_last : (history : History) (before : List Level) (level : Level) → fold (λ h l. makings_of l ∷ h) history (before ++ level ∷ []) ≡ makings_of level
    ∷ fold (λ h l. makings_of l ∷ h) history before
fold_last history [] level = refl
fold_last history (first ∷ before) level = fold_last (makings_of first ∷ history) before level

-- the list that comes last is the first of the history
pub history-last : (before : List Level) (level : Level) → history_of (before ++ level ∷ []) ≡ makings_of level ∷ history_of before
history-last before level = fold_last [] before level

fold_length : (history : History) (levels : List Level) → length (fold (λ h l. makings_of l ∷ h) history levels) ≡ length history + length levels
fold_length history [] = omega arith
fold_length history (level ∷ levels) = fold_length (makings_of level ∷ history) levels ∙ omega arith

pub length-history : (levels : List Level) → length (history_of levels) ≡ length levels
length-history levels = fold_length [] levels ∙ omega arith

-- ---- the element at a place of the last list

module _ (levels before : List Level) (level : Level) (place : ℕ) (is : levels ≡ before ++ level ∷ []) where
  history-is : history_of levels ≡ makings_of level ∷ history_of before
  history-is = ap (λ (ls : List Level). history_of ls) is ∙ history-last before level

  -- it was made there
  pub maker-here : None ≡ earlier_of (making_at (makings_of level) place) → (length before, place) ≡ maker (history_of levels) place
  maker-here new =
      sym (ap (λ (h : History). maker h place) history-is ∙ by (making_at (makings_of level) place) new ∙ ap (λ (n : ℕ). (n, place)) (length-history before))
    where
      by : (m : Making) → None ≡ earlier_of m → made_or (length (history_of before), place) (λ i. maker (history_of before) i) m
          ≡ (length (history_of before), place)
      by (By step) h = refl
      by (Same earlier) h = absurd (cc)

  -- it has its step already
  pub proof-there : (done : List Written) (step : Step) → making_at (makings_of level) place ≡ By step
      → list_any (λ (w : Written). is_element w.element (length before, place)) done ≡ true → done ≡ with_proof (history_of levels) place done
  proof-there done step made there =
      sym (
      ap (λ (h : History). with_proof h place done) history-is
      ∙ ap (λ (m : Making). proof_by (length (history_of before), place) (λ i. maker (history_of before) i) (λ i done. with_proof (history_of before) i done) m
      done) made
      ∙ ap (λ (n : ℕ). if list_any (λ (w : Written). is_element w.element (n, place)) done then done else with_step (n, place)
      (λ i. maker (history_of before) i) step (fold (λ done i. with_proof (history_of before) i done) done (step_parts step))) (length-history before)
      ∙ ap (λ b. if b then done else with_step (length before, place) (λ i. maker (history_of before) i) step
      (fold (λ done i. with_proof (history_of before) i done) done (step_parts step))) there
      )

  -- its step comes behind those of its parts
  pub proof-here : (done parted : List Written) (step written : Step) → making_at (makings_of level) place ≡ By step
      → list_any (λ (w : Written). is_element w.element (length before, place)) done ≡ false
      → parted ≡ fold (λ done i. with_proof (history_of before) i done) done (step_parts step) → written
      ≡ with_step_numbers (λ i. step_number parted (maker (history_of before) i)) step
      → parted ++ record { element = (length before, place); step = written } ∷ [] ≡ with_proof (history_of levels) place done
  proof-here done parted step written made new parts number =
      sym (
      ap (λ (h : History). with_proof h place done) history-is
      ∙ ap (λ (m : Making). proof_by (length (history_of before), place) (λ i. maker (history_of before) i) (λ i done. with_proof (history_of before) i done) m
      done) made
      ∙ ap (λ (n : ℕ). if list_any (λ (w : Written). is_element w.element (n, place)) done then done else with_step (n, place)
      (λ i. maker (history_of before) i) step (fold (λ done i. with_proof (history_of before) i done) done (step_parts step))) (length-history before)
      ∙ ap (λ b. if b then done else with_step (length before, place) (λ i. maker (history_of before) i) step
      (fold (λ done i. with_proof (history_of before) i done) done (step_parts step))) new
      ∙ ap (λ (ws : List Written). with_step (length before, place) (λ i. maker (history_of before) i) step ws) (sym parts)
      ∙ ap (λ (s : Step). parted ++ record { element = (length before, place); step = s } ∷ []) (sym number)
      )

-- ---- what is written for elements of the lists

-- at the end of a list of parts, all of them have their steps
pub parts-end : (history : History) (done parted : List Written) (items parts : List ℕ) (i : ℕ) → length items ≤ i
    → fold (λ done i. with_proof history i done) parted (drop i items) ≡ fold (λ done i. with_proof history i done) done items
    → items ≡ parts → parted ≡ fold (λ done i. with_proof history i done) done parts
parts-end history done parted items parts i past kept same =
    sym (at_drop_all (λ (xs : List ℕ). fold (λ done i. with_proof history i done) parted xs) items i past) ∙ kept
    ∙ ap (λ (xs : List ℕ). fold (λ done i. with_proof history i done) done xs) same

module _ (e : Element) where
  abbrev pub is_written : List Written → Bool
  is_written done = list_any (λ (w : Written). is_element w.element e) done

  fold-apart : (prove : ℕ → List Written → List Written) → ((i : ℕ) (done : List Written) → is_written (prove i done) ≡ is_written done)
      → (done : List Written) (parts : List ℕ) → is_written (fold (λ done i. prove i done) done parts) ≡ is_written done
  fold-apart prove each done [] = refl
  fold-apart prove each done (i ∷ parts) = fold-apart prove each (prove i done) parts ∙ each i done

  last-apart : (done : List Written) (w : Written) → is_element w.element e ≡ false → is_written (done ++ w ∷ []) ≡ is_written done
  last-apart [] w apart = ap (λ b. b || false) apart
  last-apart (x ∷ done) w apart = ap (λ b. is_element x.element e || b) (last-apart done w apart)

  -- the steps for an element of the lists prove none of a later list
  pub proof-apart : (history : History) (place : ℕ) (done : List Written) → length history ≤ e.0 → is_written (with_proof history place done) ≡ is_written done
  proof-apart [] place done before = refl
  proof-apart (list ∷ history) place done before = by (λ i done. proof-apart history i done (omega (arith, before))) (making_at list place)
    where
      not_same : (n m : ℕ) → n < m → (n == m) ≡ false
      not_same n m below = grind (arith, below)

      apart : is_element (length history, place) e ≡ false
      apart = ap (λ b. b && (place == e.1)) (not_same (length history) e.0 (omega (arith, before)))

      by : ((i : ℕ) (done : List Written) → is_written (with_proof history i done) ≡ is_written done) → (m : Making)
          → is_written (proof_by (length history, place) (λ i. maker history i) (λ i done. with_proof history i done) m done) ≡ is_written done
      by earlier (Same place) = earlier place done
      by earlier (By step) = by_new (list_any (λ (w : Written). is_element w.element (length history, place)) done)
        where
          by_new : (b : Bool) → is_written (if b then done else with_step (length history, place) (λ i. maker history i) step
              (fold (λ done i. with_proof history i done) done (step_parts step))) ≡ is_written done
          by_new true = refl
          by_new false = last-apart (fold (λ done i. with_proof history i done) done (step_parts step)) _ apart
              ∙ fold-apart (λ i done. with_proof history i done) earlier done (step_parts step)

-- so the step of an element of the list behind them is new
pub parts-apart : (before : List Level) (place : ℕ) (done parted : List Written) (parts : List ℕ)
    → list_any (λ (w : Written). is_element w.element (length before, place)) done ≡ false
    → parted ≡ fold (λ done i. with_proof (history_of before) i done) done parts → list_any (λ (w : Written). is_element w.element (length before, place))
    parted ≡ false
parts-apart before place done parted parts new are =
    ap (λ (ws : List Written). is_written (length before, place) ws) are
    ∙ fold-apart (length before, place) (λ i done. with_proof (history_of before) i done) (λ i done. proof-apart (length before, place) (history_of before) i
    done (omega (arith, length-history before))) done parts ∙ new
