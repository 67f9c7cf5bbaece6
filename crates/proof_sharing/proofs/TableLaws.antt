use Rattle.std.proofs.Common.{◌≡◌, ℕ, ◌+◌, ◌||◌, not, Bool, true, false, cond, if◌then◌else◌, List, [], ◌∷◌, ◌++◌, map, refl, sym, ap, ◌∙◌}
use Rattle.std.specs.List.{list_any, position_or_len, prefix_len}
use Rattle.std.proofs.lemmas.List.{map-append}
use Rattle.derivation.specs.SharedLines.{is_same, place_in, with_step}
use Rattle.proof_sharing.specs.inner.Tables.{step_of}
use Rattle.proof_sharing.specs.declared.line_step.LineStep.{LineStep}

-- A table of keys is the table of their steps.

module _ (eq : LineStep → LineStep → Bool) (same : (x y : LineStep) → eq x y ≡ is_same (step_of x) (step_of y)) (key : LineStep) where
  any-same : (keys : List LineStep) → list_any (eq key) keys ≡ list_any (is_same (step_of key)) (map step_of keys)
  any-same [] = refl
  any-same (other ∷ keys) = ap (λ (b : Bool). b || list_any (eq key) keys) (same key other)
      ∙ ap (λ (b : Bool). is_same (step_of key) (step_of other) || b) (any-same keys)

  pub place-same : (keys : List LineStep) → position_or_len (eq key) keys ≡ place_in (map step_of keys) (step_of key)
  place-same [] = refl
  place-same (other ∷ keys) = ap (λ (b : Bool). cond (not b) (1 + prefix_len (λ x. not (eq key x)) keys) 0) (same key other)
      ∙ ap (λ (n : ℕ). cond (not (is_same (step_of key) (step_of other))) (1 + n) 0) (place-same keys)

  pub put-same : (keys : List LineStep) → map step_of (if list_any (eq key) keys then keys else keys ++ key ∷ []) ≡ with_step (map step_of keys) (step_of key)
  put-same keys = by (list_any (eq key) keys) refl
    where
      by : (b : Bool) → list_any (eq key) keys ≡ b → map step_of (if b then keys else keys ++ key ∷ []) ≡ with_step (map step_of keys) (step_of key)
      by true is = ap (λ b. if b then map step_of keys else map step_of keys ++ step_of key ∷ []) (sym (sym (any-same keys) ∙ is))
      by false is = map-append step_of keys (key ∷ []) ∙ ap (λ b. if b then map step_of keys else map step_of keys ++ step_of key ∷ [])
          (sym (sym (any-same keys) ∙ is))
