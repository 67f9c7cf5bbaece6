use Rattle.std.proofs.Common.{◌≡◌, ◌∙◌, ℕ, zero, suc, ◌+◌, ◌<◌, List, [], ◌∷◌, ◌++◌, All, ap, arith, length, subst, sym}
use Rattle.std.proofs.lemmas.List.{get_or_append_left, get_or_push, length_push}
use borrow.Author.Count.{below_more}
use Rattle.record_text.proofs.Refusals.{no_value}
use Rattle.donor_measure.specs.Yardsticks.{yardstick_at, yardsticks_of}
use Rattle.donor_measure.specs.declared.yardstick.Yardstick.{Yardstick}
use Rattle.donor_search.specs.Decks.{AreSlots, slots_at}
use Rattle.donor_search.specs.declared.slot.Slot.{Slot}
use Rattle.donor_search.proofs.deck.index_of.Goals as goal

pub returns-in_err-slots_of-clause-fields : goal.returns-in_err-slots_of-clause-fields
returns-in_err-slots_of-clause-fields c = no_value c.from_residual.result _ _ c.from_residual.ensures.1

pub returns-in_err-slots_of-clause-donors : goal.returns-in_err-slots_of-clause-donors
returns-in_err-slots_of-clause-donors c = no_value c.from_residual.result _ _ c.from_residual.ensures.1

pub returns-in_err-slots_of-clause-slots : goal.returns-in_err-slots_of-clause-slots
returns-in_err-slots_of-clause-slots c = no_value c.from_residual.result _ _ c.from_residual.ensures.1

pub returns-in_err-push-clause-fields : goal.returns-in_err-push-clause-fields
returns-in_err-push-clause-fields c = no_value c.from_residual-in_err-push.result _ _ c.from_residual-in_err-push.ensures.1

pub returns-in_err-push-clause-donors : goal.returns-in_err-push-clause-donors
returns-in_err-push-clause-donors c = no_value c.from_residual-in_err-push.result _ _ c.from_residual-in_err-push.ensures.1

pub returns-in_err-push-clause-slots : goal.returns-in_err-push-clause-slots
returns-in_err-push-clause-slots c = no_value c.from_residual-in_err-push.result _ _ c.from_residual-in_err-push.ensures.1

-- ---- the slots of one field more

each_slots : (P : List Slot → Type 0) (index : List (List Slot)) (slots : List Slot) → ((f : ℕ) → P (slots_at index f)) → P slots
    → (f : ℕ) → P (slots_at (index ++ slots ∷ []) f)
each_slots P [] slots all here zero = here
each_slots P [] slots all here (suc f) = all 0
each_slots P (first ∷ index) slots all here zero = all 0
each_slots P (first ∷ index) slots all here (suc f) = each_slots P index slots (λ k. all (suc k)) here f

more_slots : (P : ℕ → List Slot → Type 0) (index : List (List Slot)) (slots : List Slot) (n : ℕ) → length index ≡ n
    → ((f : ℕ) → f < n → P f (slots_at index f)) → P n slots → (f : ℕ) → f < n + 1 → P f (slots_at (index ++ slots ∷ []) f)
more_slots P index slots n is below here =
    below_more (λ f. P f (slots_at (index ++ slots ∷ []) f)) n
    (λ f less. subst (P f) (sym (get_or_append_left index (slots ∷ []) [] f (omega (arith, is, less)))) (below f less))
    (subst (P n) (sym (get_or_push index slots [] n is)) here)

pub loop-field-preserved : goal.loop-field-preserved
loop-field-preserved c =
    let index = c.loop-field.index.items in
    let slots = c.in_ok-slots_of.field-0 in
    let inv = c.loop-field.invariant in
    let rows = c.args.sheet.now.rows in
    let pushed = sym c.in_ok-push.ensures.items in
    record {
      donors = subst (λ (l : List (List Slot)). (f : ℕ) → All (λ (s : Slot). s.donor < length rows) (slots_at l f)) pushed
          (each_slots (λ (l : List Slot). All (λ (s : Slot). s.donor < length rows) l) index slots inv.donors c.in_ok-slots_of.ensures.donors);
      fields = sym (ap length pushed) ∙ length_push index slots ∙ ap (λ n. n + 1) inv.fields;
      slots = λ plain. subst (λ (l : List (List Slot)). (f : ℕ) → f < c.loop-field.field + 1
          → AreSlots (yardstick_at (yardsticks_of c.args.survey.now.fields) f).scale rows f c.args.donors.now (slots_at l f)) pushed
          (more_slots (λ f (l : List Slot). AreSlots (yardstick_at (yardsticks_of c.args.survey.now.fields) f).scale rows f c.args.donors.now l)
          index slots c.loop-field.field inv.fields (inv.slots plain)
          (subst (λ (y : Yardstick). AreSlots y.scale rows c.loop-field.field c.args.donors.now slots)
          (c.at-scale.ensures.is ∙ ap (λ (ys : List Yardstick). yardstick_at ys c.loop-field.field) c.of-yardsticks.ensures)
          (c.in_ok-slots_of.ensures.slots plain)));
    }
