use Rattle.std.proofs.Common.{◌≡◌, List, ap, arith, drop, false, length, nat_lt, sym, true, ◌<◌, ◌+◌, ◌∙◌, ℕ}
use Rattle.std.proofs.lemmas.Bool.Decides.{Decides-ltb}
use Rattle.std.specs.List.{fold, list_any}
use Rattle.std.proofs.lemmas.List.{at_drop_more, get_or_past}
use Rattle.std.proofs.lemmas.Result.{IfOk-from_err}
use Rattle.edit_paths.specs.Histories.{History, is_element, maker, making_at, proof_by, step_number, with_step_numbers, with_proof}
use Rattle.edit_paths.specs.declared.making.Making.{Making}
use Rattle.edit_paths.specs.declared.making.Making.TheVariants.{Same}
use Rattle.edit_paths.specs.declared.making.Written.{Written}
use Rattle.edit_paths.proofs.HistoryLists.{parts-end}
use Rattle.redundancy.proofs.ProvingLaws.{proof-here, proof-there}
use Rattle.redundancy.proofs.proving.+prove.Goals as goal

past-end : (list : List Making) (i : ℕ) → false ≡ nat_lt i (length list) → making_at list i ≡ Same 0
past-end list i past =
    let apart : ¬ (i < length list) = λ h. contrary (past ∙ (Decides-ltb i (length list)).1 h) in
    get_or_past list i (Same 0) (omega (arith, apart))
  where
    contrary : false ≡ true → ⊥
    contrary h = absurd (cc)

pub returns-then-has_step : goal.returns-then-has_step
returns-then-has_step t c =
    proof-there c.in-Some.list.now c.in-Some.before.now c.args.place c.args.done.now.items c.in-Some-By.step
    (ap (λ (ms : List Making). making_at ms c.args.place) (sym c.as_slice.ensures) ∙ sym (c.in-Some-By.ensures.lookup.3.1 (Same 0)) ∙ c.in-Some-By.field-0-is)
    (ap (λ (ws : List Written). list_any (λ w. is_element w.element (length c.in-Some.before.now, c.args.place)) ws) (sym c.deref.ensures.value)
    ∙ sym c.has_step.ensures ∙ c.if-has_step.true)
    ∙ ap (λ (h : History). with_proof h c.args.place c.args.done.now.items) (sym c.in-Some.ensures.cases.0)

pub returns-in_ok-push-in-Some-By : goal.returns-in_ok-push-in-Some-By
returns-in_ok-push-in-Some-By t c =
    c.in_ok-push-in-Some-By.ensures.items
    ∙ proof-here c.in-Some.list.now c.in-Some.before.now c.args.place c.args.done.now.items c.in-Some-By.step
    (ap (λ (ms : List Making). making_at ms c.args.place) (sym c.as_slice.ensures) ∙ sym (c.in-Some-By.ensures.lookup.3.1 (Same 0)) ∙ c.in-Some-By.field-0-is)
    c.loop-part.done.items c.in_ok-step-in-Some-By.step
    (ap (λ (ws : List Written). list_any (λ w. is_element w.element (length c.in-Some.before.now, c.args.place)) ws) (sym c.deref.ensures.value)
    ∙ sym c.has_step.ensures ∙ c.if-has_step.false)
    (parts-end c.in-Some.before.now c.args.done.now.items c.loop-part.done.items c.deref-part-items.result.now _ c.loop-part.part-index c.loop-part-test.false
    c.loop-part.invariant (c.deref-part-items.ensures.value ∙ c.in_ok-parts-in-Some-By.ensures))
    (c.in_ok-step-in-Some-By.ensures ∙ ap (λ (ws : List Written). with_step_numbers (λ i. step_number ws (maker c.in-Some.before.now i)) c.in-Some-By.step)
    c.deref-in-Some-By.ensures.value)
    ∙ ap (λ (h : History). with_proof h c.args.place c.args.done.now.items) (sym c.in-Some.ensures.cases.0)

pub returns-in_ok-prove-in-None : goal.returns-in_ok-prove-in-None
returns-in_ok-prove-in-None t c =
    c.in_ok-prove-in-None.ensures
    ∙ sym (ap (λ (m : Making). proof_by (length c.in-Some.before.now, c.args.place) (λ i. maker c.in-Some.before.now i)
    (λ i done. with_proof c.in-Some.before.now i done) m c.args.done.now.items)
    (ap (λ (ms : List Making). making_at ms c.args.place) (sym c.as_slice.ensures)
    ∙ past-end c.as_slice.result.now c.args.place c.in-None.ensures.lookup.0))
    ∙ ap (λ (h : History). with_proof h c.args.place c.args.done.now.items) (sym c.in-Some.ensures.cases.0)

pub returns-in_ok-prove-in-Some-Same : goal.returns-in_ok-prove-in-Some-Same
returns-in_ok-prove-in-Some-Same t c =
    c.in_ok-prove-in-Some-Same.ensures
    ∙ sym (ap (λ (m : Making). proof_by (length c.in-Some.before.now, c.args.place) (λ i. maker c.in-Some.before.now i)
    (λ i done. with_proof c.in-Some.before.now i done) m c.args.done.now.items)
    (ap (λ (ms : List Making). making_at ms c.args.place) (sym c.as_slice.ensures) ∙ sym (c.in-Some-Same.ensures.lookup.3.1 (Same 0))
    ∙ c.in-Some-Same.field-0-is))
    ∙ ap (λ (h : History). with_proof h c.args.place c.args.done.now.items) (sym c.in-Some.ensures.cases.0)

pub loop-part-preserved : goal.loop-part-preserved
loop-part-preserved t c =
    ap (λ (ws : List Written). fold (λ done i. with_proof c.in-Some.before.now i done) ws (drop (c.loop-part.part-index + 1) c.deref-part-items.result.now))
    c.in_ok-prove-in-Some-By.ensures
    ∙ sym (at_drop_more (λ (ps : List ℕ). fold (λ done i. with_proof c.in-Some.before.now i done) c.loop-part.done.items ps) c.deref-part-items.result.now
    c.loop-part.part-index 0 c.loop-part-test.true)
    ∙ c.loop-part.invariant

pub returns-in_err-prove-in-None : goal.returns-in_err-prove-in-None
returns-in_err-prove-in-None t c = IfOk-from_err _ _ c.from_residual.ensures.0

pub returns-in_err-prove-in-Some-Same : goal.returns-in_err-prove-in-Some-Same
returns-in_err-prove-in-Some-Same t c = IfOk-from_err _ _ c.from_residual-in_err-prove-in-Some-Same.ensures.0

pub returns-in_err-parts-in-Some-By : goal.returns-in_err-parts-in-Some-By
returns-in_err-parts-in-Some-By t c = IfOk-from_err _ _ c.from_residual-in_err-parts-in-Some-By.ensures.0

pub returns-in_err-prove-in-Some-By : goal.returns-in_err-prove-in-Some-By
returns-in_err-prove-in-Some-By t c = IfOk-from_err _ _ c.from_residual-in_err-prove-in-Some-By.ensures.0

pub returns-in_err-step-in-Some-By : goal.returns-in_err-step-in-Some-By
returns-in_err-step-in-Some-By t c = IfOk-from_err _ _ c.from_residual-in_err-step-in-Some-By.ensures.0

pub returns-in_err-push-in-Some-By : goal.returns-in_err-push-in-Some-By
returns-in_err-push-in-Some-By t c = IfOk-from_err _ _ c.from_residual-in_err-push-in-Some-By.ensures.0
