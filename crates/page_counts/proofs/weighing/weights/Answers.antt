use Rattle.std.proofs.Common.{◌≡◌, ◌∙◌, ◌++◌, ℕ, cond, Bool, false, List, [], ◌∷◌, ap, arith, sym}
use Rattle.std.proofs.lemmas.List.{get_or_read}
use Rattle.page_counts.specs.Records.{is_changed}
use Rattle.page_counts.specs.Weights.{record_weight, weights_of}
use Rattle.page_counts.specs.declared.amounts.Amount.{Amount}
use Rattle.page_counts.proofs.WeightLaws.{weights_more}
use Rattle.page_counts.proofs.weighing.weights.Goals as goal

pub loop-number-preserved : goal.loop-number-preserved
loop-number-preserved c =
    let n = c.loop-number.number in
    let fields = c.args.survey.now.fields in
    let changes = c.args.changes.now in
    let marked : c.index.result.now ≡ is_changed changes n =
    get_or_read c.in_ok-marks.marks.items n c.index.result.now (omega (arith, c.in_ok-marks.marks.ok.0, c.in_ok-marks.ensures.length)) c.index.ensures false
    ∙ c.in_ok-marks.ensures.marked n (omega arith) in
    let summed : c.index-in-loop-number.result.now ≡ record_weight fields changes n =
    get_or_read c.in_ok-sums.sums.items n c.index-in-loop-number.result.now (omega
    (arith, c.in_ok-sums.sums.ok.0, c.in_ok-sums.ensures.length)) c.index-in-loop-number.ensures 0 ∙ c.in_ok-sums.ensures.sums n (omega arith) in
    let one : Bool → ℕ → List Amount = λ b s. cond b (record { number = n; size = s } ∷ []) [] in
    c.in_ok-push_weight.ensures ∙ ap (λ (ws : List Amount). ws ++ one c.index.result.now c.index-in-loop-number.result.now) c.loop-number.invariant
    ∙ ap (λ (b : Bool). weights_of fields n changes ++ one b c.index-in-loop-number.result.now) marked
    ∙ ap (λ (s : ℕ). weights_of fields n changes ++ one (is_changed changes n) s) summed
    ∙ sym (weights_more fields changes n)
