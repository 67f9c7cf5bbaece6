use Rattle.std.proofs.Common.{◌≡◌, ◌*◌, ◌^◌, ◌<◌, ◌≤◌, ℕ, slice_index, take, vec_len}
use Rattle.page_counts.specs.Weights.{record_weight}
use Rattle.page_counts.proofs.weighing.weight_sums.Given as goal

abbrev pub invariant-loop-change : goal.invariant-loop-change
invariant-loop-change l =
    (vec_len l.sums ≡ l.rows)
    × ((k : ℕ) → k < l.rows → slice_index l.sums.items k ≡ record_weight l.survey.fields (take l.change-index l.changes) k)
    × ((k : ℕ) → k < l.rows → slice_index l.sums.items k ≤ l.change-index * 2 ^ 32)
