use Rattle.std.proofs.Common.{◌≡◌, ◌||◌, ℕ, ◌<◌, false, slice_index_or, take, vec_len}
use Rattle.page_counts.specs.Records.{is_changed}
use Rattle.page_counts.proofs.marks.mark_changed.Given as goal

abbrev pub invariant-loop-change : goal.invariant-loop-change
invariant-loop-change l =
    (vec_len l.marks ≡ vec_len l.initial.marks)
    × ((k : ℕ) → k < vec_len l.initial.marks
    → slice_index_or l.marks.items k false ≡ (slice_index_or l.initial.marks.items k false || is_changed (take l.change-index l.changes) k))
