use Rattle.std.proofs.Common.{◌≡◌, ◌||◌, ℕ, ◌<◌, false, slice_index_or, take, vec_len}
use Rattle.page_counts.specs.Records.{is_left_out}
use Rattle.page_counts.proofs.marks.mark_left_out.Given as goal

abbrev pub invariant-loop-left : goal.invariant-loop-left
invariant-loop-left l =
    (vec_len l.marks ≡ vec_len l.initial.marks)
    × ((k : ℕ) → k < vec_len l.initial.marks
    → slice_index_or l.marks.items k false ≡ (slice_index_or l.initial.marks.items k false || is_left_out (take l.left-index l.left_out) k))
