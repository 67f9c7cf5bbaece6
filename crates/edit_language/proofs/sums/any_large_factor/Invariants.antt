use Rattle.std.proofs.Common.{◌≡◌, ◌^◌, drop, nat_lt}
use Rattle.std.specs.Prelude.{unsigned_abs}
use Rattle.std.specs.List.{list_any}
use Rattle.edit_language.specs.Meaning.{moved_factor}
use Rattle.edit_language.proofs.sums.any_large_factor.Given as goal

abbrev pub invariant-loop-field : goal.invariant-loop-field
invariant-loop-field l = list_any (λ f. nat_lt (10 ^ 9) (unsigned_abs (moved_factor l.left l.right f.name))) l.fields ≡ list_any
    (λ f. nat_lt (10 ^ 9) (unsigned_abs (moved_factor l.left l.right f.name))) (drop l.field-index l.fields)
