use Rattle.std.proofs.Common.{◌≡◌, ◌*◌, ◌^◌, ◌≤◌, ◌+ℤ◌, drop}
use Rattle.std.specs.Prelude.{unsigned_abs}
use Rattle.std.specs.Option.{option_map}
use Rattle.edit_language.specs.inner.Sums.{parts_added}
use Rattle.edit_language.proofs.sums.terms_total.Given as goal

abbrev pub invariant-loop-term : goal.invariant-loop-term
invariant-loop-term l = (parts_added (option_map (λ n. n.now) l.name) l.terms ≡ l.total +ℤ parts_added (option_map (λ n. n.now) l.name)
    (drop l.term-index l.terms)) × (unsigned_abs l.total ≤ 10 ^ 15 * l.term-index)
