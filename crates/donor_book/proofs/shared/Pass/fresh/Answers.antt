use Rattle.std.proofs.Common.{ap, sym, length, ℕ, Option, None}
use Rattle.std.proofs.Math.ListN.{length-replicate}
use Rattle.donor_book.proofs.IndexLaws.{replay_fresh}
use Rattle.donor_book.proofs.PassLaws.{placed_fresh, sound_fresh}
use Rattle.donor_book.proofs.shared.Pass.fresh.Goals as goal

pub invariant_of-result : goal.invariant_of-result
invariant_of-result c =
    let me = c.requires.seat in
    let seen = ap (λ m. m.0.seen) me in (
      ap (λ m. m.1) me,
      ap (λ m. m.0.passes) me,
      ap (λ m. m.0.heard) me,
      ap (λ m. m.0.terms) me,
      c.requires.small.0,
      c.requires.small.1,
      sym (ap length seen),
      rw seen (sound_fresh c.args.terms),
      rw (c.in_ok-vec.ensures.items_if_clones_equal (λ y e. e)) (length-replicate {A = ℕ} c.args.terms.donors 0),
      rw c.in_ok-no_replies.ensures (length-replicate {A = Option (Option ℕ)} c.args.terms.rows None),
      rw (seen, c.in_ok-vec.ensures.items_if_clones_equal (λ y e. e), c.in_ok-no_replies.ensures) (replay_fresh c.args.terms.donors c.args.terms.rows),
      rw (ap (λ m. m.0.mine) me) (placed_fresh c.args.seat.me.0.seen),
    )
