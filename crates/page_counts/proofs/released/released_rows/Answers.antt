use Rattle.std.proofs.Common.{◌≡◌, ◌∙◌, ◌<◌, ℕ, not, List, All, sym, ap, subst, arith}
use Rattle.std.specs.List.Sorted.{IsStrictlyIncreasing}
use Rattle.std.proofs.lemmas.Grind.{common_steps}
use Rattle.page_counts.specs.Records.{is_left_out, released_rows}
use Rattle.page_counts.proofs.MarkLaws.{kept-rising, kept-within, kept_more}
use Rattle.page_counts.proofs.released.released_rows.Goals as goal

pub loop-number-preserved : goal.loop-number-preserved
loop-number-preserved c =
    let more = kept_more (is_left_out c.args.left_out.now) c.loop-number.number in
    let marked = c.in_ok-marks.ensures.marked c.loop-number.number (omega arith) in
    grind (arith, common_steps, more, marked)

pub returns-clause-within : goal.returns-clause-within
returns-clause-within c =
    let last : c.loop-number.number ≡ c.args.rows = omega arith in
    let whole : c.loop-number.numbers.items ≡ released_rows c.args.rows c.args.left_out.now = c.loop-number.invariant
    ∙ ap (λ n. released_rows n c.args.left_out.now) last in
    subst (λ (ks : List ℕ). All (λ k. k < c.args.rows) ks) (sym whole) (kept-within (λ k. not (is_left_out c.args.left_out.now k)) c.args.rows)

pub returns-clause-rising : goal.returns-clause-rising
returns-clause-rising c =
    let last : c.loop-number.number ≡ c.args.rows = omega arith in
    let whole : c.loop-number.numbers.items ≡ released_rows c.args.rows c.args.left_out.now = c.loop-number.invariant
    ∙ ap (λ n. released_rows n c.args.left_out.now) last in
    subst IsStrictlyIncreasing (sym whole) (kept-rising (λ k. not (is_left_out c.args.left_out.now k)) c.args.rows)
