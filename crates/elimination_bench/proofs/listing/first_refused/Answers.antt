use Rattle.std.proofs.Common.{Err, List, length, replicate, true, ap, sym, ◌∙◌, arith}
use Rattle.edit_line.specs.Lines.{LineParts}
use Rattle.elimination_bench.specs.inner.Differences.{shape_with}
use Rattle.elimination_bench.proofs.ListingLaws.{lines-over, refused-generated}
use Rattle.elimination_bench.proofs.listing.first_refused.Goals as goal

pub check_steps-requires-clause-over : goal.check_steps-requires-clause-over
check_steps-requires-clause-over c = lines-over _ c.deref.result.now (c.in_ok-survey.ensures ∙ ap shape_with c.numbers.ensures)
    (c.deref.ensures.value ∙ c.in_ok-given.ensures)

pub check_steps-requires-clause-kept : goal.check_steps-requires-clause-kept
check_steps-requires-clause-kept c f has = absurd (cc (sym has ∙ c.empty.ensures.none f))

pub returns-in-Ok : goal.returns-in-Ok
returns-in-Ok c = refused-generated _ _ _ _ _ _ c.args.listing c.args.count _ (record {
  shape = c.in_ok-survey.ensures ∙ ap shape_with c.numbers.ensures;
  lines = c.deref.ensures.value ∙ c.in_ok-given.ensures;
  usable_all = c.deref-2.ensures.value ∙ c.in_ok-usable.ensures.items_if_clones_equal (λ y e. e)
      ∙ ap (λ n. replicate n true) (omega (arith, c.len.ensures, ap (λ (ls : List LineParts). length ls) c.deref.ensures.value));
  unknown = c.in_ok-row.ensures.unknown;
  none = c.empty.ensures.none;
  listed = c.deref-3.ensures.value ∙ c.in_ok-steps.ensures;
}) c.in-Ok.ensures.proved

pub returns-in-Err-Bad : goal.returns-in-Err-Bad
returns-in-Err-Bad c = refused-generated _ _ _ _ _ _ c.args.listing c.args.count _ (record {
  shape = c.in_ok-survey.ensures ∙ ap shape_with c.numbers.ensures;
  lines = c.deref.ensures.value ∙ c.in_ok-given.ensures;
  usable_all = c.deref-2.ensures.value ∙ c.in_ok-usable.ensures.items_if_clones_equal (λ y e. e)
      ∙ ap (λ n. replicate n true) (omega (arith, c.len.ensures, ap (λ (ls : List LineParts). length ls) c.deref.ensures.value));
  unknown = c.in_ok-row.ensures.unknown;
  none = c.empty.ensures.none;
  listed = c.deref-3.ensures.value ∙ c.in_ok-steps.ensures;
}) (c.check_steps.ensures.bad c.in-Err-Bad.place (c.in-Err-Bad.is ∙ ap Err c.in-Err-Bad.field-0-is))
