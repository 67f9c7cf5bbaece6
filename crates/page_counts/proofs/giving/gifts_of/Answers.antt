use Rattle.std.proofs.Common.{◌≡◌, ◌∙◌, ◌+◌, List, get_or, take, None, sym, ap, subst, arith}
use Rattle.std.proofs.lemmas.List.{get_or_default}
use Rattle.reason_lines.specs.declared.entry.Change.{Change}
use Rattle.reason_lines.specs.declared.entry.How.TheVariants.{Donor}
use Rattle.page_counts.specs.declared.giving.Gifts.{Gifts}
use Rattle.page_counts.specs.inner.Gifts.{AreAllGifts}
use Rattle.page_counts.proofs.GivingLaws.{gifts_begin, gifts_beyond, gifts_few, gifts_noted}
use Rattle.page_counts.proofs.giving.gifts_of.Goals.{then-change-rows, else-change-rows}
use Rattle.page_counts.proofs.giving.gifts_of.Goals as goal

pub loop-change-init : goal.loop-change-init
loop-change-init c =
    subst (λ (gs : List Gifts). AreAllGifts c.args.rows _ gs) (sym (c.in_ok-gifts.ensures.items_if_clones_equal (λ y same. same))) (gifts_begin c.args.rows)

pub note_gift-requires : goal.note_gift-requires
note_gift-requires c =
    gifts_few c.args.rows (take c.loop-change.change-index c.args.changes.now) c.loop-change.gifts.items (omega arith) c.loop-change.invariant

pub loop-change-preserved : goal.loop-change-preserved
loop-change-preserved c =
    let i = c.loop-change.change-index in
    let changes = c.args.changes.now in
    let change : Change = get_or changes i (record { «record» = 0; field = 0; how = Donor; donor = None }) in
    let here : change ≡ get_or changes i change = get_or_default changes i _ change c.loop-change-test.true in
    elim c.if-change-rows.branch [
      | then-change-rows w ↦ subst (λ (gs : List Gifts). AreAllGifts c.args.rows (take (i + 1) changes) gs)
          (sym (ap (λ v. v.items) w.gifts-is ∙ w.note_gift.ensures))
          (gifts_noted c.args.rows changes c.requires i change c.loop-change-test.true here
          c.loop-change.gifts.items c.loop-change.invariant w.if-change-rows.true)
      | else-change-rows w ↦ subst (λ (gs : List Gifts). AreAllGifts c.args.rows (take (i + 1) changes) gs)
          (sym (ap (λ v. v.items) w.gifts-is))
          (gifts_beyond c.args.rows changes c.requires i change c.loop-change-test.true here
          c.loop-change.gifts.items c.loop-change.invariant w.if-change-rows.false)
    ]
