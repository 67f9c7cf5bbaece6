use Rattle.std.proofs.Common.{◌∙◌}
use Rattle.std.specs.Slots.{slots_items}
use Rattle.donor_book.specs.Entries.{won_of}
use Rattle.donor_book.specs.inner.Rule.{no_entry}
use Rattle.donor_book.proofs.Reading.{readable, reads_on, reads_all, reads_rows}
use Rattle.donor_book.proofs.words.read_history.Goals as goal

pub read_claim-requires : goal.read_claim-requires
read_claim-requires c = readable c.args.terms (slots_items c.args.closed.now.words) c.requires.row.0 c.loop-i.i c.word-word.result c.requires.row.1
    c.word-word.ensures c.requires.small.0 c.requires.small.1 c.if-word-eq0.false

pub loop-i-preserved : goal.loop-i-preserved
loop-i-preserved c =
    let inv = c.loop-i.invariant in (
      c.push_reserved.ensures.capacity ∙ inv.0,
      λ h row. (let on = reads_on c.args.terms (slots_items c.args.closed.now.words) h c.loop-i.i c.word-word.result c.loop-i.history.items (won_of no_entry)
          c.read_claim.result row c.word-word.ensures c.requires.small.1 c.if-word-eq0.false c.read_claim.ensures (inv.1 h row).0 in
          (c.push_reserved.ensures.items ∙ on.0, on.1)),
    )

pub returns-after-loop-i : goal.returns-after-loop-i
returns-after-loop-i c h row = reads_rows c.args.terms (slots_items c.args.closed.now.words) h c.loop-i.i c.loop-i.history.items row c.loop-i-test.false
    (c.loop-i.invariant.1 h row).0

pub returns-then-word-eq0 : goal.returns-then-word-eq0
returns-then-word-eq0 c h row = reads_all c.args.terms (slots_items c.args.closed.now.words) h c.loop-i.i c.word-word.result c.loop-i.history.items row
    c.word-word.ensures c.if-word-eq0.true (c.loop-i.invariant.1 h row).0
