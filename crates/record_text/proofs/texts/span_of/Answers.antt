use Rattle.std.proofs.Common.{◌≡◌, ◌<◌, ◌+◌, ◌-◌, ◌∙◌, length, rules, sym}
use Rattle.csv.proofs.RecordFacts.{prev-first, prev-next}
use Rattle.record_text.proofs.texts.span_of.Goals.{else-place-eq0, then-place-eq0}
use Rattle.record_text.proofs.texts.span_of.Goals as goal

pub returns-clause-start : goal.returns-clause-start
returns-clause-start c = elim c.if-place-eq0.branch [
  | then-place-eq0 w ↦ rw (w.start-is, w.if-place-eq0.true) (sym (prev-first c.args.ends.now))
  | else-place-eq0 w ↦
      let one : (c.args.place - 1) + 1 ≡ c.args.place = search rules in
      let there : (c.args.place - 1) + 1 < length c.args.ends.now = rw one c.requires in
      w.start-is ∙ sym (rw one at (prev-next 0 c.args.ends.now (c.args.place - 1) 0 there))
]
