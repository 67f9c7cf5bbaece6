use Rattle.std.proofs.Common.{◌≡◌, ◌≤◌, ◌<◌, arith, get_or, length}
use Rattle.csv.specs.Records.{prev}
use Rattle.record_text.proofs.TextsLaws.{place_there, text_at, text_lies}
use Rattle.record_text.proofs.texts.Texts.get.Goals as goal

pub span_of-start-requires : goal.span_of-start-requires
span_of-start-requires c =
    rw c.deref.ensures.value (place_there c.self.inside.ends.items c.self.inside.bytes.items c.args.place (rw c.self.view_is c.requires))

module _ (c : goal.After-deref-2) where
  there : c.args.place < length c.self.inside.ends.items
  there = place_there c.self.inside.ends.items c.self.inside.bytes.items c.args.place (rw c.self.view_is c.requires)

  start : c.span_of-start.result.0 ≡ prev 0 c.self.inside.ends.items c.args.place
  start = rw c.deref.ensures.value at c.span_of-start.ensures.start

  end : c.span_of-start.result.1 ≡ get_or c.self.inside.ends.items c.args.place 0
  end = rw c.deref.ensures.value at c.span_of-start.ensures.end

  in_order : c.span_of-start.result.0 ≤ c.span_of-start.result.1
  in_order = rw (start, end) (text_lies c.self.inside.ends.items c.self.inside.bytes.items c.self.invariant c.args.place there).0

  inside : c.span_of-start.result.1 ≤ length c.deref-2.result.now
  inside = rw (end, c.deref-2.ensures.value)
      (text_lies c.self.inside.ends.items c.self.inside.bytes.items c.self.invariant c.args.place there).1

pub slice_bounds-result-count : goal.slice_bounds-result-count
slice_bounds-result-count c = in_order c

pub slice_bounds-result-start : goal.slice_bounds-result-start
slice_bounds-result-start c = omega (arith, in_order c, inside c)

pub slice_bounds-result-end : goal.slice_bounds-result-end
slice_bounds-result-end c = omega (arith, in_order c, inside c)

pub returns : goal.returns
returns c =
    let there = place_there c.self.inside.ends.items c.self.inside.bytes.items c.args.place (rw c.self.view_is c.requires) in
    let text = text_at c.self.inside.ends.items c.self.inside.bytes.items c.args.place there in
    rw (← c.self.view_is, c.deref-2.ensures.value, c.span_of-start.ensures.start, c.span_of-start.ensures.end, c.deref.ensures.value) text
