use Rattle.std.proofs.Common.{◌≡◌, ◌∙◌, sym, ap, map-id, rules, arith}
use Rattle.std.proofs.lemmas.Iterator.Adapters.{YieldsList-from_vec}
use Rattle.std.proofs.lemmas.Iterator.Consumers.{YieldsList-end}
use Rattle.edit_line.specs.Reductions.{reduce_derived}
use Rattle.edit_line.proofs.ReductionLaws.{reduced-covers, reduced-same}
use Rattle.std.proofs.lemmas.Grind.{common_steps}
use Rattle.edit_line.proofs.reduction.reduce.Goals as goal

pub returns : goal.returns
returns c =
    let end = YieldsList-end (YieldsList-from_vec {s = c.into_iter-line-iterator.result} c.args.lines.items (search rules) (search rules)) c.loop-line.yielded
    c.loop-line.line-iterator c.loop-line.yielded_by c.next.result c.next.new.self c.in-None.is c.next.ensures.steps in
    let is : c.into_lines.result.items ≡ reduce_derived c.args.lines.items = c.into_lines.ensures ∙ c.loop-line.invariant
    ∙ ap reduce_derived (sym (map-id c.loop-line.yielded) ∙ end.0) in
    record {
      exact = is;
      dropped = reduced-covers c.args.lines.items c.into_lines.result.items is;
      same = reduced-same c.args.lines.items c.into_lines.result.items is;
    }

pub loop-line-preserved : goal.loop-line-preserved
loop-line-preserved c = grind (arith, common_steps)
