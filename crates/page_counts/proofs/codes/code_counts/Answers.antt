use Rattle.std.proofs.Common.{count_by, arith}
use Rattle.std.proofs.lemmas.Grind.{common_steps}
use Rattle.std.proofs.lemmas.List.FromFn.{map-range_with_len_more}
use Rattle.page_counts.specs.Columns.{is_code}
use Rattle.page_counts.proofs.codes.code_counts.Goals as goal

pub loop-code-preserved : goal.loop-code-preserved
loop-code-preserved c =
    let more = map-range_with_len_more (λ code. count_by (is_code code) c.args.values.now) 0 c.loop-code.code c.loop-code.code (omega arith) in
    grind (arith, common_steps, more)
