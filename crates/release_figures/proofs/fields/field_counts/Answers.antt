use Rattle.std.proofs.Common.{arith}
use Rattle.std.proofs.lemmas.Grind.{common_steps}
use Rattle.std.proofs.lemmas.List.FromFn.{map-range_with_len_more}
use Rattle.release_figures.specs.Figures.{field_count}
use Rattle.release_figures.proofs.fields.field_counts.Goals as goal

pub loop-field-preserved : goal.loop-field-preserved
loop-field-preserved c =
    let more = map-range_with_len_more (field_count c.args.changes.now) 0 c.loop-field.field c.loop-field.field (omega arith) in
    grind (arith, common_steps, more)
