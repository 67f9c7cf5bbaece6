use Rattle.std.proofs.Common.{sym}
use Rattle.std.specs.List.{AllZip, range_with_len}
use Rattle.std.proofs.lemmas.Slice.Zip.{all_zipped_more}
use Rattle.release_figures.specs.ReleasedValues.{IsReleasedValue}
use Rattle.release_figures.proofs.FigureLaws.{range_more, with_both}
use Rattle.release_figures.proofs.released.released_values.Goals as goal

pub loop-row-preserved : goal.loop-row-preserved
loop-row-preserved c =
    let n = c.loop-row.row in
    let R = IsReleasedValue c.args.released.now c.args.kind.now c.args.field in
    with_both (AllZip R) (range_more n) (sym c.in_ok-push.ensures.items)
    (all_zipped_more R (range_with_len 0 n) c.loop-row.values.items n c.released_value.result c.loop-row.invariant
    (record { is = c.released_value.ensures.is; only = c.released_value.ensures.only }))
