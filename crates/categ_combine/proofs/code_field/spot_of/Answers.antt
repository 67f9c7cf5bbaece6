use Rattle.std.proofs.Common.{◌≡◌, ap, sym, ◌∙◌, ◌^◌, ◌-◌}
use Rattle.edit_line.specs.Domains.{domains}
use Rattle.edit_line.specs.CodeFields.{whole_of}
use Rattle.edit_line.proofs.PointCodes.{whole_of-is}
use Rattle.categ_combine.proofs.SpotLaws.{spot-of}
use Rattle.categ_combine.proofs.code_field.spot_of.Goals as goal

pub invariant_of-result : goal.invariant_of-result
invariant_of-result c =
    let is : c.whole_set-whole.result ≡ whole_of (domains c.args.shape) c.args.field = c.whole_set-whole.ensures
    ∙ ap (λ n. 2 ^ n - 1) c.size_of.ensures.size ∙ sym (whole_of-is (domains c.args.shape) c.args.field c.requires) in
    record { stands = spot-of (domains c.args.shape) c.args.field _ _ c.requires c.place_of-place.ensures is }
