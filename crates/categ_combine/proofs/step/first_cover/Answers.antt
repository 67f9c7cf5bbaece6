use Rattle.std.proofs.Common.{sym, subst, take, ℕ, List}
use Rattle.edit_line.specs.Sets.{AreSets}
use Rattle.edit_line.specs.Domains.{domains}
use Rattle.edit_line.specs.Shapes.{whole_sets}
use Rattle.categ_combine.proofs.SpotLaws.{wholes-are}
use Rattle.categ_combine.proofs.step.first_cover.Goals as goal

pub over-requires : goal.over-requires
over-requires c =
    subst (λ (sets : List ℕ). AreSets sets (whole_sets (domains c.args.spot.now.shape))) (sym c.in_ok-sets.ensures)
    (wholes-are (take c.args.spot.now.shape.count c.args.spot.now.shape.codes))
