use Rattle.std.proofs.Common.{All, List, ◌≤◌, ◌∙◌, ap, take, subst, sym}
use Rattle.foundation.specs.Limits.{most_weight}
use Rattle.donor_search.specs.declared.profile.Weighed.{Weighed}
use Rattle.donor_search.proofs.ProfileLaws.{weights_fit}
use Rattle.donor_search.proofs.profile.Profile.of.Goals as goal

pub invariant_of-result : goal.invariant_of-result
invariant_of-result c = (
  c.count.ensures.few,
  subst (λ (ws : List Weighed). All (λ (w : Weighed). w.weight ≤ most_weight) ws)
      (sym (ap (λ n. take n c.places_of.result) c.count.ensures.fields ∙ c.places_of.ensures))
      (weights_fit 0 c.args.yardsticks.now c.args.kept c.args.row.now c.count.ensures.fit),
)
