use Rattle.std.proofs.Common.{◌∙◌, ap, sym, to_z}
use Rattle.std.proofs.lemmas.Int.{to_z-of_z}
use mir.Syntax.{w128}
use Rattle.linear_elim.proofs.CombineSteps.{divisor-first, divisor-second}
use Rattle.linear_elim.proofs.combine.common_divisor.Goals.{then-a-eq1-via-then-a-eq1, then-a-eq1-via-else-a-eq1+then-b-eqminus1}
use Rattle.linear_elim.proofs.combine.common_divisor.Goals as goal

pub returns-then-a-eq1 : goal.returns-then-a-eq1
returns-then-a-eq1 c =
    elim c.then-a-eq1.branch [
      | then-a-eq1-via-then-a-eq1 w ↦ divisor-first c.args.a c.args.b (sym (to_z-of_z w128 c.args.a c.ranges.a) ∙ ap (λ n. to_z w128 n) w.if-a-eq1.true)
      | then-a-eq1-via-else-a-eq1+then-b-eqminus1 w ↦ divisor-second c.args.a c.args.b
          (sym (to_z-of_z w128 c.args.b c.ranges.b) ∙ ap (λ n. to_z w128 n) w.if-b-eqminus1.true)
    ]
