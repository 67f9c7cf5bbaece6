use Rattle.std.proofs.Common.{arith}
use Rattle.std.proofs.lemmas.Grind.{common_steps}
use Rattle.linear_elim.proofs.fold.next_lines.Goals as goal

pub has-requires : goal.has-requires
has-requires g c = grind (arith, common_steps)

pub returns-then-field-gt0-clause-exact : goal.returns-then-field-gt0-clause-exact
returns-then-field-gt0-clause-exact g c = grind (arith, common_steps)

pub returns-then-field-gt0-clause-counted : goal.returns-then-field-gt0-clause-counted
returns-then-field-gt0-clause-counted g c = grind (arith, common_steps)

pub returns-then-field-gt0-clause-few : goal.returns-then-field-gt0-clause-few
returns-then-field-gt0-clause-few g c = grind (arith, common_steps)

pub returns-then-field-gt0-clause-counts : goal.returns-then-field-gt0-clause-counts
returns-then-field-gt0-clause-counts g c = grind (arith, common_steps)

pub current_lines-requires : goal.current_lines-requires
current_lines-requires g c = grind (arith, common_steps)

pub reduced_step-requires-clause-shape : goal.reduced_step-requires-clause-shape
reduced_step-requires-clause-shape g c = grind (arith, common_steps)

pub reduced_step-requires-clause-own : goal.reduced_step-requires-clause-own
reduced_step-requires-clause-own g c = grind (arith, common_steps)

pub returns-in-Ok-clause-exact : goal.returns-in-Ok-clause-exact
returns-in-Ok-clause-exact g c = grind (arith, common_steps)

pub returns-in-Ok-clause-counted : goal.returns-in-Ok-clause-counted
returns-in-Ok-clause-counted g c = grind (arith, common_steps)

pub returns-in-Ok-clause-few : goal.returns-in-Ok-clause-few
returns-in-Ok-clause-few g c = grind (arith, common_steps)

pub returns-in-Ok-clause-counts : goal.returns-in-Ok-clause-counts
returns-in-Ok-clause-counts g c = grind (arith, common_steps)

pub at_field-requires : goal.at_field-requires
at_field-requires g c = grind (arith, common_steps)

pub returns-clause-exact : goal.returns-clause-exact
returns-clause-exact g c = grind (arith, common_steps)

pub returns-clause-counted : goal.returns-clause-counted
returns-clause-counted g c = grind (arith, common_steps)

pub returns-clause-few : goal.returns-clause-few
returns-clause-few g c = grind (arith, common_steps)

pub returns-clause-counts : goal.returns-clause-counts
returns-clause-counts g c = grind (arith, common_steps)
