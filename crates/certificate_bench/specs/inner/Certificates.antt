use Rattle.std.specs.Prelude.{ℕ, ◌+◌, ◌-◌, ◌^◌, ◌==◌, ◌&&◌, Bool, List, map, if◌then◌else◌}
use Rattle.std.specs.Int.{bit_at}
use Rattle.std.specs.List.{range_with_len}
use Rattle.derivation.specs.declared.step.Step.{Step}
use Rattle.derivation.specs.declared.step.Step.TheVariants as step
use Rattle.bound_cert.specs.declared.cert.Leaf.{Leaf}
use Rattle.bound_cert.specs.declared.cert.LeafWhy.TheVariants as why
use Rattle.certificate_bench.specs.declared.certificate.Plan.{Plan}

-- the path to the leaf of a number, from 0, of the full tree of a depth: the number's binary digits, the highest
-- first, 1 where the field is changed
abbrev pub path_to : ℕ → ℕ → List Bool
path_to depth number = map (λ place. bit_at number (depth - 1 - place) == 1) (range_with_len 0 depth)

-- the step that names the one given line; the last step of a broken list names a line that is not there
abbrev pub step_where : Bool → Bool → Step
step_where broken last = if broken && last then step.Given 1 else step.Given 0

-- this number of steps; in a broken list the last one names a line that is not there
abbrev pub steps_of : ℕ → Bool → List Step
steps_of count broken = map (λ place. step_where broken (place + 1 == count)) (range_with_len 0 count)

-- whether the leaf of a number is the broken one, which is the last of a broken certificate
abbrev pub is_broken_leaf : Plan → ℕ → Bool
is_broken_leaf plan number = plan.broken && (number + 1 == 2 ^ plan.depth)

-- the leaf of a number, from 0
abbrev pub leaf_at : Plan → ℕ → Leaf
leaf_at plan number = record { path = path_to plan.depth number; why = why.Line (steps_of plan.steps (is_broken_leaf plan number)) }

-- all leaves of the full tree of this plan, in order
abbrev pub leaves_of : Plan → List Leaf
leaves_of plan = map (λ number. leaf_at plan number) (range_with_len 0 (2 ^ plan.depth))
