-- What a row tells without its tree.
use Rattle.std.specs.Prelude.{ℕ, Option, Some, None}
use Rattle.bound_cert.specs.declared.outcome.Outcome.{Outcome}
use Rattle.bound_cert.specs.declared.outcome.Outcome.TheVariants.{Budget, Change, Contradictory, Overflow}

-- the weight of the change that was found of a record, if one was
abbrev pub change_weight : Outcome → Option ℕ
change_weight (Change path weight cert) = Some weight
change_weight (Budget path work) = None
change_weight (Overflow path event) = None
change_weight (Contradictory cert) = None
