-- Which records claim a donor.
use Rattle.std.specs.Prelude.{◌==◌, not, Bool, false}
use Rattle.bound_cert.specs.declared.outcome.Outcome.{Outcome}
use Rattle.bound_cert.specs.declared.outcome.Outcome.TheVariants.{Budget, Change, Contradictory, Overflow}

-- whether a record claims a donor: a change of some weight was found, whether or not values were given
abbrev pub claims_donor : Outcome → Bool
claims_donor (Change path weight cert) = not (weight == 0)
claims_donor (Budget path work) = false
claims_donor (Overflow path event) = false
claims_donor (Contradictory cert) = false
