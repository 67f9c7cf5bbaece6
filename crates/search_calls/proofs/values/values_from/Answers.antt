use Rattle.std.proofs.Common.{sym}
use Rattle.search_calls.proofs.ValueLaws.{values-held}
use Rattle.search_calls.proofs.values.values_from.Goals as goal

pub values_told-requires-clause-donor : goal.values_told-requires-clause-donor
values_told-requires-clause-donor c = (c.in_ok-donor.ensures, values-held c.in_ok-donor.donor (sym c.if-has_bad.ensures))
