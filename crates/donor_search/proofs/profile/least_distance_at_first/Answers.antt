use Rattle.std.proofs.Common.{◌∙◌, ap, arith}
use Rattle.std.proofs.lemmas.List.{take_all}
use Rattle.donor_search.specs.Decks.{first_fields}
use Rattle.donor_search.specs.inner.Profiles.{told}
use Rattle.donor_search.proofs.ProfileLaws.{told_takes}
use Rattle.donor_search.proofs.profile.least_distance_at_first.Goals as goal

pub returns : goal.returns
returns c =
    let own = c.args.own.now in
    let first = c.args.first.now in
    c.least_distance-2.ensures ∙ told_takes first_fields own first ∙ ap (told own) (take_all first_fields first (omega (arith, c.requires.first)))
