use Rattle.std.proofs.Common.{◌≡◌, ◌∙◌, ap, min, sym, take, arith}
use Rattle.std.proofs.lemmas.Bool.{ltb-true}
use Rattle.std.proofs.lemmas.List.{take_min}
use Rattle.donor_search.specs.Decks.{first_fields}
use Rattle.donor_search.specs.inner.Profiles.{told}
use Rattle.donor_search.proofs.ProfileLaws.{told_rest, told_split}
use Rattle.donor_search.proofs.profile.is_farther_with.Goals as goal

pub returns : goal.returns
returns c is =
    let own = c.args.own.now in
    let marks = c.args.marks.now in
    let count = c.min-count.result in
    let more = ltb-true c.args.most _ is in
    let cut : take count marks ≡ take first_fields marks = ap (λ n. take n marks) (c.min-count.ensures ∙ ap (min first_fields) c.requires.equal)
    ∙ take_min first_fields marks in
    let first : c.args.first ≡ told own (take count marks) = c.requires.first ∙ ap (told own) (sym cut) in
    let rest = c.least_distance-rest.ensures ∙ told_rest count own marks in
    omega (arith, more, first, rest, told_split count own marks, c.from.ensures, c.from-2.ensures)
