use Rattle.std.proofs.Common.{◌∙◌, ap, take}
use Rattle.std.proofs.lemmas.List.{take_min}
use Rattle.donor_search.specs.Decks.{first_fields}
use Rattle.donor_search.proofs.profile.first_marks_of.Goals as goal

pub returns : goal.returns
returns c = ap (λ n. take n c.args.marks.now) c.min.ensures ∙ take_min first_fields c.args.marks.now
