use Rattle.std.proofs.Common.{ℕ, List, ◌==◌, ap, ◌∙◌}
use Rattle.std.specs.List.{position}
use Rattle.edit_line.specs.Shapes.{shape_of}
use Rattle.edit_line.proofs.ShapeLaws.{same_codes}
use Rattle.derivation.proofs.CodePlaces.{place-found}
use Rattle.derivation.proofs.code_field.place_of.Goals as goal

pub returns : goal.returns
returns c =
    let fields = c.args.survey.now.fields in
    c.place_among.ensures ∙ ap (λ (ns : List ℕ). position (λ i. i == c.args.field) ns) (same_codes c.codes.result.now fields (shape_of fields) c.codes.ensures
    (λ i. shape_of fields)) ∙ place-found _ c.args.field
