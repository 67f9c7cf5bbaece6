use Rattle.std.proofs.Common.{List, ap, refl, replicate, length, ◌∙◌}
use Rattle.edit_model.specs.declared.field.Field.{Field}
use Rattle.edit_model.specs.declared.value.Value.TheVariants.{Bad}
use Rattle.elimination_bench.proofs.ListingLaws.{unknown-row}
use Rattle.elimination_bench.proofs.listing.unknown_row.Goals as goal

pub new-requires : goal.new-requires
new-requires c = unknown-row c.args.survey.now.fields c.fields.result.now c.in_ok-values.values.items c.in_ok-values.values.items c.fields.ensures.fields
    (c.in_ok-values.ensures.items_if_clones_equal (λ y e. e)) refl

pub returns : goal.returns
returns c = record {
  row = unknown-row c.args.survey.now.fields c.fields.result.now c.in_ok-values.values.items c.new.result c.fields.ensures.fields
      (c.in_ok-values.ensures.items_if_clones_equal (λ y e. e)) c.new.ensures;
  unknown = c.new.ensures ∙ c.in_ok-values.ensures.items_if_clones_equal (λ y e. e) ∙ ap (λ (fs : List Field). replicate (length fs) Bad)
      c.fields.ensures.fields;
}
