use Rattle.std.proofs.Common.{◌≤◌, ◌<◌, All, List, length, rules, sym, ap, ◌∙◌, subst, arith}
use Rattle.std.proofs.lemmas.List.Elements.{All-set}
use Rattle.edit_line.specs.inner.CodeCounts.{code_count}
use Rattle.edit_model.specs.Surveys.{IsField}
use Rattle.edit_model.specs.declared.field.Field.{Field}
use Rattle.edit_line.specs.Shapes.{shape_of}
use Rattle.edit_line.proofs.ShapeLaws.{count_few, counts_more, domains-all}
use Rattle.edit_line.proofs.shape.Shape.of.Goals as goal

pub loop-i-preserved : goal.loop-i-preserved
loop-i-preserved c =
    let within : c.loop-i.i < length c.loop-i.codes = omega (
      arith,
      c.loop-i.invariant.size,
      c.fields-fields.ensures.well_formed.few_fields,
      ap (λ (fs : List Field). length fs) c.fields-fields.ensures.fields,
    ) in
    let are : All IsField c.fields-fields.result.now = subst (λ (fs : List Field). All IsField fs) (sym c.fields-fields.ensures.fields)
    c.fields-fields.ensures.well_formed.fields in
    let here : IsField c.index-fields-i.result = subst IsField (sym c.index-fields-i.is) (are c.loop-i.i c.index-fields-i.result c.loop-i-test.true) in
    let few : code_count c.index-fields-i.result.kind ≤ 64 = count_few c.index-fields-i.result.kind here.fits in
    record {
      counts = counts_more c.fields-fields.result.now c.loop-i.codes c.loop-i.i c.code_count.result c.index-fields-i.result c.loop-i-test.true within
          c.index-fields-i.is c.code_count.ensures c.loop-i.invariant.counts;
      size = search rules;
      few = All-set (λ k. k ≤ 64) c.loop-i.codes c.loop-i.i c.code_count.result (omega (arith, c.code_count.ensures, few)) c.loop-i.invariant.few;
    }

pub returns : goal.returns
returns c =
    let are : All IsField c.fields-fields.result.now = subst (λ (fs : List Field). All IsField fs) (sym c.fields-fields.ensures.fields)
    c.fields-fields.ensures.well_formed.fields in
    domains-all c.fields-fields.result.now c.loop-i.codes c.loop-i.i are (omega arith) c.loop-i.invariant.counts
    ∙ ap (λ (fs : List Field). shape_of fs) c.fields-fields.ensures.fields
