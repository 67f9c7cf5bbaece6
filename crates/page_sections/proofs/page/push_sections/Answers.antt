use Rattle.std.proofs.Common.{◌∙◌, List, ap}
use Rattle.std.proofs.lemmas.Result.{on_ok_weaker}
use Rattle.edit_model.specs.declared.field.Field.{Field}
use Rattle.page_counts.specs.declared.amounts.SizeCount.{SizeCount}
use Rattle.page_figures.proofs.PageLaws.{both}
use Rattle.page_markup.specs.Drafts.{followed}
use Rattle.page_markup.specs.OpenPages.{added}
use Rattle.page_sections.specs.DonorSection.{donor_section}
use Rattle.page_sections.specs.FieldSection.{field_section}
use Rattle.page_sections.specs.GreatestSection.{greatest_section}
use Rattle.page_sections.specs.RecordSection.{record_section}
use Rattle.release_figures.specs.Releases.{release_parts}
use Rattle.page_sections.specs.RuleSection.{rule_section}
use Rattle.page_sections.specs.ValueSection.{value_section}
use Rattle.page_sections.specs.WeightSection.{weight_section}
use Rattle.release_figures.specs.declared.figures.FieldValues.{FieldValues}
use Rattle.page_sections.proofs.page.push_sections.Goals as goal

pub returns : goal.returns
returns c =
    let figures = c.args.figures.now in
    let release = release_parts c.args.release.now in
    let fields = release.survey.fields in
    let last = c.push_donors.new.page in
    let second = c.in_ok-push_fields.ensures ∙ ap (λ (fs : List Field). added (field_section fs figures) c.push_records.new.page)
    c.fields-fields.ensures.fields in
    let fourth = c.in_ok-push_weights.ensures ∙ ap (λ (ws : List SizeCount). added (weight_section ws) c.push_rules.new.page) c.as_slice.ensures in
    let fifth = c.in_ok-push_values.ensures
    ∙ ap (λ (fs : List Field). added (value_section fs c.as_slice-2.result.now) c.push_weights.new.page) c.fields-fields.ensures.fields
    ∙ ap (λ (vs : List FieldValues). added (value_section fields vs) c.push_weights.new.page) c.as_slice-2.ensures in
    let sixth = ap (λ (gs : List SizeCount). added (donor_section gs) c.push_greatest.new.page) c.as_slice-3.ensures in
    let a = record_section figures.records in
    let b = field_section fields figures in
    let r = rule_section release.survey figures in
    let w = weight_section figures.weights in
    let v = value_section fields figures.values in
    let g = greatest_section release figures in
    let d = donor_section figures.gifts in
    on_ok_weaker c.push_donors.result (λ e.
    both a (followed b (followed r (followed w (followed v (followed g d))))) c.args.page.now c.push_records.new.page last
    c.in_ok-push_records.ensures
    (both b (followed r (followed w (followed v (followed g d)))) c.push_records.new.page c.push_fields.new.page last second
    (both r (followed w (followed v (followed g d))) c.push_fields.new.page c.push_rules.new.page last c.in_ok-push_rules.ensures
    (both w (followed v (followed g d)) c.push_rules.new.page c.push_weights.new.page last fourth
    (both v (followed g d) c.push_weights.new.page c.push_values.new.page last fifth
    (both g d c.push_values.new.page c.push_greatest.new.page last c.in_ok-push_greatest.ensures (e ∙ sixth))))))) c.push_donors.ensures
