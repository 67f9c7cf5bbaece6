use Rattle.std.proofs.Common.{◌≡◌, ◌∙◌, ℕ, List, ap, length, map, subst, sym}
use Rattle.std.specs.List.{range_with_len}
use Rattle.std.specs.List.Sorted.{IsNonDecreasingBy}
use Rattle.std.proofs.lemmas.List.{length-map}
use Rattle.std.proofs.lemmas.List.FromFn.{length-map-range_with_len}
use Rattle.reason_lines.specs.declared.entry.Change.{Change}
use Rattle.page_counts.specs.Amounts.{AreGreatest, IsTally}
use Rattle.page_counts.specs.Donors.{donors_of}
use Rattle.page_counts.specs.Rules.{rule_count}
use Rattle.page_counts.specs.Weights.{weights_of}
use Rattle.page_counts.specs.declared.amounts.Amount.{Amount}
use Rattle.page_counts.specs.declared.fields.FieldCount.{FieldCount}
use Rattle.page_counts.specs.declared.rules.RuleCount.{RuleCount}
use Rattle.release_figures.specs.Figures.{AreSorted, AreValues, change_total, field_count, record_counts}
use Rattle.release_figures.specs.Releases.{release_parts}
use Rattle.release_figures.proofs.FigureLaws.{with_both}
use Rattle.release_figures.proofs.counting.figures_of.Goals as goal

pub field_values-requires : goal.field_values-requires
field_values-requires c = c.deref.ensures.value ∙ c.in_ok-released.ensures

pub fields_by_changes-requires : goal.fields_by_changes-requires
fields_by_changes-requires c =
    ap length (c.deref-2.ensures.value ∙ c.in_ok-fields.ensures)
    ∙ length-map-range_with_len (field_count c.as_slice-changes.result.now) 0 (length c.args.release.now.survey.now.fields)

pub rules_by_breaks-requires : goal.rules_by_breaks-requires
rules_by_breaks-requires c =
    ap length (c.deref-3.ensures.value ∙ c.in_ok-rules.ensures)
    ∙ length-map c.args.release.now.survey.now.rules (rule_count c.args.release.now.records.now.rows)

pub gift_counts-requires : goal.gift_counts-requires
gift_counts-requires c =
    subst (λ (changes : List Change). IsNonDecreasingBy (λ (change : Change). change.«record») changes) (sym c.as_slice-changes.ensures) c.requires

pub returns : goal.returns
returns c =
    let release = release_parts c.args.release.now in
    let fields = release.survey.fields in
    let rows = length release.records.rows in
    let changes = release.reasons.changes in
    let weighed : c.in_ok-weights.weights.items ≡ weights_of fields rows changes =
    c.in_ok-weights.ensures ∙ ap (λ (n : ℕ). weights_of fields n c.as_slice-changes.result.now) c.len-rows.ensures.rows
    ∙ ap (weights_of fields rows) c.as_slice-changes.ensures in
    let given : donors_of c.len-rows.result c.as_slice-changes.result.now ≡ donors_of rows changes =
    ap (λ (n : ℕ). donors_of n c.as_slice-changes.result.now) c.len-rows.ensures.rows ∙ ap (donors_of rows) c.as_slice-changes.ensures in
    record {
      records_counted = c.in_ok-counts_of.ensures ∙ ap (λ (n : ℕ). record_counts n release.reasons) c.len-rows.ensures.rows;
      released = c.from_vec.ensures ∙ c.in_ok-released.ensures;
      fields = c.from_vec-2.ensures ∙ c.in_ok-fields.ensures
          ∙ ap (λ (cs : List Change). map (field_count cs) (range_with_len 0 (length fields))) c.as_slice-changes.ensures;
      fields_by_changes = with_both (λ (counts : List FieldCount) (amounts : List Amount). AreSorted (map change_total counts) amounts)
          (c.deref-2.ensures.value ∙ sym c.from_vec-2.ensures) (sym c.from_vec-3.ensures) c.in_ok-fields_by_changes.ensures;
      rules = c.from_vec-4.ensures ∙ c.in_ok-rules.ensures;
      rules_by_breaks = with_both (λ (counts : List RuleCount) (amounts : List Amount). AreSorted (map (λ (count : RuleCount). count.broken) counts) amounts)
          (c.deref-3.ensures.value ∙ sym c.from_vec-4.ensures) (sym c.from_vec-5.ensures) c.in_ok-rules_by_breaks.ensures;
      weights = with_both IsTally (c.deref-4.ensures.value ∙ weighed) (sym c.from_vec-6.ensures) c.in_ok-tally.ensures;
      greatest = with_both (λ (amounts : List Amount) (most : List Amount). AreGreatest amounts 20 most)
          (c.deref-5.ensures.value ∙ weighed) (sym c.from_vec-7.ensures) c.in_ok-greatest_amounts.ensures;
      gifts = with_both IsTally given (sym c.from_vec-8.ensures) c.in_ok-gift_counts.ensures;
      values = subst (AreValues release 0 fields) (sym c.from_vec-9.ensures) c.in_ok-values.ensures;
    }
