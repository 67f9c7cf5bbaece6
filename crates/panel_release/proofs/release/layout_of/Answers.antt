use Rattle.std.proofs.Common.{◌≡◌, ◌∙◌, ℕ, List, IfOk, Result, Ok, Err, ap, length, subst, sym}
use Rattle.edit_model.specs.declared.field.Field.{Field}
use Rattle.record_text.specs.Sheets.{IsSheet}
use Rattle.record_text.proofs.SheetLaws.{one_column_a_field}
use Rattle.edit_report.specs.Layouts.{IsLayout, LayoutParts}
use Rattle.panel_files.proofs.BothLaws.{both-columns-length}
use Rattle.panel_files.specs.LastFields.{own_fields}
use Rattle.panel_release.specs.PanelReleases.{PanelCase}
use Rattle.panel_release.proofs.release.layout_of.Goals as goal

-- a layout with a column for each field
laid-out : {E : Type 0} (fields : List Field) (columns : List ℕ) (result : Result LayoutParts E) → length columns ≡ length fields
    → IfOk result (λ layout. layout.columns ≡ columns) → IfOk result (IsLayout fields)
laid-out fields columns (Ok layout) long is = record { one_each = ap (λ (cs : List ℕ). length cs) is ∙ long }
laid-out fields columns (Err fault) long is = tt

pub both_columns-requires : goal.both_columns-requires
both_columns-requires c =
    let own = subst (λ (p : PanelCase). (bytes : List ℕ) × IsSheet (own_fields p.survey.fields p.set) bytes p.files.own) (sym c.panel.view_is) c.requires.own in
    ap (λ (cs : List ℕ). length cs) c.columns.ensures ∙ one_column_a_field _ own.0 _ own.1

pub returns-clause-layout : goal.returns-clause-layout
returns-clause-layout c =
    let own = subst (λ (p : PanelCase). (bytes : List ℕ) × IsSheet (own_fields p.survey.fields p.set) bytes p.files.own) (sym c.panel.view_is) c.requires.own in
    let long = ap (λ (cs : List ℕ). length cs) c.columns.ensures ∙ one_column_a_field _ own.0 _ own.1 in
    let all = ap (λ (cs : List ℕ). length cs) c.in_ok-columns.ensures ∙ both-columns-length _ _ _ _ long in
    subst (λ (p : PanelCase). IfOk c.of_columns.result (IsLayout p.survey.fields)) c.panel.view_is
    (laid-out c.panel.inside.survey.now.fields c.in_ok-columns.columns.items c.of_columns.result all c.of_columns.ensures.columns)
