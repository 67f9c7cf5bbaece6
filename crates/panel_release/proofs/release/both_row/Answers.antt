use Rattle.std.proofs.Common.{◌≡◌, ◌<◌, ◌∙◌, ℕ, List, Some, [], arith, get_or, length, subst, sym}
use Rattle.edit_model.specs.Rows.{IsRow}
use Rattle.edit_model.specs.declared.field.Field.{Field}
use Rattle.edit_model.specs.declared.value.Value.{Value}
use Rattle.record_text.specs.Sheets.{IsSheet, SheetParts}
use Rattle.record_text.proofs.SheetLaws.{as_many_row_texts_as_rows}
use Rattle.panel_files.proofs.FileLaws.{row-is}
use Rattle.panel_files.proofs.KeyLaws.{row-within}
use Rattle.panel_release.specs.PanelReleases.{PanelCase}
use Rattle.panel_release.specs.inner.Panels.{IsRead, last_row_at}
use Rattle.panel_release.proofs.release.both_row.Goals as goal

-- a row that was taken from a sheet is a record of its fields
row-read : (fields : List Field) (bytes : List ℕ) (sheet : SheetParts) → IsSheet fields bytes sheet → (n : ℕ) (row : List Value)
    → n < length sheet.rows → row ≡ get_or sheet.rows n [] → IsRow fields row
row-read fields bytes sheet is n row below same = subst (IsRow fields) (sym same) (row-is fields bytes sheet is n below)

pub both_values-requires-clause-own : goal.both_values-requires-clause-own
both_values-requires-clause-own c =
    let read = subst (λ (p : PanelCase). IsRead p) (sym c.panel.view_is) c.requires.read in
    let there = subst (λ (p : PanelCase). c.args.row_no < length p.files.own.rows) (sym c.panel.view_is) c.requires.there in
    row-read _ read.own.0 _ read.own.1 c.args.row_no _ there c.row-own.ensures

pub row-last-requires : goal.row-last-requires
row-last-requires c =
    let read = subst (λ (p : PanelCase). IsRead p) (sym c.panel.view_is) c.requires.read in
    let found = subst (λ (p : PanelCase). last_row_at p c.args.row_no ≡ Some c.in-Some.number) (sym c.panel.view_is) (sym c.requires.last ∙ c.in-Some.is) in
    let within = row-within _ _ c.panel.inside.last.now.row_texts c.in-Some.number found in
    let same = as_many_row_texts_as_rows _ read.last.0 _ read.last.1 in
    omega (arith, within, same)

pub both_values-requires-in-Some-clause-own : goal.both_values-requires-in-Some-clause-own
both_values-requires-in-Some-clause-own c =
    let read = subst (λ (p : PanelCase). IsRead p) (sym c.panel.view_is) c.requires.read in
    let there = subst (λ (p : PanelCase). c.args.row_no < length p.files.own.rows) (sym c.panel.view_is) c.requires.there in
    row-read _ read.own.0 _ read.own.1 c.args.row_no _ there c.row-own.ensures

pub both_values-requires-in-Some-clause-last : goal.both_values-requires-in-Some-clause-last
both_values-requires-in-Some-clause-last c =
    let read = subst (λ (p : PanelCase). IsRead p) (sym c.panel.view_is) c.requires.read in
    let found = subst (λ (p : PanelCase). last_row_at p c.args.row_no ≡ Some c.in-Some.number) (sym c.panel.view_is) (sym c.requires.last ∙ c.in-Some.is) in
    let within = row-within _ _ c.panel.inside.last.now.row_texts c.in-Some.number found in
    let same = as_many_row_texts_as_rows _ read.last.0 _ read.last.1 in
    row-read _ read.last.0 _ read.last.1 c.in-Some.number _ (omega (arith, within, same)) c.row-last.ensures
