use Rattle.std.proofs.Common.{◌≡◌, ◌<◌, ◌∙◌, ℕ, List, [], ap, arith, get_or, length, subst, sym}
use Rattle.std.proofs.lemmas.List.{length-map}
use Rattle.edit_model.specs.declared.value.Value.{Value}
use Rattle.edit_normal.specs.RuleLines.{normal_lines_of}
use Rattle.record_text.specs.Sheets.{IsSheet}
use Rattle.record_text.proofs.SheetLaws.{as_many_row_texts_as_rows}
use Rattle.edit_report.specs.Ends.{IsEnd}
use Rattle.edit_report.proofs.SheetLaws.{raw-long}
use Rattle.panel_files.proofs.BothLaws.{both-rows-at, both-rows-length}
use Rattle.panel_files.specs.LastFields.{last_fields, own_fields}
use Rattle.panel_release.specs.PanelReleases.{IsAnswerAmong, PanelCase, columns_in, end_of}
use Rattle.panel_release.specs.inner.Counts.{CountsOne}
use Rattle.panel_release.specs.inner.Tellings.{TellsNone, TellsOne, TellsTo}
use Rattle.panel_release.proofs.PanelLaws.{texts-within}
use Rattle.panel_release.proofs.TellingLaws.{told-more, told-none}
use Rattle.panel_release.proofs.release.tell_rows.Goals as goal

pub last_rows-requires-clause-own : goal.last_rows-requires-clause-own
last_rows-requires-clause-own c =
    let own = subst (λ (p : PanelCase). (bytes : List ℕ) × IsSheet (own_fields p.survey.fields p.set) bytes p.files.own) (sym c.panel.view_is)
    c.requires.read.own in
    let key = subst (λ (p : PanelCase). p.files.own_key < length p.files.own.header) (sym c.panel.view_is) c.requires.read.own_key in
    texts-within _ own.0 _ own.1 c.panel.inside.own_key key

pub last_rows-requires-clause-last : goal.last_rows-requires-clause-last
last_rows-requires-clause-last c =
    let last = subst (λ (p : PanelCase). (bytes : List ℕ) × IsSheet (last_fields p.survey.fields p.set) bytes p.files.last) (sym c.panel.view_is)
    c.requires.read.last in
    let key = subst (λ (p : PanelCase). p.files.last_key < length p.files.last.header) (sym c.panel.view_is) c.requires.read.last_key in
    texts-within _ last.0 _ last.1 c.panel.inside.last_key key

pub loop-row_no-init : goal.loop-row_no-init
loop-row_no-init c =
    let panel = c.args.panel.now in
    let same = as_many_row_texts_as_rows _ c.requires.read.own.0 _ c.requires.read.own.1 in
    let many = both-rows-length panel.survey.fields panel.set panel.files same in
    let lines : length c.args.lines.now ≡ length (normal_lines_of panel.survey) =
    sym (length-map c.args.lines.now (λ l. l.line)) ∙ ap (λ (ls : List _). length ls) c.requires.lines in
    told-none panel c.args.budget same many c.args.told.now
    (subst (λ (n : ℕ). TellsNone panel.files.own n c.args.budget c.args.told.now) lines c.requires.none)

pub tell_record-requires-clause-width : goal.tell_record-requires-clause-width
tell_record-requires-clause-width c =
    let own = subst (λ (p : PanelCase). (bytes : List ℕ) × IsSheet (own_fields p.survey.fields p.set) bytes p.files.own)
    (sym c.panel.view_is) c.requires.read.own in
    let width = c.in_ok-layout.ensures.width ∙ ap (λ (p : PanelCase). length p.files.own.header) (sym c.panel.view_is) in
    ap (λ (t : List (List ℕ)). length t) c.raw.ensures
    ∙ raw-long _ _ _ _ own.1 (omega (arith, c.loop-row_no-test.true, c.loop-row_no.auto.row_no-end, c.len-row_no-end.ensures.row_texts))
    ∙ sym width

pub tell_record-requires-clause-end : goal.tell_record-requires-clause-end
tell_record-requires-clause-end c =
    subst (λ (p : PanelCase). IsEnd p.survey.fields (end_of c.in_ok-answer.answer)) (sym c.panel.view_is) c.in_ok-answer.ensures.end

pub loop-row_no-preserved : goal.loop-row_no-preserved
loop-row_no-preserved c =
    let panel = c.args.panel.now in
    let n = c.loop-row_no.row_no in
    let answer = c.in_ok-answer.answer in
    let before = c.loop-row_no.told in
    let after = c.tell_record.new.self in
    let same = as_many_row_texts_as_rows _ c.requires.read.own.0 _ c.requires.read.own.1 in
    let many = both-rows-length panel.survey.fields panel.set panel.files same in
    let below_inside : n < length c.panel.inside.own.now.rows = omega (
      arith,
      c.loop-row_no-test.true,
      c.loop-row_no.auto.row_no-end,
      c.len-row_no-end.ensures.rows,
    ) in
    let below = subst (λ (p : PanelCase). n < length p.files.own.rows) c.panel.view_is below_inside in
    let row = sym (both-rows-at panel.survey.fields panel.set panel.files same n below) in
    let is = subst (λ (values : List Value). IsAnswerAmong panel.survey panel.set c.args.budget values answer) row c.in_ok-answer.ensures.answer in
    let read = c.raw.ensures ∙ ap (λ (p : PanelCase). get_or p.files.own.row_texts n []) c.panel.view_is in
    let told = subst (λ (p : PanelCase). TellsOne p.survey.fields c.in_ok-layout.layout.columns n c.raw.result.now answer before after) c.panel.view_is
    c.in_ok-tell_record.ensures.told in
    let placed = subst (λ (cs : List ℕ). TellsOne panel.survey.fields cs n c.raw.result.now answer before after) c.in_ok-layout.ensures.columns told in
    let one = subst (λ (ts : List (List ℕ)). TellsOne panel.survey.fields (columns_in panel) n ts answer before after) read placed in
    let counts = subst (λ (p : PanelCase). CountsOne p.survey.fields (end_of answer) before.counts after.counts) c.panel.view_is
    c.in_ok-tell_record.ensures.counts in
    told-more panel c.args.budget same many n before after answer below c.loop-row_no.invariant is one counts c.in_ok-tell_record.ensures.few

pub returns : goal.returns
returns c =
    let n = c.loop-row_no.row_no in
    let inside : n ≡ length c.panel.inside.own.now.rows = omega (
      arith,
      c.loop-row_no-test.false,
      c.loop-row_no.auto.row_no-end,
      c.len-row_no-end.ensures.rows,
    ) in
    let ended = subst (λ (p : PanelCase). n ≡ length p.files.own.rows) c.panel.view_is inside in
    record { told = subst (λ (m : ℕ). TellsTo c.args.panel.now c.args.budget m c.loop-row_no.told) ended c.loop-row_no.invariant }
