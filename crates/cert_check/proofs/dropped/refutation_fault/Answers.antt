use Rattle.std.proofs.Common.{◌≡◌, Some, slice_get, ap, ◌∙◌, sym, arith}
use Rattle.edit_line.specs.Lines.{LineParts}
use Rattle.edit_line.specs.Shapes.{shape_of}
use Rattle.derivation.specs.Premises.{Premises}
use Rattle.derivation.specs.Refutations.{refutation_of}
use Rattle.cert_check.specs.Dropped.{refutation_fault}
use Rattle.cert_check.proofs.PlaceLaws.{read-at}
use Rattle.cert_check.proofs.VerdictsLoop.{lent-over, lent-premises, undropped-fault}
use Rattle.std.proofs.lemmas.Grind.{common_steps}
use Rattle.cert_check.proofs.dropped.refutation_fault.Goals as goal

pub steps_fault-requires-clause-over : goal.steps_fault-requires-clause-over
steps_fault-requires-clause-over c =
    lent-over c.args.empty.now.survey.now.fields c.args.lines.now.items c.args.place c.index.result.now c.deref.result.now c.in_ok-negation.negation.items
    c.requires.place c.index.ensures c.requires.over (c.deref.ensures.value ∙ c.in_ok-append.ensures.items)
    c.in_ok-negation.ensures.exact

pub returns-clause-found : goal.returns-clause-found
returns-clause-found c = λ line at.
    let shape = shape_of c.args.empty.now.survey.now.fields in
    let lines = c.args.lines.now.items in
    let left = c.args.left.now.items in
    let own = c.index.result.now in
    let there : slice_get lines c.args.place ≡ Some own = read-at lines c.args.place own c.requires.place c.index.ensures in
    let same : own ≡ line = cc (sym there ∙ at) in
    let premises = lent-premises shape lines left own c.args.empty.now.row.now c.deref.result.now c.in_ok-negation.negation.items c.deref-2.result.now
    c.len.result _ c.requires.each (c.deref.ensures.value ∙ c.in_ok-append.ensures.items) c.in_ok-negation.ensures.exact
    (c.len.ensures ∙ sym c.deref.ensures.len) (omega (arith, c.args.left.now.ok.0)) (c.deref-2.ensures.value ∙ c.in_ok-resize.ensures.items) in
    c.in_ok-found.ensures.found ∙ ap (λ (p : Premises). refutation_fault p c.args.steps.now) premises
    ∙ ap (λ (l : LineParts). refutation_fault (refutation_of shape lines left l c.args.empty.now.row.now) c.args.steps.now) same
    ∙ undropped-fault (refutation_of shape lines left line c.args.empty.now.row.now) line c.args.steps.now (c.requires.not_equal line at)

pub negation-requires : goal.negation-requires
negation-requires c = c.requires.not_equal c.index.result.now (read-at c.args.lines.now.items c.args.place c.index.result.now c.requires.place c.index.ensures)

pub returns-clause-lines : goal.returns-clause-lines
returns-clause-lines c = grind (arith, common_steps)

pub returns-clause-left : goal.returns-clause-left
returns-clause-left c = grind (arith, common_steps)
