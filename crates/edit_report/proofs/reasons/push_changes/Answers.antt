use Rattle.std.proofs.Common.{List, ap, arith, length, ◌∙◌, ◌≡◌, ◌<◌, sym, ℕ}
use Rattle.back_subst.specs.declared.gift.How.{How}
use Rattle.edit_report.specs.Ends.{changed_fields, path_found}
use Rattle.edit_report.proofs.WrittenLaws.{lines-all, lines-more}
use Rattle.edit_report.proofs.reasons.push_changes.Goals as goal

pub loop-place-preserved : goal.loop-place-preserved
loop-place-preserved c =
    let inv = c.loop-place.invariant in
    let fields = c.args.survey.now.fields in
    let columns = c.args.layout.now.columns in
    let number = c.args.row.now.number in
    let read = c.args.row.now.read.now in
    let donor = c.args.row.now.end.now.donor in
    let new = c.args.gift.now.row in
    let changed : c.as_slice-fields.result.now ≡ changed_fields fields (path_found c.args.row.now.end.now.proof.outcome) = c.as_slice-fields.ensures.value
    ∙ c.in_ok-changed.ensures.fields ∙ ap (changed_fields fields) c.path_found.ensures in
    let many : length c.as_slice-hows.result.now ≡ length c.as_slice-fields.result.now = ap (λ (hs : List How). length hs) c.as_slice-hows.ensures
    ∙ c.requires.gift.how ∙ sym (ap (λ (fs : List ℕ). length fs) changed) in
    let below : c.loop-place.place < length c.as_slice-fields.result.now = omega (arith, c.loop-place-test.true) in
    rw c.in_ok-push_change.ensures (lines-more fields columns number read donor new c.as_slice-fields.result.now c.as_slice-hows.result.now c.loop-place.place
    c.loop-place.writer _ below (omega (arith, below, many)) inv)

pub returns : goal.returns
returns c =
    let inv = c.loop-place.invariant in
    let fields = c.args.survey.now.fields in
    let changed : c.as_slice-fields.result.now ≡ changed_fields fields (path_found c.args.row.now.end.now.proof.outcome) = c.as_slice-fields.ensures.value
    ∙ c.in_ok-changed.ensures.fields ∙ ap (changed_fields fields) c.path_found.ensures in
    let all = lines-all fields c.args.layout.now.columns c.args.row.now.number c.args.row.now.read.now c.args.row.now.end.now.donor c.args.gift.now.row
    c.as_slice-fields.result.now c.as_slice-hows.result.now c.loop-place.place c.loop-place.writer _ (omega (arith, c.loop-place-test.false)) inv in
    rw (← changed, ← c.as_slice-hows.ensures) all
