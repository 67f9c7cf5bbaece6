use Rattle.std.proofs.Common.{sym, ◌∙◌, arith}
use Rattle.edit_model.specs.Corrections.{path_order}
use Rattle.edit_model.specs.Rows.{is_bad, value_of}
use Rattle.edit_model.proofs.OrderLaws.{order-length}
use Rattle.bound_cert.proofs.Letters.{kept-any}
use Rattle.bound_cert.proofs.PathLoops.{none-all, none-more, one-found}
use Rattle.bound_cert.proofs.path_fields.keeps_bad.Goals as goal

pub returns-then-keeps_bad_at : goal.returns-then-keeps_bad_at
returns-then-keeps_bad_at c =
    let fields = c.args.survey.now.fields in
    one-found (path_order fields) c.args.path.now c.loop-place.place (omega (arith, order-length fields, c.requires.short, c.loop-place-test.true))
    c.loop-place-test.true
    (λ f. is_bad (value_of c.args.row.now f)) _ (sym c.keeps_bad_at.ensures ∙ c.if-keeps_bad_at.true) c.loop-place.invariant
    ∙ sym (kept-any fields c.args.path.now (λ f. is_bad (value_of c.args.row.now f)))

pub loop-place-preserved : goal.loop-place-preserved
loop-place-preserved c =
    let fields = c.args.survey.now.fields in
    none-more (path_order fields) c.args.path.now c.loop-place.place (omega (arith, order-length fields, c.requires.short, c.loop-place-test.true))
    c.loop-place-test.true
    (λ f. is_bad (value_of c.args.row.now f)) _ (sym c.keeps_bad_at.ensures ∙ c.if-keeps_bad_at.false) c.loop-place.invariant

pub returns : goal.returns
returns c =
    let fields = c.args.survey.now.fields in
    none-all (path_order fields) c.args.path.now c.loop-place.place (λ f. is_bad (value_of c.args.row.now f)) _ (omega (arith, c.loop-place-test.false))
    c.loop-place.invariant
    ∙ sym (kept-any fields c.args.path.now (λ f. is_bad (value_of c.args.row.now f)))
