use Rattle.std.proofs.Common.{◌≡◌, not, ap, arith, ℕ, List, subst, sym, ◌∙◌}
use Rattle.std.specs.List.{filter, fold}
use Rattle.edit_model.specs.Corrections.{path_order}
use Rattle.edit_model.specs.Rows.{is_bad, value_of}
use Rattle.edit_model.specs.FieldSets.{set_of, with_number}
use Rattle.derivation.specs.Premises.{HasKept}
use Rattle.edit_model.proofs.OrderLaws.{order-length}
use Rattle.bound_cert.specs.Paths.{kept_set}
use Rattle.bound_cert.proofs.Letters.{kept-those, kept_in}
use Rattle.bound_cert.proofs.PathLaws.{kept-held}
use Rattle.bound_cert.proofs.PathLoops.{set-all, set-more}
use Rattle.bound_cert.proofs.path_fields.kept_set.Goals as goal

pub loop-place-init : goal.loop-place-init
loop-place-init c = ap (λ (set : ℕ). fold with_number set (filter (λ f. not (is_bad (value_of c.args.row.now f)))
    (kept_in (path_order c.args.survey.now.fields) c.args.path.now))) c.empty-set.ensures.set

pub loop-place-preserved : goal.loop-place-preserved
loop-place-preserved c =
    let fields = c.args.survey.now.fields in
    set-more (path_order fields) c.args.path.now c.loop-place.place (omega (arith, order-length fields, c.requires.short, c.loop-place-test.true))
    c.loop-place-test.true
    (λ f. not (is_bad (value_of c.args.row.now f))) c.loop-place.set c.with_kept-set.result _ c.with_kept-set.ensures c.loop-place.invariant

pub returns-clause-set : goal.returns-clause-set
returns-clause-set c =
    let fields = c.args.survey.now.fields in
    set-all (path_order fields) c.args.path.now c.loop-place.place (λ f. not (is_bad (value_of c.args.row.now f))) c.loop-place.set _
    (omega (arith, c.loop-place-test.false)) c.loop-place.invariant
    ∙ sym (ap (λ (fs : List ℕ). set_of fs) (kept-those fields c.args.path.now (λ f. not (is_bad (value_of c.args.row.now f)))))

pub returns-clause-held : goal.returns-clause-held
returns-clause-held c =
    let fields = c.args.survey.now.fields in
    let same : c.loop-place.set ≡ kept_set fields c.args.row.now c.args.path.now =
    set-all (path_order fields) c.args.path.now c.loop-place.place (λ f. not (is_bad (value_of c.args.row.now f))) c.loop-place.set _
    (omega (arith, c.loop-place-test.false)) c.loop-place.invariant
    ∙ sym (ap (λ (fs : List ℕ). set_of fs) (kept-those fields c.args.path.now (λ f. not (is_bad (value_of c.args.row.now f))))) in
    subst (λ (set : ℕ). HasKept c.args.row.now set) (sym same) (kept-held fields c.args.row.now c.args.path.now)
