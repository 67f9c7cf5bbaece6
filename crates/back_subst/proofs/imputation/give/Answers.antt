use Rattle.std.proofs.Common.{Err, ap, inl, inr, option_copied}
use Rattle.std.specs.Arc.{arc_value}
use Rattle.back_subst.specs.inner.Systems.{start_lines}
use Rattle.back_subst.proofs.FaultLaws.{no-fault, told-fault}
use Rattle.back_subst.proofs.GiftLaws.{imputed-from}
use Rattle.back_subst.proofs.NeedLaws.{gift-differs}
use Rattle.back_subst.proofs.ReadyLaws.{over}
use Rattle.back_subst.proofs.StartLaws.{in-order}
use Rattle.back_subst.proofs.imputation.give.Goals as goal

pub returns-in-Ok-how_of_each-clause-imputed : goal.returns-in-Ok-how_of_each-clause-imputed
returns-in-Ok-how_of_each-clause-imputed g c =
    imputed-from c.args.survey.now c.args.row.now c.args.changed (option_copied c.args.donor) (start_lines (arc_value c.args.edits.now)) c.in-Ok.new
    c.in-Ok.ensures.given

pub returns-in-Ok-how_of_each-clause-differs : goal.returns-in-Ok-how_of_each-clause-differs
returns-in-Ok-how_of_each-clause-differs g c =
    gift-differs c.args.survey.now c.args.row.now c.in-Ok.new c.args.changed (option_copied c.args.donor) c.case_known.ensures.case.fields
    c.requires.path.is_row
    (in-order c.args.survey.now.fields)
    (imputed-from c.args.survey.now c.args.row.now c.args.changed (option_copied c.args.donor) (start_lines (arc_value c.args.edits.now)) c.in-Ok.new
    c.in-Ok.ensures.given)

pub returns-in-Ok-how_of_each-clause-due : goal.returns-in-Ok-how_of_each-clause-due
returns-in-Ok-how_of_each-clause-due g c = λ due shown.
    let survey = c.args.survey.now in
    let e = arc_value c.args.edits.now in
    let imputed = imputed-from survey c.args.row.now c.args.changed (option_copied c.args.donor) (start_lines e) c.in-Ok.new c.in-Ok.ensures.given in
    absurd (no-fault survey e c.args.row.now c.args.changed (option_copied c.args.donor)
    (over survey e c.args.row.now c.args.changed c.case_known.ensures.case c.requires.path) c.in-Ok.new imputed.fits imputed.keeps
    c.in-Ok.ensures.given.first
    c.in-Ok.ensures.computed c.in-Ok.ensures.tested due shown)

pub returns-in-Err-clause-due : goal.returns-in-Err-clause-due
returns-in-Err-clause-due g c = λ due shown.
    let survey = c.args.survey.now in
    let e = arc_value c.args.edits.now in
    elim (told-fault survey e c.args.row.now c.args.changed (option_copied c.args.donor)
    (over survey e c.args.row.now c.args.changed c.case_known.ensures.case c.requires.path) c.in-Err.fault
    (λ field line is. c.in-Err.ensures.bound field line (ap Err is)) (λ rule is. c.in-Err.ensures.test rule (ap Err is)) due shown) [
      | inl same ↦ inl (ap Err same)
      | inr none ↦ inr (ap Err none)
    ]
