use Rattle.std.proofs.Common.{[], add-one, length, ◌<◌, ℕ, List, All, arith, subst, sym}
use Rattle.std.specs.List.Sorted.{IsStrictlyIncreasing}
use Rattle.record_text.proofs.Refusals.{no_value}
use Rattle.donor_search.specs.CleanRows.{IsCleanRow}
use Rattle.donor_search.specs.inner.Donors.{is_donor_in}
use Rattle.donor_search.proofs.ClassLaws.{in_clean, in_rise}
use Rattle.donor_search.proofs.PlaceLaws.{found-all, found-more}
use Rattle.donor_search.proofs.class.donor_rows.Goals as goal

pub returns-clause-donors : goal.returns-clause-donors
returns-clause-donors c =
    found-all (is_donor_in c.args.survey.now c.args.class) c.args.sheet.now.rows c.loop-row_no.row_no c.loop-row_no.rows.items
    (omega (arith, c.loop-row_no-test.false, c.len-row_no-end.ensures)) c.loop-row_no.invariant

pub returns-clause-clean : goal.returns-clause-clean
returns-clause-clean c =
    subst (λ (ds : List ℕ). All (IsCleanRow c.args.survey.now c.args.sheet.now.rows) ds) (sym (returns-clause-donors c))
    (in_clean c.args.survey.now c.args.sheet.now.rows c.args.class)

pub returns-clause-rising : goal.returns-clause-rising
returns-clause-rising c = subst (λ (ds : List ℕ). IsStrictlyIncreasing ds) (sym (returns-clause-donors c))
    (in_rise c.args.survey.now c.args.sheet.now.rows c.args.class)

pub returns-in_err-push_donor-clause-donors : goal.returns-in_err-push_donor-clause-donors
returns-in_err-push_donor-clause-donors c = no_value c.from_residual.result _ _ c.from_residual.ensures.1

pub returns-in_err-push_donor-clause-clean : goal.returns-in_err-push_donor-clause-clean
returns-in_err-push_donor-clause-clean c = no_value c.from_residual.result _ _ c.from_residual.ensures.1

pub returns-in_err-push_donor-clause-rising : goal.returns-in_err-push_donor-clause-rising
returns-in_err-push_donor-clause-rising c = no_value c.from_residual.result _ _ c.from_residual.ensures.1

pub loop-row_no-preserved : goal.loop-row_no-preserved
loop-row_no-preserved c =
    let there : c.loop-row_no.row_no < length c.args.sheet.now.rows = omega (arith, c.loop-row_no-test.true, c.len-row_no-end.ensures.rows) in
    rw add-one (found-more (is_donor_in c.args.survey.now c.args.class) c.args.sheet.now.rows c.loop-row_no.row_no [] c.loop-row_no.rows.items _ _ there
    c.in_ok-push_donor.ensures c.loop-row_no.invariant)
