use Rattle.std.proofs.lemmas.Result.{IfOk-from_err}
use Rattle.localise_tree.proofs.best_first.end_by.Goals as goal

pub returns-in_err-change_certificate-in-Open-clause-serves : goal.returns-in_err-change_certificate-in-Open-clause-serves
returns-in_err-change_certificate-in-Open-clause-serves g c = c.change_certificate.ensures.serves

pub returns-in_err-change_certificate-in-Open-clause-keeps : goal.returns-in_err-change_certificate-in-Open-clause-keeps
returns-in_err-change_certificate-in-Open-clause-keeps g c = c.change_certificate.ensures.keeps

pub returns-in_err-change_certificate-in-Open-clause-counts : goal.returns-in_err-change_certificate-in-Open-clause-counts
returns-in_err-change_certificate-in-Open-clause-counts g c = c.change_certificate.ensures.counts

pub returns-in_ok-change_certificate-in-Open-clause-serves : goal.returns-in_ok-change_certificate-in-Open-clause-serves
returns-in_ok-change_certificate-in-Open-clause-serves g c = c.change_certificate.ensures.serves

pub returns-in_ok-change_certificate-in-Open-clause-keeps : goal.returns-in_ok-change_certificate-in-Open-clause-keeps
returns-in_ok-change_certificate-in-Open-clause-keeps g c = c.change_certificate.ensures.keeps

pub returns-in_ok-change_certificate-in-Open-clause-counts : goal.returns-in_ok-change_certificate-in-Open-clause-counts
returns-in_ok-change_certificate-in-Open-clause-counts g c = c.change_certificate.ensures.counts

pub returns-in_err-copy_of-in-Overflows-clause-end : goal.returns-in_err-copy_of-in-Overflows-clause-end
returns-in_err-copy_of-in-Overflows-clause-end g c = IfOk-from_err _ _ c.from_residual.ensures.0

pub returns-in_err-copy_of-in-Open-clause-end : goal.returns-in_err-copy_of-in-Open-clause-end
returns-in_err-copy_of-in-Open-clause-end g c = IfOk-from_err _ _ c.from_residual-in_err-copy_of-in-Open.ensures.0

pub returns-in_err-change_certificate-in-Open-clause-end : goal.returns-in_err-change_certificate-in-Open-clause-end
returns-in_err-change_certificate-in-Open-clause-end g c = IfOk-from_err _ _ c.from_residual-in_err-change_certificate-in-Open.ensures.0
