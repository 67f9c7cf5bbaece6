use Rattle.std.proofs.Common.{refl}
use Rattle.record_text.proofs.Refusals.{no_value}
use Rattle.donor_search.specs.declared.candidate.Candidate.{Candidate}
use Rattle.donor_search.proofs.TableLaws.{mapped_more}
use Rattle.donor_search.proofs.nearest.donors_of.Goals as goal

pub returns-in_err-donors : goal.returns-in_err-donors
returns-in_err-donors c = no_value c.from_residual.result _ _ c.from_residual.ensures.1

pub returns-in_err-push : goal.returns-in_err-push
returns-in_err-push c = no_value c.from_residual-in_err-push.result _ _ c.from_residual-in_err-push.ensures.1

pub loop-candidate-preserved : goal.loop-candidate-preserved
loop-candidate-preserved c =
    mapped_more (λ (x : Candidate). x.donor) c.args.nearest.now c.loop-candidate.candidate-index _ _ c.loop-candidate.donors.items c.push.new.self.items
    c.loop-candidate-test.true refl c.loop-candidate.invariant c.in_ok-push.ensures.items
