use Rattle.std.proofs.Common.{◌∷◌, []}
use Rattle.edit_desk.specs.Desk.{fetched}
use Rattle.run_parts.specs.Faults.{records_fault_of}
use Rattle.run_parts.specs.Parts.{RefusesLast}
use Rattle.run_parts.specs.Run.{AreCallsTo}
use Rattle.run_parts.specs.declared.fault.Fault.TheVariants as fault
use Rattle.run_parts.proofs.CallLaws.{less-calls}
use Rattle.run_parts.proofs.ReadingLaws.{so-refused}
use Rattle.run_parts.proofs.reading.fetch_last.Goals as goal

pub of_last-requires : goal.of_last-requires
of_last-requires g c = rw c.fields.ensures.fields (rw c.in-Err.is at c.in_ok-found.ensures.fields)

pub returns-in-Err-clause-cause : goal.returns-in-Err-clause-cause
returns-in-Err-clause-cause g c =
    so-refused (λ what. fault.Last what) (records_fault_of c.args.survey.now.fields c.in-Err.fault) c.of.result
    (rw (c.of_last.ensures, c.fields.ensures.fields) at c.of.ensures)
    (RefusesLast c.args.name.now c.args.survey.now.fields (g.D.Desk.files c.args.desk.now))
    (rw c.in-Err.is at c.in_ok-found.ensures.unread) tt

pub returns-in-Err-clause-asked : goal.returns-in-Err-clause-asked
returns-in-Err-clause-asked g c =
    let one = fetched c.args.name.now ∷ [] in
    less-calls (g.D.Desk.calls c.args.desk.now) _ (AreCallsTo one c.of.result)
    (λ calls is. so-refused (λ what. fault.Last what) (records_fault_of c.args.survey.now.fields c.in-Err.fault) c.of.result
    (rw (c.of_last.ensures, c.fields.ensures.fields) at c.of.ensures) (λ f. AreCallsTo one f calls) (λ what told. is) (1, is))
    c.in_ok-found.ensures.asked
