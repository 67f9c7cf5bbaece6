use Rattle.std.proofs.Common.{Err, ap, inl, inr, refl, ◌∙◌}
use Rattle.std.specs.Arc.{arc_value}
use Rattle.bound_cert.specs.declared.outcome.GiftFault.TheVariants as stop
use Rattle.edit_paths.specs.Cases.{case_of}
use Rattle.panel_link.proofs.GivenLaws.{can-give}
use Rattle.panel_link.proofs.PathWorks.{found-whole}
use Rattle.panel_link.proofs.linking.with_values.Goals as goal

pub changed_set-changed-requires : goal.changed_set-changed-requires
changed_set-changed-requires g c =
    let (budget, small, found) = c.requires.found in record {
      whole =
          rw c.letters.ensures
          (found-whole (case_of c.args.survey.now (arc_value c.args.edits.now) c.args.row.now) c.requires.case budget c.args.change.path c.args.change.weight
          c.args.change.cert found);
    }

pub give-requires-clause-path : goal.give-requires-clause-path
give-requires-clause-path g c =
    let (budget, small, found) = c.requires.found in
    let (fixed, same) = c.requires.told in
    can-give c.args.survey.now (arc_value c.args.edits.now) c.args.row.now fixed budget c.args.change.path c.args.change.weight c.args.change.cert
    c.requires.case same found c.changed_set-changed.result (c.changed_set-changed.ensures.path ∙ c.letters.ensures) c.requires.shape small

pub returns-in-Ok-clause-follows : goal.returns-in-Ok-clause-follows
returns-in-Ok-clause-follows g c = inl (
  c.in-Ok.gift,
  record {
    changed = c.changed_set-changed.result;
    fields = c.changed_set-changed.ensures.path ∙ c.letters.ensures;
    imputed = c.in-Ok.ensures.imputed;
    computed = c.in-Ok.ensures.computed;
    how = c.in-Ok.ensures.how;
    tested = c.in-Ok.ensures.tested;
    completed = c.in-Ok.ensures.consistent;
  },
  refl,
)

pub returns-in-Err-Bound-clause-follows : goal.returns-in-Err-Bound-clause-follows
returns-in-Err-Bound-clause-follows g c = inr (
  stop.Bound c.in-Err-Bound.field c.in-Err-Bound.line,
  record {
    changed = c.changed_set-changed.result;
    fields = c.changed_set-changed.ensures.path ∙ c.letters.ensures;
    stops = c.in-Err-Bound.ensures.bound c.in-Err-Bound.field c.in-Err-Bound.line (ap Err c.in-Err-Bound.field-0-is);
  },
  c.stopped_answer.ensures,
)

pub returns-in-Err-Test-clause-follows : goal.returns-in-Err-Test-clause-follows
returns-in-Err-Test-clause-follows g c = inr (
  stop.Test c.in-Err-Test.rule,
  record {
    changed = c.changed_set-changed.result;
    fields = c.changed_set-changed.ensures.path ∙ c.letters.ensures;
    stops = c.in-Err-Test.ensures.test c.in-Err-Test.rule (ap Err c.in-Err-Test.field-0-is);
  },
  c.stopped_answer-in-Err-Test.ensures,
)
