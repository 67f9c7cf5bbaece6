use Rattle.std.proofs.Common.{◌≡◌, ◌∙◌, lit<, sym}
use Rattle.std.specs.Arc.{arc_value}
use Rattle.bound_cert.specs.declared.outcome.Outcome.TheVariants as outcome
use Rattle.edit_paths.specs.Cases.{IsCase, case_of}
use Rattle.edit_paths.specs.Outcomes.{outcome_of}
use Rattle.back_subst.proofs.ChangeLaws.{change-given, change-whole}
use Rattle.search_calls.proofs.ValueLaws.{meets-same}
use Rattle.search_calls.proofs.values.changed_fields.Goals as goal
use Rattle.search_calls.proofs.values.changed_fields.Goals.{After-letters}

module _ (c : After-letters) where
  case : IsCase (case_of c.args.survey.now (arc_value c.args.edits.now) c.args.row.now)
  case = c.case_known.ensures.case

  found : outcome_of (case_of c.args.survey.now (arc_value c.args.edits.now) c.args.row.now) 1000
      ≡ outcome.Change c.in-Ok-Change.path c.in-Ok-Change.field-0-1 c.in-Ok-Change.field-0-2
  found = sym c.in-Ok-Change.ensures ∙ c.in-Ok-Change.field-0-is

pub changed_set-requires : goal.changed_set-requires
changed_set-requires c = record {
  whole = rw c.letters.ensures (change-whole c.args.survey.now (arc_value c.args.edits.now) c.args.row.now 1000
      c.in-Ok-Change.path c.in-Ok-Change.field-0-1 c.in-Ok-Change.field-0-2 (case c) (found c));
}

pub returns-in-Ok-Change : goal.returns-in-Ok-Change
returns-in-Ok-Change c =
    let at = (goal.at.returns-in-Ok-Change c).After-letters in
    change-given c.args.survey.now (arc_value c.args.edits.now) c.args.row.now 1000
    c.in-Ok-Change.path c.in-Ok-Change.field-0-1 c.in-Ok-Change.field-0-2 (case at) (found at)
    (λ p. meets-same c.args.survey.now (arc_value c.args.edits.now) c.args.row.now c.requires.same p)
    c.changed_set.result (c.changed_set.ensures.path ∙ c.letters.ensures) c.requires.shape (lit< tt)
