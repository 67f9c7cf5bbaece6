use Rattle.std.proofs.Common.{◌∙◌, ◌∷◌, [], ◌++◌, List, ap, option_copied, subst, sym}
use Rattle.edit_desk.specs.Desk.{Asked, fetched}
use Rattle.run_parts.specs.Run.{AreCallsTo, faults_by}
use Rattle.run_parts.proofs.CallLaws.{all-calls, less-calls, records-calls, rules-calls, then-calls}
use Rattle.run_parts.proofs.ToldLaws.{handed}
use Rattle.edit_command.proofs.InputLaws.{class-calls, class-faults, class-refuse, of-class, of-records, of-rules, reads_of}
use Rattle.edit_command.proofs.InputLaws.{records-refuse-either, rules-refuse, told-class-due, told-read-due, told-records-due, told-rules-due}
use Rattle.edit_command.proofs.edit_input.fetch_edit.Goals as goal

-- ---- the rules are refused

pub returns-in_err-survey : goal.returns-in_err-survey
returns-in_err-survey g c =
    let f = c.in_err-survey.field-0.0 in
    let rules = c.args.rules.now in
    let records = c.args.records.now in
    rw (handed c.from_residual.result _ c.from_residual.ensures.1)
    (record {
      held = tt;
      well_formed = tt;
      sheet = tt;
      plain = tt;
      kind = of-rules (option_copied c.args.class) c.args.rules.now c.in_err-survey.field-0.0 c.in_err-survey.ensures.kind;
      cause =
          rules-refuse c.args.rules.now c.args.records.now (g.D.Desk.files c.args.desk.now) (option_copied c.args.class) c.in_err-survey.field-0.0
          c.in_err-survey.ensures.kind c.in_err-survey.ensures.cause;
      due =
          told-rules-due c.args.rules.now c.args.records.now (option_copied c.args.class) (g.D.Desk.files c.args.desk.now) c.in_err-survey.field-0.0
          c.in_err-survey.ensures.kind c.in_err-survey.ensures.cause;
      asked =
          less-calls (g.D.Desk.calls c.args.desk.now) _ (AreCallsTo (reads_of rules records) f)
          (λ calls h. rules-calls rules (fetched records ∷ []) calls f c.in_err-survey.ensures.kind h) c.in_err-survey.ensures.asked;
      faults = c.in_err-survey.ensures.faults;
      unchanged = c.in_err-survey.ensures.unchanged;
    })

-- ---- the class field is refused

pub returns-in_err-class_field : goal.returns-in_err-class_field
returns-in_err-class_field g c =
    let f = c.in_err-class_field.field-0.0 in
    let rules = c.args.rules.now in
    let records = c.args.records.now in
    rw (handed c.from_residual-in_err-class_field.result _ c.from_residual-in_err-class_field.ensures.1)
    (record {
      held = tt;
      well_formed = tt;
      sheet = tt;
      plain = tt;
      kind = of-class c.in_ok-survey.survey.fields (option_copied c.args.class) c.in_err-class_field.field-0.0 c.in_err-class_field.ensures.cause;
      cause =
          class-refuse c.args.rules.now c.args.records.now (g.D.Desk.files c.args.desk.now) c.in_ok-survey.survey c.in_ok-survey.ensures.read
          (option_copied c.args.class) c.in_err-class_field.field-0.0 c.in_err-class_field.ensures.cause;
      due =
          told-class-due c.args.rules.now c.args.records.now (option_copied c.args.class) (g.D.Desk.files c.args.desk.now)
          c.in_ok-survey.survey c.in_ok-survey.ensures.read c.in_err-class_field.field-0.0 c.in_err-class_field.ensures.cause;
      asked =
          less-calls (g.D.Desk.calls c.args.desk.now) _ (AreCallsTo (reads_of rules records) f)
          (λ calls is. subst (AreCallsTo (reads_of rules records) f) (sym is)
          (class-calls c.in_ok-survey.survey.fields (option_copied c.args.class) rules records f c.in_err-class_field.ensures.cause))
          c.in_ok-survey.ensures.asked;
      faults =
          class-faults c.in_ok-survey.survey.fields (option_copied c.args.class) c.in_err-class_field.field-0.0 (g.D.Desk.faults c.args.desk.now)
          c.in_ok-survey.ensures.faults c.in_err-class_field.ensures.cause;
      unchanged = c.in_ok-survey.ensures.unchanged;
    })

-- ---- the records are refused

pub returns-in_err-sheet : goal.returns-in_err-sheet
returns-in_err-sheet g c =
    let f = c.in_err-sheet.field-0.0 in
    let rules = c.args.rules.now in
    let records = c.args.records.now in
    let AreCalls : List Asked → Type 0 = AreCallsTo (reads_of rules records) f in
    rw (handed c.from_residual-in_err-sheet.result _ c.from_residual-in_err-sheet.ensures.1)
    (record {
      held = tt;
      well_formed = tt;
      sheet = tt;
      plain = tt;
      kind = of-records (option_copied c.args.class) c.args.records.now c.in_err-sheet.field-0.0 c.in_err-sheet.ensures.kind;
      cause =
          records-refuse-either c.args.rules.now c.args.records.now (g.D.Desk.files c.args.desk.now) c.in_ok-survey.survey c.in_ok-survey.ensures.read
          (option_copied c.args.class) c.in_ok-class_field.class_field c.in_ok-class_field.ensures.found c.in_err-sheet.field-0.0
          c.in_err-sheet.ensures.kind (rw c.in_ok-survey.ensures.unchanged at c.in_err-sheet.ensures.cause);
      due =
          told-records-due c.args.rules.now c.args.records.now (option_copied c.args.class) (g.D.Desk.files c.args.desk.now)
          c.in_ok-survey.survey c.in_ok-survey.ensures.read c.in_ok-class_field.class_field c.in_ok-class_field.ensures.found
          c.in_err-sheet.field-0.0 c.in_err-sheet.ensures.kind (rw c.in_ok-survey.ensures.unchanged at c.in_err-sheet.ensures.cause);
      asked =
          then-calls (g.D.Desk.calls c.args.desk.now) _ _ AreCalls
          (λ x y e h. subst (λ (l : List Asked). AreCalls (l ++ y)) (sym e) (records-calls rules records [] y f c.in_err-sheet.ensures.kind h))
          c.in_ok-survey.ensures.asked c.in_err-sheet.ensures.asked;
      faults = c.in_err-sheet.ensures.faults ∙ ap (faults_by c.in_err-sheet.field-0.0) c.in_ok-survey.ensures.faults;
      unchanged = c.in_err-sheet.ensures.unchanged ∙ c.in_ok-survey.ensures.unchanged;
    })

-- ---- both were read

pub returns : goal.returns
returns g c = record {
  held = record {
    read_rules = c.in_ok-survey.ensures.read;
    classes = c.in_ok-class_field.ensures.found;
    read_records = rw c.in_ok-survey.ensures.unchanged at c.in_ok-sheet.ensures.read;
  };
  well_formed = c.in_ok-survey.ensures.well_formed;
  sheet = c.in_ok-sheet.ensures.sheet;
  plain = c.in_ok-sheet.ensures.plain;
  kind = tt;
  cause = tt;
  due =
      told-read-due c.args.rules.now c.args.records.now (option_copied c.args.class) (g.D.Desk.files c.args.desk.now)
      c.in_ok-survey.survey c.in_ok-survey.ensures.read c.in_ok-class_field.class_field c.in_ok-class_field.ensures.found c.in_ok-sheet.sheet
      (rw c.in_ok-survey.ensures.unchanged at c.in_ok-sheet.ensures.read) _;
  asked =
      all-calls (g.D.Desk.calls c.args.desk.now) _ _ (fetched c.args.rules.now ∷ []) (fetched c.args.records.now ∷ [])
      c.in_ok-survey.ensures.asked c.in_ok-sheet.ensures.asked;
  faults = c.in_ok-sheet.ensures.faults ∙ c.in_ok-survey.ensures.faults;
  unchanged = c.in_ok-sheet.ensures.unchanged ∙ c.in_ok-survey.ensures.unchanged;
}
