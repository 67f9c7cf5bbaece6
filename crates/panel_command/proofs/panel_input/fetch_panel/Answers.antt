use Rattle.std.proofs.Common.{◌∙◌, ◌≡◌, ◌∷◌, [], ◌++◌, List, IfSome, subst, sym}
use Rattle.edit_desk.specs.Desk.{Asked, PutsOnRecord, fetched}
use Rattle.command_words.specs.Asked.{PanelAsked}
use Rattle.command_words.specs.declared.panel_words.PanelWords.TheInside.{Inside}
use Rattle.command_words.proofs.AskedLaws.{panel_of}
use Rattle.run_parts.specs.Faults.{fault_status}
use Rattle.run_parts.specs.Readings.{AnswersDue}
use Rattle.run_parts.specs.Run.{AreCallsTo}
use Rattle.run_parts.specs.declared.status.Status.TheVariants as status
use Rattle.run_parts.proofs.CallLaws.{less-calls, rules-calls, then-calls}
use Rattle.run_parts.proofs.ToldLaws.{handed}
use Rattle.panel_command.specs.PanelInput.{IsPanelDue, RefusesPanel}
use Rattle.panel_command.proofs.InputParts.{of-rules, reads_of, rules-refuse, told-panel-due, told-refused-due}
use Rattle.panel_command.proofs.panel_input.fetch_panel.Goals as goal

-- what these words ask for
abbrev asked_in : Inside → PanelAsked
asked_in w = panel_of w.rules.now w.records.now w.last.now w.released.now w.reasons.now w.proof.now w.key.now w.budget

-- ---- the rules are refused

pub returns-in_err-survey : goal.returns-in_err-survey
returns-in_err-survey g c =
    let f = c.in_err-survey.field-0.0 in
    let files = g.D.Desk.files c.args.desk.now in
    let w = c.asked.inside in
    let kind = c.in_err-survey.ensures.kind in
    let before = g.D.Desk.calls c.args.desk.now in
    rw (handed c.from_residual.result _ c.from_residual.ensures.1)
    (record {
      held = tt;
      well_formed = tt;
      own = tt;
      last = tt;
      own_key = tt;
      last_key = tt;
      kind = of-rules c.asked.inside.rules.now c.in_err-survey.field-0.0 c.in_err-survey.ensures.kind;
      cause =
          subst (λ (a : PanelAsked). RefusesPanel a files f) c.asked.view_is
          (rules-refuse (asked_in c.asked.inside) files f c.in_err-survey.ensures.kind c.in_err-survey.ensures.cause);
      due =
          subst (λ (a : PanelAsked). IfSome files (λ o. AnswersDue (IsPanelDue a o) (fault_status f))) c.asked.view_is
          (told-refused-due (asked_in w) files f (of-rules w.rules.now f kind)
          (rules-refuse (asked_in w) files f kind c.in_err-survey.ensures.cause));
      asked =
          subst (λ (a : PanelAsked). PutsOnRecord before (g.D.Desk.calls c.fetch_survey.new.desk) (AreCallsTo (reads_of a) f)) c.asked.view_is
          (less-calls before _ _
          (λ calls h. rules-calls w.rules.now (fetched w.records.now ∷ fetched w.last.now ∷ []) calls f c.in_err-survey.ensures.kind h)
          c.in_err-survey.ensures.asked);
      faults = c.in_err-survey.ensures.faults;
      unchanged = c.in_err-survey.ensures.unchanged;
    })

-- ---- a file of rows is refused

pub returns-in_err-rows : goal.returns-in_err-rows
returns-in_err-rows g c =
    let before = g.D.Desk.calls c.args.desk.now in
    let AreCalls : List Asked → Type 0 = AreCallsTo (reads_of c.args.asked.now) c.in_err-rows.field-0.0 in
    rw (handed c.from_residual-in_err-rows.result _ c.from_residual-in_err-rows.ensures.1)
    (record {
      held = tt;
      well_formed = tt;
      own = tt;
      last = tt;
      own_key = tt;
      last_key = tt;
      kind = c.in_err-rows.ensures.kind;
      cause = rw c.in_ok-survey.ensures.unchanged at c.in_err-rows.ensures.cause;
      due =
          told-refused-due c.args.asked.now (g.D.Desk.files c.args.desk.now) c.in_err-rows.field-0.0 c.in_err-rows.ensures.kind
          (rw c.in_ok-survey.ensures.unchanged at c.in_err-rows.ensures.cause);
      asked =
          then-calls before _ _ AreCalls (λ x y e h. subst (λ (l : List Asked). AreCalls (l ++ y)) (sym e) h)
          (subst (λ (a : PanelAsked). PutsOnRecord before (g.D.Desk.calls c.fetch_survey.new.desk) (λ calls. calls ≡ fetched a.rules ∷ []))
          c.asked.view_is c.in_ok-survey.ensures.asked)
          c.in_err-rows.ensures.asked;
      faults = rw c.in_ok-survey.ensures.faults at c.in_err-rows.ensures.faults;
      unchanged = c.in_err-rows.ensures.unchanged ∙ c.in_ok-survey.ensures.unchanged;
    })

-- ---- all was read

pub returns : goal.returns
returns g c = record {
  held = rw c.in_ok-survey.ensures.unchanged at c.in_ok-rows.ensures.held;
  well_formed = c.in_ok-survey.ensures.well_formed;
  own = c.in_ok-rows.ensures.own;
  last = c.in_ok-rows.ensures.last;
  own_key = c.in_ok-rows.ensures.own_key;
  last_key = c.in_ok-rows.ensures.last_key;
  kind = tt;
  cause = tt;
  due =
      told-panel-due c.args.asked.now (g.D.Desk.files c.args.desk.now) _ (rw c.in_ok-survey.ensures.unchanged at c.in_ok-rows.ensures.held)
      status.Done;
  asked =
      let before = g.D.Desk.calls c.args.desk.now in
      let AreCalls : List Asked → Type 0 = λ calls. calls ≡ reads_of c.args.asked.now in
      then-calls before _ _ AreCalls (λ x y e h. subst (λ (l : List Asked). AreCalls (l ++ y)) (sym e) h)
      (subst (λ (a : PanelAsked). PutsOnRecord before (g.D.Desk.calls c.fetch_survey.new.desk) (λ calls. calls ≡ fetched a.rules ∷ []))
      c.asked.view_is c.in_ok-survey.ensures.asked)
      c.in_ok-rows.ensures.asked;
  faults = c.in_ok-rows.ensures.faults ∙ c.in_ok-survey.ensures.faults;
  unchanged = c.in_ok-rows.ensures.unchanged ∙ c.in_ok-survey.ensures.unchanged;
}
