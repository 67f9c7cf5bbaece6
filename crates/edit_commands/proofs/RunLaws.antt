-- What a run of all that words may ask for does, from the run of what they ask for.
use Rattle.std.proofs.Common.{◌≡◌, ◌≢◌, IfSome, List, Option, Some, None, String, inl, inr, refl}
use Rattle.std.specs.declared.alloc.Global.{Global}
use Rattle.command_words.specs.Asked.{CheckAsked, ClassedAsked, EditAsked, FillAsked, MakeAsked, PanelAsked, RulesAsked}
use Rattle.command_words.specs.Asked.{IsCheck, IsClassed, IsEdit, IsFill, IsMake, IsNoCommand, IsPanel, IsRules}
use Rattle.check_command.specs.CheckRun.{check_refusals}
use Rattle.edit_command.specs.ClassedRun.{IsClassedDue, classed_command}
use Rattle.edit_command.specs.EditRun.{edit_command}
use Rattle.edit_desk.specs.Desk.{Files}
use Rattle.fill_command.specs.FillRun.{IsFillDue, fill_command}
use Rattle.make_command.specs.MakeRun.{make_refusals}
use Rattle.panel_command.specs.PanelInput.{IsPanelDue}
use Rattle.panel_command.specs.PanelRun.{panel_command}
use Rattle.rules_command.specs.RulesRun.{rules_refusals}
use Rattle.run_parts.specs.Commands.{HasReleased, refusals_of}
use Rattle.run_parts.specs.Faults.{fault_text}
use Rattle.run_parts.specs.Readings.{AnswersDue, IsCheckDue, IsDue, IsRulesDue}
use Rattle.run_parts.specs.Run.{IsLinePrinted, IsRefused, Refusals, Run, word_refusals}
use Rattle.run_parts.specs.declared.fault.Fault.TheVariants as fault
use Rattle.run_parts.specs.declared.status.Status.{Status}
use Rattle.run_parts.specs.declared.status.Status.TheVariants as status
use Rattle.run_parts.proofs.WordLaws.{IsUntouched, untouched-refused}
use Rattle.edit_commands.specs.declared.asked.Asked.{Asked}
use Rattle.edit_commands.specs.declared.asked.Asked.TheVariants as asks
use Rattle.edit_commands.specs.inner.Asks.{Asks, texts_of}
use Rattle.edit_commands.specs.inner.Runs.{RunsAs, TellsUsage}

-- whatever the words ask for, the run does it, and words that are told to be no command are none
pub record RunsAll (words : List (String Global)) (answer : Status) (run : Run) : Type 0 where
  pub usage : answer ≡ status.Usage → IsNoCommand words
  pub none : IsNoCommand words → IsRefused word_refusals answer run
  pub edit : (asked : EditAsked) → IsEdit (texts_of words) asked → RunsAs (asks.Edit asked) answer run
  pub classed : (asked : ClassedAsked) → IsClassed (texts_of words) asked → RunsAs (asks.Classed asked) answer run
  pub check : (asked : CheckAsked) → IsCheck (texts_of words) asked → RunsAs (asks.Check asked) answer run
  pub rules : (asked : RulesAsked) → IsRules (texts_of words) asked → RunsAs (asks.Rules asked) answer run
  pub fill : (asked : FillAsked) → IsFill (texts_of words) asked → RunsAs (asks.Fill asked) answer run
  pub panel : (asked : PanelAsked) → IsPanel (texts_of words) asked → RunsAs (asks.Panel asked) answer run
  pub make : (asked : MakeAsked) → IsMake (texts_of words) asked → RunsAs (asks.Make asked) answer run

-- what holds of any files holds of those that are told, if any are
of_each : (told : Option Files) (P : Files → Type 0) → ((files : Files) → P files) → IfSome told P
of_each None P each = tt
of_each (Some files) P each = each files

-- where memory is refused, a status that the files call for need not be answered
due_met : (told : Option Files) (answer : Status) (Due : Files → Status → Type 0) → answer ≡ status.OutOfMemory
    → IfSome told (λ files. AnswersDue (Due files) answer)
due_met told answer Due ended = of_each told (λ files. AnswersDue (Due files) answer) (λ files status is. inr (inr ended))

module _ (words : List (String Global)) (answer : Status) (run : Run) where
  -- words ask for one thing, so the run that does it does all that they ask for
  pub runs_all : (asked : Asked) → Asks words asked → TellsUsage asked answer → RunsAs asked answer run → RunsAll words answer run
  runs_all (asks.Edit edit) asks told did = record {
    usage = λ ends. absurd (told ends);
    none = λ none. absurd (none.no_edit edit asks.0);
    edit = λ other is. rw (asks.1 other is) did;
    classed = λ other is. absurd (asks.2 other is);
    check = λ other is. absurd (asks.3 other is);
    rules = λ other is. absurd (asks.4 other is);
    fill = λ other is. absurd (asks.5 other is);
    panel = λ other is. absurd (asks.6 other is);
    make = λ other is. absurd (asks.7 other is);
  }
  runs_all (asks.Classed classed) asks told did = record {
    usage = λ ends. absurd (told ends);
    none = λ none. absurd (none.no_classed classed asks.0);
    edit = λ other is. absurd (asks.2 other is);
    classed = λ other is. rw (asks.1 other is) did;
    check = λ other is. absurd (asks.3 other is);
    rules = λ other is. absurd (asks.4 other is);
    fill = λ other is. absurd (asks.5 other is);
    panel = λ other is. absurd (asks.6 other is);
    make = λ other is. absurd (asks.7 other is);
  }
  runs_all (asks.Check check) asks told did = record {
    usage = λ ends. absurd (told ends);
    none = λ none. absurd (none.no_check check asks.0);
    edit = λ other is. absurd (asks.2 other is);
    classed = λ other is. absurd (asks.3 other is);
    check = λ other is. rw (asks.1 other is) did;
    rules = λ other is. absurd (asks.4 other is);
    fill = λ other is. absurd (asks.5 other is);
    panel = λ other is. absurd (asks.6 other is);
    make = λ other is. absurd (asks.7 other is);
  }
  runs_all (asks.Rules rules) asks told did = record {
    usage = λ ends. absurd (told ends);
    none = λ none. absurd (none.no_rules rules asks.0);
    edit = λ other is. absurd (asks.2 other is);
    classed = λ other is. absurd (asks.3 other is);
    check = λ other is. absurd (asks.4 other is);
    rules = λ other is. rw (asks.1 other is) did;
    fill = λ other is. absurd (asks.5 other is);
    panel = λ other is. absurd (asks.6 other is);
    make = λ other is. absurd (asks.7 other is);
  }
  runs_all (asks.Fill fill) asks told did = record {
    usage = λ ends. absurd (told ends);
    none = λ none. absurd (none.no_fill fill asks.0);
    edit = λ other is. absurd (asks.2 other is);
    classed = λ other is. absurd (asks.3 other is);
    check = λ other is. absurd (asks.4 other is);
    rules = λ other is. absurd (asks.5 other is);
    fill = λ other is. rw (asks.1 other is) did;
    panel = λ other is. absurd (asks.6 other is);
    make = λ other is. absurd (asks.7 other is);
  }
  runs_all (asks.Panel panel) asks told did = record {
    usage = λ ends. absurd (told ends);
    none = λ none. absurd (none.no_panel panel asks.0);
    edit = λ other is. absurd (asks.2 other is);
    classed = λ other is. absurd (asks.3 other is);
    check = λ other is. absurd (asks.4 other is);
    rules = λ other is. absurd (asks.5 other is);
    fill = λ other is. absurd (asks.6 other is);
    panel = λ other is. rw (asks.1 other is) did;
    make = λ other is. absurd (asks.7 other is);
  }
  runs_all (asks.Make make) asks told did = record {
    usage = λ ends. absurd (told ends);
    none = λ none. absurd (none.no_make make asks.0);
    edit = λ other is. absurd (asks.2 other is);
    classed = λ other is. absurd (asks.3 other is);
    check = λ other is. absurd (asks.4 other is);
    rules = λ other is. absurd (asks.5 other is);
    fill = λ other is. absurd (asks.6 other is);
    panel = λ other is. absurd (asks.7 other is);
    make = λ other is. rw (asks.1 other is) did;
  }
  runs_all asks.Nothing asks told did = record {
    usage = λ ends. asks;
    none = λ none. did;
    edit = λ other is. absurd (asks.no_edit other is);
    classed = λ other is. absurd (asks.no_classed other is);
    check = λ other is. absurd (asks.no_check other is);
    rules = λ other is. absurd (asks.no_rules other is);
    fill = λ other is. absurd (asks.no_fill other is);
    panel = λ other is. absurd (asks.no_panel other is);
    make = λ other is. absurd (asks.no_make other is);
  }

  module _ (untouched : IsUntouched run) (printed : IsLinePrinted (fault_text fault.OutOfMemory) run) (ended : answer ≡ status.OutOfMemory) where
    refuses : (command : Refusals) → command.meets fault.OutOfMemory → ((files : Option Files) → command.refuses files fault.OutOfMemory)
        → ((files : Files) → command.leaves fault.OutOfMemory files files) → IsRefused command answer run
    refuses command met cause left =
        untouched-refused command fault.OutOfMemory answer run untouched printed ended met cause (0, refl) left (λ count. refl)

    not_done : answer ≢ status.Done
    not_done done = cc

    not_released : ¬ HasReleased answer
    not_released (inl done) = absurd (not_done done)
    not_released (inr some) = cc

    -- a run that was refused for want of memory before the desk was asked for anything is that of any command
    pub runs_none : RunsAll words answer run
    runs_none = record {
      usage = λ usage. cc;
      none = λ none. refuses word_refusals tt (λ files. tt) (λ files. refl);
      edit = λ asked is. record {
        whole = λ ends. absurd (not_released ends);
        stopped = λ not. inl (refuses (refusals_of (edit_command asked)) tt (λ files. tt) (λ files. inl refl));
        complete = of_each run.before.files _ (λ files survey sheet rules records faultless. inr ended);
        due = due_met run.before.files answer (IsDue asked) ended;
      };
      classed = λ asked is. record {
        whole = λ ends. absurd (not_released ends);
        stopped = λ not. inl (refuses (refusals_of (classed_command asked)) tt (λ files. tt) (λ files. inl refl));
        complete = of_each run.before.files _ (λ files survey number sheet held faultless. inr ended);
        due = due_met run.before.files answer (IsClassedDue asked) ended;
      };
      check = λ asked is. record {
        whole = λ ends. absurd (not_done ends);
        stopped = λ not. inl (refuses (check_refusals asked) tt (λ files. tt) (λ files. refl));
        complete = of_each run.before.files _ (λ files audit held valid faultless. inr ended);
        due = due_met run.before.files answer (IsCheckDue asked) ended;
      };
      rules = λ asked is. record {
        whole = λ ends. absurd (not_done ends);
        stopped = λ not. inl (refuses (rules_refusals asked) tt (λ files. tt) (λ files. refl));
        complete = of_each run.before.files _ (λ files survey held faultless. inr ended);
        due = due_met run.before.files answer (IsRulesDue asked) ended;
      };
      fill = λ asked is. record {
        whole = λ ends. absurd (not_released ends);
        stopped = λ not. inl (refuses (refusals_of (fill_command asked)) tt (λ files. tt) (λ files. inl refl));
        complete = of_each run.before.files _ (λ files survey sheet rules records faultless. inr ended);
        due = due_met run.before.files answer (IsFillDue asked) ended;
      };
      panel = λ asked is. record {
        whole = λ ends. absurd (not_released ends);
        stopped = λ not. inl (refuses (refusals_of (panel_command asked)) tt (λ files. tt) (λ files. inl refl));
        complete = of_each run.before.files _ (λ files panel held faultless. inr ended);
        due = due_met run.before.files answer (IsPanelDue asked) ended;
      };
      make = λ asked is. record {
        whole = λ ends. absurd (not_done ends);
        stopped = λ not. inl (refuses (make_refusals asked) tt (λ files. tt) (λ files. (0, refl)));
        complete = λ faultless. inr ended;
        due = tt;
      };
    }
