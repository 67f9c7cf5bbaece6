-- How the runs of the command end.
use Rattle.std.proofs.Common.{◌≡◌, ◌∙◌, ℕ, List, [], ◌∷◌, Option, None, Some, Err, IfSome, ap, inl, inr, refl}
use Rattle.edit_desk.specs.Desk.{Files, PutsOnRecord, Told}
use Rattle.edit_model.specs.Surveys.{IsWellFormed}
use Rattle.page_sections.specs.ReleasePages.{IsReleasePage}
use Rattle.command_words.specs.Asked.{PageAsked}
use Rattle.run_parts.specs.Commands.{Made}
use Rattle.run_parts.specs.Readings.{AnswersDue}
use Rattle.run_parts.specs.Run.{IsFaultless, IsLinePrinted, Run}
use Rattle.run_parts.specs.declared.status.Status.{Status}
use Rattle.run_parts.specs.declared.status.Status.TheVariants as status
use Rattle.run_parts.proofs.CommandLaws.{unstored}
use Rattle.run_parts.proofs.FaultlessLaws.{memory-left}
use Rattle.run_parts.proofs.ToldLaws.{each-told, same-told, where-told}
use Rattle.page_command.specs.PageFaults.{IsPageDue}
use Rattle.page_command.specs.PageRun.{IsPageComplete, IsPageMade, IsPageStopped, page_command, page_line}
use Rattle.release_figures.specs.Releases.{ReleaseParts}
use Rattle.page_command.specs.PageSources.{HasItsRows, HoldsSources}
use Rattle.page_command.specs.declared.page_run.PageFile.{PageFile}
use Rattle.page_command.specs.declared.refusal.PageRefusal.{PageRefusal}
use Rattle.page_command.specs.declared.refusal.PageRefusal.TheVariants.{Shared, Unfit}
use Rattle.page_command.specs.inner.PageParts.{AreCallsBefore, IsOfPage, IsOfRead, PageEnds, Refuses, faults_past, made_by, refusal_status, refusal_text}
use Rattle.page_command.proofs.DueLaws.{SaysNothing, fit_beside, fit_due}

-- ---- what is made

module _ (asked : PageAsked) (files : Option Files) (sources : ReleaseParts) (held : HoldsSources files asked sources) (fits : HasItsRows sources) where
  -- where the four files were read and fit, and the page and its line were made, this is to be made
  pub page_made : (file : PageFile) → IsWellFormed sources.survey
      → IsReleasePage sources file.page.items → file.line.items ≡ page_line sources
      → IfSome files (λ o. IsPageMade asked o (made_by asked file))
  page_made file formed tells line =
      each-told files
      (λ o read. record {
        sources = sources;
        held = read;
        formed = formed;
        rows = fits;
        page = file.page.items;
        tells = tells;
        is = ap (λ (text : List ℕ). made_in text) line;
      })
      (where-told files (λ o. HoldsSources o asked sources) held)
    where
      made_in : List ℕ → Made
      made_in text = record { status = status.Done; files = (asked.page, file.page.items) ∷ []; lines = text ∷ [] }

  -- and no status is due
  pub told_fit_due : (answer : Status) → IfSome files (λ o. AnswersDue (IsPageDue asked o) answer)
  told_fit_due answer =
      each-told files (λ o read. fit_due asked o sources read fits answer) (where-told files (λ o. HoldsSources o asked sources) held)

-- ---- refusals

-- what is left where nothing was stored
pub read-ends : (asked : PageAsked) (before after : Option Files) (r : PageRefusal) → IsOfRead r → after ≡ before
    → Told before after (PageEnds asked (Err r))
read-ends asked before after (Shared f) kind same = unstored (page_command asked) before after f kind same
read-ends asked before after (Unfit what) kind same = same-told before after (λ old new. new ≡ old) same (λ old. refl)

-- what is told to be the same is
same-files : {A : Type 0} (a b : Option A) → Told a b (λ old new. new ≡ old) → b ≡ a
same-files None None same = refl
same-files None (Some y) same = absurd same
same-files (Some x) None same = absurd same
same-files (Some x) (Some y) same = ap (λ (z : _). Some z) same

-- a refused run did not do all
pub refused-by : (asked : PageAsked) (run : Run) (r : PageRefusal) (answer : Status) → answer ≡ refusal_status r → IsOfPage r
    → Refuses asked run.before.files r → PutsOnRecord run.before.calls run.after.calls (AreCallsBefore asked r)
    → Told run.before.files run.after.files (PageEnds asked (Err r)) → run.after.faults ≡ faults_past r run.before.faults
    → IsLinePrinted (refusal_text r) run → IsPageStopped asked answer run
refused-by asked run (Shared f) answer is kind cause calls files faults printed = inl (inl (record {
  fault = f;
  status = is;
  kind = kind;
  cause = cause;
  calls = calls;
  files = files;
  faults = faults;
  printed = printed;
}))
refused-by asked run (Unfit what) answer is kind cause calls files faults printed = inr (record {
  fault = what;
  status = is;
  cause = cause;
  calls = calls;
  files = same-files run.before.files run.after.files files;
  faults = faults;
  printed = printed;
})

-- where no fault is met, a refusal that says nothing of the files is want of memory
memory-refused : (run : Run) (r : PageRefusal) → SaysNothing r → run.after.faults ≡ faults_past r run.before.faults → IsFaultless run
    → refusal_status r ≡ status.OutOfMemory
memory-refused run (Shared f) beside faults none = memory-left run f beside faults none
memory-refused run (Unfit what) beside faults none = absurd beside

-- so is a refusal of files that fit
pub page-refused : (asked : PageAsked) (run : Run) (r : PageRefusal) (answer : Status) → answer ≡ refusal_status r
    → Refuses asked run.before.files r → run.after.faults ≡ faults_past r run.before.faults → IsPageComplete asked answer run
page-refused asked run r answer is cause faults =
    each-told run.before.files
    (λ o why sources held fits none. inr (is ∙ memory-refused run r (fit_beside asked o sources held fits r why) faults none))
    (where-told run.before.files (λ o. Refuses asked o r) cause)
