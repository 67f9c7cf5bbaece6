-- What a run of the command `page` does.
use Rattle.std.specs.Prelude.{◌≡◌, ◌⊎◌, List, ℕ, [], ◌∷◌, ◌++◌, codes, Some, IfSome, length, take, String, map, string_bytes}
use Rattle.std.specs.Fmt.{decimal}
use Rattle.edit_desk.specs.Desk.{Asked, Files, PutsOnRecord, fetched, stored}
use Rattle.edit_model.specs.Surveys.{IsWellFormed}
use Rattle.page_counts.specs.Records.{changed_count, clean_count}
use Rattle.page_sections.specs.ReleasePages.{IsReleasePage}
use Rattle.std.specs.declared.alloc.Global.{Global}
use Rattle.command_words.specs.Asked.{IsPage, PageAsked}
use Rattle.run_parts.specs.Commands.{Command, IsStopped, IsWhole, Made}
use Rattle.run_parts.specs.Faults.{IsOfEdit}
use Rattle.run_parts.specs.Run.{IsFaultless, IsLinePrinted, Run}
use Rattle.run_parts.specs.declared.status.Status.{Status}
use Rattle.run_parts.specs.declared.status.Status.TheVariants as status
use Rattle.page_command.specs.PageFaults.{IsUnfit, RefusesPage, calls_to, page_fault_text}
use Rattle.release_figures.specs.Releases.{ReleaseParts}
use Rattle.page_command.specs.PageSources.{HasItsRows, HoldsSources}
use Rattle.page_command.specs.declared.page_fault.PageFault.{PageFault}

-- all calls of the command, in order
abbrev pub page_calls : PageAsked → List Asked
page_calls asked =
    fetched asked.rules ∷ fetched asked.records ∷ fetched asked.released ∷ fetched asked.reasons ∷ stored asked.page ∷ []

-- the line that is printed of so many records, of which so many were clean, so many changed, and so many left out
abbrev pub counts_text : ℕ → ℕ → ℕ → ℕ → List ℕ
counts_text records clean changed left_out =
    codes "page records " ++ (decimal records ++ (codes " clean " ++ (decimal clean
    ++ (codes " changed " ++ (decimal changed ++ (codes " left out " ++ decimal left_out))))))

-- the line of what was read: a record is clean that the reasons neither change nor leave out
abbrev pub page_line : ReleaseParts → List ℕ
page_line sources =
    counts_text (length sources.records.rows)
    (clean_count (length sources.records.rows) sources.reasons.changes sources.reasons.left_out)
    (changed_count (length sources.records.rows) sources.reasons.changes) (length sources.reasons.left_out)

-- this is made of what was read and of a page about it: the page is stored, and the line that counts the records is printed
abbrev pub made_of : PageAsked → ReleaseParts → List ℕ → Made
made_of asked sources page =
    record { status = status.Done; files = (asked.page, page) ∷ []; lines = page_line sources ∷ [] }

-- this is to be made of the files that the desk held: the four were read, with a well-formed survey, the released file has its rows,
-- and the page tells of them
pub record IsPageMade (asked : PageAsked) (files : Files) (made : Made) : Type 0 where
  pub sources : ReleaseParts
  pub held : HoldsSources (Some files) asked sources
  pub formed : IsWellFormed sources.survey
  pub rows : HasItsRows sources
  pub page : List ℕ
  pub tells : IsReleasePage sources page
  pub is : made ≡ made_of asked sources page

-- the command, with the faults that it shares with others
abbrev pub page_command : PageAsked → Command
page_command asked = record {
  meets = IsOfEdit;
  refuses = RefusesPage asked;
  order = page_calls asked;
  makes = IsPageMade asked;
}

-- a whole run: the page was stored, and the line that counts was printed
abbrev pub IsPageRun : PageAsked → Status → Run → Type 0
IsPageRun asked answer run = IsWhole (page_command asked) answer run

-- a run that is refused since the released file or the reasons do not fit the records: the calls end there, no file is changed, the
-- desk met no fault, and the fault is printed
pub record IsPageUnfit (asked : PageAsked) (answer : Status) (run : Run) : Type 0 where
  pub fault : PageFault
  pub status : answer ≡ status.Rejected
  pub cause : IsUnfit asked run.before.files fault
  pub calls : PutsOnRecord run.before.calls run.after.calls (λ calls. calls ≡ take (calls_to fault) (page_calls asked))
  pub files : run.after.files ≡ run.before.files
  pub faults : run.after.faults ≡ run.before.faults
  pub printed : IsLinePrinted (page_fault_text fault) run

-- a run that did not do all: it is refused for a fault that any command may meet, or its line was not printed; or a file does not fit
abbrev pub IsPageStopped : PageAsked → Status → Run → Type 0
IsPageStopped asked answer run = IsStopped (page_command asked) answer run ⊎ IsPageUnfit asked answer run

-- where the four files that the desk held have readings, the released file has its rows, and no fault is met, the page is stored, but
-- for want of memory
abbrev pub IsPageComplete : PageAsked → Status → Run → Type 0
IsPageComplete asked answer run = IfSome run.before.files (λ files. (sources : ReleaseParts)
    → HoldsSources (Some files) asked sources → HasItsRows sources → IsFaultless run
    → (answer ≡ status.Done) ⊎ (answer ≡ status.OutOfMemory))

-- the words ask for no page
abbrev pub AsksNoPage : List (String Global) → Type 0
AsksNoPage words = (asked : PageAsked) → ¬ IsPage (map string_bytes words) asked
