-- How an edit ends.
use Rattle.std.specs.Prelude.{◌≡◌, ◌⊎◌, ℕ, List, Option}
use Rattle.edit_model.specs.Parts.{SurveyParts}
use Rattle.command_words.specs.Asked.{EditAsked}
use Rattle.donor_book.specs.declared.claim.Entry.{Entry}
use Rattle.record_text.specs.Sheets.{SheetParts}
use Rattle.record_editing.specs.Donations.{AreInOrder}
use Rattle.record_editing.specs.declared.terms.Terms.{Terms}
use Rattle.edit_report.specs.declared.end.RowEnd.{RowEnd}
use Rattle.edit_release.specs.Edits.{IsEditOf, Written}
use Rattle.edit_release.specs.Releases.{AllGiven}
use Rattle.run_parts.specs.declared.status.Status.{Status}
use Rattle.run_parts.specs.declared.status.Status.TheVariants.{Done, SomeUnresolved}

-- how an edit ends whose records end so: all are released, or some is left out
abbrev pub IsStatusOf : List RowEnd → Status → Type 0
IsStatusOf ends answer = ((answer ≡ Done) × AllGiven ends) ⊎ ((answer ≡ SomeUnresolved) × ¬ AllGiven ends)

-- the edit of a sheet on these terms by so many workers, which ends so, and what it writes and prints; one worker alone claims
-- donors for the records in their order, or for those of each class, where there is a class field
pub record IsEditWith (survey : SurveyParts) (sheet : SheetParts) (terms : Terms) (workers : ℕ)
    (answer : Status) (written : Written) : Type 0 where
  pub ends : List RowEnd
  pub history : List Entry
  pub edit : IsEditOf survey sheet terms ends history written
  pub order : workers ≡ 1 → AreInOrder survey sheet.rows terms.class_field ends history
  pub ended : IsStatusOf ends answer

-- the terms that an edit is asked for, by the classes of this field or by none
abbrev pub terms_asked : EditAsked → Option ℕ → Terms
terms_asked asked class_field =
    record { budget = asked.budget; limit = asked.limit; near = asked.near; class_field = class_field }
