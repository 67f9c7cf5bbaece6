-- What an edit says of a sheet whose records all have corrections in reach, and what settles an edit of files.
use Rattle.std.specs.Prelude.{◌≡◌, ℕ, List, Option}
use Rattle.edit_desk.specs.Desk.{Files}
use Rattle.edit_model.specs.Parts.{SurveyParts}
use Rattle.record_text.specs.Sheets.{SheetParts}
use Rattle.record_editing.specs.declared.terms.Terms.{Terms}
use Rattle.edit_release.specs.Edits.{Written}
use Rattle.command_words.specs.Asked.{EditAsked}
use Rattle.edit_command.specs.EditRun.{IsMade}
use Rattle.edit_command.specs.Edits.{IsEditWith}
use Rattle.edit_command.specs.Reach.{IsDoneInReach}
use Rattle.run_parts.specs.declared.status.Status.{Status}

-- where some point is consistent, and nothing stands in the way of any record, the edit ends with all records released,
-- whatever the number of workers
abbrev pub WholeLaw : Type 0
WholeLaw = (survey : SurveyParts) (sheet : SheetParts) (terms : Terms) (workers : ℕ) (answer : Status) (written : Written)
    → (edit : IsEditWith survey sheet terms workers answer written) → IsDoneInReach survey terms.budget sheet.rows edit.ends answer

-- two edits of the same files, for the same words, the class field's name among them, and with the same claims of donors, are one: they
-- end with one status, and write and print the same
abbrev pub OneMadeLaw : Type 0
OneMadeLaw = (asked : EditAsked) (class : Option (List ℕ)) (files : Files) (answer other : Status) (written again : Written)
    → (made : IsMade asked class answer files written) → (too : IsMade asked class other files again)
    → made.edit.history ≡ too.edit.history → (answer ≡ other) × (written ≡ again)
