-- What an edit makes of the files that were read.
use Rattle.std.proofs.Common.{Bool, true, false, ℕ, IsTrue, List, Option, Some, IfSome, inl, inr, refl, ◌↔◌}
use Rattle.std.specs.Prelude.{if◌then◌else◌}
use Rattle.edit_model.specs.Parts.{SurveyParts}
use Rattle.edit_model.specs.Surveys.{IsWellFormed}
use Rattle.record_text.specs.Sheets.{SheetParts}
use Rattle.edit_report.specs.declared.end.RowEnd.{RowEnd}
use Rattle.edit_release.specs.Releases.{AllGiven, IsReleaseOf, written_in}
use Rattle.edit_release.specs.declared.release.Release.{Release}
use Rattle.edit_desk.specs.Desk.{Files}
use Rattle.command_words.specs.Asked.{EditAsked}
use Rattle.edit_command.specs.EditRun.{IsMade, MakesEdit}
use Rattle.edit_command.specs.Edits.{IsEditWith, IsStatusOf, terms_asked}
use Rattle.edit_command.specs.inner.EditParts.{edit_status, release_made}
use Rattle.edit_command.specs.inner.EitherRun.{HoldsEither}
use Rattle.run_parts.specs.declared.status.Status.TheVariants as status
use Rattle.run_parts.proofs.ToldLaws.{each-told, where-told}
use Rattle.edit_command.proofs.WholeLaws.{whole-released}

-- the status of an edit that did all on the desk tells whether all records were released
shown-by : (whole : Bool) (ends : List RowEnd) → IsTrue whole ↔ AllGiven ends → IsStatusOf ends (if whole then status.Done else status.SomeUnresolved)
shown-by true ends h = inl (refl, h.0 refl)
shown-by false ends h = inr (refl, λ all. let t = h.1 all in absurd cc)

module _ (asked : EditAsked) (class : Option (List ℕ)) (survey : SurveyParts) (class_field : Option ℕ) (s : SheetParts) (release : Release)
    (formed : IsWellFormed survey) (h : IsReleaseOf survey s (terms_asked asked class_field) asked.workers release) where
  made : (files : Files) → HoldsEither (Some files) asked.names.rules asked.names.records class survey class_field s
      → IsMade asked class (edit_status release) files (written_in release)
  made files held =
      let edit : IsEditWith survey s (terms_asked asked class_field) asked.workers (edit_status release) (written_in release) =
      record { ends = h.ends; history = h.history; edit = h.edit; order = h.order; ended = shown-by release.whole h.ends h.whole } in
      record {
        survey = survey;
        sheet = s;
        class_field = class_field;
        rules = held.read_rules;
        formed = formed;
        classes = held.classes;
        records = held.read_records;
        edit = edit;
        whole = whole-released survey s (terms_asked asked class_field) asked.workers (edit_status release) (written_in release) edit;
      }

  -- where the rules and the records were read, and the records were edited, this is to be made
  pub editing : (files : Option Files) → HoldsEither files asked.names.rules asked.names.records class survey class_field s
      → IfSome files (λ o. MakesEdit asked class o (release_made asked release))
  editing files held =
      each-told files (λ o read. (edit_status release, written_in release, made o read, refl))
      (where-told files (λ o. HoldsEither o asked.names.rules asked.names.records class survey class_field s) held)
