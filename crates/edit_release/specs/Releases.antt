-- What an edit gives.
use Rattle.std.specs.Prelude.{◌≡◌, ◌↔◌, ℕ, Bool, IsSome, IsTrue, List, [], None, length, map}
use Rattle.std.specs.List.{AllByRecursion}
use Rattle.edit_model.specs.Parts.{SurveyParts}
use Rattle.bound_cert.specs.SharedTrees.{shared_rows}
use Rattle.edit_report.specs.Released.{released_text_of}
use Rattle.edit_report.specs.declared.end.RowEnd.{RowEnd}
use Rattle.proof_grammar.specs.Limits.{IsPlain}
use Rattle.proof_grammar.specs.ProofLines.{proof_text}
use Rattle.proof_grammar.specs.declared.proof.Proof.{Proof}
use Rattle.cert_check.specs.Dropped.{drop_fault, kept_flags}
use Rattle.donor_book.specs.declared.claim.Entry.{Entry}
use Rattle.record_text.specs.Sheets.{SheetParts}
use Rattle.record_editing.specs.Donations.{AreInOrder}
use Rattle.record_editing.specs.declared.terms.Terms.{Terms}
use Rattle.edit_release.specs.Edits.{IsEditOf, Written, said}
use Rattle.edit_release.specs.Guarantee.{HasTrees, IsGuaranteed}
use Rattle.edit_release.specs.declared.release.Release.{Release}

-- each record was given values: all are released
abbrev pub AllGiven : List RowEnd → Type 0
AllGiven ends = AllByRecursion (λ (end : RowEnd). IsSome end.gift) ends

-- what an edit writes and prints, as contracts see it: the bytes of a release
abbrev pub written_in : Release → Written
written_in r = record {
  proof = r.proof.items;
  reasons = r.reasons.items;
  released = r.released.items;
  summary = map (λ line. line.items) r.summary;
}

-- the proof tells of the edit of a sheet on these terms, where the lines of the rules are kept by these flags: it has one spelling;
-- the terms; which lines are kept, with steps that refute the negation of each other line; what was found of each record, in which
-- lines of its table are named, with a tree for each; and the claims
pub record Tells (survey : SurveyParts) (sheet : SheetParts) (terms : Terms) (flags : List Bool)
    (ends : List RowEnd) (history : List Entry) (told : Proof) : Type 0 where
  pub plain : IsPlain told
  pub limit : told.limit ≡ terms.limit
  pub near : told.near ≡ terms.near
  pub budget : told.budget ≡ terms.budget
  pub kept : kept_flags told ≡ flags
  pub refuted : drop_fault survey told ≡ None
  pub rows : told.rows ≡ shared_rows (length told.verdicts) [] (map said ends)
  pub trees : HasTrees survey sheet.rows told
  pub claims : told.claims ≡ history

-- the release guarantee of a sheet on these terms: it holds of ends of the records and of claims of donors of which the released
-- file has the values, and the proof file tells
pub record HasGuarantee (survey : SurveyParts) (sheet : SheetParts) (terms : Terms) (release : Release) : Type 0 where
  pub ends : List RowEnd
  pub history : List Entry
  pub guaranteed : IsGuaranteed survey sheet terms ends history
  pub released : release.released.items ≡ released_text_of survey sheet ends
  pub told : Proof
  pub proof : release.proof.items ≡ proof_text told
  pub tells : Tells survey sheet terms guaranteed.kept ends history told

-- it is the edit of a sheet on these terms by so many workers, and tells whether all records are released; one worker alone
-- claims donors for the records, or for those of each class, in their order
pub record IsReleaseOf (survey : SurveyParts) (sheet : SheetParts) (terms : Terms) (workers : ℕ) (release : Release) : Type 0 where
  pub ends : List RowEnd
  pub history : List Entry
  pub edit : IsEditOf survey sheet terms ends history (written_in release)
  pub order : workers ≡ 1 → AreInOrder survey sheet.rows terms.class_field ends history
  pub whole : IsTrue release.whole ↔ AllGiven ends
