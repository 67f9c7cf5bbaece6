-- What stands under a name is read in one way.
use Rattle.std.proofs.Common.{◌≡◌, ◌∙◌, ℕ, List, Option, Some, ap, arith, subst, sym}
use Rattle.edit_language.specs.Grammar.{IsRuleText}
use Rattle.edit_model.specs.Parts.{SurveyParts}
use Rattle.edit_model.specs.declared.field.Field.{Field}
use Rattle.record_text.specs.Sheets.{IsSheet, SheetParts}
use Rattle.edit_desk.specs.Desk.{Files, IsLonger}
use Rattle.cert_check.specs.Releases.{Audit, audit_of}
use Rattle.command_words.specs.Asked.{CheckAsked}
use Rattle.run_parts.specs.Readings.{HoldsBytes, HoldsRecords, HoldsRelease, HoldsRules, HoldsText, HoldsWithin}

-- there is one list of bytes under a name
same_bytes : (held : Option (List ℕ)) (a b : List ℕ) → held ≡ Some a → held ≡ Some b → a ≡ b
same_bytes held a b p q = cc

-- a file within the limit is not longer
pub not_longer : {P : List ℕ → Type 0} (files : Files) (name : List ℕ) (most : ℕ) → HoldsWithin (Some files) name most P → IsLonger files name most → ⊥
not_longer files name most h long =
    let held : files name ≡ Some h.bytes = h.held in
    let more = rw held at long in
    let short = h.short in
    omega (arith, short, more)

-- two claims on one file are claims on the same bytes
same_claim : {P Q : List ℕ → Type 0} (files : Files) (name : List ℕ) (most : ℕ) (p : HoldsWithin (Some files) name most P)
    → (q : HoldsWithin (Some files) name most Q) → P q.bytes
same_claim {P} files name most p q = subst P (same_bytes (files name) p.bytes q.bytes p.held q.held) p.claim

-- the claim of a file of which more is said
pub weaker : {P Q : List ℕ → Type 0} (files : Option Files) (name : List ℕ) (most : ℕ) → ((bytes : List ℕ) → P bytes → Q bytes) → HoldsWithin files name most P
    → HoldsWithin files name most Q
weaker files name most less h = record { bytes = h.bytes; held = h.held; short = h.short; claim = less h.bytes h.claim }

-- a file meets a claim that its bytes meet
pub holds : (P : List ℕ → Type 0) (files : Option Files) (name : List ℕ) (most : ℕ) (bytes : List ℕ) → HoldsBytes files name most bytes → P bytes
    → HoldsWithin files name most P
holds P files name most bytes h claim = weaker files name most (λ held same. subst P (sym same) claim) h

-- ---- readings

-- a file of rules reads as one survey
pub one_survey : (files : Files) (name : List ℕ) (a b : SurveyParts) → HoldsRules (Some files) name a → HoldsRules (Some files) name b → a ≡ b
one_survey files name a b ha hb = hb.claim.only a (same_claim files name _ ha hb).read

-- a file of rules does not read as none
pub not_unread : (files : Files) (name : List ℕ) (survey : SurveyParts) → HoldsRules (Some files) name survey
    → HoldsText (Some files) name (λ bytes. (s : SurveyParts) → ¬ IsRuleText bytes s) → ⊥
not_unread files name survey read unread = unread.claim survey (same_claim files name _ read unread).read

-- a file of records reads as one sheet
pub one_sheet : (files : Files) (name : List ℕ) (fields : List Field) (a b : SheetParts) → HoldsRecords (Some files) name fields a
    → HoldsRecords (Some files) name fields b → a ≡ b
one_sheet files name fields a b ha hb = hb.claim.only a (same_claim files name _ ha hb).read

-- a file of records does not read as none
pub not_unread_records : (files : Files) (name : List ℕ) (a b : SurveyParts) (s : SheetParts) → a ≡ b → HoldsRecords (Some files) name a.fields s
    → HoldsText (Some files) name (λ bytes. (t : SheetParts) → ¬ IsSheet b.fields bytes t) → ⊥
not_unread_records files name a b s same read unread = unread.claim s (subst (λ (survey : SurveyParts). IsSheet survey.fields unread.bytes s) same
    (same_claim files name _ read unread).read)

-- ---- a release

one_text : (files : Files) (name : List ℕ) (most : ℕ) (a b : List ℕ) → HoldsBytes (Some files) name most a → HoldsBytes (Some files) name most b → a ≡ b
one_text files name most a b ha hb = sym (same_claim files name most ha hb) ∙ hb.claim

-- the files of a check are one release
pub one_audit : (files : Files) (asked : CheckAsked) (a b : Audit) → HoldsRelease (Some files) asked a → HoldsRelease (Some files) asked b → a ≡ b
one_audit files asked a b ha hb =
    let survey = one_survey files asked.rules a.survey b.survey ha.rules hb.rules in
    let records = subst (λ (s : SurveyParts). HoldsRecords (Some files) asked.records s.fields a.sheet) survey ha.records in
    ap (λ (s : SurveyParts). audit_of s a.sheet a.released a.proof) survey
    ∙ ap (λ (s : SheetParts). audit_of b.survey s a.released a.proof) (one_sheet files asked.records b.survey.fields a.sheet b.sheet records hb.records)
    ∙ ap (λ (bytes : List ℕ). audit_of b.survey b.sheet bytes a.proof) (one_text files asked.released _ a.released b.released ha.released hb.released)
    ∙ ap (λ (bytes : List ℕ). audit_of b.survey b.sheet b.released bytes) (one_text files asked.proof _ a.proof b.proof ha.proof hb.proof)
