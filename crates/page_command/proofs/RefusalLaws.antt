-- Refusals of the parts of the command: their kinds, their causes, and the calls up to them.
use Rattle.std.proofs.Common.{◌≡◌, ◌∙◌, ℕ, List, [], ◌∷◌, ◌++◌, Option, ap, length, inl, inr, take}
use Rattle.edit_desk.specs.Desk.{Asked, Files, PutsOnRecord, fetched, stored}
use Rattle.edit_model.specs.Parts.{SurveyParts}
use Rattle.record_text.specs.Sheets.{SheetParts}
use Rattle.command_words.specs.Asked.{PageAsked}
use Rattle.run_parts.specs.Faults.{IsOfEdit, IsOfStores}
use Rattle.run_parts.specs.Readings.{HoldsRecords, HoldsRules, RefusesInput}
use Rattle.run_parts.specs.Run.{AreCallsTo}
use Rattle.run_parts.specs.declared.fault.Fault.{Fault}
use Rattle.run_parts.specs.declared.fault.Fault.TheVariants as fault
use Rattle.run_parts.proofs.CallLaws.{all-calls, behind-calls, less-calls, of-fetch, of-input}
use Rattle.page_command.specs.PageFaults.{RefusesPage}
use Rattle.page_command.specs.PageRun.{page_calls}
use Rattle.release_figures.specs.Releases.{ReleaseParts}
use Rattle.page_command.specs.PageSources.{HoldsSources}
use Rattle.page_command.specs.declared.page_fault.PageFault.{PageFault}
use Rattle.page_command.specs.declared.page_fault.PageFault.TheVariants.{Reasons as ReasonsFile, Released, Rows}
use Rattle.page_command.specs.declared.refusal.PageRefusal.{PageRefusal}
use Rattle.page_command.specs.declared.refusal.PageRefusal.TheVariants.{Shared, Unfit}
use Rattle.page_command.specs.inner.PageParts.{AreCallsBefore, AreFileCallsTo, AreNoReasonLines, AreNoReleased, IsOfPage}
use Rattle.page_command.specs.inner.PageParts.{IsOfRead, Refuses, RefusesFile, RefusesRows, faults_past}

-- ---- kinds

-- what one file is refused for, the command is
pub of-file : (name : List ℕ) (files : Option Files) (Says : PageFault → List ℕ → Type 0) (r : PageRefusal)
    → RefusesFile name files Says r → IsOfRead r
of-file name files Says (Shared (fault.Read n)) why = tt
of-file name files Says (Shared (fault.TooLong n)) why = tt
of-file name files Says (Shared fault.OutOfMemory) why = tt
of-file name files Says (Shared f) why = absurd why.0
of-file name files Says (Unfit what) why = tt

pub of-rows : (sources : ReleaseParts) (r : PageRefusal) → RefusesRows sources r → IsOfRead r
of-rows sources (Shared f) why = rw why tt
of-rows sources (Unfit what) why = tt

-- a command that fetches and reads files, or stores some, meets no other
pub of-read : (r : PageRefusal) → IsOfRead r → IsOfPage r
of-read (Shared f) kind = of-input f kind
of-read (Unfit what) kind = tt

pub stores-kind : (f : Fault) → IsOfStores f → IsOfEdit f
stores-kind (fault.Write name) kind = tt
stores-kind fault.OutOfMemory kind = tt
stores-kind f kind = absurd kind

-- ---- calls

-- the calls by which the rules and the records are read
abbrev pub input_of : PageAsked → List Asked
input_of asked = fetched asked.rules ∷ fetched asked.records ∷ []

-- and those of the released file and the reasons
abbrev pub released_of : PageAsked → List Asked
released_of asked = fetched asked.released ∷ []

abbrev pub reasons_of : PageAsked → List Asked
reasons_of asked = fetched asked.reasons ∷ []

-- and those behind
abbrev pub behind_input : PageAsked → List Asked
behind_input asked = fetched asked.released ∷ fetched asked.reasons ∷ stored asked.page ∷ []

abbrev pub behind_released : PageAsked → List Asked
behind_released asked = fetched asked.reasons ∷ stored asked.page ∷ []

abbrev pub page_of : PageAsked → List Asked
page_of asked = stored asked.page ∷ []

module _ (asked : PageAsked) (a b c : Option (List Asked)) where
  -- the calls up to a refusal of the released file
  pub released-calls : (files : Option Files) (survey : SurveyParts) (r : PageRefusal)
      → RefusesFile asked.released files (AreNoReleased survey.fields) r → PutsOnRecord a b (λ calls. calls ≡ input_of asked)
      → PutsOnRecord b c (AreFileCallsTo asked.released r) → PutsOnRecord a c (AreCallsBefore asked r)
  released-calls files survey (Shared f) why p q =
      behind-calls a b c (input_of asked) (released_of asked) (behind_released asked) f (of-fetch _ f why.0) p q
  released-calls files survey (Unfit (Released what)) why p q = all-calls a b c (input_of asked) (released_of asked) p q
  released-calls files survey (Unfit what) why p q = absurd why.claim

  -- and of the reasons
  pub reasons-calls : (files : Option Files) (survey : SurveyParts) (rows : ℕ) (r : PageRefusal)
      → RefusesFile asked.reasons files (AreNoReasonLines survey.fields rows) r
      → PutsOnRecord a b (λ calls. calls ≡ input_of asked ++ released_of asked)
      → PutsOnRecord b c (AreFileCallsTo asked.reasons r) → PutsOnRecord a c (AreCallsBefore asked r)
  reasons-calls files survey rows (Shared f) why p q =
      behind-calls a b c (input_of asked ++ released_of asked) (reasons_of asked) (page_of asked) f (of-fetch _ f why.0) p q
  reasons-calls files survey rows (Unfit (ReasonsFile what)) why p q =
      all-calls a b c (input_of asked ++ released_of asked) (reasons_of asked) p q
  reasons-calls files survey rows (Unfit what) why p q = absurd why.claim

-- and of rows that do not fit
pub rows-calls : (asked : PageAsked) (a b : Option (List Asked)) (sources : ReleaseParts) (r : PageRefusal) → RefusesRows sources r
    → PutsOnRecord a b (λ calls. calls ≡ take 4 (page_calls asked)) → PutsOnRecord a b (AreCallsBefore asked r)
rows-calls asked a b sources (Shared f) memory p =
    less-calls a b (AreCallsTo (page_calls asked) f) (λ x e. rw memory (4, e)) p
rows-calls asked a b sources (Unfit (Rows given kept)) why p = p
rows-calls asked a b sources (Unfit what) why p = absurd why

-- ---- counts of faults

-- the count after the reasons, behind parts that met no fault
pub reasons-faults : (r : PageRefusal) (a b c d : ℕ) → b ≡ a → c ≡ b → d ≡ faults_past r c → d ≡ faults_past r a
reasons-faults r a b c d p q s = s ∙ ap (faults_past r) (q ∙ p)

-- rows that do not fit are no fault of the desk
pub rows-faults : (sources : ReleaseParts) (r : PageRefusal) (a b : ℕ) → RefusesRows sources r → b ≡ a → b ≡ faults_past r a
rows-faults sources (Shared f) a b memory same = rw memory same
rows-faults sources (Unfit what) a b why same = same

-- ---- causes

module _ (asked : PageAsked) (files : Option Files) where
  -- the rules or the records are refused
  pub input-cause : (f : Fault) → RefusesInput asked.rules asked.records files f → RefusesPage asked files f
  input-cause (fault.Read name) why = inl why
  input-cause (fault.TooLong name) (why, long) = (inl why, long)
  input-cause f why = why

  module _ (survey : SurveyParts) (records : SheetParts) (hr : HoldsRules files asked.rules survey)
      (hs : HoldsRecords files asked.records survey.fields records) where
    -- the released file is, behind them
    pub released-cause : (r : PageRefusal) → RefusesFile asked.released files (AreNoReleased survey.fields) r → Refuses asked files r
    released-cause (Shared (fault.Read name)) (kind, why) = inr (inl (kind, (survey, hr, (records, hs, tt))))
    released-cause (Shared (fault.TooLong name)) (kind, why) = (inr (inl (kind, (survey, hr, (records, hs, tt)))), why)
    released-cause (Shared fault.OutOfMemory) why = tt
    released-cause (Shared f) why = absurd why.0
    released-cause (Unfit (Released what)) why = (survey, hr, (records, hs, why))
    released-cause (Unfit what) why = absurd why.claim

    module _ (released : SheetParts) (hd : HoldsRecords files asked.released survey.fields released) where
      -- and the reasons
      pub reasons-cause : (r : PageRefusal) → RefusesFile asked.reasons files (AreNoReasonLines survey.fields (length records.rows)) r
          → Refuses asked files r
      reasons-cause (Shared (fault.Read name)) (kind, why) = inr (inr (kind, (survey, hr, (records, hs, (released, hd, tt)))))
      reasons-cause (Shared (fault.TooLong name)) (kind, why) = (inr (inr (kind, (survey, hr, (records, hs, (released, hd, tt))))), why)
      reasons-cause (Shared fault.OutOfMemory) why = tt
      reasons-cause (Shared f) why = absurd why.0
      reasons-cause (Unfit (ReasonsFile what)) why = (survey, hr, (records, hs, (released, hd, why)))
      reasons-cause (Unfit what) why = absurd why.claim

  -- and where rows do not fit
  pub rows-cause : (sources : ReleaseParts) → HoldsSources files asked sources → (r : PageRefusal) → RefusesRows sources r → Refuses asked files r
  rows-cause sources held (Shared f) memory = rw memory tt
  rows-cause sources held (Unfit (Rows given kept)) (is, same, differ) = (sources, held, is, same, differ)
  rows-cause sources held (Unfit what) why = absurd why

-- a store's fault says nothing of the files
pub stores-cause : (asked : PageAsked) (files : Option Files) (f : Fault) → IsOfStores f → RefusesPage asked files f
stores-cause asked files (fault.Write name) kind = tt
stores-cause asked files fault.OutOfMemory kind = tt
stores-cause asked files f kind = absurd kind
