use Rattle.std.proofs.Common.{◌≡◌, ℕ, zero, suc, Bool, true, false, List, [], ◌∷◌, Option, Some, IsSomeAnd, option_map, slice_index_or, refl, sym, subst}
use Rattle.std.specs.List.{list_any}
use Rattle.edit_model.specs.CleanRecords.{is_clean}
use Rattle.edit_model.specs.Rows.{IsRow}
use Rattle.edit_model.specs.declared.field.Field.{Field}
use Rattle.edit_model.specs.declared.value.Value.{Value}
use Rattle.bound_cert.specs.Paths.{changes, path_place}
use Rattle.record_text.specs.Sheets.{text_at}
use Rattle.cert_check.specs.Released.{AreValuesFrom, IsReleasedAs, IsValueOf, same_from}
use Rattle.cert_check.specs.RowChecks.{AreReleasedTexts}
use Rattle.cert_check.specs.declared.checking.Checking.{Checking}
use Rattle.cert_check.specs.declared.checking.RowAt.{RowAt}
use Rattle.cert_check.specs.inner.Checks.{GivesClean, files_in, rules_in}

-- A row that is released.

-- ---- where nothing is changed

module _ (changed : ℕ → Bool) (text : ℕ → List ℕ) where
  module _ (none : (f : ℕ) → changed f ≡ false) where
    pub all-kept : (i : ℕ) (fields : List Field) (row : List Value) → IsRow fields row → AreValuesFrom changed text i fields row row
    all-kept i [] [] fits = tt
    all-kept i [] (read ∷ row) fits = absurd fits
    all-kept i (field ∷ fields) [] fits = absurd fits
    all-kept i (field ∷ fields) (read ∷ row) fits = (
      subst (λ (b : Bool). IsValueOf b field.kind (text i) read read) (sym (none i)) refl,
      all-kept (suc i) fields row fits.1,
    )

    pub kept-alone : (i : ℕ) (fields : List Field) (row new : List Value) → AreValuesFrom changed text i fields row new → new ≡ row
    kept-alone i [] [] [] are = refl
    kept-alone i [] [] (v ∷ new) are = absurd are
    kept-alone i [] (read ∷ row) new are = absurd are
    kept-alone i (field ∷ fields) [] new are = absurd are
    kept-alone i (field ∷ fields) (read ∷ row) [] are = absurd are
    kept-alone i (field ∷ fields) (read ∷ row) (v ∷ new) are =
        let first : v ≡ read = subst (λ (b : Bool). IsValueOf b field.kind (text i) read v) (none i) are.0 in
        let rest = kept-alone (suc i) fields row new are.1 in cc (first, rest)

no-letter : (path : List Bool) (place : ℕ) → list_any (λ changed. changed) path ≡ false → slice_index_or path place false ≡ false
no-letter [] place none = refl
no-letter (true ∷ path) place none = absurd (cc)
no-letter (false ∷ path) zero none = refl
no-letter (false ∷ path) (suc place) none = no-letter path place none

-- a path without a letter that says changed changes no field
pub changes-none : (fields : List Field) (path : List Bool) → list_any (λ changed. changed) path ≡ false → (f : ℕ) → changes fields path f ≡ false
changes-none fields path none f = no-letter path (path_place fields f) none

module _ (c : Checking) (path : List Bool) (texts : List (List ℕ)) (row : List Value) (fits : IsRow c.survey.now.fields row)
    (none : list_any (λ changed. changed) path ≡ false) where
  pub clean-gives : is_clean c.survey.now row ≡ true → GivesClean c path texts row
  clean-gives clean = (
    row,
    all-kept (changes c.survey.now.fields path) (text_at c.columns.now texts) (changes-none c.survey.now.fields path none) 0
        c.survey.now.fields row fits,
    clean,
  )

  pub gives-clean : GivesClean c path texts row → is_clean c.survey.now row ≡ true
  gives-clean (new, values, clean) = subst (λ (vs : List Value). is_clean c.survey.now vs ≡ true)
      (kept-alone (changes c.survey.now.fields path) (text_at c.columns.now texts) (changes-none c.survey.now.fields path none) 0 c.survey.now.fields row new
      values) clean

-- ---- the texts that are released

module _ (c : Checking) (f : RowAt) (path : List Bool) where
  abbrev Of : Option (List (List ℕ)) → Type 0
  Of released = IsSomeAnd released (λ texts. (new : List Value) × IsReleasedAs c.survey.now c.columns.now (changes c.survey.now.fields path) f.reads.now
      f.row.now texts new)

  module _ (texts : List (List ℕ)) (is : option_map (λ t. t.now) f.texts ≡ Some texts) where
    pub gives-released : same_from (changes c.survey.now.fields path) c.columns.now 0 f.reads.now texts ≡ true → GivesClean c path texts f.row.now
        → AreReleasedTexts (rules_in c) (files_in f) path
    gives-released same (new, values, clean) = subst Of (sym is) (new, record { values = values; elsewhere = same; clean = clean })

    pub released-gives : AreReleasedTexts (rules_in c) (files_in f) path → GivesClean c path texts f.row.now
    released-gives released = let (new, as_said) = subst Of is released in (new, as_said.values, as_said.clean)
