-- The values of a record that was given values: their texts stand for them, and where the record is changed they are others.
use Rattle.std.proofs.Common.{◌≡◌, ◌≢◌, ◌∙◌, sym, ap, refl, ℕ, zero, suc, ◌+◌, ◌<◌, ◌≤◌, ◌==◌, ◌||◌, ◌⊎◌, inl, inr, not, Bool, true, false, if◌then◌else◌, List}
use Rattle.std.proofs.Common.{[], ◌∷◌, length, map, get_or, slice_get, All, Some, subst, ℤ, pos, ◌*ℤ◌, ◌<ℤ◌, arith}
use Rattle.std.specs.Str.{bytes_eq}
use Rattle.std.proofs.lemmas.Bool.{cases_lt, ne_eqb}
use Rattle.std.proofs.lemmas.Bool.Decides.{Decides-int_eq}
use Rattle.std.proofs.lemmas.List.{get_or-map, get_or_past, length-map}
use Rattle.std.proofs.lemmas.List.Elements.{All-head, All-tail}
use Rattle.std.proofs.lemmas.Slice.Eq.{bytes_eq-Decides}
use Rattle.fraction128.proofs.Signs.{same_cancel}
use Rattle.fraction128.proofs.Whole.{swap_last}
use Rattle.edit_model.specs.Corrections.{change_weight, differs_from, path_order, weight_from, word_of}
use Rattle.edit_model.specs.FieldSets.{has_field}
use Rattle.edit_model.specs.Parts.{SurveyParts, survey_of}
use Rattle.edit_model.specs.Points.{Point}
use Rattle.edit_model.specs.Rows.{IsOfKind, IsRow, value_of}
use Rattle.edit_model.specs.Surveys.{IsField, IsKind}
use Rattle.edit_model.specs.declared.field.Field.{Field}
use Rattle.edit_model.specs.declared.field.Kind.{Kind}
use Rattle.edit_model.specs.declared.field.Kind.TheVariants as kind
use Rattle.edit_model.specs.declared.value.Value.{Value}
use Rattle.edit_model.specs.declared.value.Value.TheVariants.{Bad, Code, Number}
use Rattle.edit_model.proofs.NameLemmas.{false_unless}
use Rattle.edit_model.proofs.OrderLaws.{order-below, order-length}
use Rattle.edit_line.specs.Shapes.{code_fields, domain_of, number_fields, place_in, shape_of}
use Rattle.bound_cert.specs.Paths.{changes}
use Rattle.edit_paths.specs.Cases.{SearchCase}
use Rattle.edit_paths.proofs.LetterLaws.{code-field, number-field}
use Rattle.back_subst.proofs.StartLaws.{field-either}
use Rattle.edit_report.specs.Released.{value_text}
use Rattle.cert_check.specs.Released.{AreValuesFrom, IsGivenText, IsValueOf, is_same}
use Rattle.edit_release.proofs.ColumnTexts.{found-first}

-- ---- one value

-- the text of a value stands for it
pub given-text : (k : Kind) (v : Value) → IsKind k → IsOfKind k v → v ≢ Bad → IsGivenText k (value_text k v) v
given-text (kind.Number scale) (Number x) is fits held = refl
given-text (kind.Number scale) (Code c) is fits held = absurd fits
given-text (kind.Number scale) Bad is fits held = absurd (held refl)
given-text (kind.Code codes) (Number x) is fits held = absurd fits
given-text (kind.Code codes) (Code c) is fits held =
    found-first (λ code. bytes_eq code (get_or codes c [])) codes c [] fits
    (λ k earlier. false_unless (bytes_eq (get_or codes k []) (get_or codes c []))
    (λ same. is.3 k c [] earlier fits ((bytes_eq-Decides (get_or codes k []) (get_or codes c [])).0 same)))
    ((bytes_eq-Decides (get_or codes c []) (get_or codes c [])).1 refl)
given-text (kind.Code codes) Bad is fits held = absurd (held refl)

same-number : (pn pd xn xd yn yd : ℤ) → pos 0 <ℤ xd → pn *ℤ xd ≡ xn *ℤ pd → xn *ℤ yd ≡ yn *ℤ xd → pn *ℤ yd ≡ yn *ℤ pd
same-number pn pd xn xd yn yd above first second =
    same_cancel (pn *ℤ yd) (yn *ℤ pd) xd above (swap_last pn yd xd ∙ ap (λ (k : ℤ). k *ℤ yd) first ∙ swap_last xn pd yd ∙ ap (λ (k : ℤ). k *ℤ pd) second
    ∙ swap_last yn xd pd)

was-true : (b : Bool) → not b ≡ false → b ≡ true
was-true true is = refl
was-true false is = absurd (cc)

-- a value that a point has is another one than a value from which the point differs
pub other-value : (v read : Value) (p : Point) (f : ℕ) → differs_from read p f ≡ true → differs_from v p f ≡ false → is_same v read ≡ false
other-value (Code a) (Code b) p f differs agrees = ne_eqb a b (λ same. cc (sym differs ∙ ap (λ n. not (n == p.code f)) (sym same) ∙ agrees))
other-value (Code a) (Number y) p f differs agrees = refl
other-value (Code a) Bad p f differs agrees = refl
other-value (Number x) (Code b) p f differs agrees = refl
other-value (Number x) (Number y) p f differs agrees = false_unless _ (λ same.
    let own = (Decides-int_eq (p.numerator f *ℤ x.denominator) (x.numerator *ℤ p.denominator)).0 (was-true _ agrees) in
    let both = (Decides-int_eq (x.numerator *ℤ y.denominator) (y.numerator *ℤ x.denominator)).0 same in
    let third = same-number (p.numerator f) p.denominator x.numerator x.denominator y.numerator y.denominator x.positive own both in
    cc (sym differs ∙ ap not ((Decides-int_eq (p.numerator f *ℤ y.denominator) (y.numerator *ℤ p.denominator)).1 third)))
other-value (Number x) Bad p f differs agrees = refl
other-value Bad read p f differs agrees = absurd (cc)

-- ---- all values of a record

-- what is told of the value at each field
pub values-from : (told : ℕ → Bool) (text : ℕ → List ℕ) (i : ℕ) (fields : List Field) (row new : List Value) → IsRow fields row → IsRow fields new
    → ((k : ℕ) (field : Field) → slice_get fields k ≡ Some field → IsValueOf (told (i + k)) field.kind (text (i + k)) (value_of row k) (value_of new k))
    → AreValuesFrom told text i fields row new
values-from told text i [] [] [] is_row is_new each = tt
values-from told text i [] [] (w ∷ new) is_row is_new each = absurd is_new
values-from told text i [] (v ∷ row) new is_row is_new each = absurd is_row
values-from told text i (field ∷ fields) [] new is_row is_new each = absurd is_row
values-from told text i (field ∷ fields) (v ∷ row) [] is_row is_new each = absurd is_new
values-from told text i (field ∷ fields) (v ∷ row) (w ∷ new) is_row is_new each =
    let own : i + 0 ≡ i = omega arith in (
      subst (λ n. IsValueOf (told n) field.kind (text n) v w) own (each 0 field refl),
      values-from told text (suc i) fields row new is_row.1 is_new.1 (λ k f at.
          let next : i + suc k ≡ suc i + k = omega arith in
          subst (λ n. IsValueOf (told n) f.kind (text n) (value_of row k) (value_of new k)) next (each (suc k) f at)),
    )

-- ---- the fields that are changed

-- each field is in path order
pub field-ordered : (fields : List Field) (f : ℕ) → f < length fields → has_field (path_order fields) f ≡ true
field-ordered fields f below = by (has_field (code_fields (shape_of fields)) f) refl some
  where
    alone : SearchCase
    alone = record { survey = survey_of fields []; edits = []; row = [] }

    some : (has_field (code_fields (shape_of fields)) f || has_field (number_fields (shape_of fields)) f) ≡ true
    some =
        let own : 0 + f ≡ f = omega arith in
        ap (λ n. has_field (code_fields (shape_of fields)) n || has_field (number_fields (shape_of fields)) n) (sym own)
        ∙ field-either 0 f (shape_of fields) (omega (arith, below, length-map fields (λ (field : Field). domain_of field.kind)))

    by : (b : Bool) → has_field (code_fields (shape_of fields)) f ≡ b → (b || has_field (number_fields (shape_of fields)) f) ≡ true
        → has_field (path_order fields) f ≡ true
    by true is h = code-field alone f is
    by false is h = number-field alone f h

-- a change that weighs nothing changes no field
lighter : (i : ℕ) (fields : List Field) (row : List Value) (p : Point) → All IsField fields → IsRow fields row → weight_from i fields row p ≡ 0 → (k : ℕ)
    → k < length fields → differs_from (value_of row k) p (i + k) ≡ false
lighter i [] row p are is_row none k below = absurd (omega arith)
lighter i (field ∷ fields) [] p are is_row none k below = absurd is_row
lighter i (field ∷ fields) (v ∷ row) p are is_row none k below = by (differs_from v p i) refl none k below
    (λ rest n within. lighter (suc i) fields row p (All-tail IsField field fields are) is_row.1 rest n within)
  where
    by : (b : Bool) → differs_from v p i ≡ b → (if b then field.weight else 0) + weight_from (suc i) fields row p ≡ 0 → (k : ℕ) → k < length (field ∷ fields)
        → (weight_from (suc i) fields row p ≡ 0 → (n : ℕ) → n < length fields → differs_from (value_of row n) p (suc i + n) ≡ false)
        → differs_from (value_of (v ∷ row) k) p (i + k) ≡ false
    by true is none k below later = let some = (All-head IsField field fields are).weight.0 in absurd (omega (arith, some))
    by false is none zero below later =
        let own : i + 0 ≡ i = omega arith in
        ap (λ n. differs_from v p n) own ∙ is
    by false is none (suc k) below later =
        let next : i + suc k ≡ suc i + k = omega arith in
        ap (λ n. differs_from (value_of row k) p n) next ∙ later (omega arith) k (omega arith)

pub none-differs : (survey : SurveyParts) (row : List Value) (p : Point) → All IsField survey.fields → IsRow survey.fields row → change_weight survey row p ≡ 0
    → (f : ℕ) → changes survey.fields (word_of survey row p) f ≡ false
none-differs survey row p are is_row none f = by (cases_lt place (length (path_order survey.fields)))
  where
    differs : ℕ → Bool
    differs g = differs_from (value_of row g) p g

    place : ℕ
    place = place_in (path_order survey.fields) f

    by : (place < length (path_order survey.fields)) ⊎ (length (path_order survey.fields) ≤ place) → changes survey.fields (word_of survey row p) f ≡ false
    by (inl below) =
        let field : ℕ = get_or (path_order survey.fields) place 0 in
        let own : 0 + field ≡ field = omega arith in
        get_or-map differs (path_order survey.fields) place 0 false below
        ∙ ap (λ n. differs_from (value_of row field) p n) (sym own)
        ∙ lighter 0 survey.fields row p are is_row none field (order-below survey.fields place (omega (arith, below, order-length survey.fields)))
    by (inr past) = get_or_past (map differs (path_order survey.fields)) place false (omega (arith, past, length-map (path_order survey.fields) differs))
