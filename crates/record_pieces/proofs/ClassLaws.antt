use Rattle.std.proofs.Common.{◌≡◌, ◌<◌, ◌≤◌, ℕ, Bool, true, false, List, [], All, Option, Some, None, IfSome, IsSomeAnd, ap, arith, cond, length, nat_eq, refl}
use Rattle.std.proofs.Common.{sym}
use Rattle.std.specs.Prelude.{nat_lt, slice_get}
use Rattle.std.specs.List.{IsDistinct}
use Rattle.std.specs.List.Sorted.{IsStrictlyIncreasing}
use Rattle.std.proofs.lemmas.Bool.Decides.{Decides-eqb, Decides-ltb}
use Rattle.std.proofs.lemmas.List.Elements.{All-nil, All-weaker}
use Rattle.edit_model.specs.FieldSets.{has_number}
use Rattle.edit_model.specs.Parts.{SurveyParts}
use Rattle.edit_model.specs.Rows.{IsOfKind, IsRow, value_of}
use Rattle.edit_model.specs.declared.field.Field.{Field}
use Rattle.edit_model.specs.declared.field.Kind.{Kind}
use Rattle.edit_model.specs.declared.field.Kind.TheVariants as kind
use Rattle.edit_model.specs.declared.value.Value.{Value}
use Rattle.edit_model.specs.declared.value.Value.TheVariants.{Code, Number, Bad}
use Rattle.edit_model.proofs.RowLaws.{value-held}
use Rattle.donor_search.specs.Classes.{donors_of_class, has_code, is_code}
use Rattle.donor_search.specs.CleanRows.{IsCleanRow, donors_of, row_at}
use Rattle.donor_search.proofs.ClassLaws.{class_donors, class_rise}
use Rattle.donor_search.proofs.CleanLaws.{donors_clean}
use Rattle.donor_search.proofs.RankedLaws.{once_rising}
use Rattle.donor_search.proofs.PlaceLaws.{all-rise}
use Rattle.edit_model.specs.CleanRecords.{is_clean}
use Rattle.record_pieces.specs.Needs.{donors_for}
use Rattle.record_pieces.specs.Classes.{IsDonorIn, class_count, class_kept, class_of_value, class_read, code_count, codes_in, codes_of_kind, donors_in}

-- The class of a record, and the donors of a class.

-- ---- classes

-- a record that is not in the last class is in the class in which it was read
pub kept-read : (last : ℕ) (class_field : Option ℕ) (row : List Value) (kept : ℕ) → class_kept last class_field row kept < last
    → class_kept last class_field row kept ≡ class_read last class_field row
kept-read last None row kept lt = refl
kept-read last (Some field) row kept lt = by (has_number kept field) lt
  where
    class : ℕ
    class = class_of_value last (value_of row field)

    by : (b : Bool) → cond b class last < last → cond b class last ≡ class
    by true lt = refl
    by false lt = absurd (omega (arith, lt))

-- a record was read in one of the classes, or in the last
pub read-within : (fields : List Field) (class_field : Option ℕ) (row : List Value) → IfSome class_field (λ field. field < length fields) → IsRow fields row
    → class_read (class_count fields class_field) class_field row ≤ class_count fields class_field
read-within fields None row there is = omega arith
read-within fields (Some field) row there is = within (slice_get fields field) (value_of row field) (value-held fields row field is there)
  where
    of_kind : (k : Kind) (v : Value) → IsOfKind k v → class_of_value (codes_of_kind k) v ≤ codes_of_kind k
    of_kind (kind.Number scale) (Code c) held = absurd held
    of_kind (kind.Code codes) (Code c) held = omega (arith, held)
    of_kind k (Number x) held = omega arith
    of_kind k Bad held = omega arith

    within : (o : Option Field) (v : Value) → IsSomeAnd o (λ (f : Field). IsOfKind f.kind v) → class_of_value (codes_in o) v ≤ codes_in o
    within None v held = absurd held
    within (Some f) v held = of_kind f.kind v held

-- ---- donors

-- a record that has no class with donors has no donors
pub none-for : (survey : SurveyParts) (rows : List (List Value)) (class_field : Option ℕ) (row : List Value) (kept : ℕ)
    → class_count survey.fields class_field ≤ class_kept (class_count survey.fields class_field) class_field row kept
    → donors_for survey rows class_field row kept ≡ []
none-for survey rows None row kept past = absurd (omega (arith, past))
none-for survey rows (Some field) row kept past = by (nat_lt class last) (Decides-ltb class last).0
  where
    last : ℕ
    last = code_count survey.fields field

    class : ℕ
    class = class_kept last (Some field) row kept

    by : (b : Bool) → (b ≡ true → class < last) → cond b (donors_of_class survey rows field class) [] ≡ []
    by true below = let lt = below refl in absurd (omega (arith, lt, past))
    by false below = refl

module _ (survey : SurveyParts) (rows : List (List Value)) where
  -- a row with a code was read in the class of the code
  code-class : (last code : ℕ) (v : Value) → is_code code v ≡ true → class_of_value last v ≡ code
  code-class last code (Code c) is = (Decides-eqb c code).0 is
  code-class last code (Number x) is = absurd (cc)
  code-class last code Bad is = absurd (cc)

  -- the donors of a class that is not the last are those with its code
  pub of-code : (field class : ℕ) → class < code_count survey.fields field
      → donors_of_class survey rows field class ≡ donors_in survey rows (Some field) class
  of-code field class lt = sym (ap (λ (b : Bool). cond b (donors_of_class survey rows field class) [])
      ((Decides-ltb class (code_count survey.fields field)).1 lt))

  -- they are of this class
  pub class-donors : (class_field : Option ℕ) (class : ℕ) → class < class_count survey.fields class_field
      → All (IsDonorIn survey rows class_field class) (donors_in survey rows class_field class)
  class-donors None class lt = All-weaker (IsCleanRow survey rows) (IsDonorIn survey rows None class)
      (λ d clean. record { clean = clean; own = (let zero : 0 ≡ class = omega (arith, lt) in zero); some = lt })
      (donors_of survey rows) (donors_clean survey rows)
  class-donors (Some field) class lt = by (nat_lt class (code_count survey.fields field))
    where
      of_class : All (IsDonorIn survey rows (Some field) class) (donors_of_class survey rows field class)
      of_class = All-weaker (λ d. IsCleanRow survey rows d × (has_code field class (row_at rows d) ≡ true)) (IsDonorIn survey rows (Some field) class)
          (λ d has. record {
            clean = has.0;
            own = code-class (code_count survey.fields field) class (value_of (row_at rows d) field) has.1;
            some = lt;
          }) (donors_of_class survey rows field class) (class_donors survey rows field class)

      by : (b : Bool) → All (IsDonorIn survey rows (Some field) class) (cond b (donors_of_class survey rows field class) [])
      by true = of_class
      by false = All-nil (IsDonorIn survey rows (Some field) class)

  -- the donors of each class are clean rows
  pub class-clean : (class_field : Option ℕ) (class : ℕ) → All (IsCleanRow survey rows) (donors_in survey rows class_field class)
  class-clean None class = donors_clean survey rows
  class-clean (Some field) class = by (nat_lt class (code_count survey.fields field))
    where
      by : (b : Bool) → All (IsCleanRow survey rows) (cond b (donors_of_class survey rows field class) [])
      by true = λ k d below. (class_donors survey rows field class k d below).0
      by false = All-nil (IsCleanRow survey rows)

  -- and none stands twice among them
  pub class-once : (class_field : Option ℕ) (class : ℕ) → IsDistinct nat_eq (donors_in survey rows class_field class)
  class-once None class = once_rising (donors_of survey rows) (all-rise (is_clean survey) rows)
  class-once (Some field) class = by (nat_lt class (code_count survey.fields field))
    where
      none : IsStrictlyIncreasing []
      none k lt = absurd (omega (arith, lt))

      by : (b : Bool) → IsDistinct nat_eq (cond b (donors_of_class survey rows field class) [])
      by true = once_rising (donors_of_class survey rows field class) (class_rise survey rows field class)
      by false = once_rising [] none
