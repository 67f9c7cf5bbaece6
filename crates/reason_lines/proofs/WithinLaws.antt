-- What is read of a line is of records and fields that there are.
use Rattle.std.proofs.Common.{◌≡◌, ◌≢◌, refl, ℕ, zero, suc, ◌<◌, ◌==◌, ◌&&◌, Bool, true, false, if◌then◌else◌, List, [], ◌∷◌, ◌++◌, length, Option, Some, None}
use Rattle.std.proofs.Common.{Result, Ok, Err, arith, codes}
use Rattle.std.specs.List.{AllByRecursion, flat_map}
use Rattle.std.specs.Option.{IfSome}
use Rattle.std.specs.Result.{IfOk}
use Rattle.std.specs.Fmt.{decimal}
use Rattle.std.specs.Str.{bytes_eq}
use Rattle.std.proofs.lemmas.Bool.Decides.{nat_tests}
use Rattle.std.proofs.lemmas.List.Concat.{flat_map-cons}
use Rattle.std.proofs.lemmas.List.Quantifiers.{position-Some}
use Rattle.edit_model.specs.declared.field.Field.{Field}
use Rattle.reason_lines.specs.ReasonFiles.{AreReasons, change_in, left_out_in}
use Rattle.reason_lines.specs.ReasonLaws.{AreWithin, IsChangeWithin}
use Rattle.reason_lines.specs.ReasonLines.{cause_named, change_of, donor_named, entry_of, field_named, how_named, is_empty_in, left_out_of, other_than}
use Rattle.reason_lines.specs.ReasonLines.{record_named, text_in, with_known}
use Rattle.reason_lines.specs.declared.entry.Entry.{Entry}
use Rattle.reason_lines.specs.declared.entry.Entry.TheVariants.{Changed, LeftOut}
use Rattle.reason_lines.specs.declared.entry.LeftOut.{LeftOut as Left}
use Rattle.reason_lines.specs.declared.fault.LineFault.{LineFault}
use Rattle.reason_lines.specs.declared.fault.LineFault.TheVariants as wrong
use Rattle.reason_lines.specs.declared.fault.ReasonFault.{ReasonFault}
use Rattle.reason_lines.specs.declared.reading.Reasons.{Reasons}

-- ---- one text

in_by : (b : Bool) (m n : ℕ) (other : Option ℕ) → (if b then Some m else other) ≡ Some n → (other ≡ Some n → n < m) → n < suc m
in_by true m n other e later =
    let same : m ≡ n = cc in
    omega (arith, same)
in_by false m n other e later = omega (arith, later e)

named_within : (rows n : ℕ) (text : List ℕ) → record_named rows text ≡ Some n → n < rows
named_within zero n text e = absurd (cc e)
named_within (suc m) n text e = in_by (bytes_eq text (decimal (suc m))) m n (record_named m text) e (named_within m n text)

field_within : (fields : List Field) (name : List ℕ) (i : ℕ) → field_named fields name ≡ Some i → i < length fields
field_within [] name i e = absurd (cc e)
field_within (field ∷ fields) name i e = (position-Some (λ (f : Field). bytes_eq f.name name) (field ∷ fields) i field e).0

-- the donor is another of the records
abbrev pub IsDonor : ℕ → ℕ → Option ℕ → Type 0
IsDonor rows record_no donor = IfSome donor (λ d. (d < rows) × (d ≢ record_no))

unlike : (b : Bool) (rows record_no d : ℕ) (donor : Option ℕ) → (d == record_no) ≡ b → d < rows → (if b then None else Some (Some d)) ≡ Some donor
    → IsDonor rows record_no donor
unlike true rows record_no d donor tested within e = absurd (cc e)
unlike false rows record_no d donor tested within e =
    let same : donor ≡ Some d = cc in
    rw same (within, grind (arith, nat_tests))

other_by : (rows record_no : ℕ) (named : Option ℕ) (donor : Option ℕ) → ((n : ℕ) → named ≡ Some n → n < rows) → other_than record_no named ≡ Some donor
    → IsDonor rows record_no donor
other_by rows record_no None donor within e = absurd (cc e)
other_by rows record_no (Some d) donor within e = unlike (d == record_no) rows record_no d donor refl (within d refl) e

donor_by : (b : Bool) (rows record_no : ℕ) (text : List ℕ) (donor : Option ℕ)
    → (if b then Some None else other_than record_no (record_named rows text)) ≡ Some donor → IsDonor rows record_no donor
donor_by true rows record_no text donor e =
    let same : donor ≡ None = cc in
    rw same tt
donor_by false rows record_no text donor e = other_by rows record_no (record_named rows text) donor (λ n named. named_within rows n text named) e

-- ---- one line

-- what is said of an entry holds where a line says it
abbrev pub Says : (Entry → Type 0) → Result Entry LineFault → Type 0
Says P said = IfOk said P

known_says : {A : Type 0} (P : Entry → Type 0) (o : Option A) (fault : LineFault) (says : A → Result Entry LineFault)
    → ((x : A) → o ≡ Some x → Says P (says x)) → Says P (with_known o fault says)
known_says P None fault says each = tt
known_says P (Some x) fault says each = each x refl

-- what holds of all elements of each list holds of all elements of the lists in a row
all_joined : {A : Type 0} (P : A → Type 0) (xs ys : List A) → AllByRecursion P xs → AllByRecursion P ys → AllByRecursion P (xs ++ ys)
all_joined P [] ys first second = second
all_joined P (x ∷ xs) ys first second = (first.0, all_joined P xs ys first.1 second)

all_flat : {A B : Type 0} (P : B → Type 0) (f : A → List B) (xs : List A) → ((x : A) → AllByRecursion P (f x)) → AllByRecursion P (flat_map f xs)
all_flat P f [] each = tt
all_flat P f (x ∷ xs) each = rw (flat_map-cons f x xs) (all_joined P (f x) (flat_map f xs) (each x) (all_flat P f xs each))

module _ (fields : List Field) (rows : ℕ) where
  abbrev pub IsWithin : Entry → Type 0
  IsWithin (Changed change) = IsChangeWithin fields rows change
  IsWithin (LeftOut left_out) = left_out.«record» < rows

  change_within : (record_no : ℕ) (texts : List (List ℕ)) → record_no < rows → Says IsWithin (change_of fields rows record_no texts)
  change_within record_no texts within =
      known_says IsWithin (field_named fields (text_in texts 2)) wrong.Field _ (λ field found.
      known_says IsWithin (donor_named rows record_no (text_in texts 5)) wrong.Donor _ (λ donor given.
      known_says IsWithin (how_named (text_in texts 6)) wrong.Detail _ (λ how known.
      record {
        in_records = within;
        in_fields = field_within fields (text_in texts 2) field found;
        donor = donor_by (length (text_in texts 5) == 0) rows record_no (text_in texts 5) donor given;
      })))

  left_out_by : (b : Bool) (entry : Entry) → IsWithin entry → Says IsWithin (if b then Ok entry else Err wrong.NotEmpty)
  left_out_by true entry within = within
  left_out_by false entry within = tt

  left_out_within : (record_no : ℕ) (texts : List (List ℕ)) → record_no < rows → Says IsWithin (left_out_of record_no texts)
  left_out_within record_no texts within =
      known_says IsWithin (cause_named (text_in texts 1)) wrong.Cause _ (λ why known.
      left_out_by (is_empty_in texts 2 && is_empty_in texts 3 && is_empty_in texts 4 && is_empty_in texts 5)
      (LeftOut (record { «record» = record_no; cause = why })) within)

  either_within : (b : Bool) (first second : Result Entry LineFault) → Says IsWithin first → Says IsWithin second → Says IsWithin (if b then first else second)
  either_within true first second one other = one
  either_within false first second one other = other

  entry_within : (texts : List (List ℕ)) → Says IsWithin (entry_of fields rows texts)
  entry_within texts =
      known_says IsWithin (record_named rows (text_in texts 0)) wrong.Record _ (λ record_no named.
      let within = named_within rows record_no (text_in texts 0) named in
      either_within (bytes_eq (text_in texts 1) (codes "changed")) (change_of fields rows record_no texts) (left_out_of record_no texts)
      (change_within record_no texts within) (left_out_within record_no texts within))

  -- ---- all lines

  changes_within : (said : Result Entry LineFault) → Says IsWithin said → AllByRecursion (IsChangeWithin fields rows) (change_in said)
  changes_within (Ok (Changed change)) within = (within, tt)
  changes_within (Ok (LeftOut left_out)) within = tt
  changes_within (Err fault) within = tt

  records_within : (said : Result Entry LineFault) → Says IsWithin said → AllByRecursion (λ (left_out : Left). left_out.«record» < rows) (left_out_in said)
  records_within (Ok (Changed change)) within = tt
  records_within (Ok (LeftOut left_out)) within = (within, tt)
  records_within (Err fault) within = tt

  pub reasons_within : (bytes : List ℕ) (reasons : Reasons) → AreReasons fields rows bytes reasons → AreWithin fields rows reasons
  reasons_within bytes reasons is = record {
    changes = rw is.changes (all_flat (IsChangeWithin fields rows) _ is.table.rows (λ texts. changes_within (entry_of fields rows texts) (entry_within texts)));
    left_out = rw is.left_out (all_flat (λ (left_out : Left). left_out.«record» < rows) _ is.table.rows
        (λ texts. records_within (entry_of fields rows texts) (entry_within texts)));
  }

  pub within_by_reasons : (bytes : List ℕ) (r : Result Reasons ReasonFault) → IfOk r (λ reasons. AreReasons fields rows bytes reasons)
      → IfOk r (λ reasons. AreWithin fields rows reasons)
  within_by_reasons bytes (Ok reasons) is = reasons_within bytes reasons is
  within_by_reasons bytes (Err e) is = tt
