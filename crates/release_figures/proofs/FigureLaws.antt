use Rattle.std.proofs.Common.{◌≡◌, ◌∙◌, ℕ, suc, ◌+◌, List, [], ◌∷◌, ◌++◌, length, Result, Ok, Err, IfOk, ap, sym, subst, arith}
use Rattle.std.specs.List.{range_with_len}
use Rattle.std.proofs.lemmas.List.{map-id}
use Rattle.std.proofs.lemmas.List.FromFn.{map-range_with_len_more}
use Rattle.edit_model.specs.declared.field.Field.{Field}
use Rattle.reason_lines.specs.declared.entry.Cause.TheVariants as cause
use Rattle.reason_lines.specs.declared.entry.Change.{Change}
use Rattle.reason_lines.specs.declared.entry.LeftOut.{LeftOut}
use Rattle.reason_lines.specs.declared.reading.Reasons.{Reasons}
use Rattle.page_counts.specs.Records.{changed_count, clean_count, left_out_count}
use Rattle.page_counts.specs.declared.amounts.Amount.{Amount}
use Rattle.page_counts.specs.declared.records.RecordCounts.{RecordCounts}
use Rattle.release_figures.specs.Figures.{AreValues, AreValuesOf, numbered, record_counts}
use Rattle.release_figures.specs.Releases.{ReleaseParts}
use Rattle.release_figures.specs.declared.figures.FieldValues.{FieldValues}

-- What is counted, and what is counted with one place more.

-- the same of what is equal
pub with_both : {A B : Type 0} (P : A → B → Type 0) {a a' : A} {b b' : B} → a ≡ a' → b ≡ b' → P a b → P a' b'
with_both P {a} {a'} {b} {b'} a_is b_is held = subst (λ (x : _). P x b') a_is (subst (λ (y : _). P a y) b_is held)

-- ---- what becomes of records

-- the counts, one by one, are the counts
pub records_counted : {E : Type 0} (r : Result RecordCounts E) (rows : ℕ) (reasons : Reasons) (changes : List Change) (left_out : List LeftOut)
    → changes ≡ reasons.changes → left_out ≡ reasons.left_out → IfOk r (λ counts. counts.clean ≡ clean_count rows changes left_out)
    → IfOk r (λ counts. counts.changed ≡ changed_count rows changes) → IfOk r (λ counts. counts.budget ≡ left_out_count cause.Budget left_out)
    → IfOk r (λ counts. counts.overflow ≡ left_out_count cause.Overflow left_out)
    → IfOk r (λ counts. counts.contradictory ≡ left_out_count cause.Contradictory left_out)
    → IfOk r (λ counts. counts.no_last ≡ left_out_count cause.NoLast left_out)
    → IfOk r (λ counts. counts.no_correction ≡ left_out_count cause.NoCorrection left_out) → IfOk r (λ counts. counts ≡ record_counts rows reasons)
records_counted (Ok counts) rows reasons changes left_out changes_are left_out_are clean changed budget overflow contradictory no_last no_correction =
    let same : record { changes = changes; left_out = left_out } ≡ reasons = λ i. record { changes = changes_are i; left_out = left_out_are i } in
    let is : counts ≡ record_counts rows (record { changes = changes; left_out = left_out }) = λ i. record {
      clean = clean i;
      changed = changed i;
      budget = budget i;
      overflow = overflow i;
      contradictory = contradictory i;
      no_last = no_last i;
      no_correction = no_correction i;
    } in
    is ∙ ap (record_counts rows) same
records_counted (Err e) rows reasons changes left_out changes_are left_out_are clean changed budget overflow contradictory no_last no_correction = tt

-- ---- one place more

-- the number of a row more
pub range_more : (n : ℕ) → range_with_len 0 n ++ n ∷ [] ≡ range_with_len 0 (n + 1)
range_more n = ap (λ (ks : List ℕ). ks ++ n ∷ []) (sym (map-id (range_with_len 0 n)))
    ∙ sym (map-range_with_len_more (λ (k : ℕ). k) 0 n n (omega arith)) ∙ map-id (range_with_len 0 (n + 1))

-- the size of a place more, behind those of the places from i on
pub numbered_more : (i j : ℕ) (sizes : List ℕ) (size : ℕ) → i + length sizes ≡ j
    → numbered i (sizes ++ size ∷ []) ≡ numbered i sizes ++ record { number = j; size = size } ∷ []
numbered_more i j [] size place = ap (λ (n : ℕ). record { number = n; size = size } ∷ []) (omega (arith, place))
numbered_more i j (first ∷ sizes) size place =
    ap (λ (amounts : List Amount). record { number = i; size = first } ∷ amounts) (numbered_more (suc i) j sizes size (omega (arith, place)))

module _ (release : ReleaseParts) where
  -- the values of a field more, behind those of the fields from number f on
  pub values_more : (f j : ℕ) (fields : List Field) (field : Field) (values : List FieldValues) (value : FieldValues) → f + length fields ≡ j
      → AreValues release f fields values
      → AreValuesOf release j field.kind value
      → AreValues release f (fields ++ field ∷ []) (values ++ value ∷ [])
  values_more f j [] field [] value place are is =
      let same : j ≡ f = omega (arith, place) in
      (subst (λ (n : ℕ). AreValuesOf release n field.kind value) same is, tt)
  values_more f j [] field (first ∷ values) value place are is = absurd are
  values_more f j (one ∷ fields) field [] value place are is = absurd are
  values_more f j (one ∷ fields) field (first ∷ values) value place are is =
      (are.0, values_more (suc f) j fields field values value (omega (arith, place)) are.1 is)
