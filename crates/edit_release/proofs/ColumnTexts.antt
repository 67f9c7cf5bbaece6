-- The texts of a released row, column by column: those of the changed fields, and else those that were read.
use Rattle.std.proofs.Common.{◌≡◌, ◌≢◌, ◌∙◌, ap, refl, ℕ, zero, suc, ◌+◌, ◌<◌, ◌==◌, ◌&&◌, ◌||◌, Bool, true, false, cond, nat_lt, if◌then◌else◌, List, [], ◌∷◌}
use Rattle.std.proofs.Common.{length, get_or, AllPairs, Option, Some, None, arith}
use Rattle.std.specs.List.{position}
use Rattle.std.specs.Str.{bytes_eq}
use Rattle.std.proofs.lemmas.Bool.{ne_eqb}
use Rattle.std.proofs.lemmas.Bool.Decides.{Decides-eqb, Decides-ltb}
use Rattle.std.proofs.lemmas.List.Quantifiers.{position-Some}
use Rattle.std.proofs.lemmas.List.Sums.{position_or_len_is}
use Rattle.std.proofs.lemmas.Slice.Eq.{bytes_eq-Decides}
use Rattle.edit_model.specs.declared.field.Field.{Field}
use Rattle.edit_model.specs.declared.value.Value.{Value}
use Rattle.edit_line.proofs.BoolLaws.{true-both, true-first, true-second}
use Rattle.edit_report.specs.Layouts.{field_in}
use Rattle.edit_report.specs.Released.{column_text, given_text, texts_from}
use Rattle.cert_check.specs.Released.{same_from, stands_changed}

-- ---- places

-- the first that passes is found at its place
pub found-first : {X : Type 0} (test : X → Bool) (xs : List X) (i : ℕ) (d : X) → i < length xs → ((k : ℕ) → k < i → test (get_or xs k d) ≡ false)
    → test (get_or xs i d) ≡ true → position test xs ≡ Some i
found-first test xs i d below before here =
    let is = position_or_len_is test xs i d (omega (arith, below)) before (λ _. here) in
    ap (λ n. cond (nat_lt n (length xs)) (Some n) None) is ∙ ap (λ b. cond b (Some i) None) ((Decides-ltb i (length xs)).1 below)

-- of distinct columns, each is that of one field
pub field-found : (columns : List ℕ) (f : ℕ) → AllPairs (λ (c : ℕ) (d : ℕ). c ≢ d) columns → f < length columns → field_in columns (get_or columns f 0) ≡ Some f
field-found columns f distinct below =
    found-first (λ c. c == get_or columns f 0) columns f 0 below (λ k earlier. ne_eqb (get_or columns k 0) (get_or columns f 0) (distinct k f 0 earlier below))
    ((Decides-eqb (get_or columns f 0) (get_or columns f 0)).1 refl)

-- ---- the texts

module _ (fields : List Field) (columns : List ℕ) (changed : ℕ → Bool) (new : List Value) where
  -- the text of a column
  pub texts-at : (j k : ℕ) (reads : List (List ℕ)) → k < length reads → get_or (texts_from fields columns changed new j reads) k []
      ≡ column_text fields changed new (field_in columns (j + k)) (get_or reads k [])
  texts-at j k [] below = absurd (omega arith)
  texts-at j zero (read ∷ reads) below =
      let own : j ≡ j + 0 = omega arith in
      ap (λ n. column_text fields changed new (field_in columns n) read) own
  texts-at j (suc k) (read ∷ reads) below =
      let next : suc j + k ≡ j + suc k = omega arith in
      texts-at (suc j) k reads (omega arith) ∙ ap (λ n. column_text fields changed new (field_in columns n) (get_or reads k [])) next

  -- that of a changed field
  pub changed-text : (f : ℕ) (reads : List (List ℕ)) → AllPairs (λ (c : ℕ) (d : ℕ). c ≢ d) columns → f < length columns → get_or columns f 0 < length reads
      → changed f ≡ true
      → get_or (texts_from fields columns changed new 0 reads) (get_or columns f 0) [] ≡ given_text fields new f
  changed-text f reads distinct below within is =
      let own : 0 + get_or columns f 0 ≡ get_or columns f 0 = omega arith in
      texts-at 0 (get_or columns f 0) reads within
      ∙ ap (λ (o : Option ℕ). column_text fields changed new o (get_or reads (get_or columns f 0) []))
      (ap (field_in columns) own ∙ field-found columns f distinct below)
      ∙ ap (λ b. if b then given_text fields new f else get_or reads (get_or columns f 0) []) is

  -- ---- elsewhere nothing is changed

  stands-at : (told : ℕ → Bool) (i f j : ℕ) (some : List ℕ) → f < length some → (get_or some f 0 == j) ≡ true → told (i + f) ≡ true
      → stands_changed told i some j ≡ true
  stands-at told i f j [] below here is = absurd (omega arith)
  stands-at told i zero j (column ∷ some) below here is =
      let own : i ≡ i + 0 = omega arith in
      true-first (told i && (column == j)) (stands_changed told (suc i) some j) (true-both (told i) (column == j) (ap told own ∙ is) here)
  stands-at told i (suc f) j (column ∷ some) below here is =
      let next : suc i + f ≡ i + suc f = omega arith in
      true-second (told i && (column == j)) (stands_changed told (suc i) some j) (stands-at told (suc i) f j some (omega arith) here (ap told next ∙ is))

  module _ (told : ℕ → Bool) (same : (f : ℕ) → told f ≡ changed f) where
    same-text : (j : ℕ) (read : List ℕ) (field : Option ℕ) → field_in columns j ≡ field
        → (bytes_eq (column_text fields changed new field read) read || stands_changed told 0 columns j) ≡ true
    same-text j read None is = true-first (bytes_eq read read) (stands_changed told 0 columns j) ((bytes_eq-Decides read read).1 refl)
    same-text j read (Some f) is = by (changed f) refl
      where
        by : (b : Bool) → changed f ≡ b → (bytes_eq (if b then given_text fields new f else read) read || stands_changed told 0 columns j) ≡ true
        by false e = true-first (bytes_eq read read) (stands_changed told 0 columns j) ((bytes_eq-Decides read read).1 refl)
        by true e =
            let there = position-Some (λ c. c == j) columns f 0 is in
            let own : 0 + f ≡ f = omega arith in
            true-second (bytes_eq (given_text fields new f) read) (stands_changed told 0 columns j)
            (stands-at told 0 f j columns there.0 there.1 (ap told own ∙ same f ∙ e))

    pub same-elsewhere : (j : ℕ) (reads : List (List ℕ)) → same_from told columns j reads (texts_from fields columns changed new j reads) ≡ true
    same-elsewhere j [] = refl
    same-elsewhere j (read ∷ reads) =
        true-both (bytes_eq (column_text fields changed new (field_in columns j) read) read || stands_changed told 0 columns j)
        (same_from told columns (suc j) reads (texts_from fields columns changed new (suc j) reads))
        (same-text j read (field_in columns j) refl) (same-elsewhere (suc j) reads)
