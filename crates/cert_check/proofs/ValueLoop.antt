use Rattle.std.proofs.Common.{◌≡◌, ℕ, zero, suc, ◌<◌, ◌≤◌, Bool, List, [], ◌∷◌, ◌++◌, IsSomeAnd, Some, append-nil, drop, length, slice_get, refl, sym, ap, ◌∙◌}
use Rattle.std.proofs.Common.{subst, arith}
use Rattle.std.proofs.lemmas.List.{append_assoc, drop_all}
use Rattle.edit_model.specs.Rows.{value_of}
use Rattle.edit_model.specs.declared.field.Field.{Field}
use Rattle.edit_model.specs.declared.value.Value.{Value}
use Rattle.cert_check.specs.Released.{AreValuesFrom, IsValueOf}

-- The values that a released row gives, field by field.

module _ (changed : ℕ → Bool) (text : ℕ → List ℕ) where
  -- the value of the field at place j, the k-th to be given one
  abbrev pub IsValueIn : List Field → List Value → ℕ → ℕ → Value → Type 0
  IsValueIn fields row k j v = IsSomeAnd (slice_get fields j) (λ (field : Field). IsValueOf (changed k) field.kind (text k) (value_of row j) v)

  -- the values of the fields from a place on are one, and those behind it
  split-at : (k j : ℕ) (fields : List Field) (row rest : List Value) → j < length fields → length row ≡ length fields
      → AreValuesFrom changed text k (drop j fields) (drop j row) rest
      → (v : Value) × (later : List Value) × (rest ≡ v ∷ later) × IsValueIn fields row k j v
      × AreValuesFrom changed text (suc k) (drop (suc j) fields) (drop (suc j) row) later
  split-at k j [] row rest below long are = absurd (omega arith)
  split-at k j (field ∷ fields) [] rest below long are = absurd (omega arith)
  split-at k zero (field ∷ fields) (read ∷ row) [] below long are = absurd are
  split-at k zero (field ∷ fields) (read ∷ row) (v ∷ later) below long are = (v, later, refl, are.0, are.1)
  split-at k (suc j) (field ∷ fields) (read ∷ row) rest below long are = split-at k j fields row rest (omega arith) (omega arith) are

  join-at : (k j : ℕ) (fields : List Field) (row later : List Value) (v : Value) → j < length fields → length row ≡ length fields → IsValueIn fields row k j v
      → AreValuesFrom changed text (suc k) (drop (suc j) fields) (drop (suc j) row) later → AreValuesFrom changed text k (drop j fields) (drop j row)
      (v ∷ later)
  join-at k j [] row later v below long is are = absurd (omega arith)
  join-at k j (field ∷ fields) [] later v below long is are = absurd (omega arith)
  join-at k zero (field ∷ fields) (read ∷ row) later v below long is are = (is, are)
  join-at k (suc j) (field ∷ fields) (read ∷ row) later v below long is are = join-at k j fields row later v (omega arith) (omega arith) is are

-- the values of the first fields, so many, are these and no others
pub record IsBegun (changed : ℕ → Bool) (text : ℕ → List ℕ) (fields : List Field) (row : List Value) (i : ℕ) (values : List Value) : Type 0 where
  pub builds : (rest : List Value) → AreValuesFrom changed text i (drop i fields) (drop i row) rest → AreValuesFrom changed text 0 fields row (values ++ rest)
  pub splits : (new : List Value) → AreValuesFrom changed text 0 fields row new → (rest : List Value) × (new ≡ values ++ rest)
      × AreValuesFrom changed text i (drop i fields) (drop i row) rest

module _ (changed : ℕ → Bool) (text : ℕ → List ℕ) (fields : List Field) (row : List Value) where
  module _ (i : ℕ) (values : List Value) (long : length row ≡ length fields) (begun : IsBegun changed text fields row i values) where
    -- one value more
    pub begun-more : (v : Value) → i < length fields → IsValueIn changed text fields row i i v
        → ((w : Value) → IsValueIn changed text fields row i i w → Some v ≡ Some w) → IsBegun changed text fields row (suc i) (values ++ v ∷ [])
    begun-more v below is only = record {
      builds = λ rest are. subst (λ (vs : List Value). AreValuesFrom changed text 0 fields row vs) (sym (append_assoc values (v ∷ []) rest))
          (begun.builds (v ∷ rest) (join-at changed text i i fields row rest v below long is are));
      splits = λ new are.
          let (rest, same, later) = begun.splits new are in
          let (w, behind, opened, held, left) = split-at changed text i i fields row rest below long later in
          let own : v ≡ w = cc (only w held) in (
            behind,
            same ∙ ap (λ (vs : List Value). values ++ vs) (opened ∙ ap (λ (u : Value). u ∷ behind) (sym own))
                ∙ sym (append_assoc values (v ∷ []) behind),
            left,
          );
    }

    -- a field without a value
    pub begun-stuck : i < length fields → ((w : Value) → ¬ IsValueIn changed text fields row i i w) → (new : List Value)
        → ¬ AreValuesFrom changed text 0 fields row new
    begun-stuck below none new are =
        let (rest, same, later) = begun.splits new are in
        let (w, behind, opened, held, left) = split-at changed text i i fields row rest below long later in none w held

    ended : (rest : List Value) → AreValuesFrom changed text i [] [] rest → rest ≡ []
    ended [] are = refl
    ended (v ∷ rest) are = absurd are

    -- all fields have their values
    pub begun-all : length fields ≤ i → AreValuesFrom changed text 0 fields row values × ((new : List Value) → AreValuesFrom changed text 0 fields row new
        → values ≡ new)
    begun-all past =
        let no_field : drop i fields ≡ [] = drop_all i fields past in
        let no_value : drop i row ≡ [] = drop_all i row (omega arith) in (
          subst (λ (vs : List Value). AreValuesFrom changed text 0 fields row vs) (append-nil values) (begun.builds [] (rw (no_field, no_value) tt)),
          λ new are.
              let (rest, same, later) = begun.splits new are in
              let none : rest ≡ [] = ended rest (rw (no_field, no_value) at later) in
              sym (same ∙ ap (λ (vs : List Value). values ++ vs) none ∙ append-nil values),
        )
