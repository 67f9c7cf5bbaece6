-- Rows by their keys, and the table of them.
use Rattle.std.proofs.Common.{◌≡◌, ◌+◌, ◌<◌, ◌≤◌, ℕ, suc, Bool, true, false, cond, if◌then◌else◌, List, [], ◌∷◌, ◌++◌, Option, None, Some, is_some, get_or}
use Rattle.std.proofs.Common.{length, map, take, refl, sym, ap, ◌∙◌, subst, true≢false, arith}
use Rattle.std.proofs.lemmas.List.{length-take-le, take_all, take_more}
use Rattle.std.proofs.lemmas.Slice.Eq.{bytes_eq-Decides}
use Rattle.std.specs.List.{AllByRecursion}
use Rattle.std.specs.Map.{KeepsOthers, lookup}
use Rattle.std.specs.Option.{option_flatten}
use Rattle.std.specs.Str.{bytes_eq}
use Rattle.edit_model.proofs.NameLemmas.{false_unless}
use Rattle.panel_files.specs.Joined.{key_of, only, row_with_key, rows_from}
use Rattle.panel_files.specs.inner.KeyRows.{row_in}
use Rattle.panel_files.specs.inner.KeyEntries.{IsNoted, entry_after, entry_of, row_after}

-- ---- entries

module _ {K V : Type 0} (items : K → List ℕ) where
  -- the entries, with the bytes of their keys
  abbrev pub spelled : List (K × V) → List (List ℕ × V)
  spelled entries = map {B = List ℕ × V} (λ (e : K × V). (items e.0, e.1)) entries

  -- what they have for a key
  pub lookup-spelled : (key : List ℕ) (entries : List (K × V)) → lookup (bytes_eq key) (spelled entries) ≡ lookup (λ k. bytes_eq key (items k)) entries
  lookup-spelled key [] = refl
  lookup-spelled key (e ∷ entries) = ap (λ (found : Option V). cond (bytes_eq key (items e.0)) (Some e.1) found) (lookup-spelled key entries)

module _ {K : Type 0} (items : K → List ℕ) where
  -- the row of a key that is there, and of one that is not, after one more row has it
  pub row-of-known : (key : List ℕ) (entries : List (K × Option ℕ)) (table : List (List ℕ × Option ℕ)) (row : ℕ) → spelled items entries ≡ table
      → is_some (lookup (λ k. bytes_eq key (items k)) entries) ≡ true → None ≡ row_after (lookup (bytes_eq key) table) row
  row-of-known key entries table row are there =
      by (lookup (λ k. bytes_eq key (items k)) entries) there
      ∙ ap (λ (found : Option (Option ℕ)). row_after found row) (sym (lookup-spelled items key entries) ∙ ap (lookup (bytes_eq key)) are)
    where
      by : (found : Option (Option ℕ)) → is_some found ≡ true → None ≡ row_after found row
      by None there = absurd (true≢false (sym there))
      by (Some before) there = refl

  pub row-of-new : (key : List ℕ) (entries : List (K × Option ℕ)) (table : List (List ℕ × Option ℕ)) (row : ℕ) → spelled items entries ≡ table
      → is_some (lookup (λ k. bytes_eq key (items k)) entries) ≡ false → Some row ≡ row_after (lookup (bytes_eq key) table) row
  row-of-new key entries table row are missing =
      by (lookup (λ k. bytes_eq key (items k)) entries) missing
      ∙ ap (λ (found : Option (Option ℕ)). row_after found row) (sym (lookup-spelled items key entries) ∙ ap (lookup (bytes_eq key)) are)
    where
      by : (found : Option (Option ℕ)) → is_some found ≡ false → Some row ≡ row_after found row
      by None missing = refl
      by (Some before) missing = absurd (true≢false missing)

  -- the row that is told of a key, by what the entries have for it
  pub row-told : (key : List ℕ) (entries : List (K × Option ℕ)) (table : List (List ℕ × Option ℕ)) (found : Option (Option ℕ)) → spelled items entries ≡ table
      → found ≡ lookup (λ k. bytes_eq key (items k)) entries → option_flatten found ≡ row_in table key
  row-told key entries table found are is = ap option_flatten (is ∙ sym (lookup-spelled items key entries) ∙ ap (lookup (bytes_eq key)) are)

  -- what the entries have for every key after a value is put at one
  at-key : (old new : List (K × Option ℕ)) (k : K) (value : Option ℕ) → lookup (λ j. bytes_eq (items k) (items j)) new ≡ Some value
      → KeepsOthers (λ i j. bytes_eq (items i) (items j)) (λ j. bytes_eq (items k) (items j)) old new → (other : List ℕ)
      → lookup (λ j. bytes_eq other (items j)) new ≡ (if bytes_eq (items k) other then Some value else lookup (λ j. bytes_eq other (items j)) old)
  unfolding KeepsOthers
  at-key old new k value here others other = by (bytes_eq (items k) other) refl
    where
      by : (b : Bool) → bytes_eq (items k) other ≡ b
          → lookup (λ j. bytes_eq other (items j)) new ≡ (if b then Some value else lookup (λ j. bytes_eq other (items j)) old)
      by true told = subst (λ (o : List ℕ). lookup (λ j. bytes_eq o (items j)) new ≡ Some value) ((bytes_eq-Decides (items k) other).0 told) here
      by false told =
          others (λ j. bytes_eq other (items j))
          (λ i j same. ap (λ (o : List ℕ). bytes_eq o (items j)) ((bytes_eq-Decides other (items i)).0 same))
          (λ j same. false_unless (bytes_eq other (items j)) (λ found.
          let equal : items k ≡ other = (bytes_eq-Decides (items k) (items j)).0 same ∙ sym ((bytes_eq-Decides other (items j)).0 found) in
          true≢false (sym ((bytes_eq-Decides (items k) other).1 equal) ∙ told)))

  -- a row is noted
  pub noted : (key : List ℕ) (row : ℕ) (table : List (List ℕ × Option ℕ)) (old new : List (K × Option ℕ)) (k : K) (value : Option ℕ)
      → spelled items old ≡ table → items k ≡ key → value ≡ row_after (lookup (bytes_eq key) table) row
      → lookup (λ j. bytes_eq (items k) (items j)) new ≡ Some value
      → KeepsOthers (λ i j. bytes_eq (items i) (items j)) (λ j. bytes_eq (items k) (items j)) old new
      → IsNoted table (spelled items new) key row
  noted key row table old new k value are spells is here others other =
      lookup-spelled items other new ∙ at-key old new k value here others other
      ∙ ap (λ (name : List ℕ). if bytes_eq name other then Some value else lookup (λ j. bytes_eq other (items j)) old) spells
      ∙ ap (λ (v : Option ℕ). if bytes_eq key other then Some v else lookup (λ j. bytes_eq other (items j)) old) is
      ∙ ap (λ (found : Option (Option ℕ)). if bytes_eq key other then entry_after (lookup (bytes_eq key) table) row else found)
      (sym (lookup-spelled items other old) ∙ ap (lookup (bytes_eq other)) are)

-- ---- rows

-- one row more
entry-push : (rows : List ℕ) (row : ℕ) → entry_of (rows ++ row ∷ []) ≡ entry_after (entry_of rows) row
entry-push [] row = refl
entry-push (i ∷ []) row = refl
entry-push (i ∷ j ∷ rows) row = refl

-- the one row of an entry is the one row
entry-only : (rows : List ℕ) → option_flatten (entry_of rows) ≡ only rows
entry-only [] = refl
entry-only (i ∷ []) = refl
entry-only (i ∷ j ∷ rows) = refl

module _ (column : ℕ) (key : List ℕ) where
  -- with the texts of one row more
  rows-push : (i : ℕ) (row_texts : List (List (List ℕ))) (texts : List (List ℕ))
      → rows_from i column key (row_texts ++ texts ∷ [])
      ≡ (if bytes_eq (key_of column texts) key then rows_from i column key row_texts ++ (i + length row_texts) ∷ [] else rows_from i column key row_texts)
  rows-push i [] texts = ap (λ (n : ℕ). if bytes_eq (key_of column texts) key then n ∷ [] else []) (omega arith)
  rows-push i (first ∷ row_texts) texts =
      ap (λ (rows : List ℕ). if bytes_eq (key_of column first) key then i ∷ rows else rows) (rows-push (suc i) row_texts texts)
      ∙ by (bytes_eq (key_of column first) key) (bytes_eq (key_of column texts) key) (rows_from (suc i) column key row_texts)
      ∙ ap (λ (n : ℕ). if bytes_eq (key_of column texts) key then rows_from i column key (first ∷ row_texts) ++ n ∷ []
      else rows_from i column key (first ∷ row_texts)) (omega arith)
    where
      by : (a b : Bool) (rows : List ℕ)
          → (if a then i ∷ (if b then rows ++ (suc i + length row_texts) ∷ [] else rows) else (if b then rows ++ (suc i + length row_texts) ∷ [] else rows))
          ≡ (if b then (if a then i ∷ rows else rows) ++ (suc i + length row_texts) ∷ [] else (if a then i ∷ rows else rows))
      by true true rows = refl
      by true false rows = refl
      by false true rows = refl
      by false false rows = refl

  -- the rows are among those that there are
  rows-within : (i : ℕ) (row_texts : List (List (List ℕ))) → AllByRecursion (λ row. row < i + length row_texts) (rows_from i column key row_texts)
  rows-within i [] = tt
  rows-within i (texts ∷ row_texts) =
      by (bytes_eq (key_of column texts) key)
      (subst (λ (n : ℕ). AllByRecursion (λ row. row < n) (rows_from (suc i) column key row_texts)) (omega arith) (rows-within (suc i) row_texts))
    where
      by : (b : Bool) → AllByRecursion (λ row. row < i + suc (length row_texts)) (rows_from (suc i) column key row_texts)
          → AllByRecursion (λ row. row < i + suc (length row_texts))
          (if b then i ∷ rows_from (suc i) column key row_texts else rows_from (suc i) column key row_texts)
      by true rest = (omega arith, rest)
      by false rest = rest

  -- a row that is found is one of them
  pub row-within : (row_texts : List (List (List ℕ))) (row : ℕ) → row_with_key column key row_texts ≡ Some row → row < length row_texts
  row-within row_texts row found = by (rows_from 0 column key row_texts) (rows-within 0 row_texts) found
    where
      by : (rows : List ℕ) → AllByRecursion (λ row. row < 0 + length row_texts) rows → only rows ≡ Some row → row < length row_texts
      by [] within found = absurd (cc)
      by (i ∷ []) within found = let same : i ≡ row = cc in omega (arith, within.0, same)
      by (i ∷ j ∷ rows) within found = absurd (cc)

-- ---- the table of the first rows

module _ (column : ℕ) (row_texts : List (List (List ℕ))) where
  -- the table has the entries of the first n rows
  abbrev pub IsTableTo : ℕ → List (List ℕ × Option ℕ) → Type 0
  IsTableTo n table = (key : List ℕ) → lookup (bytes_eq key) table ≡ entry_of (rows_from 0 column key (take n row_texts))

  -- of one row more
  pub table-more : (n : ℕ) (table after : List (List ℕ × Option ℕ)) → n < length row_texts → IsTableTo n table
      → IsNoted table after (key_of column (get_or row_texts n [])) n → IsTableTo (n + 1) after
  table-more n table after below before noted key =
      let many : length (take n row_texts) ≡ n = length-take-le n row_texts (omega (arith, below)) in
      let rows = rows_from 0 column key (take n row_texts) in
      noted key ∙ by (bytes_eq own key) refl
      ∙ ap (λ (i : ℕ). entry_of (if bytes_eq own key then rows ++ i ∷ [] else rows)) (omega (arith, many))
      ∙ ap entry_of (sym (rows-push column key 0 (take n row_texts) (get_or row_texts n [])))
      ∙ ap (λ (texts : List (List (List ℕ))). entry_of (rows_from 0 column key texts)) (sym (take_more row_texts n [] below))
    where
      own : List ℕ
      own = key_of column (get_or row_texts n [])

      by : (b : Bool) → bytes_eq own key ≡ b → (if b then entry_after (lookup (bytes_eq own) table) n else lookup (bytes_eq key) table)
          ≡ entry_of (if b then rows_from 0 column key (take n row_texts) ++ n ∷ [] else rows_from 0 column key (take n row_texts))
      by true told =
          ap (λ (found : Option (Option ℕ)). entry_after found n)
          (before own ∙ ap (λ (k : List ℕ). entry_of (rows_from 0 column k (take n row_texts))) ((bytes_eq-Decides own key).0 told))
          ∙ sym (entry-push (rows_from 0 column key (take n row_texts)) n)
      by false told = before key

  -- of all rows
  pub table-all : (n : ℕ) (table : List (List ℕ × Option ℕ)) → length row_texts ≤ n → IsTableTo n table → (key : List ℕ)
      → row_in table key ≡ row_with_key column key row_texts
  table-all n table past are key =
      ap option_flatten (are key) ∙ entry-only (rows_from 0 column key (take n row_texts))
      ∙ ap (λ (texts : List (List (List ℕ))). only (rows_from 0 column key texts)) (take_all n row_texts past)
