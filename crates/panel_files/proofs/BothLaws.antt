-- The records and the columns of two files, as those who join them need them.
use Rattle.std.proofs.Common.{◌≡◌, ◌+◌, ◌<◌, ℕ, zero, suc, IsSomeAnd, List, [], ◌∷◌, ◌++◌, Option, None, Some, get_or, length, map, take, refl, ap, ◌∙◌}
use Rattle.std.proofs.Common.{MatchOption, arith}
use Rattle.std.proofs.lemmas.List.{length-map, take_more}
use Rattle.std.specs.Option.{option_map_or}
use Rattle.edit_model.specs.declared.field.Field.{Field}
use Rattle.edit_model.specs.declared.value.Value.{Value}
use Rattle.edit_model.specs.declared.value.Value.TheVariants.{Bad}
use Rattle.panel_files.proofs.JoinedLaws.{joined-length}
use Rattle.panel_files.proofs.PartLaws.{flags-length}
use Rattle.panel_files.specs.Joined.{PanelFiles, both_columns, both_rows, both_rows_of, both_values, joined, key_of, last_values, row_with_key}
use Rattle.panel_files.specs.LastFields.{flagged, flags_of, last_fields, own_fields, under_last_name}

-- there is a column for each field
pub both-columns-length : (fields : List Field) (set : ℕ) (columns : List ℕ) (past : ℕ) → length columns ≡ length (own_fields fields set)
    → length (both_columns fields set columns past) ≡ length fields
both-columns-length fields set columns past long =
    let part = flagged (flags_of set fields) fields in
    joined-length (flags_of set fields) fields columns (map (λ (field : Field). past) (last_fields fields set)) (flags-length set 0 fields) long
    (length-map (last_fields fields set) (λ (field : Field). past) ∙ length-map part under_last_name)

-- the values of the last fields, where the row of this number is given or none is
pub given-values : {R : Type 0} (read : R → List Value) (fields : List Field) (rows : List (List Value)) (row : Option ℕ) (last : Option R)
    → MatchOption row (last ≡ None) (λ j. IsSomeAnd last (λ given. read given ≡ get_or rows j []))
    → option_map_or read last (map (λ (field : Field). Bad) fields) ≡ last_values fields rows row
given-values read fields rows None None is = refl
given-values read fields rows None (Some given) is = absurd (cc)
given-values read fields rows (Some j) None is = absurd is
given-values read fields rows (Some j) (Some given) is = is

module _ (fields : List Field) (set : ℕ) (files : PanelFiles) where
  -- the values at all fields, where the row of the last period with the record's key is given or none is
  pub values-are : {R : Type 0} (read : R → List Value) (texts : List (List ℕ)) (own : List Value) (last : Option R)
      → MatchOption (row_with_key files.last_key (key_of files.own_key texts) files.last.row_texts) (last ≡ None)
      (λ j. IsSomeAnd last (λ given. read given ≡ get_or files.last.rows j []))
      → joined (flags_of set fields) own (option_map_or read last (map (λ (field : Field). Bad) (last_fields fields set)))
      ≡ both_values fields set files texts own
  values-are read texts own last is =
      ap (λ (values : List Value). joined (flags_of set fields) own values)
      (given-values read (last_fields fields set) files.last.rows (row_with_key files.last_key (key_of files.own_key texts) files.last.row_texts) last is)

  -- ---- all records, of as many rows as there are texts

  long-rows : (row_texts : List (List (List ℕ))) (rows : List (List Value)) → length row_texts ≡ length rows
      → length (both_rows_of fields set files row_texts rows) ≡ length rows
  long-rows [] [] long = refl
  long-rows [] (own ∷ rows) long = absurd (omega (arith, long))
  long-rows (texts ∷ row_texts) [] long = absurd (omega (arith, long))
  long-rows (texts ∷ row_texts) (own ∷ rows) long = ap suc (long-rows row_texts rows (omega (arith, long)))

  rows-at : (row_texts : List (List (List ℕ))) (rows : List (List Value)) (n : ℕ) → length row_texts ≡ length rows → n < length rows
      → get_or (both_rows_of fields set files row_texts rows) n [] ≡ both_values fields set files (get_or row_texts n []) (get_or rows n [])
  rows-at row_texts [] n long below = absurd (omega (arith, below))
  rows-at [] (own ∷ rows) n long below = absurd (omega (arith, long))
  rows-at (texts ∷ row_texts) (own ∷ rows) zero long below = refl
  rows-at (texts ∷ row_texts) (own ∷ rows) (suc n) long below = rows-at row_texts rows n (omega (arith, long)) (omega (arith, below))

  rows-take : (row_texts : List (List (List ℕ))) (rows : List (List Value)) (n : ℕ) → length row_texts ≡ length rows
      → take n (both_rows_of fields set files row_texts rows) ≡ both_rows_of fields set files (take n row_texts) (take n rows)
  rows-take row_texts rows zero long = refl
  rows-take [] [] (suc n) long = refl
  rows-take [] (own ∷ rows) (suc n) long = absurd (omega (arith, long))
  rows-take (texts ∷ row_texts) [] (suc n) long = absurd (omega (arith, long))
  rows-take (texts ∷ row_texts) (own ∷ rows) (suc n) long =
      ap (λ (both : List (List Value)). both_values fields set files texts own ∷ both) (rows-take row_texts rows n (omega (arith, long)))

  module _ (same : length files.own.row_texts ≡ length files.own.rows) where
    -- there are as many records as in the file
    pub both-rows-length : length (both_rows fields set files) ≡ length files.own.rows
    both-rows-length = long-rows files.own.row_texts files.own.rows same

    -- the record of a number
    pub both-rows-at : (n : ℕ) → n < length files.own.rows
        → get_or (both_rows fields set files) n [] ≡ both_values fields set files (get_or files.own.row_texts n []) (get_or files.own.rows n [])
    both-rows-at n below = rows-at files.own.row_texts files.own.rows n same below

    -- the first records
    pub both-rows-take : (n : ℕ) → take n (both_rows fields set files) ≡ both_rows_of fields set files (take n files.own.row_texts) (take n files.own.rows)
    both-rows-take n = rows-take files.own.row_texts files.own.rows n same

    -- and one more
    pub both-rows-more : (n : ℕ) → n < length files.own.rows → take (n + 1) (both_rows fields set files)
        ≡ take n (both_rows fields set files) ++ both_values fields set files (get_or files.own.row_texts n []) (get_or files.own.rows n []) ∷ []
    both-rows-more n below =
        take_more (both_rows fields set files) n [] (omega (arith, below, both-rows-length))
        ∙ ap (λ (row : List Value). take n (both_rows fields set files) ++ row ∷ []) (both-rows-at n below)
