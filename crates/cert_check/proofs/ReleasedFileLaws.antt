-- A released file, read as a record file of no fields.
use Rattle.std.proofs.Common.{◌≡◌, ◌∙◌, ℕ, suc, ◌+◌, ◌<◌, ◌≤◌, ◌==◌, false, List, [], ◌∷◌, Option, Some, None, IfNone, IfSome, refl, sym, ap, subst, arith}
use Rattle.std.proofs.Common.{length, map, nat_lt}
use Rattle.std.specs.List.{AllByRecursion}
use Rattle.std.proofs.lemmas.Bool.Decides.{Decides-eqb, nat_tests}
use Rattle.std.proofs.lemmas.List.{length-map}
use Rattle.edit_model.specs.declared.field.Field.{Field}
use Rattle.record_text.specs.Faults.{row_fault}
use Rattle.record_text.specs.Sheets.{IsSheet, SheetParts}
use Rattle.record_text.specs.Values.{AreRows}
use Rattle.record_text.proofs.HeaderLaws.{header_length}
use Rattle.record_text.proofs.SheetLaws.{as_many_row_texts_as_rows, row_texts_as_long_as_header, same_sheet}
use Rattle.cert_check.specs.inner.Rows.{AreInLimits, AreRowsOf}

-- rows as long as the header are not at fault, where there are not too many
not-faulty : (i width : ℕ) (row_texts : List (List (List ℕ))) → length row_texts + i ≤ 200000
    → AllByRecursion (λ (raw : List (List ℕ)). length raw ≡ width) row_texts → row_fault i width row_texts ≡ None
not-faulty i width [] few long = refl
not-faulty i width (raw ∷ row_texts) few long =
    let below : i < 200000 = omega (arith, few) in
    let first : (i == 200000) ≡ false = grind (arith, nat_tests) in
    rw (first, (Decides-eqb (length raw) width).1 long.0) (not-faulty (suc i) width row_texts (omega (arith, few)) long.1)

narrow : (n : ℕ) → n ≤ 256 → nat_lt 256 n ≡ false
narrow n few = grind (arith, nat_tests)

-- rows without values
no-values : (row_texts : List (List (List ℕ))) → AreRows [] [] row_texts (map (λ (raw : List (List ℕ)). []) row_texts)
no-values [] = tt
no-values (raw ∷ row_texts) = (tt, no-values row_texts)

module _ (header : List (List ℕ)) (bytes : List ℕ) (count : ℕ) where
  -- the rows of such a file with this header
  pub sheet-rows : (sheet : SheetParts) → IsSheet [] bytes sheet → sheet.header ≡ header → length sheet.rows ≡ count
      → AreRowsOf header bytes count sheet.row_texts
  sheet-rows sheet is same counted = record {
    first = is.first;
    given = is.given;
    same = sym is.header ∙ same;
    long = subst (λ (h : List (List ℕ)). AllByRecursion (λ (raw : List (List ℕ)). length raw ≡ length h) sheet.row_texts) same
        (row_texts_as_long_as_header [] bytes sheet is);
    counted = as_many_row_texts_as_rows [] bytes sheet is ∙ counted;
  }

  -- such rows make such a file
  sheet-of : (rows : List (List (List ℕ))) → SheetParts
  sheet-of rows = record { header = header; columns = []; row_texts = rows; rows = map (λ (raw : List (List ℕ)). []) rows }

  rows-sheet : AreInLimits header count → (rows : List (List (List ℕ))) → AreRowsOf header bytes count rows → IsSheet [] bytes (sheet-of rows)
  unfolding sheet-of
  rows-sheet limits rows are =
      let wide : length are.first ≡ length header = sym (header_length are.first) ∙ ap (λ (h : List (List ℕ)). length h) are.same in
      let long : AllByRecursion (λ (raw : List (List ℕ)). length raw ≡ length are.first) rows =
      subst (λ (n : ℕ). AllByRecursion (λ (raw : List (List ℕ)). length raw ≡ n) rows) (sym wide) are.long in
      record {
        first = are.first;
        given = are.given;
        faultless = rw (narrow (length are.first) (omega (arith, wide, limits.width)))
            (not-faulty 0 (length are.first) rows (omega (arith, are.counted, limits.few)) long);
        header = sym are.same;
        columns = tt;
        values = no-values rows;
      }

  -- what is kept of a sheet that was read
  pub fits-some : (fields : List Field) → fields ≡ [] → (kept : Option SheetParts) (sheet : SheetParts)
      → IfSome kept (λ k. (k ≡ sheet) × (sheet.header ≡ header) × (length sheet.rows ≡ count)) → IsSheet fields bytes sheet
      → IfSome kept (λ k. AreRowsOf header bytes count k.row_texts)
  fits-some fields none None sheet fits is = tt
  fits-some fields none (Some k) sheet (same, head, counted) is = subst (λ (s : SheetParts). AreRowsOf header bytes count s.row_texts) (sym same)
      (sheet-rows sheet (rw none at is) head counted)

  pub fits-none : AreInLimits header count → (fields : List Field) → fields ≡ [] → (kept : Option SheetParts) (sheet : SheetParts)
      → IfNone kept ((sheet.header ≡ header) → ¬ (length sheet.rows ≡ count))
      → ((other : SheetParts) → IsSheet fields bytes other → other ≡ sheet) → IfNone kept ((rows : List (List (List ℕ))) → ¬ AreRowsOf header bytes count rows)
  unfolding sheet-of
  fits-none limits fields none (Some k) sheet not only = tt
  fits-none limits fields none None sheet not only = λ rows are.
      let same = only (sheet-of rows) (rw none (rows-sheet limits rows are)) in
      not (sym (ap (λ (s : SheetParts). s.header) same)) (sym (ap (λ (s : SheetParts). length s.rows) same) ∙ length-map rows (λ (raw : List (List ℕ)). [])
      ∙ are.counted)

  -- where no sheet is read there are no such rows
  pub unread-none : AreInLimits header count → (fields : List Field) → fields ≡ [] → ((sheet : SheetParts) → ¬ IsSheet fields bytes sheet)
      → (rows : List (List (List ℕ))) → ¬ AreRowsOf header bytes count rows
  unread-none limits fields none unread rows are = unread (sheet-of rows) (rw none (rows-sheet limits rows are))

  -- there are no other such rows
  pub rows-once : AreInLimits header count → (rows others : List (List (List ℕ))) → AreRowsOf header bytes count rows → AreRowsOf header bytes count others
      → rows ≡ others
  unfolding sheet-of
  rows-once limits rows others are also = (same_sheet [] bytes (sheet-of rows) (sheet-of others) (rows-sheet limits rows are) (rows-sheet limits others also)).2
