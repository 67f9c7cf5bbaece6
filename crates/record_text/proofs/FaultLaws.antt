use Rattle.std.proofs.Common.{◌≡◌, ◌∙◌, sym, ap, refl, ℕ, suc, ◌+◌, ◌<◌, ◌≤◌, ◌==◌, Bool, true, false, if◌then◌else◌, List, [], ◌∷◌, ◌++◌, length, Option, Some}
use Rattle.std.proofs.Common.{None, nat_lt, arith}
use Rattle.std.proofs.lemmas.Bool.Decides.{nat_tests}
use Rattle.std.specs.List.{AllByRecursion}
use Rattle.std.specs.Option.{option_map, option_or}
use Rattle.edit_model.specs.declared.field.Field.{Field}
use Rattle.record_text.specs.Faults.{column_fault, row_fault, sheet_fault}
use Rattle.record_text.specs.inner.Places.{sheet_fault_of}
use Rattle.record_text.specs.Tables.{rows_fault}
use Rattle.record_text.specs.Trimming.{header_of}
use Rattle.record_text.specs.declared.fault.SheetFault.{SheetFault}
use Rattle.record_text.specs.declared.fault.SheetFault.TheVariants.{RowLength, TooManyColumns, TooManyRows}
use Rattle.record_text.specs.declared.table_fault.TableFault.{TableFault}
use Rattle.record_text.specs.declared.table_fault.TableFault.TheVariants as table

-- ---- rows of a table

by_first : (many fits : Bool) (fault other : TableFault) (rest : Option TableFault) → (if many then Some fault else if fits then rest else Some other) ≡ None
    → (many ≡ false) × (fits ≡ true) × (rest ≡ None)
by_first true fits fault other rest e = absurd (cc e)
by_first false true fault other rest e = (refl, refl, e)
by_first false false fault other rest e = absurd (cc e)

module _ (most width : ℕ) where
  -- of faultless rows, the first is not past the last number, it has the right length, and the others are faultless
  first_is_right : (i : ℕ) (texts : List (List ℕ)) (rows : List (List (List ℕ))) → rows_fault most width i (texts ∷ rows) ≡ None
      → ((i == most) ≡ false) × ((length texts == width) ≡ true) × (rows_fault most width (suc i) rows ≡ None)
  first_is_right i texts rows e = by_first (i == most) (length texts == width) table.TooManyRows (table.RowLength i) (rows_fault most width (suc i) rows) e

  -- what is wrong with rows behind faultless ones is what is wrong from there on
  fault_behind : (i : ℕ) (done rest : List (List (List ℕ))) → rows_fault most width i done ≡ None
      → rows_fault most width i (done ++ rest) ≡ rows_fault most width (length done + i) rest
  fault_behind i [] rest e = ap (λ (n : ℕ). rows_fault most width n rest) (omega arith)
  fault_behind i (texts ∷ done) rest e =
      let first = first_is_right i texts done e in
      rw (first.0, first.1) (fault_behind (suc i) done rest first.2 ∙ ap (λ (n : ℕ). rows_fault most width n rest) (omega arith))

  -- a row of the right length, a row of another, and a row too many
  pub faultless_more : (done : List (List (List ℕ))) (texts : List (List ℕ)) → rows_fault most width 0 done ≡ None → length done < most → length texts ≡ width
      → rows_fault most width 0 (done ++ texts ∷ []) ≡ None
  faultless_more done texts e few same =
      let within : (length done + 0 == most) ≡ false = grind (arith, nat_tests) in
      let fits : (length texts == width) ≡ true = grind (arith, nat_tests) in
      fault_behind 0 done (texts ∷ []) e ∙ rw (within, fits) refl

  pub faulty_length : (n : ℕ) (done rest : List (List (List ℕ))) (texts : List (List ℕ)) → rows_fault most width 0 done ≡ None → length done ≡ n → n < most
      → ¬ (length texts ≡ width)
      → rows_fault most width 0 (done ++ texts ∷ rest) ≡ Some (table.RowLength n)
  faulty_length n done rest texts e count few other =
      let at : length done + 0 ≡ n = omega arith in
      let within : (n == most) ≡ false = grind (arith, nat_tests) in
      let differs : (length texts == width) ≡ false = grind (arith, nat_tests) in
      fault_behind 0 done (texts ∷ rest) e ∙ rw (at, within, differs) refl

  pub faulty_count : (done rest : List (List (List ℕ))) (texts : List (List ℕ)) → rows_fault most width 0 done ≡ None → length done ≡ most
      → rows_fault most width 0 (done ++ texts ∷ rest) ≡ Some table.TooManyRows
  faulty_count done rest texts e full =
      let at : length done + 0 ≡ most = omega arith in
      let past : (most == most) ≡ true = grind (arith, nat_tests) in
      fault_behind 0 done (texts ∷ rest) e ∙ rw (at, past) refl

  -- where nothing is wrong, each row has the right length
  pub faultless_equally_long : (i : ℕ) (rows : List (List (List ℕ))) → rows_fault most width i rows ≡ None → AllByRecursion (λ texts. length texts ≡ width) rows
  faultless_equally_long i [] e = tt
  faultless_equally_long i (texts ∷ rows) e =
      let first = first_is_right i texts rows e in
      let fits = first.1 in
      (grind (arith, nat_tests), faultless_equally_long (suc i) rows first.2)

  -- and there are at most so many
  pub faultless_few : (i : ℕ) (rows : List (List (List ℕ))) → i ≤ most → rows_fault most width i rows ≡ None → length rows + i ≤ most
  faultless_few i [] le e = omega arith
  faultless_few i (texts ∷ rows) le e =
      let first = first_is_right i texts rows e in
      let other = first.0 in
      let below : i < most = grind (arith, nat_tests) in
      omega (arith, faultless_few (suc i) rows below first.2)

-- ---- rows of a record file

told_by_first : (many fits : Bool) (i : ℕ) (rest : Option TableFault) (other : Option SheetFault) → other ≡ option_map sheet_fault_of rest
    → (if many then Some TooManyRows else if fits then other else Some (RowLength i)) ≡ option_map sheet_fault_of
    (if many then Some table.TooManyRows else if fits then rest else Some (table.RowLength i))
told_by_first true fits i rest other e = refl
told_by_first false true i rest other e = e
told_by_first false false i rest other e = refl

-- they are the rows of a table of at most 200,000
told_as_sheet_fault : (i width : ℕ) (row_texts : List (List (List ℕ)))
    → row_fault i width row_texts ≡ option_map sheet_fault_of (rows_fault 200000 width i row_texts)
told_as_sheet_fault i width [] = refl
told_as_sheet_fault i width (raw ∷ row_texts) =
    told_by_first (i == 200000) (length raw == width) i (rows_fault 200000 width (suc i) row_texts) (row_fault (suc i) width row_texts)
    (told_as_sheet_fault (suc i) width row_texts)

none_told : (fault : Option TableFault) → option_map sheet_fault_of fault ≡ None → fault ≡ None
none_told None e = refl
none_told (Some fault) e = absurd (cc e)

as_table : (i width : ℕ) (row_texts : List (List (List ℕ))) → row_fault i width row_texts ≡ None → rows_fault 200000 width i row_texts ≡ None
as_table i width row_texts e = none_told (rows_fault 200000 width i row_texts) (sym (told_as_sheet_fault i width row_texts) ∙ e)

-- so what is wrong with the one is wrong with the other
pub fault_of_sheet : (i width : ℕ) (row_texts : List (List (List ℕ))) (fault : TableFault) → rows_fault 200000 width i row_texts ≡ Some fault
    → row_fault i width row_texts ≡ Some (sheet_fault_of fault)
fault_of_sheet i width row_texts fault e = told_as_sheet_fault i width row_texts ∙ ap (option_map sheet_fault_of) e

pub faultless_sheet : (i width : ℕ) (row_texts : List (List (List ℕ))) → rows_fault 200000 width i row_texts ≡ None → row_fault i width row_texts ≡ None
faultless_sheet i width row_texts e = told_as_sheet_fault i width row_texts ∙ ap (option_map sheet_fault_of) e

-- where nothing is wrong, each row is as long as the header, and there are at most 200,000
pub rows_equally_long : (i width : ℕ) (row_texts : List (List (List ℕ))) → row_fault i width row_texts ≡ None
    → AllByRecursion (λ raw. length raw ≡ width) row_texts
rows_equally_long i width row_texts e = faultless_equally_long 200000 width i row_texts (as_table i width row_texts e)

pub few_rows : (i width : ℕ) (row_texts : List (List (List ℕ))) → i ≤ 200000 → row_fault i width row_texts ≡ None → length row_texts + i ≤ 200000
few_rows i width row_texts le e = faultless_few 200000 width i row_texts le (as_table i width row_texts e)

-- the header and the rows of records with nothing wrong
by_parts : (many : Bool) (fault : SheetFault) (a b : Option SheetFault) → (if many then Some fault else option_or a b) ≡ None
    → (many ≡ false) × (a ≡ None) × (b ≡ None)
by_parts true fault a b e = absurd (cc e)
by_parts false fault None b e = (refl, refl, e)
by_parts false fault (Some x) b e = absurd (cc e)

pub faultless_parts : (fields : List Field) (first : List (List ℕ)) (row_texts : List (List (List ℕ))) → sheet_fault fields (first ∷ row_texts) ≡ None
    → (nat_lt 256 (length first) ≡ false) × (column_fault 0 fields (header_of first) ≡ None) × (row_fault 0 (length first) row_texts ≡ None)
faultless_parts fields first row_texts e = by_parts (nat_lt 256 (length first)) TooManyColumns (column_fault 0 fields (header_of first))
    (row_fault 0 (length first) row_texts) e
