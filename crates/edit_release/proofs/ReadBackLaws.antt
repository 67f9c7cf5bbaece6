-- A written record file is read back as it was.
use Rattle.std.proofs.Common.{◌≡◌, ◌∙◌, sym, ap, subst, refl, ℕ, ◌≤◌, ◌==◌, ◌&&◌, Bool, true, false, List, [], ◌∷◌, ◌++◌, length, None, arith, append_assoc}
use Rattle.std.proofs.lemmas.Bool.Decides.{nat_tests}
use Rattle.std.specs.List.{AllByRecursion}
use Rattle.csv.proofs.RoundTrip.{read-write}
use Rattle.csv.specs.Machine.{next_record}
use Rattle.csv.specs.Reading.{AreRecords, Reached, default_config, is_bom, strip_bom}
use Rattle.csv.specs.Writing.{default_writer, field_text, fields_text, is_blank, needs_quotes, read_back, row_text}
use Rattle.csv.specs.declared.parser.State.TheVariants as st
use Rattle.edit_model.specs.declared.field.Field.{Field}
use Rattle.edit_line.proofs.BoolLaws.{and_false}
use Rattle.record_text.specs.Sheets.{AreRecordsOf, IsSheet, SheetParts}
use Rattle.record_text.specs.Texts.{records_text}
use Rattle.record_text.specs.Trimming.{header_of, without_marks}

-- ---- a header has no byte order mark at its front

by_mark : (a b c : ℕ) (rest : List ℕ) (mark : Bool) → is_bom a b c ≡ mark → without_marks (without_marks rest) ≡ without_marks rest
    → without_marks (without_marks (a ∷ b ∷ c ∷ rest)) ≡ without_marks (a ∷ b ∷ c ∷ rest)
by_mark a b c rest true is later = rw is later
by_mark a b c rest false is later = rw (is, is) refl

marks_gone : (text : List ℕ) → without_marks (without_marks text) ≡ without_marks text
marks_gone [] = refl
marks_gone (a ∷ []) = refl
marks_gone (a ∷ b ∷ []) = refl
marks_gone (a ∷ b ∷ c ∷ rest) = by_mark a b c rest (is_bom a b c) refl (marks_gone rest)

pub header_of_header : (texts : List (List ℕ)) → header_of (header_of texts) ≡ header_of texts
header_of_header [] = refl
header_of_header (text ∷ texts) = ap (λ (t : List ℕ). t ∷ texts) (marks_gone text)

pub sheet_header_kept : (fields : List Field) (bytes : List ℕ) (sheet : SheetParts) → IsSheet fields bytes sheet → header_of sheet.header ≡ sheet.header
sheet_header_kept fields bytes sheet is = rw is.header (header_of_header is.first)

-- ---- a written header does not begin with a mark

second_differs : (x y z : Bool) → y ≡ false → (x && y && z) ≡ false
second_differs x y z e = rw (e, and_false x) refl

third_differs : (x y z : Bool) → z ≡ false → (x && y && z) ≡ false
third_differs x y z e = rw e (and_false (x && y))

stripped_if_none : (a b c : ℕ) (rest : List ℕ) → is_bom a b c ≡ false → strip_bom (a ∷ b ∷ c ∷ rest) ≡ a ∷ b ∷ c ∷ rest
unfolding strip_bom
stripped_if_none a b c rest none = rw none refl

-- another byte stands first
stripped_first : (a : ℕ) (rest : List ℕ) → (a == 0xEF) ≡ false → strip_bom (a ∷ rest) ≡ a ∷ rest
unfolding strip_bom
stripped_first a [] other = refl
stripped_first a (b ∷ []) other = refl
stripped_first a (b ∷ c ∷ rest) other = rw other refl

-- or second
stripped_second : (a b : ℕ) (rest : List ℕ) → (b == 0xBB) ≡ false → strip_bom (a ∷ b ∷ rest) ≡ a ∷ b ∷ rest
unfolding strip_bom
stripped_second a b [] other = refl
stripped_second a b (c ∷ rest) other = stripped_if_none a b c rest (second_differs (a == 0xEF) (b == 0xBB) (c == 0xBF) other)

-- a text without a mark at its front is no shorter than without it
marks_shorten : (text : List ℕ) → length (without_marks text) ≤ length text
marks_shorten [] = omega arith
marks_shorten (a ∷ []) = omega arith
marks_shorten (a ∷ b ∷ []) = omega arith
marks_shorten (a ∷ b ∷ c ∷ rest) = by (is_bom a b c) refl (marks_shorten rest)
  where
    by : (mark : Bool) → is_bom a b c ≡ mark → length (without_marks rest) ≤ length rest → length (without_marks (a ∷ b ∷ c ∷ rest)) ≤ length (a ∷ b ∷ c ∷ rest)
    by true is later = rw is (omega arith)
    by false is later = rw is (omega arith)

no_mark : (a b c : ℕ) (rest : List ℕ) (mark : Bool) → is_bom a b c ≡ mark → without_marks (a ∷ b ∷ c ∷ rest) ≡ a ∷ b ∷ c ∷ rest → is_bom a b c ≡ false
no_mark a b c rest true is kept =
    let same : without_marks rest ≡ a ∷ b ∷ c ∷ rest = rw is at kept in
    let long : length (without_marks rest) ≡ length (a ∷ b ∷ c ∷ rest) = ap (λ (t : List ℕ). length t) same in
    absurd (omega (arith, marks_shorten rest))
no_mark a b c rest false is kept = is

-- what stands behind the first text of a record is no part of a mark
record Behind (text : List ℕ) : Type 0 where
  first : ℕ
  rest : List ℕ
  is : text ≡ first ∷ rest
  second : (first == 0xBB) ≡ false
  third : (first == 0xBF) ≡ false

behind_first : (texts : List (List ℕ)) (tail : List ℕ) → Behind (fields_text default_writer texts ++ 10 ∷ tail)
unfolding fields_text
behind_first [] tail = record { first = 10; rest = tail; is = refl; second = refl; third = refl }
behind_first (text ∷ texts) tail = record { first = 44; rest = _; is = refl; second = refl; third = refl }

stripped_plain : (a : ℕ) (text tail : List ℕ) → without_marks (a ∷ text) ≡ a ∷ text → Behind tail → strip_bom ((a ∷ text) ++ tail) ≡ (a ∷ text) ++ tail
stripped_plain a [] tail kept behind = rw behind.is (stripped_second a behind.first behind.rest behind.second)
stripped_plain a (b ∷ []) tail kept behind =
    rw behind.is (stripped_if_none a b behind.first behind.rest (third_differs (a == 0xEF) (b == 0xBB) (behind.first == 0xBF) behind.third))
stripped_plain a (b ∷ c ∷ rest) tail kept behind = stripped_if_none a b c (rest ++ tail) (no_mark a b c rest (is_bom a b c) refl kept)

row_opened : (text : List ℕ) (texts : List (List ℕ)) (tail : List ℕ) → is_blank default_writer (text ∷ texts) ≡ false
    → row_text default_writer (text ∷ texts) ++ tail ≡ field_text default_writer text ++ (fields_text default_writer texts ++ 10 ∷ tail)
row_opened text texts tail shown = rw shown (append_assoc (field_text default_writer text ++ fields_text default_writer texts) (10 ∷ []) tail
    ∙ append_assoc (field_text default_writer text) (fields_text default_writer texts) (10 ∷ tail))

by_quotes : (a : ℕ) (text : List ℕ) (texts : List (List ℕ)) (tail : List ℕ) (quotes : Bool) → needs_quotes default_writer (a ∷ text) ≡ quotes
    → without_marks (a ∷ text) ≡ a ∷ text
    → strip_bom (field_text default_writer (a ∷ text) ++ (fields_text default_writer texts ++ 10 ∷ tail)) ≡ field_text default_writer (a ∷ text)
    ++ (fields_text default_writer texts ++ 10 ∷ tail)
by_quotes a text texts tail true needs kept = rw needs (stripped_first 34 _ refl)
by_quotes a text texts tail false needs kept = rw needs (stripped_plain a text (fields_text default_writer texts ++ 10 ∷ tail) kept (behind_first texts tail))

some_bytes : (b : ℕ) (bs : List ℕ) → (length (b ∷ bs) == 0) ≡ false
some_bytes b bs = grind (arith, nat_tests)

shows_byte : (a : ℕ) (text : List ℕ) (texts : List (List ℕ)) (quotes : Bool) → needs_quotes default_writer (a ∷ text) ≡ quotes
    → is_blank default_writer ((a ∷ text) ∷ texts) ≡ false
unfolding is_blank
shows_byte a text [] true needs = rw needs (some_bytes 34 _)
shows_byte a text [] false needs = rw needs (some_bytes a text)
shows_byte a text (next ∷ texts) quotes needs = refl

stripped_header : (header : List (List ℕ)) (tail : List ℕ) → 1 ≤ length header → header_of header ≡ header → strip_bom (row_text default_writer header ++ tail)
    ≡ row_text default_writer header ++ tail
unfolding is_blank fields_text
stripped_header [] tail some kept = absurd (omega arith)
stripped_header ([] ∷ []) tail some kept = stripped_first 34 _ refl
stripped_header ([] ∷ next ∷ texts) tail some kept = stripped_first 44 _ refl
stripped_header ((a ∷ text) ∷ texts) tail some kept =
    let front : without_marks (a ∷ text) ≡ a ∷ text = cc kept in
    let opened = row_opened (a ∷ text) texts tail (shows_byte a text texts (needs_quotes default_writer (a ∷ text)) refl) in
    rw opened (by_quotes a text texts tail (needs_quotes default_writer (a ∷ text)) refl front)

-- ---- the records

none_left : next_record default_config st.StartRecord [] [] [] ≡ None
unfolding next_record
none_left = refl

some_back : (texts : List (List ℕ)) → 1 ≤ length texts → texts ≡ read_back texts
some_back [] some = absurd (omega arith)
some_back (text ∷ texts) some = refl

records_read : (width : ℕ) (rows : List (List (List ℕ))) → 1 ≤ width → AllByRecursion (λ (row : List (List ℕ)). length row ≡ width) rows
    → AreRecords default_config st.StartRecord (records_text rows) rows
unfolding Reached
records_read width [] some long = (st.StartRecord, [], (refl, refl), none_left)
records_read width (row ∷ rows) some long =
    let (last, left, reached, ended) = records_read width rows some long.1 in (
      last,
      left,
      ((read_back row, st.StartRecord, records_text rows), read-write row (records_text rows), some_back row (omega (arith, long.0)), reached),
      ended,
    )

-- what is written is read back
pub written-read : (header : List (List ℕ)) (rows : List (List (List ℕ))) → 1 ≤ length header → header_of header ≡ header
    → AllByRecursion (λ (row : List (List ℕ)). length row ≡ length header) rows
    → AreRecordsOf (records_text (header ∷ rows)) (header ∷ rows)
written-read header rows some kept long =
    let once : strip_bom (records_text (header ∷ rows)) ≡ records_text (header ∷ rows) = stripped_header header (records_text rows) some kept in
    let twice : strip_bom (strip_bom (records_text (header ∷ rows))) ≡ records_text (header ∷ rows) = ap strip_bom once ∙ once in
    subst (λ (text : List ℕ). AreRecords default_config st.StartRecord text (header ∷ rows)) (sym twice)
    (records_read (length header) (header ∷ rows) some (refl, long))
