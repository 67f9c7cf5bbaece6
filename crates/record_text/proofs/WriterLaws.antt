-- What csv's writer has written, after one record.
use Rattle.std.proofs.Common.{◌≡◌, ◌≢◌, ◌==◌, ℕ, Bool, true, false, if◌then◌else◌, List, [], ◌∷◌, ◌++◌, length, Some, Vec, refl, sym, ap, ◌∙◌}
use Rattle.std.proofs.Common.{append-nil}
use Rattle.std.specs.declared.alloc.Global.{Global}
use Rattle.std.specs.Io.KnownBytes.{Appends, Keeps}
use Rattle.csv.specs.Writing.{default_writer, escaped, field_text, fields_text, fields_written, has_written, is_blank, needs_quotes, row_body, row_text}
use Rattle.csv.specs.Writing.{text_written, with_flexible, writer_pending, writer_setup, writer_under}
use Rattle.csv.specs.declared.writer.QuoteStyle.TheVariants as style
use Rattle.csv.specs.declared.writer.Writer.{Writer}
use Rattle.record_text.specs.Texts.{records_text}
use Rattle.record_text.specs.inner.Writers.{IsUnused}

-- ---- the text of a record, whether records may differ in length or not

escaped-same : (bs : List ℕ) → escaped (with_flexible default_writer true) bs ≡ escaped default_writer bs
unfolding escaped
escaped-same [] = refl
escaped-same (b ∷ bs) = ap (λ (rest : List ℕ). if b == 34 then 34 ∷ b ∷ rest else b ∷ rest) (escaped-same bs)

field-same : (text : List ℕ) → field_text (with_flexible default_writer true) text ≡ field_text default_writer text
field-same text = ap (λ (inner : List ℕ). if needs_quotes default_writer text then 34 ∷ (inner ++ 34 ∷ []) else text) (escaped-same text)

fields-same : (texts : List (List ℕ)) → fields_text (with_flexible default_writer true) texts ≡ fields_text default_writer texts
unfolding fields_text
fields-same [] = refl
fields-same (text ∷ texts) = ap (λ (t : List ℕ). 44 ∷ (t ++ fields_text (with_flexible default_writer true) texts)) (field-same text)
    ∙ ap (λ (rest : List ℕ). 44 ∷ (field_text default_writer text ++ rest)) (fields-same texts)

body-same : (texts : List (List ℕ)) → row_body (with_flexible default_writer true) texts ≡ row_body default_writer texts
body-same [] = refl
body-same (text ∷ texts) = ap (λ (t : List ℕ). t ++ fields_text (with_flexible default_writer true) texts) (field-same text)
    ∙ ap (λ (rest : List ℕ). field_text default_writer text ++ rest) (fields-same texts)

blank-same : (texts : List (List ℕ)) → is_blank (with_flexible default_writer true) texts ≡ is_blank default_writer texts
unfolding is_blank
blank-same [] = refl
blank-same (text ∷ []) = ap (λ (t : List ℕ). length t == 0) (field-same text)
blank-same (text ∷ next ∷ texts) = refl

row-same : (texts : List (List ℕ)) → row_text (with_flexible default_writer true) texts ≡ row_text default_writer texts
row-same texts =
    ap (λ (body : List ℕ). body ++ ((if is_blank (with_flexible default_writer true) texts then 34 ∷ 34 ∷ [] else []) ++ 10 ∷ [])) (body-same texts)
    ∙ ap (λ (b : Bool). row_body default_writer texts ++ ((if b then 34 ∷ 34 ∷ [] else []) ++ 10 ∷ [])) (blank-same texts)

-- ---- one record

-- one record is written and handed on: nothing else was
pub written-alone : (unused written now : Writer (Vec ℕ Global)) (texts : List (List ℕ)) → IsUnused unused
    → (fields_written unused ≡ 0 → has_written unused ≡ false → (writer_setup unused).style ≢ style.NonNumeric
    → Appends (text_written (λ v. Some v.items) unused) (text_written (λ v. Some v.items) written) (row_text (writer_setup unused) texts))
    → Keeps (text_written (λ v. Some v.items) written) (text_written (λ v. Some v.items) now) → writer_pending now ≡ []
    → (writer_under now).items ≡ records_text (texts ∷ [])
written-alone unused written now texts is appends keeps pending =
    sym (append-nil (writer_under now).items) ∙ ap (λ (bs : List ℕ). (writer_under now).items ++ bs) (sym pending) ∙ keeps
    ∙ appends is.none_begun is.none_shown plain
    ∙ ap (λ (bs : List ℕ). ((writer_under unused).items ++ bs) ++ row_text (writer_setup unused) texts) is.none_pending
    ∙ ap (λ (bs : List ℕ). (bs ++ []) ++ row_text (writer_setup unused) texts) is.none_under
    ∙ ap (λ s. row_text s texts) is.setup ∙ row-same texts ∙ sym (append-nil (row_text default_writer texts))
  where
    plain : (writer_setup unused).style ≢ style.NonNumeric
    plain = rw is.setup (λ e. cc e)
