use Rattle.std.proofs.Common.{◌≡◌, ◌∙◌, sym, ap, ℕ, zero, suc, ◌<◌, List, [], ◌∷◌, ◌++◌, length, take, get_or, arith, append_assoc, refl}
use Rattle.csv.specs.Writing.{default_writer, row_text}
use Rattle.record_text.specs.Texts.{records_text}

-- the text of one record more
pub records_text_more : (rows : List (List (List ℕ))) (i : ℕ) (texts : List (List ℕ)) → i < length rows → texts ≡ get_or rows i texts
    → records_text (take i rows) ++ records_text (texts ∷ []) ≡ records_text (take (suc i) rows)
records_text_more [] i texts lt e = absurd (omega arith)
records_text_more (r ∷ rows) zero texts lt e = ap (λ (t : List (List ℕ)). records_text (t ∷ [])) e
records_text_more (r ∷ rows) (suc i) texts lt e =
    append_assoc (row_text default_writer r) (records_text (take i rows)) (records_text (texts ∷ []))
    ∙ ap (λ (bs : List ℕ). row_text default_writer r ++ bs) (records_text_more rows i texts (omega arith) e)

-- the texts of two lists of records
pub records_text-append : (first second : List (List (List ℕ))) → records_text (first ++ second) ≡ records_text first ++ records_text second
records_text-append [] second = refl
records_text-append (texts ∷ first) second =
    ap (λ (bs : List ℕ). row_text default_writer texts ++ bs) (records_text-append first second)
    ∙ sym (append_assoc (row_text default_writer texts) (records_text first) (records_text second))
