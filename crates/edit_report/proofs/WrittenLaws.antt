-- What is written of one record after the other.
use Rattle.std.proofs.Common.{◌≡◌, ℕ, zero, suc, ◌+◌, ◌<◌, ◌≤◌, List, [], ◌∷◌, ◌++◌, drop, Option, get_or, length, refl, sym, ap, ◌∙◌, append_assoc, subst}
use Rattle.std.proofs.Common.{arith}
use Rattle.std.specs.List.{AllByRecursion}
use Rattle.std.proofs.lemmas.List.{append-nil, drop_all}
use Rattle.edit_model.specs.declared.field.Field.{Field}
use Rattle.edit_model.specs.declared.value.Value.{Value}
use Rattle.bound_cert.proofs.OrderLoop.{at_both}
use Rattle.back_subst.specs.declared.gift.How.{How}
use Rattle.back_subst.specs.declared.gift.How.TheVariants.{Donor}
use Rattle.record_text.specs.Texts.{records_text}
use Rattle.record_text.proofs.WritingLaws.{records_text-append}
use Rattle.edit_report.specs.Reasons.{changed_line, changed_lines, reasons_from, reasons_of}
use Rattle.edit_report.specs.Released.{released_rows, released_of}
use Rattle.edit_report.specs.declared.end.RowEnd.{RowEnd}

-- what holds of each holds of the one at a place
pub each-at : {X : Type 0} (P : X → Type 0) (xs : List X) (i : ℕ) (x : X) → AllByRecursion P xs → i < length xs → x ≡ get_or xs i x → P x
each-at P [] i x all below is = absurd (omega arith)
each-at P (y ∷ xs) zero x all below is = subst P (sym is) all.0
each-at P (y ∷ xs) (suc i) x all below is = each-at P xs i x all.1 (omega arith) is

-- the first records, and then the others
then-rest : (text : List ℕ) (first rest : List (List (List ℕ))) → (text ++ records_text first) ++ records_text rest ≡ text ++ records_text (first ++ rest)
then-rest text first rest = append_assoc text (records_text first) (records_text rest) ∙ ap (λ (bs : List ℕ). text ++ bs) (sym (records_text-append first rest))

-- no records
none-left : (text whole : List ℕ) (rest : List (List (List ℕ))) → rest ≡ [] → text ++ records_text rest ≡ whole → text ≡ whole
none-left text whole rest none before = sym (append-nil text) ∙ ap (λ (rows : List (List (List ℕ))). text ++ records_text rows) (sym none) ∙ before

module _ (fields : List Field) (columns : List ℕ) where
  -- ---- the released rows

  rows-end : (row_texts : List (List (List ℕ))) → released_rows fields columns row_texts [] ≡ []
  rows-end [] = refl
  rows-end (texts ∷ row_texts) = refl

  -- one record more
  pub released-more : (row_texts : List (List (List ℕ))) (ends : List RowEnd) (i : ℕ) (end : RowEnd) (text whole : List ℕ) → i < length row_texts
      → i < length ends → end ≡ get_or ends i end
      → text ++ records_text (released_rows fields columns (drop i row_texts) (drop i ends)) ≡ whole
      → (text ++ records_text (released_of fields columns (get_or row_texts i []) end)) ++ records_text
      (released_rows fields columns (drop (i + 1) row_texts) (drop (i + 1) ends)) ≡ whole
  released-more row_texts ends i end text whole within below is before =
      then-rest text (released_of fields columns (get_or row_texts i []) end) (released_rows fields columns (drop (i + 1) row_texts) (drop (i + 1) ends))
      ∙ ap (λ (e : RowEnd). text ++ records_text (released_of fields columns (get_or row_texts i []) e
      ++ released_rows fields columns (drop (i + 1) row_texts) (drop (i + 1) ends))) is
      ∙ ap (λ (rows : List (List (List ℕ))). text ++ records_text rows) (sym (at_both (released_rows fields columns) row_texts ends i [] end within below))
      ∙ before

  -- and all of them
  pub released-all : (row_texts : List (List (List ℕ))) (ends : List RowEnd) (i : ℕ) (text whole : List ℕ) → length ends ≤ i → text
      ++ records_text (released_rows fields columns (drop i row_texts) (drop i ends)) ≡ whole → text ≡ whole
  released-all row_texts ends i text whole past before = none-left text whole _ (ap (λ (es : List RowEnd). released_rows fields columns (drop i row_texts) es)
      (drop_all i ends past) ∙ rows-end (drop i row_texts)) before

  -- ---- the reasons

  reasons-end : (n : ℕ) (row_texts : List (List (List ℕ))) → reasons_from fields columns n row_texts [] ≡ []
  reasons-end n [] = refl
  reasons-end n (texts ∷ row_texts) = refl

  -- those of one record more
  pub reasons-more : (row_texts : List (List (List ℕ))) (ends : List RowEnd) (i : ℕ) (end : RowEnd) (text whole : List ℕ) → i < length row_texts
      → i < length ends → end ≡ get_or ends i end
      → text ++ records_text (reasons_from fields columns i (drop i row_texts) (drop i ends)) ≡ whole
      → (text ++ records_text (reasons_of fields columns i (get_or row_texts i []) end)) ++ records_text
      (reasons_from fields columns (i + 1) (drop (i + 1) row_texts) (drop (i + 1) ends)) ≡ whole
  reasons-more row_texts ends i end text whole within below is before =
      then-rest text (reasons_of fields columns i (get_or row_texts i []) end) (reasons_from fields columns (i + 1) (drop (i + 1) row_texts)
      (drop (i + 1) ends))
      ∙ ap (λ (e : RowEnd). text ++ records_text (reasons_of fields columns i (get_or row_texts i []) e
      ++ reasons_from fields columns (i + 1) (drop (i + 1) row_texts) (drop (i + 1) ends))) is
      ∙ ap (λ (rows : List (List (List ℕ))). text ++ records_text rows)
      (sym (opened ∙ ap (λ n. reasons_of fields columns i (get_or row_texts i []) (get_or ends i end)
      ++ reasons_from fields columns n (drop (i + 1) row_texts) (drop (i + 1) ends)) next))
      ∙ before
    where
      next : suc i ≡ i + 1
      next = omega arith

      opened : reasons_from fields columns i (drop i row_texts) (drop i ends) ≡ reasons_of fields columns i (get_or row_texts i []) (get_or ends i end)
          ++ reasons_from fields columns (suc i) (drop (i + 1) row_texts) (drop (i + 1) ends)
      opened = at_both (reasons_from fields columns i) row_texts ends i [] end within below

  -- and of all
  pub reasons-all : (row_texts : List (List (List ℕ))) (ends : List RowEnd) (i : ℕ) (text whole : List ℕ) → length ends ≤ i → text
      ++ records_text (reasons_from fields columns i (drop i row_texts) (drop i ends)) ≡ whole → text ≡ whole
  reasons-all row_texts ends i text whole past before = none-left text whole _ (ap (λ (es : List RowEnd). reasons_from fields columns i (drop i row_texts) es)
      (drop_all i ends past) ∙ reasons-end i (drop i row_texts)) before

  -- ---- the lines of the changed fields of a record

  module _ (number : ℕ) (texts : List (List ℕ)) (donor : Option ℕ) (new : List Value) where
    lines-end : (hows : List How) → changed_lines fields columns number texts donor new [] hows ≡ []
    lines-end [] = refl
    lines-end (how ∷ hows) = refl

    -- one line more
    pub lines-more : (changed : List ℕ) (hows : List How) (i : ℕ) (text whole : List ℕ) → i < length changed → i < length hows
        → text ++ records_text (changed_lines fields columns number texts donor new (drop i changed) (drop i hows)) ≡ whole
        → (text ++ records_text (changed_line fields columns number texts donor new (get_or changed i 0) (get_or hows i Donor) ∷ []))
        ++ records_text (changed_lines fields columns number texts donor new (drop (i + 1) changed) (drop (i + 1) hows)) ≡ whole
    lines-more changed hows i text whole within below before =
        then-rest text (changed_line fields columns number texts donor new (get_or changed i 0) (get_or hows i Donor) ∷ [])
        (changed_lines fields columns number texts donor new (drop (i + 1) changed) (drop (i + 1) hows))
        ∙ ap (λ (rows : List (List (List ℕ))). text ++ records_text rows)
        (sym (at_both (changed_lines fields columns number texts donor new) changed hows i 0 Donor within below))
        ∙ before

    -- and all of them
    pub lines-all : (changed : List ℕ) (hows : List How) (i : ℕ) (text whole : List ℕ) → length changed ≤ i → text
        ++ records_text (changed_lines fields columns number texts donor new (drop i changed) (drop i hows)) ≡ whole → text ≡ whole
    lines-all changed hows i text whole past before =
        none-left text whole _ (ap (λ (fs : List ℕ). changed_lines fields columns number texts donor new fs (drop i hows)) (drop_all i changed past)
        ∙ lines-end (drop i hows)) before
