-- Released rows, column by column, and one after another.
use Rattle.std.proofs.Common.{◌≡◌, ℕ, suc, ◌+◌, ◌<◌, ◌≤◌, Bool, false, if◌then◌else◌, List, [], ◌∷◌, ◌++◌, Option, Some, None, drop, get_or, length, refl, sym}
use Rattle.std.proofs.Common.{ap, ◌∙◌, add-one, append_assoc}
use Rattle.std.proofs.lemmas.List.{append-nil, drop_all}
use Rattle.std.proofs.Math.Seq.{drop-cons}
use Rattle.edit_model.specs.declared.field.Field.{Field}
use Rattle.edit_model.specs.declared.value.Value.{Value}
use Rattle.edit_report.specs.Layouts.{field_in}
use Rattle.edit_report.specs.Released.{column_text, given_text, texts_from}

-- ---- the texts of a row

column-same : (fields : List Field) (changed other : ℕ → Bool) (new : List Value) (field : Option ℕ) (read : List ℕ) → ((f : ℕ) → changed f ≡ other f)
    → column_text fields changed new field read ≡ column_text fields other new field read
column-same fields changed other new None read same = refl
column-same fields changed other new (Some f) read same = ap (λ b. if b then given_text fields new f else read) (same f)

module _ (fields : List Field) (columns : List ℕ) (new : List Value) where
  -- where nothing is changed, the texts stay
  pub texts-kept : (changed : ℕ → Bool) (j : ℕ) (texts : List (List ℕ)) → ((f : ℕ) → changed f ≡ false) → texts_from fields columns changed new j texts ≡ texts
  texts-kept changed j [] none = refl
  texts-kept changed j (text ∷ texts) none =
      ap (λ (t : List ℕ). t ∷ texts_from fields columns changed new (suc j) texts) (by (field_in columns j))
      ∙ ap (λ (ts : List (List ℕ)). text ∷ ts) (texts-kept changed (suc j) texts none)
    where
      by : (field : Option ℕ) → column_text fields changed new field text ≡ text
      by None = refl
      by (Some f) = ap (λ b. if b then given_text fields new f else text) (none f)

  -- the text of one column more
  pub texts-more : (changed other : ℕ → Bool) (read done next whole : List (List ℕ)) (j : ℕ) → j < length read → ((f : ℕ) → changed f ≡ other f)
      → next ≡ done ++ column_text fields changed new (field_in columns j) (get_or read j []) ∷ [] → done ++ texts_from fields columns other new j (drop j read)
      ≡ whole
      → next ++ texts_from fields columns other new (j + 1) (drop (j + 1) read) ≡ whole
  texts-more changed other read done next whole j below same put before =
      ap (λ (ts : List (List ℕ)). ts ++ texts_from fields columns other new (j + 1) (drop (j + 1) read))
      (put ∙ ap (λ (t : List ℕ). done ++ t ∷ []) (column-same fields changed other new (field_in columns j) (get_or read j []) same))
      ∙ append_assoc done (column_text fields other new (field_in columns j) (get_or read j []) ∷ [])
      (texts_from fields columns other new (j + 1) (drop (j + 1) read))
      ∙ sym opened
      ∙ before
    where
      opened : done ++ texts_from fields columns other new j (drop j read) ≡ done ++ column_text fields other new (field_in columns j) (get_or read j [])
          ∷ texts_from fields columns other new (j + 1) (drop (j + 1) read)
      opened = rw add-one (ap (λ (ts : List (List ℕ)). done ++ texts_from fields columns other new j ts) (drop-cons read j [] below))

  -- and of all
  pub texts-all : (changed : ℕ → Bool) (read done whole : List (List ℕ)) (j : ℕ) → length read ≤ j → done
      ++ texts_from fields columns changed new j (drop j read) ≡ whole → done ≡ whole
  texts-all changed read done whole j past before =
      sym (append-nil done) ∙ ap (λ (ts : List (List ℕ)). done ++ texts_from fields columns changed new j ts) (sym (drop_all j read past)) ∙ before
