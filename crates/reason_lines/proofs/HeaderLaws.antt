-- The header of a reasons file, text by text.
use Rattle.std.proofs.Common.{◌≡◌, ◌∙◌, sym, ap, refl, ℕ, ◌==◌, Bool, true, false, IsTrue, List, [], ◌∷◌, length, arith, codes}
use Rattle.std.specs.Prelude.{◌↔◌}
use Rattle.std.specs.Str.{bytes_eq}
use Rattle.std.proofs.lemmas.Bool.Decides.{nat_tests}
use Rattle.std.proofs.lemmas.Slice.Eq.{bytes_eq-Decides}
use Rattle.reason_lines.specs.ReasonFiles.{reasons_header}
use Rattle.reason_lines.specs.ReasonLines.{text_in}

-- seven texts are those in the columns
seven_texts : (texts : List (List ℕ)) → length texts ≡ 7
    → texts ≡ text_in texts 0 ∷ text_in texts 1 ∷ text_in texts 2 ∷ text_in texts 3 ∷ text_in texts 4 ∷ text_in texts 5 ∷ text_in texts 6 ∷ []
seven_texts (a ∷ b ∷ c ∷ d ∷ e ∷ f ∷ g ∷ []) seven = refl
seven_texts [] seven = absurd (omega arith)
seven_texts (a ∷ []) seven = absurd (omega arith)
seven_texts (a ∷ b ∷ []) seven = absurd (omega arith)
seven_texts (a ∷ b ∷ c ∷ []) seven = absurd (omega arith)
seven_texts (a ∷ b ∷ c ∷ d ∷ []) seven = absurd (omega arith)
seven_texts (a ∷ b ∷ c ∷ d ∷ e ∷ []) seven = absurd (omega arith)
seven_texts (a ∷ b ∷ c ∷ d ∷ e ∷ f ∷ []) seven = absurd (omega arith)
seven_texts (a ∷ b ∷ c ∷ d ∷ e ∷ f ∷ g ∷ h ∷ more) seven = absurd (omega arith)

pub is_seven : (count : ℕ) → (count == 7) ≡ true → count ≡ 7
is_seven count tested = grind (arith, nat_tests)

-- a test has one answer
pub not_both : (b : Bool) → b ≡ false → b ≡ true → ⊥
not_both b no_text a_text = cc (no_text, a_text)

is_word : (texts : List (List ℕ)) (column : ℕ) (word : List ℕ) → bytes_eq (text_in texts column) word ≡ true → text_in texts column ≡ word
is_word texts column word tested = (bytes_eq-Decides (text_in texts column) word).0 tested

-- where the first six texts of seven are right, the last decides
module _ (texts : List (List ℕ)) (last : Bool) (seven : length texts ≡ 7)
    (first : bytes_eq (text_in texts 0) (codes "record") ≡ true) (second : bytes_eq (text_in texts 1) (codes "cause") ≡ true)
    (third : bytes_eq (text_in texts 2) (codes "field") ≡ true)
    (fourth : bytes_eq (text_in texts 3) (codes "before") ≡ true) (fifth : bytes_eq (text_in texts 4) (codes "after") ≡ true)
    (sixth : bytes_eq (text_in texts 5) (codes "donor") ≡ true)
    (seventh : last ≡ bytes_eq (text_in texts 6) (codes "detail")) where
  all_right : IsTrue last → texts ≡ reasons_header
  all_right right =
      let detail : bytes_eq (text_in texts 6) (codes "detail") ≡ true = sym seventh ∙ right in
      seven_texts texts seven ∙ cc (
        is_word texts 0 _ first,
        is_word texts 1 _ second,
        is_word texts 2 _ third,
        is_word texts 3 _ fourth,
        is_word texts 4 _ fifth,
        is_word texts 5 _ sixth,
        is_word texts 6 _ detail,
      )

  last_right : texts ≡ reasons_header → IsTrue last
  last_right same =
      let detail : text_in texts 6 ≡ codes "detail" = ap (λ (ts : List (List ℕ)). text_in ts 6) same in
      seventh ∙ (bytes_eq-Decides (text_in texts 6) (codes "detail")).1 detail

  pub header_by_texts : IsTrue last ↔ (texts ≡ reasons_header)
  header_by_texts = (all_right, last_right)
