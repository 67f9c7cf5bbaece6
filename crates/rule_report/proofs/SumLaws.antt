-- The terms of a line, one after another.
use Rattle.std.proofs.Common.{◌≡◌, ◌∙◌, refl, sym, ap, ℕ, suc, ◌+◌, ◌<◌, ◌&&◌, Bool, true, false, if◌then◌else◌, List, [], ◌∷◌, ◌++◌, drop, get_or, length, ℤ}
use Rattle.std.proofs.Common.{pos, add-one, append_assoc, arith}
use Rattle.std.proofs.Math.Seq.{drop-cons}
use Rattle.std.specs.Ordering.{int_eq}
use Rattle.edit_model.specs.declared.field.Field.{Field}
use Rattle.edit_model.specs.declared.rule.Term.{Term}
use Rattle.edit_language.specs.Printing.{compare_text, later_constant_text, later_terms_text, linear_text, sum_text}
use Rattle.edit_line.specs.Lines.{LineParts}
use Rattle.edit_line.specs.Shapes.{number_fields}
use Rattle.rule_report.specs.LineTexts.{compare_of, linear_part, line_terms}
use Rattle.rule_report.specs.inner.Written.{led_text}

-- what is still to be printed of a sum: all of it, or what stands behind its first term
abbrev pub rest_text : Bool → List Field → List Term → ℤ → List ℕ
rest_text true fields terms constant = sum_text fields terms constant
rest_text false fields terms constant = later_terms_text fields terms ++ later_constant_text constant

-- of the next field, its term, where its factor is not 0, and then the rest
step : (first none : Bool) (fields : List Field) (field : ℕ) (factor constant : ℤ) (terms : List Term)
    → (if none then [] else led_text first fields field factor) ++ rest_text (first && none) fields terms constant
    ≡ rest_text first fields (if none then terms else record { field = field; factor = factor } ∷ terms) constant
step true true fields field factor constant terms = refl
step false true fields field factor constant terms = refl
step true false fields field factor constant terms =
    sym (append_assoc (led_text true fields field factor) (later_terms_text fields terms) (later_constant_text constant))
step false false fields field factor constant terms =
    sym (append_assoc (led_text false fields field factor) (later_terms_text fields terms) (later_constant_text constant))

module _ (numbers : List ℕ) (factors : List ℤ) (i : ℕ) (many : length factors ≡ length numbers) where
  terms-at : i < length numbers
      → line_terms (drop i numbers) (drop i factors)
      ≡ (if int_eq (get_or factors i (pos 0)) (pos 0) then line_terms (drop (i + 1) numbers) (drop (i + 1) factors) else record
      { field = get_or numbers i 0; factor = get_or factors i (pos 0) } ∷ line_terms (drop (i + 1) numbers) (drop (i + 1) factors))
  terms-at below =
      rw (add-one) (ap (λ fs. line_terms fs (drop i factors)) (drop-cons numbers i 0 below)
      ∙ ap (λ (as_ : List ℤ). line_terms (get_or numbers i 0 ∷ drop (suc i) numbers) as_) (drop-cons factors i (pos 0) (omega arith)))

  -- one field more of the sum
  pub sum-more : (fields : List Field) (constant : ℤ) (first next : Bool) (before now : List ℕ) (whole : List ℕ) → i < length numbers
      → now ≡ before ++ (if int_eq (get_or factors i (pos 0)) (pos 0) then [] else led_text first fields (get_or numbers i 0) (get_or factors i (pos 0)))
      → next ≡ (first && int_eq (get_or factors i (pos 0)) (pos 0))
      → before ++ rest_text first fields (line_terms (drop i numbers) (drop i factors)) constant ≡ whole
      → now ++ rest_text next fields (line_terms (drop (i + 1) numbers) (drop (i + 1) factors)) constant ≡ whole
  sum-more fields constant first next before now whole below is moved rest =
      let factor = get_or factors i (pos 0) in
      let later = line_terms (drop (i + 1) numbers) (drop (i + 1) factors) in
      let term = if int_eq factor (pos 0) then [] else led_text first fields (get_or numbers i 0) factor in
      ap (λ (t : List ℕ). t ++ rest_text next fields later constant) is
      ∙ ap (λ (b : Bool). (before ++ term) ++ rest_text b fields later constant) moved
      ∙ append_assoc before term (rest_text (first && int_eq factor (pos 0)) fields later constant)
      ∙ ap (λ (t : List ℕ). before ++ t) (step first (int_eq factor (pos 0)) fields (get_or numbers i 0) factor constant later
      ∙ ap (λ (ts : List Term). rest_text first fields ts constant) (sym (terms-at below)))
      ∙ rest

-- the sum of a line, and behind it the comparison
pub linear-is : (line : LineParts) (fields all : List Field) (numbers : List ℕ) (factors : List ℤ) (constant : ℤ) (before between now comparison : List ℕ)
    → all ≡ fields → numbers ≡ number_fields line.shape → factors ≡ line.factors → constant ≡ line.constant
    → between ≡ before ++ sum_text all (line_terms numbers factors) constant → now ≡ between ++ comparison → comparison
    ≡ compare_text (compare_of line.relation)
    → now ≡ before ++ linear_text fields (linear_part line)
linear-is line fields all numbers factors constant before between now comparison same are kept is sum end compare =
    rw (end, sum, compare, same, are, kept, is) (append_assoc before (sum_text fields (line_terms (number_fields line.shape) line.factors) line.constant)
    (compare_text (compare_of line.relation)))
