use Rattle.std.proofs.Common.{◌≡◌, ℕ, suc, ◌+◌, not, Bool, true, false, if◌then◌else◌, cond, List, [], ◌∷◌, map, refl, ap, ◌∙◌, arith}
use Rattle.std.specs.List.{filter, sum_by}
use Rattle.std.proofs.lemmas.List.Elements.{filter-append}
use Rattle.std.proofs.lemmas.List.Sums.{sum_by-append, sum_by-cons}
use Rattle.edit_model.proofs.ChangedWords.{changed_in, word_weight}
use Rattle.edit_model.specs.Corrections.{change_weight, code_fields, differs_from, is_numerical, number_fields, numbers_from, path_order, weight_from, word_of}
use Rattle.edit_model.specs.Parts.{SurveyParts}
use Rattle.edit_model.specs.Points.{Point}
use Rattle.edit_model.specs.Rows.{IsRow, value_of}
use Rattle.edit_model.specs.Words.{weight_at}
use Rattle.edit_model.specs.declared.field.Field.{Field}
use Rattle.edit_model.specs.declared.value.Value.{Value}

-- What a point's word weighs is what it weighs to change the record into the point.

-- the fields beside a letter that says changed are those that pass the test from which the letters are
pub changed_in-filter : (d : ℕ → Bool) (fields : List ℕ) → changed_in fields (map d fields) ≡ filter d fields
changed_in-filter d [] = refl
changed_in-filter d (f ∷ fields) = by (d f) (changed_in-filter d fields)
  where
    by : (b : Bool) → changed_in fields (map d fields) ≡ filter d fields → changed_in (f ∷ fields) (b ∷ map d fields)
        ≡ cond b (f ∷ filter d fields) (filter d fields)
    by true rest = ap (λ (fs : List ℕ). f ∷ fs) rest
    by false rest = rest

module _ (w : ℕ → ℕ) (d : ℕ → Bool) where
  -- the weights of those of the fields that are changed
  abbrev weighed : List ℕ → ℕ
  weighed fields = sum_by w (filter d fields)

  weighed-cons : (f : ℕ) (fields : List ℕ) (b : Bool) → d f ≡ b → weighed (f ∷ fields) ≡ (if b then w f else 0) + weighed fields
  weighed-cons f fields true is = ap (λ (b : Bool). sum_by w (cond b (f ∷ filter d fields) (filter d fields))) is ∙ sum_by-cons w f (filter d fields)
  weighed-cons f fields false is = let same : weighed (f ∷ fields)
      ≡ weighed fields = ap (λ (b : Bool). sum_by w (cond b (f ∷ filter d fields) (filter d fields))) is in omega (arith, same)

  -- the fields from number i on, numerical ones and others, weigh what the point changes there
  parts-weigh : (p : Point) (i : ℕ) (fields : List Field) (values : List Value) → IsRow fields values → ((j : ℕ) → w (i + j) ≡ weight_at fields j)
      → ((j : ℕ) → d (i + j) ≡ differs_from (value_of values j) p (i + j))
      → weighed (numbers_from is_numerical i fields) + weighed (numbers_from (λ k. not (is_numerical k)) i fields) ≡ weight_from i fields values p
  parts-weigh p i [] [] are weights differ = refl
  parts-weigh p i [] (v ∷ values) are weights differ = absurd are
  parts-weigh p i (field ∷ fields) [] are weights differ = absurd are
  parts-weigh p i (field ∷ fields) (v ∷ values) are weights differ =
      by (is_numerical field.kind) (parts-weigh p (suc i) fields values are.1 (λ j. ap w (omega arith) ∙ weights (suc j))
      (λ j. ap d (omega arith) ∙ differ (suc j) ∙ ap (λ n. differs_from (value_of values j) p n) (omega arith)))
    where
      here : d i ≡ differs_from v p i
      here = ap d (omega arith) ∙ differ 0 ∙ ap (λ n. differs_from v p n) (omega arith)

      own : w i ≡ field.weight
      own = ap w (omega arith) ∙ weights 0

      first : (rest : List ℕ) → weighed (i ∷ rest) ≡ (if differs_from v p i then field.weight else 0) + weighed rest
      first rest = weighed-cons i rest (differs_from v p i) here ∙ ap (λ n. (if differs_from v p i then n else 0) + weighed rest) own

      by : (b : Bool) → weighed (numbers_from is_numerical (suc i) fields) + weighed (numbers_from (λ k. not (is_numerical k)) (suc i) fields)
          ≡ weight_from (suc i) fields values p
          → weighed (if b then i ∷ numbers_from is_numerical (suc i) fields else numbers_from is_numerical (suc i) fields)
          + weighed (if not b then i ∷ numbers_from (λ k. not (is_numerical k)) (suc i) fields else numbers_from (λ k. not (is_numerical k)) (suc i) fields)
          ≡ (if differs_from v p i then field.weight else 0) + weight_from (suc i) fields values p
      by true rest = omega (arith, rest, first (numbers_from is_numerical (suc i) fields))
      by false rest = omega (arith, rest, first (numbers_from (λ k. not (is_numerical k)) (suc i) fields))

module _ (survey : SurveyParts) (row : List Value) (p : Point) (are : IsRow survey.fields row) where
  -- the weights of the changed fields, in path order, sum up to what the point changes
  pub changed-weigh : sum_by (weight_at survey.fields) (filter (λ f. differs_from (value_of row f) p f) (path_order survey.fields)) ≡ change_weight survey row p
  changed-weigh =
      let w = weight_at survey.fields in
      let d : ℕ → Bool = λ f. differs_from (value_of row f) p f in
      ap (sum_by w) (filter-append d (number_fields survey.fields) (code_fields survey.fields))
      ∙ sum_by-append w (filter d (number_fields survey.fields)) (filter d (code_fields survey.fields))
      ∙ parts-weigh w d p 0 survey.fields row are (λ j. ap w (omega arith)) (λ j. ap (λ n. differs_from (value_of row n) p (0 + j)) (omega arith))

  -- and so does the point's word
  pub word-weighs : word_weight survey.fields (word_of survey row p) ≡ change_weight survey row p
  word-weighs = ap (sum_by (weight_at survey.fields)) (changed_in-filter (λ f. differs_from (value_of row f) p f) (path_order survey.fields)) ∙ changed-weigh
