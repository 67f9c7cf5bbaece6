use Rattle.std.proofs.Common.{◌≡◌, ◌≢◌, ℕ, ◌+◌, ◌≤◌, not, Bool, true, false, cond, if◌then◌else◌, List, [], ◌∷◌, map, inl, inr, sym, ap, ◌∙◌, subst, arith}
use Rattle.std.specs.List.{filter, sum_by}
use Rattle.std.proofs.lemmas.List.Sums.{sum_by-cons}
use Rattle.edit_model.proofs.ChangedWords.{changed_in, word_weight}
use Rattle.edit_model.specs.Corrections.{change_weight, differs_from, path_order, word_of}
use Rattle.edit_model.specs.FieldSets.{has_number}
use Rattle.edit_model.specs.Parts.{SurveyParts}
use Rattle.edit_model.specs.Points.{Point}
use Rattle.edit_model.specs.Rows.{IsRow, is_bad, value_of}
use Rattle.edit_model.specs.Words.{weight_at}
use Rattle.edit_model.proofs.FieldSetLaws.{has-set_of}
use Rattle.edit_model.proofs.RowLaws.{not-bad, was-bad}
use Rattle.edit_model.proofs.WordLaws.{changed-weigh, word-weighs}
use Rattle.edit_model.specs.declared.field.Field.{Field}
use Rattle.edit_model.specs.declared.value.Value.{Value}
use Rattle.edit_model.specs.declared.value.Value.TheVariants.{Bad}
use Rattle.edit_line.specs.Reductions.{IsIn}
use Rattle.edit_line.proofs.FieldLists.{has-there}
use Rattle.edit_line.proofs.Members.{in-any, in-filter-out}
use Rattle.derivation.specs.Premises.{HasKept}
use Rattle.bound_cert.specs.Paths.{keeps_bad, kept_set, path_weight}
use Rattle.bound_cert.proofs.Letters.{changes-beside, kept-any, kept-those, kept_in}
use Rattle.bound_cert.proofs.TreeLaws.{Agree}

-- What a path says of a point whose word agrees with it.

-- ---- kept fields

-- a field that the path keeps is one at which the word says so
pub kept-agrees : (d : ℕ → Bool) (fields : List ℕ) (path : List Bool) → Agree path (map d fields) → (f : ℕ) → IsIn f (kept_in fields path) → d f ≡ false
kept-agrees d [] path agrees f there = absurd there
kept-agrees d (g ∷ fields) [] agrees f there = absurd there
kept-agrees d (g ∷ fields) (true ∷ path) agrees f there = kept-agrees d fields path agrees.1 f there
kept-agrees d (g ∷ fields) (false ∷ path) agrees f (inl same) = ap d same ∙ sym agrees.0
kept-agrees d (g ∷ fields) (false ∷ path) agrees f (inr there) = kept-agrees d fields path agrees.1 f there

-- ---- weights

module _ (w : ℕ → ℕ) (d : ℕ → Bool) where
  -- the weights of those of the fields at which the word says changed
  abbrev weighed : List ℕ → ℕ
  weighed fields = sum_by w (filter d fields)

  weighed-cons : (f : ℕ) (fields : List ℕ) (b : Bool) → d f ≡ b → weighed (f ∷ fields) ≡ (if b then w f else 0) + weighed fields
  weighed-cons f fields true is = ap (λ (b : Bool). sum_by w (cond b (f ∷ filter d fields) (filter d fields))) is ∙ sum_by-cons w f (filter d fields)
  weighed-cons f fields false is = let same : weighed (f ∷ fields)
      ≡ weighed fields = ap (λ (b : Bool). sum_by w (cond b (f ∷ filter d fields) (filter d fields))) is in omega (arith, same)

  -- a path that agrees changes no more
  path-weighs : (fields : List ℕ) (path : List Bool) → Agree path (map d fields) → sum_by w (changed_in fields path) ≤ weighed fields
  path-weighs [] path agrees = omega arith
  path-weighs (f ∷ fields) [] agrees = omega arith
  path-weighs (f ∷ fields) (true ∷ path) agrees = omega (
    arith,
    weighed-cons f fields true (sym agrees.0),
    sum_by-cons w f (changed_in fields path),
    path-weighs fields path agrees.1,
  )
  path-weighs (f ∷ fields) (false ∷ path) agrees = omega (arith, weighed-cons f fields false (sym agrees.0), path-weighs fields path agrees.1)

-- a path weighs what it weighs as a word
pub weight-of_word : (fields : List Field) (path : List Bool) → path_weight fields path ≡ word_weight fields path
weight-of_word fields path = ap (sum_by (weight_at fields)) (changes-beside fields path)

-- the word of a point weighs what the point changes
pub point-weighs : (survey : SurveyParts) (row : List Value) (p : Point) → IsRow survey.fields row → path_weight survey.fields (word_of survey row p)
    ≡ change_weight survey row p
point-weighs survey row p are = weight-of_word survey.fields (word_of survey row p) ∙ word-weighs survey row p are

-- a path that agrees with the word weighs no more than the point changes
pub agreeing-weighs : (survey : SurveyParts) (row : List Value) (p : Point) (path : List Bool) → IsRow survey.fields row → Agree path (word_of survey row p)
    → path_weight survey.fields path ≤ change_weight survey row p
agreeing-weighs survey row p path are agrees =
    let lighter = path-weighs (weight_at survey.fields) (λ f. differs_from (value_of row f) p f) (path_order survey.fields) path agrees in
    omega (arith, lighter, changed-weigh survey row p are, weight-of_word survey.fields path)

-- ---- values

-- a field of the set of kept fields is kept by the path, and has a value
pub kept-there : (fields : List Field) (row : List Value) (path : List Bool) (f : ℕ) → has_number (kept_set fields row path) f ≡ true
    → IsIn f (kept_in (path_order fields) path) × (value_of row f ≢ Bad)
kept-there fields row path f has =
    let sound : ℕ → Bool = λ g. not (is_bad (value_of row g)) in
    let there = subst (λ (fs : List ℕ). IsIn f fs) (kept-those fields path sound) (has-there f _ (sym (has-set_of _ f) ∙ has)) in
    let (kept, held) = in-filter-out sound f (kept_in (path_order fields) path) there in (kept, not-bad (value_of row f) held)

-- the record has values there
pub kept-held : (fields : List Field) (row : List Value) (path : List Bool) → HasKept row (kept_set fields row path)
kept-held fields row path f has = (kept-there fields row path f has).1

-- a path that keeps a field without a value keeps one of the fields
pub bad-there : (fields : List Field) (row : List Value) (path : List Bool) → keeps_bad fields row path ≡ true → (f : ℕ)
    × IsIn f (kept_in (path_order fields) path) × (value_of row f ≡ Bad)
bad-there fields row path keeps =
    let (f, there, bad) = in-any (λ g. is_bad (value_of row g)) (kept_in (path_order fields) path) (sym (kept-any fields path (λ g. is_bad (value_of row g)))
    ∙ keeps) in (f, there, was-bad (value_of row f) bad)
