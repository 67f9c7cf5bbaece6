use Rattle.std.proofs.Common.{◌≡◌, ◌≢◌, ℕ, ℤ, zero, suc, ◌+◌, ◌<◌, ◌≤◌, All, AllPairs, List, [], ◌∷◌, ◌++◌, get_or, length, map, negsuc, pos, replicate, ap}
use Rattle.std.proofs.Common.{refl, sym, ◌∙◌, subst, arith}
use Rattle.std.specs.List.{range_with_len}
use Rattle.std.proofs.lemmas.List.{length-replicate}
use Rattle.std.proofs.lemmas.List.Elements.{All-nil, All-push, All-replicate}
use Rattle.std.proofs.lemmas.List.FromFn.{get_or-map-range_with_len, length-map-range_with_len}
use Rattle.fraction128.specs.Range.{InRange}
use Rattle.edit_model.specs.Parts.{survey_of}
use Rattle.edit_model.specs.Rows.{IsRow}
use Rattle.edit_model.specs.Surveys.{IsField, IsRule, IsWellFormed}
use Rattle.edit_model.specs.declared.field.Field.{Field}
use Rattle.edit_model.specs.declared.rule.Rule.{Rule}
use Rattle.edit_model.specs.declared.value.Value.{Value}
use Rattle.edit_model.specs.declared.value.Value.TheVariants.{Bad}
use Rattle.edit_line.specs.Lines as lines
use Rattle.edit_line.specs.Sets.{AreSets}
use Rattle.edit_line.specs.Shapes.{numbers_from, shape_of, whole_sets}
use Rattle.edit_line.specs.declared.relation.Relation.TheVariants.{AtLeast}
use Rattle.certificate_bench.specs.inner.Cases.{false_line, field_named, fields_of}

-- What the survey, the line and the record owe.

-- ---- the fields

-- fields with the letters from a on for names differ
names-apart : (n : ℕ) → AllPairs (λ (f : Field) (g : Field). f.name ≢ g.name) (fields_of n)
names-apart n i j d earlier within same =
    let few : j < n = omega (arith, within, length-map-range_with_len (λ k. field_named (97 + k)) 0 n) in
    let letter : 97 + i ≡ 97 + j = ap (λ (name : List ℕ). get_or name 0 0) (sym (name i (omega (arith, earlier, few))) ∙ same ∙ name j few) in
    absurd (omega (arith, letter, earlier))
  where
    name : (k : ℕ) → k < n → (get_or (fields_of n) k d).name ≡ (field_named (97 + k)).name
    name k below = ap (λ (f : Field). f.name) (get_or-map-range_with_len (λ i. field_named (97 + i)) 0 n k k d below (omega arith))

-- a field more is in form
pub form-more : (before after : List Field) (field : Field) → after ≡ before ++ field ∷ [] → IsField field → All IsField before → All IsField after
form-more before after field items form forms = subst (λ (fs : List Field). All IsField fs) (sym items) (All-push IsField before field forms form)

-- they are a survey without rules
pub well-formed : (n : ℕ) (fields : List Field) (rules : List Rule) → n ≤ 20 → fields ≡ fields_of n → rules ≡ [] → All IsField fields
    → IsWellFormed (survey_of fields rules)
well-formed n fields rules few same none forms =
    subst (λ (rs : List Rule). IsWellFormed (survey_of fields rs)) (sym none) (record {
      few_fields = omega (arith, few, ap (λ (fs : List Field). length fs) same, length-map-range_with_len (λ k. field_named (97 + k)) 0 n);
      few_rules = omega arith;
      names = subst (λ (fs : List Field). AllPairs (λ (f : Field) (g : Field). f.name ≢ g.name) fs) (sym same) (names-apart n);
      fields = forms;
      rules = All-nil (IsRule fields);
    })

-- ---- the record

-- a record of which nothing is known is one of these fields
pub unknown-row : (n : ℕ) (fields : List Field) (values : List Value) → fields ≡ fields_of n → values ≡ replicate n Bad → IsRow fields values
unknown-row n fields values same unknown =
    subst (λ (fs : List Field). IsRow fs values) (sym same) (subst (λ (vs : List Value). IsRow (fields_of n) vs) (sym unknown) (from 0 n))
  where
    from : (i n : ℕ) → IsRow (map (λ k. field_named (97 + k)) (range_with_len i n)) (replicate n Bad)
    from i zero = tt
    from i (suc n) = (tt, from (i + 1) n)

-- ---- the line

no-sets : (i n : ℕ) → whole_sets (shape_of (map (λ k. field_named (97 + k)) (range_with_len i n))) ≡ []
no-sets i zero = refl
no-sets i (suc n) = no-sets (i + 1) n

all-numbers : (at i n : ℕ) → length (numbers_from at (shape_of (map (λ k. field_named (97 + k)) (range_with_len i n)))) ≡ n
all-numbers at i zero = refl
all-numbers at i (suc n) = ap suc (all-numbers (suc at) (i + 1) n)

-- the false line is one over these fields
pub false-line : (n : ℕ) (fields : List Field) (sets : List ℕ) (factors : List ℤ) → fields ≡ fields_of n → sets ≡ [] → factors ≡ replicate n (pos 0)
    → lines.IsLine (lines.parts_of (shape_of fields) sets factors (negsuc 0) AtLeast)
false-line n fields sets factors same none zeros =
    subst (λ (fs : List Field). lines.IsLine (lines.parts_of (shape_of fs) sets factors (negsuc 0) AtLeast)) (sym same) (record {
      sets = subst (λ (ss : List ℕ). AreSets ss (whole_sets (shape_of (fields_of n)))) (sym none)
          (subst (λ (ws : List ℕ). AreSets [] ws) (sym (no-sets 0 n)) tt);
      factors = ap (λ (fs : List ℤ). length fs) zeros ∙ length-replicate n (pos 0) ∙ sym (all-numbers 0 0 n);
      in_range = (subst (λ (fs : List ℤ). All InRange fs) (sym zeros) (All-replicate InRange n (pos 0) (omega arith)), omega arith);
      whole = λ _. none ∙ sym (no-sets 0 n);
    })

-- it alone is given, over these fields
pub lines-over : (n : ℕ) (fields : List Field) (given : List lines.LineParts) (line : lines.LineParts) → fields ≡ fields_of n → given ≡ line ∷ [] → line
    ≡ false_line n → lines.AreOver (shape_of fields) given
lines-over n fields given line same given_is is =
    subst (λ (fs : List Field). lines.AreOver (shape_of fs) given) (sym same) (subst (λ (ls : List lines.LineParts). lines.AreOver (shape_of (fields_of n)) ls)
    (sym (given_is ∙ ap (λ (l : lines.LineParts). l ∷ []) is)) over)
  where
    over : lines.AreOver (shape_of (fields_of n)) (false_line n ∷ [])
    over zero d below = refl
    over (suc k) d below = absurd (omega (arith, below))
