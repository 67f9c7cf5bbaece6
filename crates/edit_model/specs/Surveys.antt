use Rattle.std.specs.Prelude.{◌≡◌, ◌≢◌, ℕ, ◌<◌, ◌≤◌, ◌^◌, ◌==◌, ◌&&◌, ◌||◌, ◌⊎◌, Bool, false, List, [], ◌∷◌, length, map, All, AllPairs, IsTrue, IsSomeAnd, nat_le, slice_get, codes, pos, unsigned_abs}
use Rattle.std.specs.List.{list_all}
use Rattle.std.specs.List.Sorted.{IsStrictlyIncreasing}
use Rattle.foundation.specs.Limits.{most_fields, most_codes, most_rules, most_letters, most_weight, most_scale, most_factor}
use Rattle.edit_model.specs.Parts.{SurveyParts}
use Rattle.edit_model.specs.declared.field.Field.{Field}
use Rattle.edit_model.specs.declared.field.Kind.{Kind}
use Rattle.edit_model.specs.declared.field.Kind.TheVariants as kind
use Rattle.edit_model.specs.declared.rule.Compare.TheVariants.{Eq}
use Rattle.edit_model.specs.declared.rule.Rule.{Rule}
use Rattle.edit_model.specs.declared.rule.Term.{Term}
use Rattle.edit_model.specs.declared.rule.Test.{Test}
use Rattle.edit_model.specs.declared.rule.Test.TheVariants.{Number, Codes}

-- an ASCII letter
abbrev pub is_letter : ℕ → Bool
is_letter b = (nat_le 65 b && nat_le b 90) || (nat_le 97 b && nat_le b 122)

-- an ASCII digit
abbrev pub is_digit : ℕ → Bool
is_digit b = nat_le 48 b && nat_le b 57

-- a letter, then letters, digits and `_`
abbrev pub has_name_form : List ℕ → Bool
has_name_form [] = false
has_name_form (b ∷ bs) = is_letter b && list_all (λ c. is_letter c || (is_digit c || (c == 95))) bs

-- the words of the rule language, which name no field
abbrev pub reserved_words : List (List ℕ)
reserved_words = codes "number" ∷ codes "code" ∷ codes "weight" ∷ codes "scale" ∷ codes "in"
    ∷ codes "not" ∷ codes "if" ∷ codes "and" ∷ codes "then" ∷ []

-- 1 to 32 bytes in the form of a name, and no word of the rule language
pub record IsName (name : List ℕ) : Type 0 where
  pub size : (1 ≤ length name) × (length name ≤ most_letters)
  pub form : IsTrue (has_name_form name)
  pub free : All (λ word. name ≢ word) reserved_words

-- letters, digits, `_`, `-` and `.`
abbrev pub has_code_form : List ℕ → Bool
has_code_form bs = list_all (λ c. is_letter c || (is_digit c || ((c == 95) || ((c == 45) || (c == 46))))) bs

-- 1 to 32 bytes in the form of a code
abbrev pub IsCode : List ℕ → Type 0
IsCode bs = IsTrue (has_code_form bs) × (1 ≤ length bs) × (length bs ≤ most_letters)

-- 1 to 64 codes, no two of them equal
abbrev pub AreCodes : List (List ℕ) → Type 0
AreCodes codes = (1 ≤ length codes) × (length codes ≤ most_codes) × All IsCode codes × AllPairs (λ a b. a ≢ b) codes

-- a scale within its limits, or codes
abbrev pub IsKind : Kind → Type 0
IsKind (kind.Number scale) = (1 ≤ scale) × (scale ≤ most_scale)
IsKind (kind.Code codes) = AreCodes codes

-- a name, a weight and a kind within the limits
pub record IsField (f : Field) : Type 0 where
  pub name : IsName f.name
  pub weight : (1 ≤ f.weight) × (f.weight ≤ most_weight)
  pub fits : IsKind f.kind

-- the set of codes, as bits, is inside the field's codes and not empty
abbrev pub IsSetOf : Kind → ℕ → Type 0
IsSetOf (kind.Number scale) set = ⊥
IsSetOf (kind.Code codes) set = (0 < set) × (set < 2 ^ length codes)

-- the field is numerical
abbrev pub IsNumber : Kind → Type 0
IsNumber (kind.Number scale) = Unit {0}
IsNumber (kind.Code codes) = ⊥

-- a numerical field of the survey, with a factor within the limits
pub record IsTerm (fields : List Field) (t : Term) : Type 0 where
  pub numerical : IsSomeAnd (slice_get fields t.field) (λ f. IsNumber f.kind)
  pub factor : (t.factor ≢ pos 0) × (unsigned_abs t.factor ≤ most_factor)

-- a linear test of terms in rising field order and a constant within its limit, or a test on a field's own codes
abbrev pub IsTest : List Field → Test → Type 0
IsTest fields (Number l) =
    IsStrictlyIncreasing (map (λ (t : Term). t.field) l.terms) × All (IsTerm fields) l.terms × (unsigned_abs l.constant ≤ 10 ^ 15)
IsTest fields (Codes field negated set) = IsSomeAnd (slice_get fields field) (λ f. IsSetOf f.kind set)

-- a test on codes
abbrev pub IsCodeTest : Test → Type 0
IsCodeTest (Number l) = ⊥
IsCodeTest (Codes field negated set) = Unit {0}

-- a comparison that is not an equation
abbrev pub IsOrderTest : Test → Type 0
IsOrderTest (Number l) = l.compare ≢ Eq
IsOrderTest (Codes field negated set) = ⊥

-- conditions are code tests, or there is one number test that is no equation, and the conclusion is a code test
abbrev pub HasForm : Rule → Type 0
HasForm r = All IsCodeTest r.conditions ⊎ ((t : Test) × (r.conditions ≡ t ∷ []) × IsOrderTest t × IsCodeTest r.conclusion)

-- an edit whose tests fit the fields, in a form that the editor takes
pub record IsRule (fields : List Field) (r : Rule) : Type 0 where
  pub conditions : All (IsTest fields) r.conditions
  pub conclusion : IsTest fields r.conclusion
  pub form : HasForm r

-- a well-formed survey: its limits are kept, its names differ, and its fields and rules are in form
pub record IsWellFormed (survey : SurveyParts) : Type 0 where
  pub few_fields : length survey.fields ≤ most_fields
  pub few_rules : length survey.rules ≤ most_rules
  pub names : AllPairs (λ (f : Field) (g : Field). f.name ≢ g.name) survey.fields
  pub fields : All IsField survey.fields
  pub rules : All (IsRule survey.fields) survey.rules
