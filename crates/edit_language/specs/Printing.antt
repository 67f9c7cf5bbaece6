-- A survey as a rule text: one way of writing it, of the many that are read.
use Rattle.std.specs.Prelude.{ℕ, ℤ, suc, Bool, ◌==◌, ◌++◌, List, [], ◌∷◌, pos, int_lt, unsigned_abs, slice_get, codes, if◌then◌else◌}
use Rattle.std.specs.Fmt.{decimal, signed_decimal}
use Rattle.std.specs.Int.{bit_at}
use Rattle.std.specs.List.{flat_map}
use Rattle.std.specs.Option.{option_map_or}
use Rattle.std.specs.Ordering.{int_eq}
use Rattle.edit_model.specs.Parts.{SurveyParts}
use Rattle.edit_model.specs.declared.field.Field.{Field}
use Rattle.edit_model.specs.declared.field.Kind.{Kind}
use Rattle.edit_model.specs.declared.field.Kind.TheVariants as kind
use Rattle.edit_model.specs.declared.rule.Compare.{Compare}
use Rattle.edit_model.specs.declared.rule.Compare.TheVariants.{Ge, Gt, Le, Lt, Eq}
use Rattle.edit_model.specs.declared.rule.Linear.{Linear}
use Rattle.edit_model.specs.declared.rule.Rule.{Rule}
use Rattle.edit_model.specs.declared.rule.Term.{Term}
use Rattle.edit_model.specs.declared.rule.Test.{Test}
use Rattle.edit_model.specs.declared.rule.Test.TheVariants as test
use Rattle.edit_language.specs.Meaning.{field_codes}

-- the name of the field of this number, from 0; nothing where no field has it
abbrev pub name_at : List Field → ℕ → List ℕ
name_at fields i = option_map_or (λ (f : Field). f.name) (slice_get fields i) []

-- ---- lists of codes

-- the texts, with a comma and a space between two
abbrev pub comma_list : List (List ℕ) → List ℕ
comma_list [] = []
comma_list (first ∷ rest) = first ++ flat_map (λ (text : List ℕ). codes ", " ++ text) rest

-- between braces
abbrev pub braced : List (List ℕ) → List ℕ
braced list = codes "{" ++ comma_list list ++ codes "}"

-- the codes from number i on that are in the set, in declared order
abbrev pub codes_of_set : ℕ → ℕ → List (List ℕ) → List (List ℕ)
codes_of_set set i [] = []
codes_of_set set i (code ∷ rest) = if bit_at set i == 1 then code ∷ codes_of_set set (suc i) rest else codes_of_set set (suc i) rest

-- ---- sums

-- a factor and its field; the factor 1 is not written
abbrev pub product_text : ℕ → List ℕ → List ℕ
product_text factor name = if factor == 1 then name else decimal factor ++ codes " " ++ name

-- a minus sign in front of what is negative
abbrev pub sign_text : ℤ → List ℕ
sign_text z = if int_lt z (pos 0) then codes "-" else []

-- what stands between two terms
abbrev pub joint_text : ℤ → List ℕ
joint_text z = if int_lt z (pos 0) then codes " - " else codes " + "

-- what stands before a term: of the first its minus sign, and of a later one what joins it to the term before
abbrev pub lead_text : Bool → ℤ → List ℕ
lead_text first z = if first then sign_text z else joint_text z

-- a term without its sign
abbrev pub term_text : List Field → Term → List ℕ
term_text fields t = product_text (unsigned_abs t.factor) (name_at fields t.field)

-- a term of this field and factor, and what stands before it
abbrev pub whole_term_text : Bool → List Field → ℕ → ℤ → List ℕ
whole_term_text first fields field factor = lead_text first factor ++ product_text (unsigned_abs factor) (name_at fields field)

-- the terms behind the first
abbrev pub later_terms_text : List Field → List Term → List ℕ
later_terms_text fields terms = flat_map (λ (t : Term). joint_text t.factor ++ term_text fields t) terms

-- the terms in order
abbrev pub terms_text : List Field → Term → List Term → List ℕ
terms_text fields first rest = sign_text first.factor ++ term_text fields first ++ later_terms_text fields rest

-- a constant behind terms, where it is not 0
abbrev pub later_constant_text : ℤ → List ℕ
later_constant_text c = if int_eq c (pos 0) then [] else joint_text c ++ decimal (unsigned_abs c)

-- the terms in order and then the constant; the constant alone where there is no term
abbrev pub sum_text : List Field → List Term → ℤ → List ℕ
sum_text fields [] constant = signed_decimal constant
sum_text fields (first ∷ rest) constant = terms_text fields first rest ++ later_constant_text constant

-- the comparison of a sum with 0, with the blank before it
abbrev pub compare_text : Compare → List ℕ
compare_text Ge = codes " >= 0"
compare_text Gt = codes " > 0"
compare_text Le = codes " <= 0"
compare_text Lt = codes " < 0"
compare_text Eq = codes " = 0"

-- the sum and its comparison with 0
abbrev pub linear_text : List Field → Linear → List ℕ
linear_text fields l = sum_text fields l.terms l.constant ++ compare_text l.compare

-- ---- statements

-- what stands between a field and its codes
abbrev pub in_text : Bool → List ℕ
in_text negated = if negated then codes " not in " else codes " in "

-- a test: a sum and its comparison with 0, or a field and the codes that it may have or may not have
abbrev pub test_text : List Field → Test → List ℕ
test_text fields (test.Number l) = linear_text fields l
test_text fields (test.Codes field negated set) =
    name_at fields field ++ in_text negated ++ braced (codes_of_set set 0 (field_codes (slice_get fields field)))

-- the conditions behind the first
abbrev pub later_conditions_text : List Field → List Test → List ℕ
later_conditions_text fields tests = flat_map (λ (t : Test). codes " and " ++ test_text fields t) tests

-- the conditions between `if` and `then`; nothing where there is none
abbrev pub conditions_text : List Field → List Test → List ℕ
conditions_text fields [] = []
conditions_text fields (first ∷ rest) = codes "if " ++ test_text fields first ++ later_conditions_text fields rest ++ codes " then "

-- a rule's line
abbrev pub rule_line : List Field → Rule → List ℕ
rule_line fields r = conditions_text fields r.conditions ++ test_text fields r.conclusion

-- the kind of a field, behind its name and weight
abbrev pub kind_text : Kind → List ℕ
kind_text (kind.Number scale) = codes " scale " ++ decimal scale
kind_text (kind.Code list) = codes " in " ++ braced list

-- the word that begins a declaration, with the blank behind it
abbrev pub kind_word : Kind → List ℕ
kind_word (kind.Number scale) = codes "number "
kind_word (kind.Code list) = codes "code "

-- a declaration's line; weight and scale are always written
abbrev pub field_line : Field → List ℕ
field_line f = kind_word f.kind ++ f.name ++ codes " weight " ++ decimal f.weight ++ kind_text f.kind

-- a line for each declaration
abbrev pub field_lines : List Field → List ℕ
field_lines fields = flat_map (λ (f : Field). field_line f ++ 10 ∷ []) fields

-- a line for each rule over the fields
abbrev pub rule_lines : List Field → List Rule → List ℕ
rule_lines fields rules = flat_map (λ (r : Rule). rule_line fields r ++ 10 ∷ []) rules

-- all declarations, and then all rules
abbrev pub printed : SurveyParts → List ℕ
printed survey = field_lines survey.fields ++ rule_lines survey.fields survey.rules
