-- The survey that records are made for: the accounts and the staff of businesses, and the rules.
use Rattle.std.specs.Prelude.{ℕ, true, false, List, [], ◌∷◌, ◌++◌, codes, map, neg_ℤ, pos, slice_get, unwrap_or}
use Rattle.edit_model.specs.Parts.{SurveyParts, survey_of}
use Rattle.edit_model.specs.declared.field.Field.{Field}
use Rattle.edit_model.specs.declared.field.Kind.TheVariants as kind
use Rattle.edit_model.specs.declared.rule.Compare.{Compare}
use Rattle.edit_model.specs.declared.rule.Compare.TheVariants.{Ge, Gt, Le, Eq}
use Rattle.edit_model.specs.declared.rule.Rule.{Rule}
use Rattle.edit_model.specs.declared.rule.Term.{Term}
use Rattle.edit_model.specs.declared.rule.Test.{Test}
use Rattle.edit_model.specs.declared.rule.Test.TheVariants as test
use Rattle.edit_language.specs.Meaning.{code_set, field_codes, number_named}
use Rattle.survey_maker.specs.Kinds.{activities, activity_text, form_text, forms, region_text, regions, size_text, sizes}

-- ---- fields

-- a numerical field of this weight; distances are measured in thousands
abbrev pub number_field : List ℕ → ℕ → Field
number_field name weight = record { name = name; weight = weight; kind = kind.Number 1000 }

-- a categorical field of weight 1
abbrev pub code_field : List ℕ → List (List ℕ) → Field
code_field name list = record { name = name; weight = 1; kind = kind.Code list }

-- the accounts of a business, its staff, and of what kind it is
abbrev pub made_fields : List Field
made_fields =
    number_field (codes "Turnover") 2 ∷ number_field (codes "Goods") 1 ∷ number_field (codes "Bought") 1
    ∷ number_field (codes "Wages") 1 ∷ number_field (codes "Social") 1 ∷ number_field (codes "Other") 1
    ∷ number_field (codes "Costs") 2 ∷ number_field (codes "Profit") 1 ∷ number_field (codes "Staff") 1
    ∷ number_field (codes "Full") 1 ∷ number_field (codes "Part") 1 ∷ number_field (codes "Invest") 1
    ∷ code_field (codes "Activity") (map activity_text activities) ∷ code_field (codes "Size") (map size_text sizes)
    ∷ code_field (codes "Region") (map region_text regions) ∷ code_field (codes "Form") (map form_text forms) ∷ []

-- ---- how rules are written here

-- the number of the field with this name
abbrev pub number_of : List ℕ → ℕ
number_of name = unwrap_or (number_named made_fields name) 0

-- so many times the field's number
abbrev pub plus : ℕ → List ℕ → Term
plus factor name = record { field = number_of name; factor = pos factor }

-- the same, taken away
abbrev pub minus : ℕ → List ℕ → Term
minus factor name = record { field = number_of name; factor = neg_ℤ (pos factor) }

-- the sum of the terms, less a number, compares with 0
abbrev pub sum_less : List Term → ℕ → Compare → Test
sum_less terms number compare = test.Number (record { terms = terms; constant = neg_ℤ (pos number); compare = compare })

-- the sum of the terms compares with 0
abbrev pub sum_is : List Term → Compare → Test
sum_is terms compare = sum_less terms 0 compare

-- the field's code is one of these
abbrev pub one_of : List ℕ → List (List ℕ) → Test
one_of name list = test.Codes (number_of name) false (code_set (field_codes (slice_get made_fields (number_of name))) list)

-- the field's code is none of these
abbrev pub none_of : List ℕ → List (List ℕ) → Test
none_of name list = test.Codes (number_of name) true (code_set (field_codes (slice_get made_fields (number_of name))) list)

-- the test is true of every record
abbrev pub always : Test → Rule
always conclusion = record { conditions = []; conclusion = conclusion }

-- where one test is true, another is
abbrev pub if_then : Test → Test → Rule
if_then condition conclusion = record { conditions = condition ∷ []; conclusion = conclusion }

-- where the size class is this one, the staff, less a number, compares with 0
abbrev pub staff_in : List ℕ → ℕ → Compare → Rule
staff_in size number compare = if_then (one_of (codes "Size") (size ∷ [])) (sum_less (plus 1 (codes "Staff") ∷ []) number compare)

-- ---- rules

-- all numbers but the profit are at least 0
abbrev pub sign_rules : List Rule
sign_rules = map (λ (name : List ℕ). always (sum_is (plus 1 name ∷ []) Ge))
    (codes "Turnover" ∷ codes "Goods" ∷ codes "Bought" ∷ codes "Wages" ∷ codes "Social" ∷ codes "Other" ∷ codes "Costs"
    ∷ codes "Staff" ∷ codes "Full" ∷ codes "Part" ∷ codes "Invest" ∷ [])

-- the costs add up, what is left of the turnover is profit, and how numbers bound each other
abbrev pub account_rules : List Rule
account_rules =
    always (sum_is (plus 1 (codes "Goods") ∷ plus 1 (codes "Bought") ∷ plus 1 (codes "Wages") ∷ plus 1 (codes "Social")
    ∷ plus 1 (codes "Other") ∷ minus 1 (codes "Costs") ∷ []) Eq)
    ∷ always (sum_is (plus 1 (codes "Turnover") ∷ minus 1 (codes "Costs") ∷ minus 1 (codes "Profit") ∷ []) Eq)
    ∷ always (sum_is (minus 6 (codes "Turnover") ∷ plus 10 (codes "Profit") ∷ []) Le)
    ∷ always (sum_is (plus 5 (codes "Turnover") ∷ plus 10 (codes "Profit") ∷ []) Ge)
    ∷ always (sum_is (minus 1 (codes "Staff") ∷ plus 1 (codes "Full") ∷ plus 1 (codes "Part") ∷ []) Eq)
    ∷ always (sum_is (minus 1 (codes "Wages") ∷ plus 1 (codes "Social") ∷ []) Le)
    ∷ always (sum_is (minus 2 (codes "Turnover") ∷ plus 1 (codes "Invest") ∷ []) Le)
    ∷ always (sum_is (plus 1 (codes "Wages") ∷ minus 5 (codes "Full") ∷ []) Ge)
    ∷ always (sum_is (plus 1 (codes "Wages") ∷ minus 100 (codes "Staff") ∷ []) Le) ∷ []

-- what the size class says of the staff
abbrev pub size_rules : List Rule
size_rules =
    staff_in (codes "micro") 9 Le ∷ staff_in (codes "small") 10 Ge ∷ staff_in (codes "small") 49 Le
    ∷ staff_in (codes "medium") 50 Ge ∷ staff_in (codes "medium") 249 Le ∷ staff_in (codes "large") 250 Ge ∷ []

-- what codes say of each other, and one number of a code
abbrev pub code_rules : List Rule
code_rules =
    if_then (one_of (codes "Form") (codes "sole" ∷ [])) (one_of (codes "Size") (codes "micro" ∷ codes "small" ∷ []))
    ∷ if_then (one_of (codes "Activity") (codes "farm" ∷ [])) (none_of (codes "Form") (codes "public" ∷ []))
    ∷ if_then (one_of (codes "Size") (codes "large" ∷ [])) (none_of (codes "Form") (codes "sole" ∷ []))
    ∷ if_then (sum_less (plus 1 (codes "Invest") ∷ []) 1000000 Gt) (none_of (codes "Size") (codes "micro" ∷ [])) ∷ []

-- the survey
abbrev pub survey_made : SurveyParts
survey_made = survey_of made_fields (sign_rules ++ account_rules ++ size_rules ++ code_rules)
