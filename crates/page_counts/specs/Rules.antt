-- How many records break a rule.
use Rattle.std.specs.Prelude.{◌&&◌, not, if◌then◌else◌, Bool, true, false, List, Option, Some, None, is_none}
use Rattle.std.specs.List.{count_by, list_all}
use Rattle.edit_model.specs.Rows.{value_of}
use Rattle.edit_model.specs.Trials.{rule_at}
use Rattle.edit_model.specs.declared.rule.Rule.{Rule}
use Rattle.edit_model.specs.declared.rule.Term.{Term}
use Rattle.edit_model.specs.declared.rule.Test.{Test}
use Rattle.edit_model.specs.declared.rule.Test.TheVariants as test
use Rattle.edit_model.specs.declared.value.Value.{Value}
use Rattle.edit_model.specs.declared.value.Value.TheVariants.{Code, Number}
use Rattle.page_counts.specs.declared.rules.RuleCount.{RuleCount}

-- whether a value is a number
abbrev pub is_number : Value → Bool
is_number (Number x) = true
is_number _ = false

-- whether a value is a code
abbrev pub is_some_code : Value → Bool
is_some_code (Code c) = true
is_some_code _ = false

-- whether the record has a value in each field that the test reads: a number at each term, or a code
abbrev pub has_values : List Value → Test → Bool
has_values row (test.Number linear) = list_all (λ (t : Term). is_number (value_of row t.field)) linear.terms
has_values row (test.Codes field negated set) = is_some_code (value_of row field)

-- whether the record has a value in each field that the rule reads
abbrev pub can_try : List Value → Rule → Bool
can_try row rule = list_all (has_values row) rule.conditions && has_values row rule.conclusion

-- whether the rule holds at the record; None where the record has no value in a field that the rule reads, or a number leaves the range
abbrev pub answer_at : List Value → Rule → Option Bool
answer_at row rule = if can_try row rule then rule_at rule row else None

-- the answer is a no
abbrev pub is_false : Option Bool → Bool
is_false (Some answer) = not answer
is_false None = false

-- whether the record breaks the rule: it has a value in each field that the rule reads, and the rule is false there
abbrev pub is_broken : Rule → List Value → Bool
is_broken rule row = is_false (answer_at row rule)

-- whether the rule cannot be tried at the record
abbrev pub is_untried : Rule → List Value → Bool
is_untried rule row = is_none (answer_at row rule)

-- the counts of a rule before any record is tried
abbrev pub no_count : RuleCount
no_count = record { broken = 0; untried = 0 }

-- how many of the records break the rule, and at how many it cannot be tried
abbrev pub rule_count : List (List Value) → Rule → RuleCount
rule_count rows rule = record { broken = count_by (is_broken rule) rows; untried = count_by (is_untried rule) rows }
