use Rattle.std.specs.Prelude.{ℕ, ℤ, ◌==◌, not, Bool, List, [], ◌∷◌, map, bit_and, bit_xor, pos, slice_index_or, slice_set, if◌then◌else◌}
use Rattle.std.specs.List.{filter}
use lib.IntN.{neg_ℤ}
use Rattle.edit_model.specs.declared.rule.Compare.{Compare}
use Rattle.edit_model.specs.declared.rule.Compare.TheVariants.{Ge, Gt, Le, Lt, Eq}
use Rattle.edit_model.specs.declared.rule.Linear.{Linear}
use Rattle.edit_model.specs.declared.rule.Rule.{Rule}
use Rattle.edit_model.specs.declared.rule.Term.{Term}
use Rattle.edit_model.specs.declared.rule.Test.{Test}
use Rattle.edit_model.specs.declared.rule.Test.TheVariants.{Number, Codes}
use Rattle.edit_line.specs.Divisors.{reduced}
use Rattle.edit_line.specs.Lines.{LineParts, parts_of}
use Rattle.edit_line.specs.declared.relation.Relation.{Relation}
use Rattle.edit_line.specs.declared.relation.Relation.TheVariants.{Above, AtLeast, Equal}
use Rattle.edit_line.specs.Negations.{never}
use Rattle.edit_line.specs.Sets.{none_is_empty}
use Rattle.edit_line.specs.Shapes.{Domain, code_fields, number_fields, place_in, whole_sets}

-- ---- the codes at which a rule asks for something

-- the codes that meet a code test, of all the field's codes
abbrev pub test_set : ℕ → Bool → ℕ → ℕ
test_set whole negated codes = if negated then bit_xor whole codes else codes

-- the sets, narrowed at the field to the codes that meet the test
abbrev pub narrowed : List Domain → List ℕ → ℕ → Bool → ℕ → List ℕ
narrowed shape sets field negated codes =
    let place = place_in (code_fields shape) field in
    slice_set sets place (bit_and (slice_index_or sets place 0) (test_set (slice_index_or (whole_sets shape) place 0) negated codes))

-- ---- what it asks for

-- the factor of a field in a linear test, 0 where it has no term
abbrev pub term_factor : List Term → ℕ → ℤ
term_factor [] f = pos 0
term_factor (term ∷ terms) f = if term.field == f then term.factor else term_factor terms f

-- the line that says that the sum of a linear test is at least 0, above 0, or 0, where the codes are in the sets
abbrev pub positive_line_of : List Domain → List ℕ → Linear → Relation → LineParts
positive_line_of shape sets e relation = reduced (parts_of shape sets (map (term_factor e.terms) (number_fields shape)) e.constant relation)

-- the line that says that the negative of the sum is at least 0, above 0, or 0, where the codes are in the sets
abbrev pub negative_line_of : List Domain → List ℕ → Linear → Relation → LineParts
negative_line_of shape sets e relation =
    reduced (parts_of shape sets (map (λ f. neg_ℤ (term_factor e.terms f)) (number_fields shape)) (neg_ℤ e.constant) relation)

-- the lines that say that the sum compares with 0 so, where the codes are in the sets
abbrev pub compare_lines : List Domain → List ℕ → Linear → Compare → List LineParts
compare_lines shape sets e Ge = positive_line_of shape sets e AtLeast ∷ []
compare_lines shape sets e Gt = positive_line_of shape sets e Above ∷ []
compare_lines shape sets e Le = negative_line_of shape sets e AtLeast ∷ []
compare_lines shape sets e Lt = negative_line_of shape sets e Above ∷ []
compare_lines shape sets e Eq = positive_line_of shape sets e AtLeast ∷ negative_line_of shape sets e AtLeast ∷ []

-- the lines that say that the sum does not compare with 0 so; an equation is no condition
abbrev pub contrary_lines : List Domain → List ℕ → Linear → Compare → List LineParts
contrary_lines shape sets e Ge = negative_line_of shape sets e Above ∷ []
contrary_lines shape sets e Gt = negative_line_of shape sets e AtLeast ∷ []
contrary_lines shape sets e Le = positive_line_of shape sets e Above ∷ []
contrary_lines shape sets e Lt = positive_line_of shape sets e AtLeast ∷ []
contrary_lines shape sets e Eq = []

-- the lines that say that a linear test is true, where the codes are in the sets
abbrev pub lines_for : List Domain → List ℕ → Linear → List LineParts
lines_for shape sets e = compare_lines shape sets e e.compare

-- the lines that say that it is not
abbrev pub lines_against : List Domain → List ℕ → Linear → List LineParts
lines_against shape sets e = contrary_lines shape sets e e.compare

-- the lines of a conclusion, where the codes are in the sets
abbrev pub conclusion_lines : List Domain → List ℕ → Test → List LineParts
conclusion_lines shape sets (Number e) = lines_for shape sets e
conclusion_lines shape sets (Codes field negated codes) = never shape (narrowed shape sets field (not negated) codes) ∷ []

-- the lines of a comparison as the last condition: where the conclusion fails, so must it
abbrev pub condition_lines : List Domain → List ℕ → Linear → Test → List LineParts
condition_lines shape sets e (Codes field negated codes) = lines_against shape (narrowed shape sets field (not negated) codes) e
condition_lines shape sets e (Number c) = []

-- IF the conditions that are left THEN the conclusion, where the codes are in the sets
abbrev pub implied_lines : List Domain → List ℕ → List Test → Test → List LineParts
implied_lines shape sets [] conclusion = conclusion_lines shape sets conclusion
implied_lines shape sets (Codes field negated codes ∷ conditions) conclusion =
    implied_lines shape (narrowed shape sets field negated codes) conditions conclusion
implied_lines shape sets (Number e ∷ conditions) conclusion = condition_lines shape sets e conclusion

-- the lines that say that the sum compares with 0 so, whatever the codes are; an equation is one line
abbrev pub compare_always : List Domain → Linear → Compare → List LineParts
compare_always shape e Eq = positive_line_of shape (whole_sets shape) e Equal ∷ []
compare_always shape e c = compare_lines shape (whole_sets shape) e c

-- the lines of a rule without conditions
abbrev pub always_lines : List Domain → Test → List LineParts
always_lines shape (Number e) = compare_always shape e e.compare
always_lines shape (Codes field negated codes) = conclusion_lines shape (whole_sets shape) (Codes field negated codes)

-- the lines of a rule with these conditions
abbrev pub lines_under : List Domain → List Test → Test → List LineParts
lines_under shape [] conclusion = always_lines shape conclusion
lines_under shape (condition ∷ conditions) conclusion = implied_lines shape (whole_sets shape) (condition ∷ conditions) conclusion

-- the lines of a rule, those with an empty set too
abbrev pub all_lines_of : List Domain → Rule → List LineParts
all_lines_of shape rule = lines_under shape rule.conditions rule.conclusion

-- the normal form of a rule: its lines, but for those with an empty set (Fellegi and Holt 1976, for code tests)
abbrev pub rule_lines_of : List Domain → Rule → List LineParts
rule_lines_of shape rule = filter (λ line. none_is_empty line.sets) (all_lines_of shape rule)
