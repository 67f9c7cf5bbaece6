-- The lines of a printed survey are its statements, one after the other, and an empty last one.
use Rattle.std.proofs.Common.{◌≡◌, ◌≢◌, ◌∙◌, refl, sym, ap, subst, ℕ, ◌+◌, ◌≤◌, Bool, true, false, eqb, List, [], ◌∷◌, ◌++◌, length, append_assoc, inl, inr}
use Rattle.std.proofs.Common.{arith}
use Rattle.std.proofs.lemmas.Bool.{and_parts, false_from_ne_true}
use Rattle.std.proofs.lemmas.Bool.Decides.{nat_tests}
use Rattle.std.proofs.lemmas.List.{append-nil, get_or_append_left, length-append, take_all}
use Rattle.std.proofs.lemmas.List.Elements.{All-from_recursion, recursion_from_All}
use Rattle.std.proofs.lemmas.List.Folds.{list_any_none}
use Rattle.std.proofs.lemmas.List.Splits.{slice_split_at}
use Rattle.std.proofs.lemmas.Slice.Eq.{bytes_eq-Decides}
use Rattle.std.proofs.Math.Seq.{get_or-append_seam}
use Rattle.std.specs.Prelude.{All, AllPairs, not}
use Rattle.std.specs.List.{AllByRecursion, list_all, list_any, prefix_len, slice_split}
use Rattle.std.specs.Str.{bytes_eq}
use Rattle.edit_model.specs.Parts.{SurveyParts}
use Rattle.edit_model.specs.Surveys.{IsField, IsRule, IsWellFormed}
use Rattle.edit_model.specs.declared.field.Field.{Field}
use Rattle.edit_model.specs.declared.rule.Rule.{Rule}
use Rattle.rule_grammar.specs.Statements.{statement_tokens}
use Rattle.rule_grammar.specs.Tokens.{tokens_of}
use Rattle.rule_grammar.specs.declared.statement.Statement.{Statement as Written}
use Rattle.rule_grammar.proofs.TokenSteps.{prefix_of_run}
use Rattle.edit_language.specs.Grammar.{AddsAll, AddsStatement, IsRuleText, SaysStatement, no_statements}
use Rattle.edit_language.specs.Lines.{is_bad_byte, read_part, without_mark, without_return}
use Rattle.edit_language.specs.Printing.{field_line, field_lines, printed, rule_line, rule_lines}
use Rattle.edit_language.proofs.FirstFaultLaws.{none_found}
use Rattle.edit_language.proofs.PrintingFields.{field_spells}
use Rattle.edit_language.proofs.PrintingRules.{rule_spells}
use Rattle.edit_language.proofs.PrintingPieces.{IsPlain, Spells, all_weaker, is_plain, stops_nil}
use Rattle.edit_language.proofs.PrintingFaults.{IsNew, field_added, field_faultless, rule_back}
use Rattle.edit_language.proofs.PrintingStatements.{statement_of_field, statement_of_rule}

-- ---- one line

no_newline : (b : ℕ) → is_plain b ≡ true → eqb b 10 ≡ false
no_newline b h = grind (arith, nat_tests)

no_comment : (b : ℕ) → is_plain b ≡ true → not (eqb b 35) ≡ true
no_comment b h = grind (arith, nat_tests)

no_return : (b : ℕ) → is_plain b ≡ true → eqb b 13 ≡ false
no_return b h = grind (arith, nat_tests)

not_bad : (b : ℕ) → is_plain b ≡ true → is_bad_byte b ≡ false
not_bad b h = grind (arith, nat_tests)

no_mark : (b : ℕ) → is_plain b ≡ true → eqb 239 b ≡ false
no_mark b h = grind (arith, nat_tests)

all_of : (p : ℕ → Bool) (r : Bool) → ((b : ℕ) → is_plain b ≡ true → p b ≡ r) → (text : List ℕ) → IsPlain text → AllByRecursion (λ b. p b ≡ r) text
all_of p r h [] plain = tt
all_of p r h (b ∷ bs) plain =
    let parts = and_parts (is_plain b) (list_all is_plain bs) plain in (h b parts.0, all_of p r h bs parts.1)

kept_end : (text : List ℕ) → IsPlain text → without_return text ≡ text
kept_end [] plain = refl
kept_end (b ∷ []) plain = rw (no_return b (and_parts (is_plain b) true plain).0) refl
kept_end (b ∷ (c ∷ bs)) plain = ap (λ (rest : List ℕ). b ∷ rest) (kept_end (c ∷ bs) (and_parts (is_plain b) (list_all is_plain (c ∷ bs)) plain).1)

whole_read : (text : List ℕ) → IsPlain text → read_part text ≡ text
whole_read text plain =
    let same = kept_end text plain in
    let all = all_weaker is_plain (λ b. not (eqb b 35)) no_comment text plain in
    let size : prefix_len (λ b. not (eqb b 35)) text ≡ length text = ap (prefix_len (λ b. not (eqb b 35))) (sym (append-nil text))
    ∙ prefix_of_run (λ b. not (eqb b 35)) text [] all refl in
    rw same (rw size (take_all (length text) text (omega arith)))

pub line_says : (text : List ℕ) (statement : Written) → Spells false false text (statement_tokens statement) → SaysStatement text statement
line_says text statement spells =
    let whole = whole_read text spells.plain in
    record {
      clean = ap (list_any is_bad_byte) whole ∙ list_any_none is_bad_byte text
          (All-from_recursion (λ b. is_bad_byte b ≡ false) text (all_of is_bad_byte false not_bad text spells.plain));
      tokens = ap tokens_of whole ∙ ap tokens_of (sym (append-nil text)) ∙ spells.read [] stops_nil ∙ append-nil (statement_tokens statement);
    }

first_line : (text rest : List ℕ) → IsPlain text → slice_split (λ b. eqb b 10) ((text ++ 10 ∷ []) ++ rest) ≡ text ∷ slice_split (λ b. eqb b 10) rest
first_line text rest plain =
    ap (slice_split (λ b. eqb b 10)) (append_assoc text (10 ∷ []) rest)
    ∙ slice_split_at (λ b. eqb b 10) text 10 rest (All-from_recursion (λ b. eqb b 10 ≡ false) text
    (all_of (λ b. eqb b 10) false no_newline text plain)) refl

-- a survey by its fields and rules
abbrev survey_of : List Field → List Rule → SurveyParts
survey_of fields rules = record { fields = fields; rules = rules }

abbrev lines_from : List ℕ → List (List ℕ)
lines_from text = slice_split (λ b. eqb b 10) text

-- a line that adds a statement, and the lines behind it
adds_line : (text rest : List ℕ) (statement : Written) (before next after : SurveyParts) → AddsStatement text before next → IsPlain text
    → AddsAll (lines_from rest) next after → AddsAll (lines_from ((text ++ 10 ∷ []) ++ rest)) before after
adds_line text rest statement before next after adds plain more =
    subst (λ (lines : List (List ℕ)). AddsAll lines before after) (sym (first_line text rest plain)) (next, inr adds, more)

-- ---- rules

last_line : (survey : SurveyParts) → AddsAll (lines_from []) survey survey
last_line survey = (survey, inl (record { clean = refl; tokens = refl }, refl), refl)

rules_read : (fields : List Field) → All IsField fields → AllPairs (λ (f : Field) (g : Field). f.name ≢ g.name) fields → (rules done : List Rule)
    → AllByRecursion (IsRule fields) rules → length done + length rules ≤ 500
    → AddsAll (lines_from (rule_lines fields rules)) (survey_of fields done) (survey_of fields (done ++ rules))
rules_read fields all distinct [] done are few =
    subst (λ (rules : List Rule). AddsAll (lines_from []) (survey_of fields done) (survey_of fields rules)) (sym (append-nil done))
    (last_line (survey_of fields done))
rules_read fields all distinct (r ∷ rules) done are few =
    let back = rule_back (survey_of fields done) r all distinct are.0 (omega arith) in
    let spells = rule_spells fields r back.printable in
    let size = length-append done (r ∷ []) in
    let rest = rules_read fields all distinct rules (done ++ r ∷ []) are.1 (omega arith) in
    adds_line (rule_line fields r) (rule_lines fields rules) (statement_of_rule fields r) (survey_of fields done) (survey_of fields (done ++ r ∷ []))
    (survey_of fields (done ++ r ∷ rules))
    (record {
      statement = statement_of_rule fields r;
      says = line_says (rule_line fields r) (statement_of_rule fields r) spells;
      faultless = none_found (survey_of fields done) (statement_of_rule fields r) back.faultless;
      grown = sym back.added;
    })
    spells.plain
    (subst (λ (all_rules : List Rule). AddsAll (lines_from (rule_lines fields rules)) (survey_of fields (done ++ r ∷ [])) (survey_of fields all_rules))
    (append_assoc done (r ∷ []) rules) rest)

-- ---- fields

new_name : (done : List Field) (f : Field) (fields : List Field) → AllPairs (λ (f : Field) (g : Field). f.name ≢ g.name) (done ++ f ∷ fields)
    → IsNew done f.name
new_name done f fields distinct =
    list_any_none (λ (g : Field). bytes_eq g.name f.name) done (λ k d below.
    let size = length-append done (f ∷ fields) in
    let first = get_or_append_left done (f ∷ fields) d k below in
    let second = get_or-append_seam done f fields d in
    false_from_ne_true _ (λ e. distinct k (length done) d below (omega arith)
    (ap (λ (g : Field). g.name) first ∙ (bytes_eq-Decides _ _).0 e ∙ sym (ap (λ (g : Field). g.name) second))))

fields_read : (fields done : List Field) (rest : List ℕ) (after : SurveyParts) → AllByRecursion IsField fields
    → AllPairs (λ (f : Field) (g : Field). f.name ≢ g.name) (done ++ fields) → length done + length fields ≤ 64
    → AddsAll (lines_from rest) (survey_of (done ++ fields) []) after → AddsAll (lines_from (field_lines fields ++ rest)) (survey_of done []) after
fields_read [] done rest after are distinct few more = subst (λ (all : List Field). AddsAll (lines_from rest) (survey_of all []) after) (append-nil done) more
fields_read (f ∷ fields) done rest after are distinct few more =
    let spells = field_spells f are.0 in
    let again : (done ++ f ∷ []) ++ fields ≡ done ++ f ∷ fields = append_assoc done (f ∷ []) fields in
    let size = length-append done (f ∷ []) in
    let next = survey_of (done ++ f ∷ []) [] in
    let later = fields_read fields (done ++ f ∷ []) rest after are.1
    (subst (λ (all : List Field). AllPairs (λ (f : Field) (g : Field). f.name ≢ g.name) all) (sym again) distinct) (omega arith)
    (subst (λ (all : List Field). AddsAll (lines_from rest) (survey_of all []) after) (sym again) more) in
    let line = adds_line (field_line f) (field_lines fields ++ rest) (statement_of_field f) (survey_of done []) next after
    (record {
      statement = statement_of_field f;
      says = line_says (field_line f) (statement_of_field f) spells;
      faultless = none_found (survey_of done []) (statement_of_field f)
          (field_faultless (survey_of done []) f are.0 (new_name done f fields distinct) (omega arith));
      grown = sym (field_added (survey_of done []) f are.0);
    })
    spells.plain later in
    subst (λ (text : List ℕ). AddsAll (lines_from text) (survey_of done []) after) (sym (append_assoc (field_line f ++ 10 ∷ []) (field_lines fields) rest)) line

-- ---- the whole text

-- no byte order mark stands before a line
line_unmarked : (text rest : List ℕ) → IsPlain text → without_mark ((text ++ 10 ∷ []) ++ rest) ≡ (text ++ 10 ∷ []) ++ rest
line_unmarked [] rest plain = refl
line_unmarked (b ∷ bs) rest plain = let other = no_mark b (and_parts (is_plain b) (list_all is_plain bs) plain).0 in rw other refl

printed_unmarked : (fields : List Field) (rules : List Rule) → IsWellFormed (survey_of fields rules)
    → without_mark (field_lines fields ++ rule_lines fields rules) ≡ field_lines fields ++ rule_lines fields rules
printed_unmarked (f ∷ fields) rules is =
    let spells = field_spells f (is.fields 0 f (omega arith)) in
    let again = append_assoc (field_line f ++ 10 ∷ []) (field_lines fields) (rule_lines (f ∷ fields) rules) in
    subst (λ (text : List ℕ). without_mark text ≡ text) (sym again)
    (line_unmarked (field_line f) (field_lines fields ++ rule_lines (f ∷ fields) rules) spells.plain)
printed_unmarked [] [] is = refl
printed_unmarked [] (r ∷ rules) is =
    let back = rule_back (survey_of [] []) r is.fields is.names (is.rules 0 r (omega arith)) (omega arith) in
    line_unmarked (rule_line [] r) (rule_lines [] rules) (rule_spells [] r back.printable).plain

-- a well-formed survey is read again from what is printed
pub printed-read : (survey : SurveyParts) → IsWellFormed survey → IsRuleText (printed survey) survey
printed-read survey is =
    let fields = survey.fields in
    let rules = rules_read fields is.fields is.names survey.rules [] (recursion_from_All (IsRule fields) survey.rules is.rules) (omega (arith, is.few_rules)) in
    let all = fields_read fields [] (rule_lines fields survey.rules) survey (recursion_from_All IsField fields is.fields) is.names
    (omega (arith, is.few_fields)) rules in
    subst (λ (text : List ℕ). AddsAll (lines_from text) no_statements survey) (sym (printed_unmarked fields survey.rules is)) all
