-- A printed rule spells the tokens of its statement.
use Rattle.std.proofs.Common.{◌≡◌, ◌∙◌, refl, sym, ap, subst, ℕ, ◌≤◌, ◌^◌, Bool, true, false, eqb, ℤ, pos, negsuc, List, [], ◌∷◌, ◌++◌, length, append_assoc}
use Rattle.std.proofs.Common.{arith}
use Rattle.std.proofs.lemmas.Fmt.{decimal_digit}
use Rattle.std.proofs.lemmas.Int.{ints}
use Rattle.std.proofs.lemmas.List.{append-nil}
use Rattle.std.specs.Prelude.{codes, unsigned_abs, slice_get, if◌then◌else◌, map}
use Rattle.std.specs.Fmt.{decimal, signed_decimal}
use Rattle.std.specs.List.{AllByRecursion, flat_map}
use Rattle.std.specs.Ordering.{int_eq}
use Rattle.edit_model.specs.Surveys.{IsName}
use Rattle.edit_model.specs.declared.field.Field.{Field}
use Rattle.edit_model.specs.declared.rule.Compare.{Compare}
use Rattle.edit_model.specs.declared.rule.Compare.TheVariants.{Ge, Gt, Le, Lt, Eq}
use Rattle.edit_model.specs.declared.rule.Rule.{Rule}
use Rattle.edit_model.specs.declared.rule.Term.{Term}
use Rattle.edit_model.specs.declared.rule.Test.{Test}
use Rattle.edit_model.specs.declared.rule.Test.TheVariants as test
use Rattle.rule_grammar.specs.Names.{IsCodeText}
use Rattle.rule_grammar.specs.Statements.{conditions_tokens, list_tokens, rule_tokens, sign_tokens, signed_term_tokens, sum_tokens, term_tokens, test_tokens}
use Rattle.rule_grammar.specs.inner.Fronts.{tokens_from}
use Rattle.rule_grammar.specs.declared.statement.TestText.{TestText}
use Rattle.rule_grammar.specs.declared.token.Keyword.TheVariants as keyword
use Rattle.rule_grammar.specs.declared.token.Numeral.TheVariants as numeral
use Rattle.rule_grammar.specs.declared.token.Sign.TheVariants as sign
use Rattle.rule_grammar.specs.declared.token.Token.{Token}
use Rattle.rule_grammar.specs.declared.token.Token.TheVariants as token
use Rattle.rule_grammar.proofs.TokenSteps.{tokens_from_blank, tokens_from_front}
use Rattle.edit_language.specs.Meaning.{field_codes}
use Rattle.edit_language.specs.Printing.{braced, codes_of_set, compare_text, conditions_text, joint_text, later_conditions_text, later_constant_text}
use Rattle.edit_language.specs.Printing.{later_terms_text, name_at, rule_line, sign_text, sum_text, term_text, test_text}
use Rattle.edit_language.proofs.PrintingFields.{braced_spells}
use Rattle.edit_language.proofs.PrintingPieces.{IsPlain, Leads, Opens, Spells, blank_opens, keyword_between, keyword_opens, leads_blank, leads_nil, mark_opens}
use Rattle.edit_language.proofs.PrintingPieces.{name_spells, number_spells, opens_both, opens_nil, opens_then, plain-append, respelled, spells_from}
use Rattle.edit_language.proofs.PrintingPieces.{spells_opens, spells_then, stops_blank}
use Rattle.edit_language.proofs.PrintingStatements.{code_list, constant_if, front_sign, is_negative, later_terms, product_of, sign_of, signed_term, sum_of}
use Rattle.edit_language.proofs.PrintingStatements.{term_of, written_rule, written_test, zero_sum}

-- ---- signs

front_opens : (negative : Bool) → Opens false false (if negative then codes "-" else []) (sign_tokens (front_sign negative))
front_opens true = mark_opens false 45 (token.Sign sign.Minus) refl (λ rest. tokens_from_front false 45 rest refl)
front_opens false = opens_nil false

joint_opens : (negative : Bool) → Opens false false (if negative then codes " - " else codes " + ") (token.Sign (sign_of negative) ∷ [])
joint_opens true = opens_both (blank_opens false) (opens_both (mark_opens false 45 (token.Sign sign.Minus) refl (λ rest. tokens_from_front false 45 rest refl))
    (blank_opens false))
joint_opens false = opens_both (blank_opens false) (opens_both (mark_opens false 43 (token.Sign sign.Plus) refl (λ rest. tokens_from_front false 43 rest refl))
    (blank_opens false))

joint_leads : (negative : Bool) (text : List ℕ) → Leads ((if negative then codes " - " else codes " + ") ++ text)
joint_leads true text = leads_blank _
joint_leads false text = leads_blank _

-- ---- terms

product_spells : (is_one : Bool) (factor : ℕ) (name : List ℕ) → IsName name → factor ≤ 10 ^ 9
    → Spells false false (if is_one then name else decimal factor ++ codes " " ++ name) (term_tokens (product_of is_one factor name))
product_spells true factor name is small = name_spells name is
product_spells false factor name is small = opens_then (spells_opens (number_spells factor (omega arith)) (λ rest. stops_blank rest) (blank_opens false))
    (name_spells name is)

-- a term whose field has a name, and whose factor is in its limits
pub record IsPrintable (fields : List Field) (t : Term) : Type 0 where
  pub name : IsName (name_at fields t.field)
  pub factor : unsigned_abs t.factor ≤ 10 ^ 9

term_spells : (fields : List Field) (t : Term) → IsPrintable fields t → Spells false false (term_text fields t) (term_tokens (term_of fields t))
term_spells fields t is = product_spells (eqb (unsigned_abs t.factor) 1) (unsigned_abs t.factor) (name_at fields t.field) is.name is.factor

signed_term_spells : (fields : List Field) (t : Term) → IsPrintable fields t
    → Spells false false (joint_text t.factor ++ term_text fields t) (signed_term_tokens (signed_term fields t))
signed_term_spells fields t is = opens_then (joint_opens (is_negative t.factor)) (term_spells fields t is)

-- ---- what stands behind the first term

record Behind (text : List ℕ) (tokens : List Token) : Type 0 where
  leads : Leads text
  spells : Spells false false text tokens

constant_behind : (is_zero : Bool) (c : ℤ) → unsigned_abs c ≤ 10 ^ 15
    → Behind (if is_zero then [] else joint_text c ++ decimal (unsigned_abs c)) (flat_map signed_term_tokens (constant_if is_zero c))
constant_behind true c small = record { leads = leads_nil; spells = spells_from (opens_nil false) }
constant_behind false c small = record {
  leads = joint_leads (is_negative c) _;
  spells = opens_then (joint_opens (is_negative c)) (number_spells (unsigned_abs c) small);
}

later_behind : (fields : List Field) (ts : List Term) (c : ℤ) → AllByRecursion (IsPrintable fields) ts → unsigned_abs c ≤ 10 ^ 15
    → Behind (later_terms_text fields ts ++ later_constant_text c) (flat_map signed_term_tokens (later_terms fields ts c))
later_behind fields [] c all small = constant_behind (int_eq c (pos 0)) c small
later_behind fields (t ∷ ts) c all small =
    let rest = later_behind fields ts c all.1 small in
    let one = joint_text t.factor ++ term_text fields t in
    let tail = later_terms_text fields ts ++ later_constant_text c in
    let again = append_assoc one (later_terms_text fields ts) (later_constant_text c) in
    record {
      leads = subst Leads (sym (again ∙ append_assoc (joint_text t.factor) (term_text fields t) tail))
          (joint_leads (is_negative t.factor) (term_text fields t ++ tail));
      spells = respelled _ (one ++ tail) again (spells_then (signed_term_spells fields t all.0) rest.leads rest.spells);
    }

-- ---- sums

signed_decimal_is : (z : ℤ) → signed_decimal z ≡ sign_text z ++ decimal (unsigned_abs z)
signed_decimal_is (pos n) = let above : is_negative (pos n) ≡ false = grind (arith, ints) in rw above refl
signed_decimal_is (negsuc n) = refl

sum_spells : (fields : List Field) (ts : List Term) (c : ℤ) → AllByRecursion (IsPrintable fields) ts → unsigned_abs c ≤ 10 ^ 15
    → Spells false false (sum_text fields ts c) (sum_tokens (sum_of fields ts c))
sum_spells fields [] c all small =
    respelled (signed_decimal c) _ (signed_decimal_is c ∙ sym (append-nil (sign_text c ++ decimal (unsigned_abs c))))
    (spells_then (opens_then (front_opens (is_negative c)) (number_spells (unsigned_abs c) small)) leads_nil (spells_from (opens_nil false)))
sum_spells fields (t ∷ ts) c all small =
    let rest = later_behind fields ts c all.1 small in
    let first = sign_text t.factor ++ term_text fields t in
    respelled _ (first ++ (later_terms_text fields ts ++ later_constant_text c)) (append_assoc first (later_terms_text fields ts) (later_constant_text c))
    (spells_then (opens_then (front_opens (is_negative t.factor)) (term_spells fields t all.0)) rest.leads rest.spells)

-- ---- comparisons

zero_spells : Spells false false (48 ∷ []) (token.Numeral (numeral.Whole 0) ∷ [])
zero_spells = respelled (48 ∷ []) (decimal 0) (sym (decimal_digit 0 (omega arith))) (number_spells 0 (omega arith))

-- a comparison of the bytes `mark`, between blanks and before 0
compare_behind : (mark : List ℕ) (compare : Compare) → Opens false false (mark ++ 32 ∷ []) (token.Compare compare ∷ [])
    → Behind (32 ∷ (mark ++ 32 ∷ 48 ∷ [])) (token.Compare compare ∷ sum_tokens zero_sum)
compare_behind mark compare opens = record {
  leads = leads_blank _;
  spells = respelled _ _ (ap (λ (text : List ℕ). 32 ∷ text) (sym (append_assoc mark (32 ∷ []) (48 ∷ []))))
      (opens_then (opens_both (blank_opens false) opens) zero_spells);
}

-- the bytes of a comparison that the blank behind them ends
mark_spells : (mark : List ℕ) (compare : Compare) → IsPlain mark
    → ((rest : List ℕ) → tokens_from false (mark ++ 32 ∷ rest) ≡ token.Compare compare ∷ tokens_from false (32 ∷ rest))
    → Opens false false (mark ++ 32 ∷ []) (token.Compare compare ∷ [])
mark_spells mark compare plain read = record {
  plain = plain-append mark (32 ∷ []) plain refl;
  read = λ rest. ap (tokens_from false) (append_assoc mark (32 ∷ []) rest) ∙ read rest
      ∙ ap (λ (ts : List Token). token.Compare compare ∷ ts) (tokens_from_blank false 32 rest refl);
}

compares : (compare : Compare) → Behind (compare_text compare) (token.Compare compare ∷ sum_tokens zero_sum)
compares Ge = compare_behind (62 ∷ 61 ∷ []) Ge (mark_spells (62 ∷ 61 ∷ []) Ge refl (λ rest. tokens_from_front false 62 (61 ∷ 32 ∷ rest) refl))
compares Gt = compare_behind (62 ∷ []) Gt (mark_spells (62 ∷ []) Gt refl (λ rest. tokens_from_front false 62 (32 ∷ rest) refl))
compares Le = compare_behind (60 ∷ 61 ∷ []) Le (mark_spells (60 ∷ 61 ∷ []) Le refl (λ rest. tokens_from_front false 60 (61 ∷ 32 ∷ rest) refl))
compares Lt = compare_behind (60 ∷ []) Lt (mark_spells (60 ∷ []) Lt refl (λ rest. tokens_from_front false 60 (32 ∷ rest) refl))
compares Eq = compare_behind (61 ∷ []) Eq (mark_spells (61 ∷ []) Eq refl (λ rest. tokens_from_front false 61 (32 ∷ rest) refl))

-- ---- tests

-- what a test needs to be printed and read
abbrev pub IsPrintableTest : List Field → Test → Type 0
IsPrintableTest fields (test.Number l) = AllByRecursion (IsPrintable fields) l.terms × (unsigned_abs l.constant ≤ 10 ^ 15)
IsPrintableTest fields (test.Codes field negated set) = IsName (name_at fields field) × (1 ≤ length (codes_of_set set 0 (field_codes (slice_get fields field))))
    × AllByRecursion IsCodeText (codes_of_set set 0 (field_codes (slice_get fields field)))

codes_spells : (name : List ℕ) (negated : Bool) (list : List (List ℕ)) → IsName name → 1 ≤ length list → AllByRecursion IsCodeText list
    → Spells false false (name ++ (if negated then codes " not in " else codes " in ") ++ braced list)
    (token.Name name ∷ ((if negated then token.Keyword keyword.Not ∷ [] else []) ++ token.Keyword keyword.In ∷ list_tokens (code_list list)))
codes_spells name true list is some all =
    opens_then (spells_opens (name_spells name is) (λ rest. stops_blank _) (opens_both (keyword_between keyword.Not) (keyword_opens keyword.In)))
    (braced_spells list some all)
codes_spells name false list is some all =
    opens_then (spells_opens (name_spells name is) (λ rest. stops_blank _) (keyword_between keyword.In)) (braced_spells list some all)

pub test_spells : (fields : List Field) (t : Test) → IsPrintableTest fields t → Spells false false (test_text fields t) (test_tokens (written_test fields t))
test_spells fields (test.Number l) is = let behind = compares l.compare in
    spells_then (sum_spells fields l.terms l.constant is.0 is.1) behind.leads behind.spells
test_spells fields (test.Codes field negated set) is =
    codes_spells (name_at fields field) negated (codes_of_set set 0 (field_codes (slice_get fields field))) is.0 is.1 is.2

-- ---- rules

later_conditions_behind : (fields : List Field) (tests : List Test) → AllByRecursion (IsPrintableTest fields) tests
    → Behind (later_conditions_text fields tests) (flat_map (λ (t : TestText). token.Keyword keyword.And ∷ test_tokens t) (map (written_test fields) tests))
later_conditions_behind fields [] all = record { leads = leads_nil; spells = spells_from (opens_nil false) }
later_conditions_behind fields (t ∷ tests) all =
    let rest = later_conditions_behind fields tests all.1 in record {
      leads = leads_blank _;
      spells = spells_then (opens_then (keyword_between keyword.And) (test_spells fields t all.0)) rest.leads rest.spells;
    }

conditions_open : (fields : List Field) (tests : List Test) → AllByRecursion (IsPrintableTest fields) tests
    → Opens false false (conditions_text fields tests) (conditions_tokens (map (written_test fields) tests))
conditions_open fields [] all = opens_nil false
conditions_open fields (t ∷ tests) all =
    let rest = later_conditions_behind fields tests all.1 in
    spells_opens (spells_then (opens_then (keyword_opens keyword.If) (test_spells fields t all.0)) rest.leads rest.spells) (λ rest. stops_blank _)
    (keyword_between keyword.Then)

-- what a rule needs to be printed and read
pub record IsPrintableRule (fields : List Field) (r : Rule) : Type 0 where
  pub conditions : AllByRecursion (IsPrintableTest fields) r.conditions
  pub conclusion : IsPrintableTest fields r.conclusion

pub rule_spells : (fields : List Field) (r : Rule) → IsPrintableRule fields r → Spells false false (rule_line fields r) (rule_tokens (written_rule fields r))
rule_spells fields r is = opens_then (conditions_open fields r.conditions is.conditions) (test_spells fields r.conclusion is.conclusion)
