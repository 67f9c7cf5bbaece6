-- A test whose statement has no fault fits the fields.
use Rattle.std.proofs.Common.{◌≡◌, ◌≢◌, ◌⊎◌, ℕ, ℤ, zero, suc, ◌+◌, ◌^◌, ◌<◌, ◌≤◌, not, Bool, true, false, All, AllPairs, List, [], ◌∷◌, get_or, length, map}
use Rattle.std.proofs.Common.{Option, Some, None, IsSomeAnd, slice_get, unwrap_or, pos, ◌+ℤ◌, nat_lt, refl, sym, ap, ◌∙◌, inl, inr, arith}
use Rattle.std.specs.Prelude.{unsigned_abs, slice_index}
use Rattle.std.specs.List.{list_all, list_any, position_or_len}
use Rattle.std.specs.List.Sorted.{IsStrictlyIncreasing}
use Rattle.std.specs.Ordering.{int_eq}
use Rattle.std.specs.Str.{bytes_eq}
use Rattle.std.proofs.lemmas.Bool.{and_parts, both_ways, cases_Bool, cond-false, cond-true, cond_both, ltb-false, lt-ltb, or_parts}
use Rattle.std.proofs.lemmas.List.Elements.{All-cons, All-get_or, All-nil, All-weaker}
use Rattle.std.proofs.lemmas.List.Folds.{find_at}
use Rattle.std.proofs.lemmas.Option.{get_or_from_slice_get, slice_get_within}
use Rattle.std.proofs.lemmas.Slice.Eq.{bytes_eq-Decides}
use Rattle.edit_model.specs.Corrections.{is_numerical}
use Rattle.edit_model.specs.Surveys.{IsSetOf, IsNumber, IsTerm, IsTest}
use Rattle.edit_model.specs.declared.field.Field.{Field}
use Rattle.edit_model.specs.declared.field.Kind.{Kind}
use Rattle.edit_model.specs.declared.field.Kind.TheVariants as kind
use Rattle.edit_model.specs.declared.rule.Term.{Term}
use Rattle.edit_model.specs.declared.rule.Test.TheVariants as made
use Rattle.rule_grammar.specs.declared.statement.SignedTerm.{SignedTerm}
use Rattle.rule_grammar.specs.declared.statement.SumText.{SumText}
use Rattle.rule_grammar.specs.declared.statement.TermText.{TermText}
use Rattle.rule_grammar.specs.declared.statement.TermText.TheVariants as term
use Rattle.rule_grammar.specs.declared.statement.TestText.{TestText}
use Rattle.rule_grammar.specs.declared.statement.TestText.TheVariants as written
use Rattle.rule_grammar.specs.declared.token.Sign.{Sign}
use Rattle.rule_grammar.specs.declared.token.Sign.TheVariants as sign
use Rattle.edit_language.specs.Faults.{is_code_name, is_field_of_kind, is_known_sum, is_known_term, is_known_test, is_large_test, is_number_name}
use Rattle.edit_language.specs.inner.FirstFault.{has_known_codes}
use Rattle.edit_language.specs.Meaning.{code_set, kind_codes, field_codes, factor_in, factor_of, field_named, is_listed, listed, moved_factor, moved_terms}
use Rattle.edit_language.specs.Meaning.{numeral_value, number_named, signed, terms_of, test_of}
use Rattle.edit_language.proofs.CodeLaws.{code_set_small, code_set_some, equal, unequal}

-- the fields' names differ
abbrev pub HaveDistinctNames : List Field → Type 0
HaveDistinctNames fields = AllPairs (λ (f : Field) (g : Field). f.name ≢ g.name) fields

-- ---- names

-- the fields behind the first have distinct names
later_distinct : (f : Field) (fields : List Field) → HaveDistinctNames (f ∷ fields) → HaveDistinctNames fields
later_distinct f fields all i j d below within = all (suc i) (suc j) d (omega arith) (omega arith)

-- a field is found by its name
pub named_at : (fields : List Field) (i : ℕ) (f : Field) → HaveDistinctNames fields → slice_get fields i ≡ Some f → field_named fields f.name ≡ Some f
named_at [] i f distinct there = absurd cc
named_at (g ∷ fields) zero f distinct there =
    let same : g ≡ f = cc in
    let found : bytes_eq g.name f.name ≡ true = (bytes_eq-Decides g.name f.name).1 (ap (λ (h : Field). h.name) same) in
    cond-true (bytes_eq g.name f.name) (Some g) (field_named fields f.name) found ∙ there
named_at (g ∷ fields) (suc i) f distinct there =
    let within : i < length fields = slice_get_within fields i f there in
    let here : get_or fields i f ≡ f = get_or_from_slice_get fields i f f there in
    let differs : g.name ≢ f.name = λ same. distinct 0 (suc i) f (omega arith) (omega arith) (same ∙ ap (λ (h : Field). h.name) (sym here)) in
    cond-false (bytes_eq g.name f.name) (Some g) (field_named fields f.name) (unequal g.name f.name differs)
    ∙ named_at fields i f (later_distinct g fields distinct) there

-- the number of a field is that of the field that is found
pub number_is : (fields : List Field) (name : List ℕ) (f : Field) → field_named fields name ≡ Some f
    → slice_get fields (unwrap_or (number_named fields name) 0) ≡ Some f
number_is fields name f found =
    let at : slice_get fields (position_or_len (λ (g : Field). bytes_eq g.name name) fields) ≡ Some f =
    sym (find_at (λ (g : Field). bytes_eq g.name name) fields) ∙ found in
    let within : position_or_len (λ (g : Field). bytes_eq g.name name) fields < length fields = slice_get_within fields _ f at in
    let number : number_named fields name ≡ Some (position_or_len (λ (g : Field). bytes_eq g.name name) fields) = cond-true _ _ _ (lt-ltb _ _ within) in
    rw number at

-- ---- terms

no_part : (s : Sign) → signed s 0 ≡ pos 0
no_part sign.Plus = refl
no_part sign.Minus = refl

plus_nothing : (z : ℤ) → z ≡ pos 0 → pos 0 +ℤ z ≡ pos 0
plus_nothing z none = rw none refl

-- a term of known fields has nothing of a field that is not numerical
module _ (fields : List Field) (f : Field) (found : field_named fields f.name ≡ Some f) (categorical : is_numerical f.kind ≡ false) where
  other_name : (name : List ℕ) → is_number_name fields name ≡ true → bytes_eq name f.name ≡ false
  other_name name known = unequal name f.name (λ same.
      let is : is_field_of_kind is_numerical (field_named fields f.name) ≡ true = ap (λ (n : List ℕ). is_number_name fields n) (sym same) ∙ known in
      let e : is_numerical f.kind ≡ true = sym (ap (is_field_of_kind is_numerical) found) ∙ is in
      both_ways (is_numerical f.kind) categorical e)

  no_factor : (t : TermText) → is_known_term fields t ≡ true → factor_in f.name t ≡ 0
  no_factor (term.Product factor times field) known = cond-false (bytes_eq field f.name) (numeral_value factor) 0 (other_name field known)
  no_factor (term.Field field) known = cond-false (bytes_eq field f.name) 1 0 (other_name field known)
  no_factor (term.Constant number) known = refl

  no_factors : (ts : List SignedTerm) → list_all (λ (t : SignedTerm). is_known_term fields t.term) ts ≡ true → factor_of f.name ts ≡ pos 0
  no_factors [] known = refl
  no_factors (t ∷ ts) known =
      let both = and_parts _ _ known in
      rw (no_factor t.term both.0, no_part t.sign) (plus_nothing _ (no_factors ts both.1))

  pub not_moved : (left right : SumText) → is_known_sum fields left ≡ true → is_known_sum fields right ≡ true → moved_factor left right f.name ≡ pos 0
  not_moved left right known_left known_right = rw (no_factors (terms_of left) known_left, no_factors (terms_of right) known_right) refl

is_number : (k : Kind) → is_numerical k ≡ true → IsNumber k
is_number (kind.Number scale) numerical = tt
is_number (kind.Code codes) numerical = absurd cc

-- the terms of a linear test fit the fields
module _ (fields : List Field) (distinct : HaveDistinctNames fields) (left right : SumText) (known_left : is_known_sum fields left ≡ true)
    (known_right : is_known_sum fields right ≡ true) where
  term_fits : (i : ℕ) (f : Field) → slice_get fields i ≡ Some f → nat_lt (10 ^ 9) (unsigned_abs (moved_factor left right f.name)) ≡ false
      → int_eq (moved_factor left right f.name) (pos 0) ≡ false → IsTerm fields (record { field = i; factor = moved_factor left right f.name })
  term_fits i f there small some =
      let found = named_at fields i f distinct there in
      let differs : moved_factor left right f.name ≢ pos 0 = λ none. both_ways _ some (rw none refl) in
      let numerical : is_numerical f.kind ≡ true = by found differs (cases_Bool (is_numerical f.kind)) in
      record { numerical = rw there (is_number f.kind numerical); factor = (differs, ltb-false _ _ small) }
    where
      by : field_named fields f.name ≡ Some f → moved_factor left right f.name ≢ pos 0 → (is_numerical f.kind ≡ true) ⊎ (is_numerical f.kind ≡ false)
          → is_numerical f.kind ≡ true
      by found differs (inl e) = e
      by found differs (inr e) = absurd (differs (not_moved fields f found e left right known_left known_right))

  pub terms_fit : (i : ℕ) (more : List Field) → ((k : ℕ) → slice_get fields (i + k) ≡ slice_get more k)
      → list_any (λ (f : Field). nat_lt (10 ^ 9) (unsigned_abs (moved_factor left right f.name))) more ≡ false
      → All (IsTerm fields) (moved_terms left right i more)
  terms_fit i [] there small = All-nil (IsTerm fields)
  terms_fit i (f ∷ more) there small =
      let both = or_parts _ _ small in
      let here : slice_get fields i ≡ Some f = ap (slice_get fields) (omega arith) ∙ there 0 in
      let rest = terms_fit (suc i) more (λ k. ap (slice_get fields) (omega arith) ∙ there (suc k)) both.1 in
      cond_both (int_eq (moved_factor left right f.name) (pos 0)) (moved_terms left right (suc i) more)
      (record { field = i; factor = moved_factor left right f.name } ∷ moved_terms left right (suc i) more) (All (IsTerm fields))
      (λ none. rest) (λ some. All-cons (IsTerm fields) _ _ (term_fits i f here both.0 some) rest)

-- ---- field order

-- the terms from a field on are of that field or later ones
terms_above : (left right : SumText) (i : ℕ) (more : List Field) → All (λ n. i ≤ n) (map (λ (t : Term). t.field) (moved_terms left right i more))
terms_above left right i [] = All-nil (λ n. i ≤ n)
terms_above left right i (f ∷ more) =
    let later = All-weaker (λ n. suc i ≤ n) (λ n. i ≤ n) (λ n above. omega arith) _ (terms_above left right (suc i) more) in
    cond_both (int_eq (moved_factor left right f.name) (pos 0)) (moved_terms left right (suc i) more)
    (record { field = i; factor = moved_factor left right f.name } ∷ moved_terms left right (suc i) more)
    (λ (ts : List Term). All (λ n. i ≤ n) (map (λ (t : Term). t.field) ts))
    (λ none. later) (λ some. All-cons (λ n. i ≤ n) _ _ (omega arith) later)

-- a number before numbers that rise above it
rising_cons : (i : ℕ) (ns : List ℕ) → All (λ n. suc i ≤ n) ns → IsStrictlyIncreasing ns → IsStrictlyIncreasing (i ∷ ns)
rising_cons i ns above rising zero below =
    let first : suc i ≤ slice_index ns 0 = All-get_or (λ n. suc i ≤ n) ns 0 0 (omega arith) above in omega arith
rising_cons i ns above rising (suc k) below =
    let next : suc k + 1 ≡ suc (k + 1) = omega arith in
    rw next (rising k (omega arith))

pub terms_rise : (left right : SumText) (i : ℕ) (more : List Field) → IsStrictlyIncreasing (map (λ (t : Term). t.field) (moved_terms left right i more))
terms_rise left right i [] = λ k below. absurd (omega arith)
terms_rise left right i (f ∷ more) =
    cond_both (int_eq (moved_factor left right f.name) (pos 0)) (moved_terms left right (suc i) more)
    (record { field = i; factor = moved_factor left right f.name } ∷ moved_terms left right (suc i) more)
    (λ (ts : List Term). IsStrictlyIncreasing (map (λ (t : Term). t.field) ts))
    (λ none. terms_rise left right (suc i) more) (λ some. rising_cons i _ (terms_above left right (suc i) more) (terms_rise left right (suc i) more))

-- ---- tests

-- a set of known codes fits their field
codes_fit : (k : Kind) (list : List (List ℕ)) (first : List ℕ) → not (is_numerical k) ≡ true → is_listed list first ≡ true
    → is_listed (kind_codes k) first ≡ true → IsSetOf k (code_set (kind_codes k) list)
codes_fit (kind.Number scale) list first categorical there known = absurd cc
codes_fit (kind.Code codes) list first categorical there known = (code_set_some codes list first known there, code_set_small codes list)

code_test_fits : (fields : List Field) (name : List ℕ) (negated : Bool) (list : List (List ℕ)) (first : List ℕ) → is_code_name fields name ≡ true
    → is_listed list first ≡ true → is_listed (field_codes (field_named fields name)) first ≡ true
    → IsTest fields (made.Codes (unwrap_or (number_named fields name) 0) negated (code_set (field_codes (field_named fields name)) list))
code_test_fits fields name negated list first named there known = by (field_named fields name) refl named known
  where
    by : (o : Option Field) → field_named fields name ≡ o → is_field_of_kind (λ k. not (is_numerical k)) o ≡ true → is_listed (field_codes o) first ≡ true
        → IsSomeAnd (slice_get fields (unwrap_or (number_named fields name) 0)) (λ f. IsSetOf f.kind (code_set (field_codes (field_named fields name)) list))
    by None found categorical has = absurd cc
    by (Some f) found categorical has = rw (number_is fields name f found, found) (codes_fit f.kind list first categorical there has)

pub test_fits : (fields : List Field) → HaveDistinctNames fields → (t : TestText) → is_known_test fields t ≡ true → has_known_codes fields t ≡ true
    → is_large_test fields t ≡ false → IsTest fields (test_of fields t)
test_fits fields distinct (written.Codes field negated list) known codes small =
    let there : is_listed (listed list) list.first ≡ true = rw (equal list.first) refl in
    code_test_fits fields field negated (listed list) list.first known there (and_parts _ _ codes).0
test_fits fields distinct (written.Sums left compare right) known codes small =
    let both = and_parts _ _ known in
    let large = or_parts _ _ (or_parts _ _ (or_parts _ _ small).1).1 in (
      terms_rise left right 0 fields,
      terms_fit fields distinct left right both.0 both.1 0 fields (λ k. ap (slice_get fields) (omega arith)) large.0,
      ltb-false _ _ large.1,
    )
