-- A printed test can be read: its names are known, its numbers are within their limits, and it means the test that it was printed from.
use Rattle.std.proofs.Common.{◌≡◌, ◌≢◌, ◌∙◌, refl, sym, ap, subst, ℕ, suc, ◌+◌, ◌<◌, ◌≤◌, ◌^◌, Bool, true, false, eqb, ℤ, pos, List, [], ◌∷◌, length, get_or}
use Rattle.std.proofs.Common.{arith}
use Rattle.std.proofs.lemmas.Bool.{and_from, false_from_ne_true, le-ltb, or_from}
use Rattle.std.proofs.lemmas.List.Elements.{recursion_from_All}
use Rattle.std.proofs.lemmas.List.Folds.{list_any_none}
use Rattle.std.proofs.lemmas.Option.{get_or_from_slice_get, slice_get_within}
use Rattle.std.proofs.lemmas.Slice.Eq.{bytes_eq-Decides}
use Rattle.std.specs.Bool.{⊤}
use Rattle.std.specs.Prelude.{All, AllPairs, Some, map, nat_lt, slice_get, unsigned_abs}
use Rattle.std.specs.List.{AllByRecursion, list_all, list_any}
use Rattle.std.specs.Ordering.{int_eq}
use Rattle.std.specs.List.Sorted.{IsStrictlyIncreasing}
use Rattle.edit_model.specs.Corrections.{is_numerical}
use Rattle.edit_model.specs.Surveys.{IsSetOf, IsField, IsKind, IsName, IsNumber, IsTerm, IsTest}
use Rattle.edit_model.specs.declared.field.Field.{Field}
use Rattle.edit_model.specs.declared.field.Kind.{Kind}
use Rattle.edit_model.specs.declared.field.Kind.TheVariants as kind
use Rattle.edit_model.specs.declared.rule.Linear.{Linear}
use Rattle.edit_model.specs.declared.rule.Term.{Term}
use Rattle.edit_model.specs.declared.rule.Test.{Test}
use Rattle.edit_model.specs.declared.rule.Test.TheVariants as test
use Rattle.rule_grammar.specs.Names.{IsCodeText}
use Rattle.rule_grammar.specs.declared.statement.SignedTerm.{SignedTerm}
use Rattle.rule_grammar.specs.declared.statement.SumText.{SumText}
use Rattle.rule_grammar.specs.declared.statement.TermText.{TermText}
use Rattle.rule_grammar.specs.declared.statement.TermText.TheVariants as term
use Rattle.rule_grammar.specs.declared.token.Numeral.TheVariants as numeral
use Rattle.edit_language.specs.Faults.{has_double, has_double_code, is_known_term, is_known_test, is_large_term, is_large_test, is_number_name}
use Rattle.edit_language.specs.inner.FirstFault.{has_known_codes}
use Rattle.edit_language.specs.Meaning.{kind_codes, field_codes, field_named, is_listed, listed, moved_factor, moved_terms, terms_of, test_of}
use Rattle.edit_language.specs.Printing.{codes_of_set, name_at}
use Rattle.edit_language.proofs.PrintingCodes.{AreApart, AreOther, all_kept, all_listed, apart_kept, known_codes, no_double, set_printed, some_printed}
use Rattle.edit_language.proofs.PrintingSums.{AreBelow, AreRisingFrom, AreSmall, GivesFrom, factor_at, factor_small, given_at, moved_constant_back, moved_gives}
use Rattle.edit_language.proofs.PrintingSums.{terms_back}
use Rattle.edit_language.proofs.PrintingNames.{IsFound, found, some_with}
use Rattle.edit_language.proofs.PrintingRules.{IsPrintable, IsPrintableTest}
use Rattle.edit_language.proofs.PrintingStatements.{code_list, constant_if, later_terms, product_of, sum_of, term_of, written_test, zero_sum}

-- a test that reads as it was
pub record IsReadBack (fields : List Field) (t : Test) : Type 0 where
  pub printable : IsPrintableTest fields t
  pub known : is_known_test fields (written_test fields t) ≡ true
  pub known_codes : has_known_codes fields (written_test fields t) ≡ true
  pub distinct : has_double_code (written_test fields t) ≡ false
  pub small : is_large_test fields (written_test fields t) ≡ false
  pub same : test_of fields (written_test fields t) ≡ t

-- ---- tests of lists

pub all_true : {X : Type 0} (p : X → Bool) (xs : List X) → AllByRecursion (λ x. p x ≡ true) xs → list_all p xs ≡ true
all_true p [] all = refl
all_true p (x ∷ xs) all = and_from _ _ all.0 (all_true p xs all.1)

pub none_true : {X : Type 0} (p : X → Bool) (xs : List X) → AllByRecursion (λ x. p x ≡ false) xs → list_any p xs ≡ false
none_true p [] all = refl
none_true p (x ∷ xs) all = or_from _ _ all.0 (none_true p xs all.1)

pub all_mapped : {X : Type 0} (P Q : X → Type 0) → ((x : X) → P x → Q x) → (xs : List X) → AllByRecursion P xs → AllByRecursion Q xs
all_mapped P Q f [] all = tt
all_mapped P Q f (x ∷ xs) all = (f x all.0, all_mapped P Q f xs all.1)

-- ---- terms

-- a term whose field is found, and whose factor is within its limits
record IsTermBack (fields : List Field) (t : Term) : Type 0 where
  below : t.field < length fields
  printable : IsPrintable fields t
  known : is_number_name fields (name_at fields t.field) ≡ true
  nonzero : t.factor ≢ pos 0

number_kind : (k : Kind) → IsNumber k → is_numerical k ≡ true
number_kind (kind.Number scale) is = refl
number_kind (kind.Code list) is = absurd is

term_back : (fields : List Field) → All IsField fields → AllPairs (λ (f : Field) (g : Field). f.name ≢ g.name) fields → (t : Term) → IsTerm fields t
    → IsTermBack fields t
term_back fields all distinct t is =
    let (f, at, number) = some_with (λ (f : Field). IsNumber f.kind) (slice_get fields t.field) is.numerical in
    let there = found fields t.field f distinct at in
    let below = slice_get_within fields t.field f at in
    let name : name_at fields t.field ≡ f.name = there.name in
    let in_form : IsField f = subst IsField (get_or_from_slice_get fields t.field f f at) (all t.field f below) in
    record {
      below = below;
      printable = record { name = subst IsName (sym name) in_form.name; factor = is.factor.1 };
      known = rw (name, there.field) (number_kind f.kind number);
      nonzero = is.factor.0;
    }

-- what all terms of the printed sum have
terms_all : (P : TermText → Type 0) (fields : List Field) (ts : List Term) (c : ℤ) → AllByRecursion (λ (t : Term). P (term_of fields t)) ts
    → P (term.Constant (numeral.Whole (unsigned_abs c)))
    → AllByRecursion (λ (s : SignedTerm). P s.term) (terms_of (sum_of fields ts c))
terms_all P fields [] c all constant = (constant, tt)
terms_all P fields (t ∷ ts) c all constant = (all.0, later_all ts all.1)
  where
    constant_all : (is_zero : Bool) → AllByRecursion (λ (s : SignedTerm). P s.term) (constant_if is_zero c)
    constant_all true = tt
    constant_all false = (constant, tt)

    later_all : (ts : List Term) → AllByRecursion (λ (t : Term). P (term_of fields t)) ts
        → AllByRecursion (λ (s : SignedTerm). P s.term) (later_terms fields ts c)
    later_all [] all = constant_all (int_eq c (pos 0))
    later_all (t ∷ ts) all = (all.0, later_all ts all.1)

known_product : (fields : List Field) (one : Bool) (n : ℕ) (name : List ℕ) → is_number_name fields name ≡ true
    → is_known_term fields (product_of one n name) ≡ true
known_product fields true n name h = h
known_product fields false n name h = h

small_product : (one : Bool) (n : ℕ) (name : List ℕ) → n ≤ 10 ^ 9 → is_large_term (product_of one n name) ≡ false
small_product true n name h = refl
small_product false n name h = le-ltb (10 ^ 9) n h

-- ---- rising fields

abbrev HeadFrom : ℕ → List Term → Type 0
HeadFrom i [] = ⊤
HeadFrom i (t ∷ ts) = i ≤ t.field

rising : (fields : List Field) (i : ℕ) (ts : List Term) → IsStrictlyIncreasing (map (λ (t : Term). t.field) ts) → AllByRecursion (IsTermBack fields) ts
    → HeadFrom i ts → AreRisingFrom i ts
rising fields i [] inc all head = tt
rising fields i (t ∷ []) inc all head = (head, all.0.nonzero, tt)
rising fields i (t ∷ (u ∷ ts)) inc all head = (head, all.0.nonzero, rising fields (suc t.field) (u ∷ ts) later all.1 next)
  where
    next : suc t.field ≤ u.field
    next = let here : t.field < u.field = inc 0 (omega arith) in omega arith

    later : IsStrictlyIncreasing (map (λ (t : Term). t.field) (u ∷ ts))
    later k below = let e : suc k + 1 ≡ suc (k + 1) = omega arith in rw e at (inc (suc k) (omega arith))

-- ---- number tests

gives_from : (left right : SumText) (i : ℕ) (rest : List Field) (ts : List Term)
    → ((j : ℕ) (d : Field) → j < length rest → moved_factor left right (get_or rest j d).name ≡ factor_at (i + j) ts) → GivesFrom left right i rest ts
gives_from left right i [] ts h = tt
gives_from left right i (f ∷ rest) ts h =
    let first : i + 0 ≡ i = omega arith in (
      h 0 f (omega arith) ∙ ap (λ (k : ℕ). factor_at k ts) first,
      gives_from left right (suc i) rest ts (λ j d below. let e : i + suc j ≡ suc i + j = omega arith in
          h (suc j) d (omega arith) ∙ ap (λ (k : ℕ). factor_at k ts) e),
    )

number_test_back : (fields : List Field) → All IsField fields → AllPairs (λ (f : Field) (g : Field). f.name ≢ g.name) fields → (l : Linear)
    → IsTest fields (test.Number l) → IsReadBack fields (test.Number l)
number_test_back fields all distinct l is =
    let left = sum_of fields l.terms l.constant in
    let terms = all_mapped (IsTerm fields) (IsTermBack fields) (term_back fields all distinct) l.terms (recursion_from_All (IsTerm fields) l.terms is.1) in
    let printable = all_mapped (IsTermBack fields) (IsPrintable fields) (λ t back. back.printable) l.terms terms in
    let rises : AreRisingFrom 0 l.terms = rising fields 0 l.terms is.0 terms (head l.terms) in
    let below : AreBelow (length fields) l.terms = below_all l.terms terms in
    let same_size : length fields ≡ 0 + length fields = omega arith in
    let small : AreSmall (10 ^ 9) l.terms = small_all l.terms terms in
    let factor = λ (i : ℕ) (d : Field) (here : i < length fields). moved_gives fields (get_or fields i d).name l.terms l.constant
    ∙ given_at fields i d l.terms distinct below here in
    let moved : moved_terms left zero_sum 0 fields ≡ l.terms =
    terms_back left zero_sum 0 fields l.terms rises (subst (λ (n : ℕ). AreBelow n l.terms) same_size below)
    (gives_from left zero_sum 0 fields l.terms (λ j d here. let e : j ≡ 0 + j = omega arith in factor j d here ∙ ap (λ (k : ℕ). factor_at k l.terms) e)) in
    record {
      printable = (printable, is.2);
      known = and_from _ _ (all_true _ (terms_of left) (terms_all (λ t. is_known_term fields t ≡ true) fields l.terms l.constant
          (all_mapped (IsTermBack fields) (λ t. is_known_term fields (term_of fields t) ≡ true)
          (λ t back. known_product fields (eqb (unsigned_abs t.factor) 1) (unsigned_abs t.factor)
          (name_at fields t.field) back.known) l.terms terms) refl)) refl;
      known_codes = refl;
      distinct = refl;
      small = or_from _ _ (none_true _ (terms_of left) (terms_all (λ t. is_large_term t ≡ false) fields l.terms l.constant
          (all_mapped (IsTermBack fields) (λ t. is_large_term (term_of fields t) ≡ false)
          (λ t back. small_product (eqb (unsigned_abs t.factor) 1) (unsigned_abs t.factor) (name_at fields t.field) back.printable.factor) l.terms terms)
          (le-ltb (10 ^ 15) (unsigned_abs l.constant) is.2)))
          (or_from _ _ refl (or_from _ _
          (list_any_none _ fields (λ k d here. ap (λ (z : ℤ). nat_lt (10 ^ 9) (unsigned_abs z)) (factor k d here)
          ∙ le-ltb (10 ^ 9) (unsigned_abs (factor_at k l.terms)) (factor_small k 0 (10 ^ 9) l.terms rises small)))
          (ap (λ (z : ℤ). nat_lt (10 ^ 15) (unsigned_abs z)) (moved_constant_back fields l.terms l.constant)
          ∙ le-ltb (10 ^ 15) (unsigned_abs l.constant) is.2)));
      same = rw (moved, moved_constant_back fields l.terms l.constant) refl;
    }
  where
    head : (ts : List Term) → HeadFrom 0 ts
    head [] = tt
    head (t ∷ ts) = omega arith

    below_all : (ts : List Term) → AllByRecursion (IsTermBack fields) ts → AreBelow (length fields) ts
    below_all [] all = tt
    below_all (t ∷ ts) all = (all.0.below, below_all ts all.1)

    small_all : (ts : List Term) → AllByRecursion (IsTermBack fields) ts → AreSmall (10 ^ 9) ts
    small_all [] all = tt
    small_all (t ∷ ts) all = (all.0.printable.factor, small_all ts all.1)

-- ---- code tests

-- what the codes of a field have
record AreCodes (set : ℕ) (list : List (List ℕ)) : Type 0 where
  apart : AreApart list
  texts : AllByRecursion IsCodeText list
  some : 0 < set
  below : set < 2 ^ length list

other_from_pairs : (c : List ℕ) (list : List (List ℕ)) → AllByRecursion (λ d. c ≢ d) list → AreOther c list
other_from_pairs c [] all = tt
other_from_pairs c (d ∷ list) all = (
  false_from_ne_true _ (λ e. all.0 ((bytes_eq-Decides c d).0 e)),
  false_from_ne_true _ (λ e. all.0 (sym ((bytes_eq-Decides d c).0 e))),
  other_from_pairs c list all.1,
)

pub apart_from_pairs : (list : List (List ℕ)) → AllPairs (λ a b. a ≢ b) list → AreApart list
apart_from_pairs [] pairs = tt
apart_from_pairs (c ∷ list) pairs = (
  other_from_pairs c list (recursion_from_All (λ d. c ≢ d) list (λ k d below. pairs 0 (suc k) d (omega arith) (omega arith))),
  apart_from_pairs list (λ i j d less below. pairs (suc i) (suc j) d (omega arith) (omega arith)),
)

codes_back : (k : Kind) (set : ℕ) → IsKind k → IsSetOf k set → AreCodes set (kind_codes k) × (is_numerical k ≡ false)
codes_back (kind.Number scale) set is has = absurd has
codes_back (kind.Code list) set is has = (
  record {
    apart = apart_from_pairs list is.3;
    texts = recursion_from_All IsCodeText list is.2;
    some = has.0;
    below = has.1;
  },
  refl,
)

listed_list : (list : List (List ℕ)) → 1 ≤ length list → listed (code_list list) ≡ list
listed_list [] some = absurd (omega arith)
listed_list (c ∷ list) some = refl

code_test_found : (fields : List Field) (i : ℕ) (f : Field) (negated : Bool) (set : ℕ) → slice_get fields i ≡ Some f → IsFound fields i f → IsName f.name
    → AreCodes set (kind_codes f.kind) → is_numerical f.kind ≡ false
    → IsReadBack fields (test.Codes i negated set)
code_test_found fields i f negated set at there is_name codes categorical =
    let own = kind_codes f.kind in
    let printed = codes_of_set set 0 own in
    let some : 1 ≤ length printed = some_printed set own codes.apart codes.some codes.below in
    let list = listed_list printed some in
    record {
      printable = (subst IsName (sym there.name) is_name, rw at some, rw at (all_kept IsCodeText set 0 own codes.texts));
      known = rw (there.name, there.field, categorical) refl;
      known_codes = subst (λ (all : List (List ℕ)). list_all (is_listed all)
          (listed (code_list (codes_of_set set 0 (field_codes (slice_get fields i))))) ≡ true)
          (sym (ap field_codes (ap (field_named fields) there.name ∙ there.field)))
          (rw at (subst (λ (l : List (List ℕ)). list_all (is_listed own) l ≡ true) (sym list) (known_codes set 0 own own (all_listed own))));
      distinct = rw at (subst (λ (l : List (List ℕ)). has_double l ≡ false) (sym list) (no_double printed (apart_kept set 0 own codes.apart)));
      small = refl;
      same = rw (there.name, there.field, there.number, at, list, set_printed set own codes.apart codes.below) refl;
    }

code_test_back : (fields : List Field) → All IsField fields → AllPairs (λ (f : Field) (g : Field). f.name ≢ g.name) fields → (i : ℕ) (negated : Bool) (set : ℕ)
    → IsTest fields (test.Codes i negated set) → IsReadBack fields (test.Codes i negated set)
code_test_back fields all distinct i negated set is =
    let (f, at, has) = some_with (λ (f : Field). IsSetOf f.kind set) (slice_get fields i) is in
    let below = slice_get_within fields i f at in
    let in_form : IsField f = subst IsField (get_or_from_slice_get fields i f f at) (all i f below) in
    let (codes, categorical) = codes_back f.kind set in_form.fits has in
    code_test_found fields i f negated set at (found fields i f distinct at) in_form.name codes categorical

pub test_back : (fields : List Field) → All IsField fields → AllPairs (λ (f : Field) (g : Field). f.name ≢ g.name) fields → (t : Test) → IsTest fields t
    → IsReadBack fields t
test_back fields all distinct (test.Number l) is = number_test_back fields all distinct l is
test_back fields all distinct (test.Codes i negated set) is = code_test_back fields all distinct i negated set is
