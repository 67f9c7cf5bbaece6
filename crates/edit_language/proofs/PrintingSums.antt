-- A printed sum, moved to the left side, has the terms and the constant that it was printed from.
use Rattle.std.proofs.Common.{◌≡◌, ◌≢◌, ◌∙◌, refl, sym, ap, subst, ℕ, suc, ◌+◌, ◌<◌, ◌≤◌, Bool, true, false, eqb, ℤ, pos, negsuc, ◌+ℤ◌, ◌-ℤ◌, List, [], ◌∷◌}
use Rattle.std.proofs.Common.{length, get_or, inl, inr, arith}
use Rattle.std.proofs.lemmas.Bool.{cases_eq, cases_lt, cases_order, eq-eqb, eqb-true, false_from_ne_true, ne_eqb}
use Rattle.std.proofs.lemmas.Bool.Decides.{Decides-int_eq}
use Rattle.std.proofs.lemmas.Int.{ints}
use Rattle.std.proofs.lemmas.Option.{slice_get-get_or}
use Rattle.std.proofs.lemmas.Slice.Eq.{bytes_eq-Decides}
use Rattle.std.specs.Bool.{⊤}
use Rattle.std.specs.Prelude.{unsigned_abs, if◌then◌else◌, AllPairs}
use Rattle.std.specs.Ordering.{int_eq}
use Rattle.std.specs.Str.{bytes_eq}
use Rattle.edit_model.specs.declared.field.Field.{Field}
use Rattle.edit_model.specs.declared.rule.Term.{Term}
use Rattle.rule_grammar.specs.declared.statement.SignedTerm.{SignedTerm}
use Rattle.rule_grammar.specs.declared.statement.SumText.{SumText}
use Rattle.rule_grammar.specs.declared.statement.TermText.{TermText}
use Rattle.rule_grammar.specs.declared.token.Sign.{Sign}
use Rattle.rule_grammar.specs.declared.token.Sign.TheVariants as sign
use Rattle.edit_language.specs.Meaning.{constant_in, constant_of, factor_in, factor_of, moved_constant, moved_factor, moved_terms, signed, terms_of}
use Rattle.edit_language.specs.Printing.{name_at}
use Rattle.edit_language.proofs.PrintingStatements.{constant_if, front_sign, is_negative, later_terms, product_of, sign_of, sum_of, term_of, zero_sum}

-- ---- numbers with their signs

signed_zero : (s : Sign) → signed s 0 ≡ pos 0
signed_zero sign.Plus = refl
signed_zero sign.Minus = refl

signed_back : (z : ℤ) → signed (sign_of (is_negative z)) (unsigned_abs z) ≡ z
signed_back (pos n) = let above : is_negative (pos n) ≡ false = grind (arith, ints) in rw above refl
signed_back (negsuc n) = refl

zero-add : (z : ℤ) → pos 0 +ℤ z ≡ z
zero-add z = omega (arith, ints)

add-zero : (z : ℤ) → z +ℤ pos 0 ≡ z
add-zero z = omega (arith, ints)

sub-zero : (z : ℤ) → z -ℤ pos 0 ≡ z
sub-zero z = omega (arith, ints)

-- a sign in front is the sign of the first term
front_is : (b : Bool) (t : TermText) (rest : List SignedTerm)
    → terms_of (record { sign = front_sign b; first = t; rest = rest }) ≡ record { sign = sign_of b; term = t } ∷ rest
front_is true t rest = refl
front_is false t rest = refl

-- ---- the factor of a name

-- what a term gives to the field of this name
abbrev given_by : List Field → List ℕ → Term → ℤ
given_by fields name t = if bytes_eq (name_at fields t.field) name then t.factor else pos 0

-- what the terms give
abbrev given_to : List Field → List ℕ → List Term → ℤ
given_to fields name [] = pos 0
given_to fields name (t ∷ ts) = given_by fields name t +ℤ given_to fields name ts

product_factor : (one : Bool) (n : ℕ) (field name : List ℕ) → eqb n 1 ≡ one → factor_in name (product_of one n field) ≡ (if bytes_eq field name then n else 0)
product_factor true n field name e = let is : n ≡ 1 = eqb-true n 1 e in rw is refl
product_factor false n field name e = refl

signed_if : (b : Bool) (z : ℤ) → signed (sign_of (is_negative z)) (if b then unsigned_abs z else 0) ≡ (if b then z else pos 0)
signed_if true z = signed_back z
signed_if false z = signed_zero (sign_of (is_negative z))

term_gives : (fields : List Field) (name : List ℕ) (t : Term)
    → signed (sign_of (is_negative t.factor)) (factor_in name (term_of fields t)) ≡ given_by fields name t
term_gives fields name t =
    rw (product_factor (eqb (unsigned_abs t.factor) 1) (unsigned_abs t.factor) (name_at fields t.field) name refl)
    (signed_if (bytes_eq (name_at fields t.field) name) t.factor)

constant_gives_none : (is_zero : Bool) (name : List ℕ) (c : ℤ) → factor_of name (constant_if is_zero c) ≡ pos 0
constant_gives_none true name c = refl
constant_gives_none false name c = rw (signed_zero (sign_of (is_negative c))) refl

later_give : (fields : List Field) (name : List ℕ) (ts : List Term) (c : ℤ) → factor_of name (later_terms fields ts c) ≡ given_to fields name ts
later_give fields name [] c = constant_gives_none (int_eq c (pos 0)) name c
later_give fields name (t ∷ ts) c = rw (term_gives fields name t, later_give fields name ts c) refl

sum_gives : (fields : List Field) (name : List ℕ) (ts : List Term) (c : ℤ) → factor_of name (terms_of (sum_of fields ts c)) ≡ given_to fields name ts
sum_gives fields name [] c = ap (factor_of name) (front_is (is_negative c) ((sum_of fields [] c).first) []) ∙ rw (signed_zero (sign_of (is_negative c))) refl
sum_gives fields name (t ∷ ts) c = ap (factor_of name) (front_is (is_negative t.factor) (term_of fields t) (later_terms fields ts c))
    ∙ later_give fields name (t ∷ ts) c

pub moved_gives : (fields : List Field) (name : List ℕ) (ts : List Term) (c : ℤ) → moved_factor (sum_of fields ts c) zero_sum name ≡ given_to fields name ts
moved_gives fields name ts c = sub-zero _ ∙ sum_gives fields name ts c

-- ---- the constant

product_constant : (one : Bool) (n : ℕ) (field : List ℕ) → constant_in (product_of one n field) ≡ 0
product_constant true n field = refl
product_constant false n field = refl

constant_back : (is_zero : Bool) (c : ℤ) → int_eq c (pos 0) ≡ is_zero → constant_of (constant_if is_zero c) ≡ c
constant_back true c e = sym ((Decides-int_eq c (pos 0)).0 e)
constant_back false c e = add-zero _ ∙ signed_back c

later_constant : (fields : List Field) (ts : List Term) (c : ℤ) → constant_of (later_terms fields ts c) ≡ c
later_constant fields [] c = constant_back (int_eq c (pos 0)) c refl
later_constant fields (t ∷ ts) c =
    rw (
      product_constant (eqb (unsigned_abs t.factor) 1) (unsigned_abs t.factor) (name_at fields t.field),
      signed_zero (sign_of (is_negative t.factor)),
      later_constant fields ts c,
    ) (zero-add c)

sum_constant : (fields : List Field) (ts : List Term) (c : ℤ) → constant_of (terms_of (sum_of fields ts c)) ≡ c
sum_constant fields [] c = ap constant_of (front_is (is_negative c) ((sum_of fields [] c).first) []) ∙ add-zero _ ∙ signed_back c
sum_constant fields (t ∷ ts) c = ap constant_of (front_is (is_negative t.factor) (term_of fields t) (later_terms fields ts c))
    ∙ later_constant fields (t ∷ ts) c

pub moved_constant_back : (fields : List Field) (ts : List Term) (c : ℤ) → moved_constant (sum_of fields ts c) zero_sum ≡ c
moved_constant_back fields ts c = sub-zero _ ∙ sum_constant fields ts c

-- ---- the factor of a number

-- what the terms give to the field of number i
abbrev pub factor_at : ℕ → List Term → ℤ
factor_at i [] = pos 0
factor_at i (t ∷ ts) = (if eqb t.field i then t.factor else pos 0) +ℤ factor_at i ts

-- each factor is at most the limit in absolute value
abbrev pub AreSmall : ℕ → List Term → Type 0
AreSmall limit [] = ⊤
AreSmall limit (t ∷ ts) = (unsigned_abs t.factor ≤ limit) × AreSmall limit ts

pub names_differ : (fields : List Field) (i j : ℕ) (d : Field) → AllPairs (λ (f : Field) (g : Field). f.name ≢ g.name) fields → i < length fields
    → j < length fields
    → bytes_eq (get_or fields i d).name (get_or fields j d).name ≡ eqb i j
names_differ fields i j d distinct i_below j_below =
    elim (cases_order i j) [
      | inl same ↦ (bytes_eq-Decides _ _).1 (ap (λ (k : ℕ). (get_or fields k d).name) same) ∙ sym (eq-eqb i j same)
      | inr other ↦ elim other [
        | inl less ↦ false_from_ne_true _ (λ e. distinct i j d less j_below ((bytes_eq-Decides _ _).0 e)) ∙ sym (ne_eqb i j (λ e. omega arith))
        | inr more ↦ false_from_ne_true _ (λ e. distinct j i d more i_below (sym ((bytes_eq-Decides _ _).0 e))) ∙ sym (ne_eqb i j (λ e. omega arith))
      ]
    ]

pub name_at_is : (fields : List Field) (i : ℕ) (d : Field) → i < length fields → name_at fields i ≡ (get_or fields i d).name
name_at_is fields i d below = rw (slice_get-get_or fields i d below) refl

-- each term's field is one of the first `n`
abbrev pub AreBelow : ℕ → List Term → Type 0
AreBelow n [] = ⊤
AreBelow n (t ∷ ts) = (t.field < n) × AreBelow n ts

pub given_at : (fields : List Field) (i : ℕ) (d : Field) (ts : List Term) → AllPairs (λ (f : Field) (g : Field). f.name ≢ g.name) fields
    → AreBelow (length fields) ts → i < length fields
    → given_to fields (get_or fields i d).name ts ≡ factor_at i ts
given_at fields i d [] distinct below here = refl
given_at fields i d (t ∷ ts) distinct below here =
    let same : bytes_eq (name_at fields t.field) (get_or fields i d).name ≡ eqb t.field i =
    rw (name_at_is fields t.field d below.0) (names_differ fields t.field i d distinct below.0 here) in
    rw (same, given_at fields i d ts distinct below.1 here) refl

-- ---- the terms

-- terms with factors other than 0, in rising field order, from field i on
abbrev pub AreRisingFrom : ℕ → List Term → Type 0
AreRisingFrom i [] = ⊤
AreRisingFrom i (t ∷ ts) = (i ≤ t.field) × (t.factor ≢ pos 0) × AreRisingFrom (suc t.field) ts

pub factor_before : (i j : ℕ) (ts : List Term) → AreRisingFrom j ts → i < j → factor_at i ts ≡ pos 0
factor_before i j [] rising before = refl
factor_before i j (t ∷ ts) rising before =
    let other : eqb t.field i ≡ false = ne_eqb t.field i (λ e. omega (arith, rising.0)) in
    rw (other, factor_before i (suc t.field) ts rising.2 (omega (arith, rising.0))) refl

nonzero_test : (z : ℤ) → z ≢ pos 0 → int_eq z (pos 0) ≡ false
nonzero_test z other = false_from_ne_true _ (λ e. other ((Decides-int_eq z (pos 0)).0 e))

zero_test : (z : ℤ) → z ≡ pos 0 → int_eq z (pos 0) ≡ true
zero_test z e = (Decides-int_eq z (pos 0)).1 e

-- the factors of fields in a list, by name, are those of the terms by number, from i on
abbrev pub GivesFrom : SumText → SumText → ℕ → List Field → List Term → Type 0
GivesFrom left right i [] ts = ⊤
GivesFrom left right i (f ∷ fields) ts = (moved_factor left right f.name ≡ factor_at i ts) × GivesFrom left right (suc i) fields ts

gives_without : (left right : SumText) (i : ℕ) (fields : List Field) (t : Term) (ts : List Term) → t.field < i → GivesFrom left right i fields (t ∷ ts)
    → GivesFrom left right i fields ts
gives_without left right i [] t ts before gives = tt
gives_without left right i (f ∷ fields) t ts before gives =
    let other : eqb t.field i ≡ false = ne_eqb t.field i (λ e. omega arith) in
    let same : factor_at i (t ∷ ts) ≡ factor_at i ts = rw other (zero-add _) in
    (gives.0 ∙ same, gives_without left right (suc i) fields t ts (omega arith) gives.1)

moved_skip : (left right : SumText) (i : ℕ) (f : Field) (fields : List Field) → moved_factor left right f.name ≡ pos 0
    → moved_terms left right i (f ∷ fields) ≡ moved_terms left right (suc i) fields
moved_skip left right i f fields none = rw (zero_test _ none) refl

moved_keep : (left right : SumText) (i : ℕ) (f : Field) (fields : List Field) (z : ℤ) → moved_factor left right f.name ≡ z → z ≢ pos 0
    → moved_terms left right i (f ∷ fields) ≡ record { field = i; factor = z } ∷ moved_terms left right (suc i) fields
moved_keep left right i f fields z is other = rw (is, nonzero_test z other) refl

pub terms_back : (left right : SumText) (i : ℕ) (fields : List Field) (ts : List Term) → AreRisingFrom i ts → AreBelow (i + length fields) ts
    → GivesFrom left right i fields ts → moved_terms left right i fields ≡ ts
terms_back left right i [] [] rising below gives = refl
terms_back left right i [] (t ∷ ts) rising below gives = absurd (omega (arith, rising.0, below.0))
terms_back left right i (f ∷ fields) [] rising below gives =
    moved_skip left right i f fields gives.0 ∙ terms_back left right (suc i) fields [] tt tt gives.1
terms_back left right i (f ∷ fields) (t ∷ ts) rising below gives =
    elim (cases_lt i t.field) [
      | inl later ↦
          let none : factor_at i (t ∷ ts) ≡ pos 0 = factor_before i (suc i) (t ∷ ts) (omega arith, rising.1, rising.2) (omega arith) in
          moved_skip left right i f fields (gives.0 ∙ none) ∙ terms_back left right (suc i) fields (t ∷ ts) (omega arith, rising.1, rising.2)
          (moved_below (i + suc (length fields)) (suc i + length fields) (t ∷ ts) (omega arith) below) gives.1
      | inr reached ↦
          let here : t.field ≡ i = omega (arith, rising.0) in
          let mine : factor_at i (t ∷ ts) ≡ t.factor = rw (eq-eqb t.field i here, factor_before i (suc t.field) ts rising.2 (omega arith)) (add-zero _) in
          moved_keep left right i f fields t.factor (gives.0 ∙ mine) rising.1
          ∙ ap (λ (k : ℕ). record { field = k; factor = t.factor } ∷ moved_terms left right (suc i) fields) (sym here)
          ∙ ap (λ (rest : List Term). t ∷ rest) (terms_back left right (suc i) fields ts (subst (λ (k : ℕ). AreRisingFrom (suc k) ts) here rising.2)
          (moved_below (i + suc (length fields)) (suc i + length fields) ts (omega arith) below.1)
          (gives_without left right (suc i) fields t ts (omega arith) gives.1))
    ]
  where
    moved_below : (m n : ℕ) (ts : List Term) → m ≡ n → AreBelow m ts → AreBelow n ts
    moved_below m n ts e = subst (λ (k : ℕ). AreBelow k ts) e

-- ---- the limits

pub factor_small : (i j limit : ℕ) (ts : List Term) → AreRisingFrom j ts → AreSmall limit ts → unsigned_abs (factor_at i ts) ≤ limit
factor_small i j limit [] rising small = omega arith
factor_small i j limit (t ∷ ts) rising small =
    elim (cases_eq t.field i) [
      | inl same ↦
          let mine : factor_at i (t ∷ ts) ≡ t.factor = rw (eq-eqb t.field i same, factor_before i (suc t.field) ts rising.2 (omega arith)) (add-zero _) in
          rw mine small.0
      | inr other ↦
          let rest : factor_at i (t ∷ ts) ≡ factor_at i ts = rw (ne_eqb t.field i other) (zero-add _) in
          rw rest (factor_small i (suc t.field) limit ts rising.2 small.1)
    ]
