use Rattle.std.proofs.Common.{◌≡◌, ℕ, zero, suc, ◌<◌, ◌==◌, ◌&&◌, ◌||◌, not, Bool, true, false, cond, if◌then◌else◌, List, [], ◌∷◌, ◌++◌, slice_index_or, inl}
use Rattle.std.proofs.Common.{inr, refl, sym, ap, ◌∙◌, arith}
use Rattle.std.specs.List.{filter, list_any}
use Rattle.std.proofs.lemmas.Bool.Decides.{Decides-eqb}
use Rattle.edit_model.proofs.ChangedWords.{changed_in}
use Rattle.edit_model.specs.Corrections.{is_numerical, numbers_from, path_order}
use Rattle.edit_model.specs.FieldSets.{has_field}
use Rattle.edit_model.specs.declared.field.Field.{Field}
use Rattle.edit_model.specs.declared.field.Kind.{Kind}
use Rattle.edit_line.specs.Reductions.{IsIn}
use Rattle.edit_line.specs.Shapes.{place_in}
use Rattle.edit_line.proofs.FieldLists.{has-append, there-has}
use Rattle.edit_line.proofs.TestLists.{any-filter}
use Rattle.bound_cert.specs.Paths.{changes, keeps}

-- The letters of a path: those at the fields' places in path order, and one after another.

-- the fields beside a letter for which the test is true
abbrev pub beside_letters : (Bool → Bool) → List ℕ → List Bool → List ℕ
beside_letters test (f ∷ fields) (letter ∷ path) = if test letter then f ∷ beside_letters test fields path else beside_letters test fields path
beside_letters test _ _ = []

-- the fields beside a letter that says kept
abbrev pub kept_in : List ℕ → List Bool → List ℕ
kept_in fields path = beside_letters not fields path

beside-changed : (fields : List ℕ) (path : List Bool) → beside_letters (λ changed. changed) fields path ≡ changed_in fields path
beside-changed [] path = refl
beside-changed (f ∷ fields) [] = refl
beside-changed (f ∷ fields) (true ∷ path) = ap (λ (fs : List ℕ). f ∷ fs) (beside-changed fields path)
beside-changed (f ∷ fields) (false ∷ path) = beside-changed fields path

-- no field stands twice in the list
abbrev pub AreDistinct : List ℕ → Type 0
AreDistinct [] = Unit {0}
AreDistinct (f ∷ fields) = (has_field fields f ≡ false) × AreDistinct fields

-- ---- the fields in path order are distinct

differ : (i f : ℕ) → f < i → (i == f) ≡ false
differ i f below = by (i == f) (Decides-eqb i f).0
  where
    by : (b : Bool) → (b ≡ true → i ≡ f) → b ≡ false
    by true same = absurd (omega (arith, same refl))
    by false same = refl

neither : (a b : Bool) → a ≡ false → b ≡ false → (a || b) ≡ false
neither true b first second = absurd (cc)
neither false b first second = second

distinct-append : (xs ys : List ℕ) → AreDistinct xs → AreDistinct ys → ((f : ℕ) → has_field xs f ≡ true → has_field ys f ≡ false) → AreDistinct (xs ++ ys)
distinct-append [] ys first second apart = second
distinct-append (x ∷ xs) ys first second apart = (
  has-append x xs ys ∙ neither (has_field xs x) (has_field ys x) first.0 (apart x (ap (λ b. b || has_field xs x) ((Decides-eqb x x).1 refl))),
  distinct-append xs ys first.1 second (λ f there. apart f (later (x == f) there)),
)
  where
    later : {b : Bool} (a : Bool) → b ≡ true → (a || b) ≡ true
    later true there = refl
    later false there = there

-- the fields of one kind, from number i on, are none before
none-before : (test : Kind → Bool) (i : ℕ) (fields : List Field) (f : ℕ) → f < i → has_field (numbers_from test i fields) f ≡ false
none-before test i [] f below = refl
none-before test i (field ∷ fields) f below = by (test field.kind) (none-before test (suc i) fields f (omega arith))
  where
    by : (b : Bool) → has_field (numbers_from test (suc i) fields) f ≡ false
        → has_field (if b then i ∷ numbers_from test (suc i) fields else numbers_from test (suc i) fields) f ≡ false
    by true rest = neither (i == f) _ (differ i f below) rest
    by false rest = rest

distinct-from : (test : Kind → Bool) (i : ℕ) (fields : List Field) → AreDistinct (numbers_from test i fields)
distinct-from test i [] = tt
distinct-from test i (field ∷ fields) = by (test field.kind) (distinct-from test (suc i) fields)
  where
    by : (b : Bool) → AreDistinct (numbers_from test (suc i) fields)
        → AreDistinct (if b then i ∷ numbers_from test (suc i) fields else numbers_from test (suc i) fields)
    by true rest = (none-before test (suc i) fields i (omega arith), rest)
    by false rest = rest

-- one of a kind is not of the other
apart-from : (test : Kind → Bool) (i : ℕ) (fields : List Field) (f : ℕ) → has_field (numbers_from test i fields) f ≡ true
    → has_field (numbers_from (λ k. not (test k)) i fields) f ≡ false
apart-from test i [] f there = absurd (cc)
apart-from test i (field ∷ fields) f there = by (test field.kind) (apart-from test (suc i) fields f) there
  where
    first : (b : Bool) → (i == f) ≡ b → (b || has_field (numbers_from test (suc i) fields) f) ≡ true
        → (has_field (numbers_from test (suc i) fields) f ≡ true → has_field (numbers_from (λ k. not (test k)) (suc i) fields) f ≡ false)
        → has_field (numbers_from (λ k. not (test k)) (suc i) fields) f ≡ false
    first true is h rest = none-before (λ k. not (test k)) (suc i) fields f (omega (arith, (Decides-eqb i f).0 is))
    first false is h rest = rest h

    other : (b : Bool) → (i == f) ≡ b → has_field (numbers_from test (suc i) fields) f ≡ true → (i == f) ≡ false
    other true is h = absurd (cc (sym h ∙ none-before test (suc i) fields f (omega (arith, (Decides-eqb i f).0 is))))
    other false is h = is

    by : (b : Bool) → (has_field (numbers_from test (suc i) fields) f ≡ true → has_field (numbers_from (λ k. not (test k)) (suc i) fields) f ≡ false)
        → has_field (if b then i ∷ numbers_from test (suc i) fields else numbers_from test (suc i) fields) f ≡ true
        → has_field (if not b then i ∷ numbers_from (λ k. not (test k)) (suc i) fields else numbers_from (λ k. not (test k)) (suc i) fields) f ≡ false
    by true rest h = first (i == f) refl h rest
    by false rest h = neither (i == f) _ (other (i == f) refl h) (rest h)

-- each field stands once in path order
pub order-distinct : (fields : List Field) → AreDistinct (path_order fields)
order-distinct fields =
    distinct-append (numbers_from is_numerical 0 fields) (numbers_from (λ k. not (is_numerical k)) 0 fields) (distinct-from is_numerical 0 fields)
    (distinct-from (λ k. not (is_numerical k)) 0 fields) (apart-from is_numerical 0 fields)

-- ---- the letters at the places of distinct fields

-- a field of a list that has not g is not g
pub other-field : (g f : ℕ) (fields : List ℕ) → has_field fields g ≡ false → IsIn f fields → (g == f) ≡ false
other-field g f fields none there = by (g == f) (Decides-eqb g f).0
  where
    by : (b : Bool) → (b ≡ true → g ≡ f) → b ≡ false
    by true same = absurd (cc (sym (there-has f fields there) ∙ ap (has_field fields) (sym (same refl)) ∙ none))
    by false same = refl

-- tests that agree on the elements pass the same
pub filter-agree : (t u : ℕ → Bool) (xs : List ℕ) → ((x : ℕ) → IsIn x xs → t x ≡ u x) → filter t xs ≡ filter u xs
filter-agree t u [] same = refl
filter-agree t u (x ∷ xs) same =
    ap (λ b. cond b (x ∷ filter t xs) (filter t xs)) (same x (inl refl)) ∙ ap (λ ys. cond (u x) (x ∷ ys) ys)
    (filter-agree t u xs (λ y there. same y (inr there)))

filter-none : (t : ℕ → Bool) (xs : List ℕ) → ((x : ℕ) → t x ≡ false) → filter t xs ≡ []
filter-none t [] none = refl
filter-none t (x ∷ xs) none = ap (λ b. cond b (x ∷ filter t xs) (filter t xs)) (none x) ∙ filter-none t xs none

-- no letter at all
no-letter : (n : ℕ) (d : Bool) → slice_index_or [] n d ≡ d
no-letter zero d = refl
no-letter (suc n) d = refl

-- the fields whose letter passes a test that a missing one fails
pub letters-beside : (test : Bool → Bool) (missing : Bool) (order : List ℕ) (path : List Bool) → test missing ≡ false → AreDistinct order
    → filter (λ f. test (slice_index_or path (place_in order f) missing)) order ≡ beside_letters test order path
letters-beside test missing [] path fails distinct = refl
letters-beside test missing (g ∷ order) [] fails distinct = filter-none _ (g ∷ order) (λ f. ap test (no-letter (place_in (g ∷ order) f) missing) ∙ fails)
letters-beside test missing (g ∷ order) (letter ∷ path) fails (apart, distinct) = split first (letters-beside test missing order path fails distinct)
  where
    at_place : ℕ → Bool
    at_place f = test (slice_index_or (letter ∷ path) (place_in (g ∷ order) f) missing)

    first : at_place g ≡ test letter
    first = ap (λ b. test (slice_index_or (letter ∷ path) (if b then 0 else suc (place_in order g)) missing)) ((Decides-eqb g g).1 refl)

    later : (f : ℕ) → IsIn f order → at_place f ≡ test (slice_index_or path (place_in order f) missing)
    later f there = ap (λ b. test (slice_index_or (letter ∷ path) (if b then 0 else suc (place_in order f)) missing)) (other-field g f order apart there)

    split : at_place g ≡ test letter → filter (λ f. test (slice_index_or path (place_in order f) missing)) order ≡ beside_letters test order path
        → filter at_place (g ∷ order) ≡ beside_letters test (g ∷ order) (letter ∷ path)
    split is rest = ap (λ b. cond b (g ∷ filter at_place order) (filter at_place order)) is
        ∙ ap (λ ys. cond (test letter) (g ∷ ys) ys) (filter-agree at_place _ order later ∙ rest)

-- the fields that a path changes are those beside a letter that says so
pub changes-beside : (fields : List Field) (path : List Bool) → filter (changes fields path) (path_order fields) ≡ changed_in (path_order fields) path
changes-beside fields path = letters-beside (λ changed. changed) false (path_order fields) path refl (order-distinct fields)
    ∙ beside-changed (path_order fields) path

pub keeps-beside : (fields : List Field) (path : List Bool) → filter (keeps fields path) (path_order fields) ≡ kept_in (path_order fields) path
keeps-beside fields path = letters-beside not true (path_order fields) path refl (order-distinct fields)

filter-both : (t u : ℕ → Bool) (xs : List ℕ) → filter (λ x. t x && u x) xs ≡ filter u (filter t xs)
filter-both t u [] = refl
filter-both t u (x ∷ xs) = by (t x) (filter-both t u xs)
  where
    by : (b : Bool) → filter (λ y. t y && u y) xs ≡ filter u (filter t xs)
        → cond (b && u x) (x ∷ filter (λ y. t y && u y) xs) (filter (λ y. t y && u y) xs) ≡ filter u (cond b (x ∷ filter t xs) (filter t xs))
    by true same = ap (λ ys. cond (u x) (x ∷ ys) ys) same
    by false same = same

module _ (fields : List Field) (path : List Bool) (test : ℕ → Bool) where
  -- and of the kept ones those that pass a test
  pub kept-those : filter (λ f. keeps fields path f && test f) (path_order fields) ≡ filter test (kept_in (path_order fields) path)
  kept-those = filter-both (keeps fields path) test (path_order fields) ∙ ap (λ (fs : List ℕ). filter test fs) (keeps-beside fields path)

  pub kept-any : list_any (λ f. keeps fields path f && test f) (path_order fields) ≡ list_any test (kept_in (path_order fields) path)
  kept-any = sym (any-filter test (keeps fields path) (path_order fields)) ∙ ap (λ (fs : List ℕ). list_any test fs) (keeps-beside fields path)
