use Rattle.std.proofs.Common.{◌≡◌, ◌≢◌, ℕ, suc, ◌+◌, ◌<◌, ◌==◌, ◌||◌, ◌++◌, Bool, true, false, if◌then◌else◌, List, [], ◌∷◌, drop, get_or, length}
use Rattle.std.proofs.Common.{reverse, take, refl, sym, ap, ◌∙◌, arith}
use Rattle.std.specs.List.{filter}
use Rattle.std.proofs.Math.Seq.{drop-cons}
use Rattle.std.proofs.lemmas.Bool.Decides.{Decides-eqb}
use Rattle.std.proofs.lemmas.List.{append-nil, reverse-append, reverse-reverse, take-append-drop, take_more}
use Rattle.edit_model.proofs.NameLemmas.{false_unless}
use Rattle.edit_model.specs.Corrections as corrections
use Rattle.edit_model.specs.FieldSets.{has_number}
use Rattle.edit_model.specs.declared.field.Field.{Field}
use Rattle.edit_line.proofs.BoolLaws.{or_true}
use Rattle.edit_line.specs.Shapes.{Categorical, Domain, Numerical, code_fields, has_field, number_fields, numbers_from, shape_of}
use Rattle.edit_line.proofs.ShapeLaws.{same_codes, same_fields}
use Rattle.linear_elim.specs.Systems.{AreNumerical, chosen_fields}
use Rattle.edit_line.proofs.FieldLists.{has-append}
use Rattle.back_subst.specs.inner.UnderWay.{AreDistinct, AreOrders}
use Rattle.back_subst.proofs.FieldPoints.{no_number-before}
use Rattle.back_subst.proofs.UnderWayLaws.{own-there}
use Rattle.back_subst.proofs.WalkLaws.{has-reverse}

-- The changed fields in the order in which they are given values.

-- ---- lists of fields

-- the set of the first fields, and one more
pub set-more : (fields : List ℕ) (i set next : ℕ) → i < length fields → ((f : ℕ) → has_number set f ≡ has_field (take i fields) f)
    → has_number next (get_or fields i 0) ≡ true
    → ((f : ℕ) → f ≢ get_or fields i 0 → has_number next f ≡ has_number set f) → (f : ℕ) → has_number next f ≡ has_field (take (i + 1) fields) f
set-more fields i set next below before has others f = by (g == f) refl ∙ sym taken
  where
    g : ℕ
    g = get_or fields i 0

    taken : has_field (take (i + 1) fields) f ≡ (has_field (take i fields) f || ((g == f) || false))
    taken = ap (λ fs. has_field fs f) (take_more fields i 0 below) ∙ has-append f (take i fields) (g ∷ [])

    by : (b : Bool) → (g == f) ≡ b → has_number next f ≡ (has_field (take i fields) f || (b || false))
    by true e = ap (λ n. has_number next n) (sym ((Decides-eqb g f).0 e)) ∙ has ∙ sym (or_true (has_field (take i fields) f))
    by false e = others f (λ same. absurd (cc (sym e ∙ (Decides-eqb g f).1 (sym same)))) ∙ before f ∙ nothing (has_field (take i fields) f)
      where
        nothing : (b : Bool) → b ≡ (b || false)
        nothing true = refl
        nothing false = refl

-- a field that a filter leaves was there
pub has-filtered : (t : ℕ → Bool) (fields : List ℕ) (f : ℕ) → has_field (filter t fields) f ≡ true → (has_field fields f ≡ true) × (t f ≡ true)
has-filtered t [] f there = absurd (cc)
has-filtered t (i ∷ fields) f there = by (t i) refl there (has-filtered t fields f)
  where
    by : (b : Bool) → t i ≡ b → has_field (if b then i ∷ filter t fields else filter t fields) f ≡ true
        → (has_field (filter t fields) f ≡ true → (has_field fields f ≡ true) × (t f ≡ true)) → (has_field (i ∷ fields) f ≡ true) × (t f ≡ true)
    by false e h rest = let (later, is) = rest h in (ap (λ b. (i == f) || b) later ∙ or_true (i == f), is)
    by true e h rest = at (i == f) refl h
      where
        at : (c : Bool) → (i == f) ≡ c → (c || has_field (filter t fields) f) ≡ true → ((c || has_field fields f) ≡ true) × (t f ≡ true)
        at true own _ = (refl, ap t (sym ((Decides-eqb i f).0 own)) ∙ e)
        at false own h = rest h

same-filter : (t u : ℕ → Bool) (fields : List ℕ) → ((f : ℕ) → has_field fields f ≡ true → t f ≡ u f) → filter t fields ≡ filter u fields
same-filter t u [] same = refl
same-filter t u (i ∷ fields) same =
    ap (λ b. if b then i ∷ filter t fields else filter t fields) (same i (own-there i fields))
    ∙ ap (λ fs. if u i then i ∷ fs else fs) (same-filter t u fields (λ f there. same f (ap (λ b. (i == f) || b) there ∙ or_true (i == f))))

-- of distinct fields, the first of those that a filter leaves are those that are among these
first-chosen : (t : ℕ → Bool) (fields ys zs : List ℕ) → AreDistinct fields → filter t fields ≡ ys ++ zs → filter (has_field ys) fields ≡ ys
first-chosen t [] [] zs distinct are = refl
first-chosen t [] (y ∷ ys) zs distinct are = absurd (cc)
first-chosen t (i ∷ fields) [] zs distinct are = none (i ∷ fields)
  where
    none : (fields : List ℕ) → filter (has_field []) fields ≡ []
    none [] = refl
    none (i ∷ fields) = none fields
first-chosen t (i ∷ fields) (y ∷ ys) zs distinct are = by (t i) refl are (first-chosen t fields ys zs distinct.1) (first-chosen t fields (y ∷ ys) zs distinct.1)
  where
    by : (b : Bool) → t i ≡ b → (if b then i ∷ filter t fields else filter t fields) ≡ y ∷ (ys ++ zs)
        → (filter t fields ≡ ys ++ zs → filter (has_field ys) fields ≡ ys) → (filter t fields ≡ y ∷ (ys ++ zs) → filter (has_field (y ∷ ys)) fields ≡ y ∷ ys)
        → (if has_field (y ∷ ys) i then i ∷ filter (has_field (y ∷ ys)) fields else filter (has_field (y ∷ ys)) fields) ≡ y ∷ ys
    by true e h first later =
        let same : i ≡ y = cc in
        let tail : filter t fields ≡ ys ++ zs = cc in
        ap (λ b. if b || has_field ys i then i ∷ filter (has_field (y ∷ ys)) fields else filter (has_field (y ∷ ys)) fields) ((Decides-eqb y i).1 (sym same))
        ∙ ap (λ fs. i ∷ fs) (same-filter (has_field (y ∷ ys)) (has_field ys) fields (λ f there. ap (λ b. b || has_field ys f) (apart f there same))
        ∙ first tail) ∙ ap (λ n. n ∷ ys) same
      where
        apart : (f : ℕ) → has_field fields f ≡ true → i ≡ y → (y == f) ≡ false
        apart f there same = false_unless (y == f) (λ own. absurd (cc (sym distinct.0 ∙ ap (λ n. has_field fields n) (same ∙ (Decides-eqb y f).0 own) ∙ there)))
    by false e h first later = ap (λ b. if b then i ∷ filter (has_field (y ∷ ys)) fields else filter (has_field (y ∷ ys)) fields) out ∙ later h
      where
        out : has_field (y ∷ ys) i ≡ false
        out = false_unless (has_field (y ∷ ys) i) (λ there. absurd
            (cc (sym e ∙ (has-filtered t fields i (ap (λ fs. has_field fs i) h ∙ has-append i (y ∷ ys) zs ∙ ap (λ b. b || has_field zs i) there)).1)))

pub distinct-numbers : (i : ℕ) (shape : List Domain) → AreDistinct (numbers_from i shape)
distinct-numbers i [] = tt
distinct-numbers i (Categorical k ∷ shape) = distinct-numbers (suc i) shape
distinct-numbers i (Numerical ∷ shape) = (no_number-before i (suc i) shape (omega arith), distinct-numbers (suc i) shape)

-- a list at one of its places
pub parted : (order : List ℕ) (i : ℕ) → i < length order → order ≡ take i order ++ get_or order i 0 ∷ drop (suc i) order
parted order i below = sym (take-append-drop i order) ∙ ap (λ fs. take i order ++ fs) (drop-cons order i 0 below)

-- ---- the fields of the orders

module _ (fields : List Field) (codes order : List ℕ) (orders : AreOrders fields codes order) where
  numbers_are : order ≡ reverse (filter (has_number orders.changed) (number_fields (shape_of fields)))
  numbers_are =
      orders.numbers_are ∙ ap (λ fs. reverse (filter (has_number orders.changed) fs))
      (same_fields (corrections.number_fields fields) fields (shape_of fields) refl refl)

  pub order-numerical : (i : ℕ) → has_field order i ≡ true → has_field (number_fields (shape_of fields)) i ≡ true
  order-numerical i there =
      (has-filtered (has_number orders.changed) (number_fields (shape_of fields)) i
      (sym (has-reverse i (filter (has_number orders.changed) (number_fields (shape_of fields)))) ∙ ap (λ fs. has_field fs i) (sym numbers_are) ∙ there)).0

  pub order-categorical : (i : ℕ) → has_field codes i ≡ true → has_field (code_fields (shape_of fields)) i ≡ true
  order-categorical i there =
      (has-filtered (has_number orders.changed) (code_fields (shape_of fields)) i
      (sym (has-reverse i (filter (has_number orders.changed) (code_fields (shape_of fields))))
      ∙ ap (λ fs. has_field fs i) (sym (orders.codes_are
      ∙ ap (λ fs. reverse (filter (has_number orders.changed) fs)) (same_codes (corrections.code_fields fields) fields (shape_of fields) refl refl)))
      ∙ there)).0

  -- the set of the whole order chooses it, in declared order
  pub chosen-all : (left : ℕ) → ((i : ℕ) → has_number left i ≡ has_field order i) → chosen_fields (shape_of fields) left ≡ reverse order
  chosen-all left same =
      same-filter (has_number left) (has_field (reverse order)) (number_fields (shape_of fields)) (λ i there. same i ∙ sym (has-reverse i order))
      ∙ first-chosen (has_number orders.changed) (number_fields (shape_of fields)) (reverse order) [] (distinct-numbers 0 (shape_of fields))
      (sym (reverse-reverse (filter (has_number orders.changed) (number_fields (shape_of fields)))) ∙ ap (λ fs. reverse fs) (sym numbers_are)
      ∙ sym (append-nil (reverse order)))

  pub all-numerical : (left : ℕ) → ((i : ℕ) → has_number left i ≡ has_field order i) → AreNumerical (shape_of fields) left
  all-numerical left same = λ i there. order-numerical i (sym (same i) ∙ there)

-- ---- the numerical fields after one of the order

module _ (fields : List Field) (codes order done rest : List ℕ) (f : ℕ) (orders : AreOrders fields codes order) (order_is : order ≡ done ++ f ∷ rest) where
  pub field-numerical : has_field (number_fields (shape_of fields)) f ≡ true
  field-numerical =
      order-numerical fields codes order orders f (ap (λ fs. has_field fs f) order_is ∙ has-append f done (f ∷ rest)
      ∙ ap (λ b. has_field done f || b) (own-there f rest) ∙ or_true (has_field done f))

  pub rest-numerical : (i : ℕ) → has_field rest i ≡ true → has_field (number_fields (shape_of fields)) i ≡ true
  rest-numerical i there =
      order-numerical fields codes order orders i (ap (λ fs. has_field fs i) order_is ∙ has-append i done (f ∷ rest)
      ∙ ap (λ b. has_field done i || ((f == i) || b)) there ∙ ap (λ b. has_field done i || b) (or_true (f == i)) ∙ or_true (has_field done i))

  chosen-first : filter (has_number orders.changed) (number_fields (shape_of fields)) ≡ reverse rest ++ reverse (done ++ f ∷ [])
  chosen-first =
      sym (reverse-reverse (filter (has_number orders.changed) (number_fields (shape_of fields))))
      ∙ ap (λ fs. reverse fs) (sym (numbers_are fields codes order orders) ∙ order_is ∙ joined done) ∙ reverse-append (done ++ f ∷ []) rest
    where
      joined : (done : List ℕ) → done ++ f ∷ rest ≡ (done ++ f ∷ []) ++ rest
      joined [] = refl
      joined (d ∷ done) = ap (λ fs. d ∷ fs) (joined done)

  -- where the set has those after it, they are the ones that are chosen, in declared order
  pub chosen-rest : (left : ℕ) → ((i : ℕ) → has_number left i ≡ has_field rest i) → chosen_fields (shape_of fields) left ≡ reverse rest
  chosen-rest left same =
      same-filter (has_number left) (has_field (reverse rest)) (number_fields (shape_of fields)) (λ i there. same i ∙ sym (has-reverse i rest))
      ∙ first-chosen (has_number orders.changed) (number_fields (shape_of fields)) (reverse rest) (reverse (done ++ f ∷ []))
      (distinct-numbers 0 (shape_of fields)) chosen-first

  pub left-numerical : (left : ℕ) → ((i : ℕ) → has_number left i ≡ has_field rest i) → AreNumerical (shape_of fields) left
  left-numerical left same = λ i there. rest-numerical i (sym (same i) ∙ there)
