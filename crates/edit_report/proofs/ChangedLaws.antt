-- The fields that a path changes, one place of the path order after the other.
use Rattle.std.proofs.Common.{◌≡◌, ℕ, zero, suc, ◌+◌, ◌<◌, ◌≤◌, ◌==◌, ◌&&◌, ◌||◌, Bool, true, false, if◌then◌else◌, List, [], ◌∷◌, ◌++◌, get_or, length, take}
use Rattle.std.proofs.Common.{refl, sym, ap, ◌∙◌, arith}
use Rattle.std.specs.Prelude.{All}
use Rattle.std.specs.List.{filter}
use Rattle.std.proofs.lemmas.Bool.Decides.{Decides-eqb}
use Rattle.std.proofs.lemmas.List.{append-nil, take_all, take_more}
use Rattle.std.proofs.lemmas.List.Elements.{filter-append}
use Rattle.edit_model.specs.Corrections.{path_order}
use Rattle.edit_model.specs.FieldSets.{has_field, has_number}
use Rattle.edit_model.specs.declared.field.Field.{Field}
use Rattle.edit_model.proofs.OrderLaws.{order-length}
use Rattle.edit_line.specs.Shapes.{place_in}
use Rattle.edit_line.proofs.FieldLists.{has-append, there-has}
use Rattle.edit_line.proofs.Members.{all-in, in-filter-out}
use Rattle.bound_cert.specs.Paths.{changes}
use Rattle.bound_cert.specs.Trees.{all_kept}
use Rattle.bound_cert.proofs.Letters.{order-distinct}
use Rattle.edit_paths.proofs.FieldPlaces.{order-within, place-own}
use Rattle.edit_report.specs.Ends.{changed_fields}

-- ---- letters and their fields

-- whether the field at a place is changed, its letter says
letter-at : (fields : List Field) (path : List Bool) (i : ℕ) → i < length (path_order fields) → changes fields path (get_or (path_order fields) i 0)
    ≡ get_or path i false
letter-at fields path i below = ap (λ k. get_or path k false) (place-own (path_order fields) i (order-distinct fields) below)

no-letter : (k : ℕ) → get_or [] k false ≡ false
no-letter zero = refl
no-letter (suc k) = refl

-- a field that is not in the list has no letter
apart-kept : (order : List ℕ) (path : List Bool) (f : ℕ) → length path ≤ length order → has_field order f ≡ false → get_or path (place_in order f) false ≡ false
apart-kept order [] f short apart = no-letter (place_in order f)
apart-kept [] (letter ∷ path) f short apart = absurd (omega (arith, short))
apart-kept (g ∷ order) (letter ∷ path) f short apart = by (g == f) (apart-kept order path f (omega (arith, short))) apart
  where
    by : (b : Bool) → (has_field order f ≡ false → get_or path (place_in order f) false ≡ false) → (b || has_field order f) ≡ false
        → get_or (letter ∷ path) (if b then 0 else suc (place_in order f)) false ≡ false
    by true rest none = absurd (cc)
    by false rest none = rest none

-- ---- the set of the changed fields

with-one : (a c e letter : Bool) → (e ≡ true → c ≡ letter) → ((a && c) || (e && letter)) ≡ ((a || (e || false)) && c)
with-one true true e letter same = refl
with-one true false true letter same = sym (same refl)
with-one true false false letter same = refl
with-one false c true letter same = sym (same refl)
with-one false c false letter same = refl

module _ (fields : List Field) (path : List Bool) where
  -- one field more
  pub set-more : (set next i field : ℕ) (letter : Bool) → i < length fields → field ≡ get_or (path_order fields) i 0 → letter ≡ get_or path i false
      → ((f : ℕ) → has_number next f ≡ (has_number set f || ((field == f) && letter)))
      → ((f : ℕ) → has_number set f ≡ (has_field (take i (path_order fields)) f && changes fields path f))
      → (f : ℕ) → has_number next f ≡ (has_field (take (i + 1) (path_order fields)) f && changes fields path f)
  set-more set next i field letter below is says put before f =
      put f ∙ ap (λ b. b || ((field == f) && letter)) (before f) ∙ with-one (has_field (take i (path_order fields)) f) (changes fields path f) (field == f)
      letter own ∙ ap (λ b. b && changes fields path f) (sym longer)
    where
      within : i < length (path_order fields)
      within = omega (arith, below, order-length fields)

      own : (field == f) ≡ true → changes fields path f ≡ letter
      own e = ap (changes fields path) (sym ((Decides-eqb field f).0 e) ∙ is) ∙ letter-at fields path i within ∙ sym says

      longer : has_field (take (i + 1) (path_order fields)) f ≡ (has_field (take i (path_order fields)) f || ((field == f) || false))
      longer = ap (λ fs. has_field fs f) (take_more (path_order fields) i 0 within ∙ ap (λ n. take i (path_order fields) ++ n ∷ []) (sym is))
          ∙ has-append f (take i (path_order fields)) (field ∷ [])

  -- and all of them
  pub set-all : (set i : ℕ) → length fields ≤ i → length path ≤ length fields
      → ((f : ℕ) → has_number set f ≡ (has_field (take i (path_order fields)) f && changes fields path f)) → (f : ℕ) → has_number set f ≡ changes fields path f
  set-all set i past short all f =
      all f ∙ ap (λ fs. has_field fs f && changes fields path f) (take_all i (path_order fields) (omega (arith, past, order-length fields)))
      ∙ by (has_field (path_order fields) f) (apart-kept (path_order fields) path f (omega (arith, short, order-length fields)))
    where
      by : (b : Bool) → (b ≡ false → changes fields path f ≡ false) → (b && changes fields path f) ≡ changes fields path f
      by true apart = refl
      by false apart = sym (apart refl)

  -- ---- their list

  -- one field more
  pub list-more : (items next : List ℕ) (i field : ℕ) (letter : Bool) → i < length fields → field ≡ get_or (path_order fields) i 0 → letter
      ≡ get_or path i false → next ≡ (if letter then items ++ field ∷ [] else items)
      → items ≡ filter (changes fields path) (take i (path_order fields)) → next ≡ filter (changes fields path) (take (i + 1) (path_order fields))
  list-more items next i field letter below is says put before = put ∙ by letter (says ∙ sym (letter-at fields path i within)
      ∙ ap (changes fields path) (sym is)) ∙ sym longer
    where
      within : i < length (path_order fields)
      within = omega (arith, below, order-length fields)

      longer : filter (changes fields path) (take (i + 1) (path_order fields)) ≡ items ++ filter (changes fields path) (field ∷ [])
      longer =
          ap (filter (changes fields path)) (take_more (path_order fields) i 0 within ∙ ap (λ n. take i (path_order fields) ++ n ∷ []) (sym is))
          ∙ filter-append (changes fields path) (take i (path_order fields)) (field ∷ [])
          ∙ ap (λ fs. fs ++ filter (changes fields path) (field ∷ [])) (sym before)

      by : (b : Bool) → b ≡ changes fields path field → (if b then items ++ field ∷ [] else items) ≡ items ++ filter (changes fields path) (field ∷ [])
      by true e = ap (λ b. items ++ (if b then field ∷ [] else [])) e
      by false e = sym (append-nil items) ∙ ap (λ b. items ++ (if b then field ∷ [] else [])) e

  -- and all of them
  pub list-all : (items : List ℕ) (i : ℕ) → length fields ≤ i → items ≡ filter (changes fields path) (take i (path_order fields)) → items
      ≡ changed_fields fields path
  list-all items i past before = before ∙ ap (filter (changes fields path)) (take_all i (path_order fields) (omega (arith, past, order-length fields)))

-- changed fields are fields
pub changed-within : (fields : List Field) (path : List Bool) → All (λ (f : ℕ). f < length fields) (changed_fields fields path)
changed-within fields path = all-in _ (changed_fields fields path)
    (λ f there. order-within fields f (there-has f (path_order fields) (in-filter-out (changes fields path) f (path_order fields) there).0))

-- ---- a path that keeps all its fields

letters-kept : (path : List Bool) (k : ℕ) → all_kept path ≡ true → get_or path k false ≡ false
letters-kept [] k kept = no-letter k
letters-kept (true ∷ path) k kept = absurd (cc)
letters-kept (false ∷ path) zero kept = refl
letters-kept (false ∷ path) (suc k) kept = letters-kept path k kept

-- changes none
pub none-changed : (fields : List Field) (path : List Bool) → all_kept path ≡ true → (f : ℕ) → changes fields path f ≡ false
none-changed fields path kept f = letters-kept path (place_in (path_order fields) f) kept
