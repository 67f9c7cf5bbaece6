use Rattle.std.proofs.Common.{◌≡◌, ℕ, ◌==◌, ◌||◌, ◌++◌, Bool, true, false, if◌then◌else◌, List, [], ◌∷◌, append_assoc, reverse, refl, sym, ap, ◌∙◌, subst}
use Rattle.std.specs.List.{filter}
use Rattle.std.proofs.lemmas.Bool.Decides.{Decides-eqb}
use Rattle.std.proofs.lemmas.List.{reverse-append, reverse-reverse}
use Rattle.std.proofs.lemmas.List.Elements.{filter-append}
use Rattle.edit_model.proofs.NameLemmas.{false_unless}
use Rattle.edit_model.specs.Corrections as corrections
use Rattle.edit_model.specs.FieldSets.{has_number}
use Rattle.edit_model.specs.RowPoints.{code_in}
use Rattle.edit_model.specs.Rows.{value_of}
use Rattle.edit_model.specs.declared.field.Field.{Field}
use Rattle.edit_model.specs.declared.value.Value.{Value}
use Rattle.edit_line.specs.Shapes.{Domain, code_fields, has_field, shape_of}
use Rattle.edit_line.proofs.BoolLaws.{or_true}
use Rattle.edit_line.proofs.FieldLists.{has-filter, has-left, has-right}
use Rattle.edit_line.proofs.ShapeLaws.{same_codes}
use Rattle.categ_combine.specs.Covers.{covered}
use Rattle.categ_combine.specs.Fixing.{fixed}
use Rattle.back_subst.specs.inner.Codes.{settled_after, settled_at, settled_but}
use Rattle.back_subst.specs.inner.UnderWay.{AreDistinct, AreOrders}
use Rattle.back_subst.proofs.CodeLaws.{distinct-from}
use Rattle.back_subst.proofs.ListPlaces.{one-place, some-place}
use Rattle.back_subst.proofs.OrderLaws.{has-filtered}
use Rattle.back_subst.proofs.StartLaws.{distinct-filtered}
use Rattle.back_subst.proofs.UnderWayLaws.{own-there}
use Rattle.back_subst.proofs.WalkLaws.{has-reverse}

-- Categorical fields are given codes from the last to the first: so those that change, before one that is left, are left too.

module _ (fields : List Field) (order numbers : List ℕ) (orders : AreOrders fields order numbers) (done : List ℕ) (g : ℕ) (before : List ℕ)
    (order_is : order ≡ done ++ g ∷ before) (apart : has_field before g ≡ false)
    (first : List ℕ) (k : ℕ) (rest : List ℕ) (codes_are : code_fields (shape_of fields) ≡ first ++ k ∷ rest) (left : has_field before k ≡ true) where
  abbrev changes : ℕ → Bool
  changes f = has_number orders.changed f

  order-chosen : order ≡ reverse (filter (has_number orders.changed) (code_fields (shape_of fields)))
  order-chosen = orders.codes_are ∙ ap (λ fs. reverse (filter changes fs)) (same_codes (corrections.code_fields fields) fields (shape_of fields) refl refl)

  chosen-there : (j : ℕ) → has_field order j ≡ true → has_number orders.changed j ≡ true
  chosen-there j there =
      (has-filtered changes (code_fields (shape_of fields)) j
      (sym (has-reverse j (filter changes (code_fields (shape_of fields)))) ∙ ap (λ fs. has_field fs j) (sym order-chosen) ∙ there)).1

  listed : (j : ℕ) → has_field (g ∷ before) j ≡ true → has_field order j ≡ true
  listed j there = ap (λ fs. has_field fs j) order_is ∙ has-right j done (g ∷ before) there

  chosen-backwards : filter (has_number orders.changed) (code_fields (shape_of fields)) ≡ reverse before ++ g ∷ reverse done
  chosen-backwards =
      sym (reverse-reverse (filter changes (code_fields (shape_of fields)))) ∙ ap (λ fs. reverse fs) (sym order-chosen ∙ order_is)
      ∙ reverse-append done (g ∷ before)
      ∙ ap (λ fs. fs ++ reverse done) (reverse-append (g ∷ []) before) ∙ append_assoc (reverse before) (g ∷ []) (reverse done)

  chosen-parts : filter (has_number orders.changed) (code_fields (shape_of fields))
      ≡ filter (has_number orders.changed) first ++ k ∷ filter (has_number orders.changed) rest
  chosen-parts =
      ap (λ fs. filter changes fs) codes_are ∙ filter-append changes first (k ∷ rest)
      ∙ ap (λ b. filter changes first ++ (if b then k ∷ filter changes rest else filter changes rest))
      (chosen-there k (listed k (ap (λ b. (g == k) || b) left ∙ or_true (g == k))))

  -- a changed field before one that is left is left
  pub left-before : (j : ℕ) → has_field first j ≡ true → has_field order j ≡ true → has_field before j ≡ true
  left-before j there in_order =
      let (x, y, is) = some-place k (reverse before) (has-reverse k before ∙ left) in
      let same = one-place k (filter changes first) (filter changes rest) x (y ++ g ∷ reverse done)
      (subst (λ fs. AreDistinct fs) chosen-parts (distinct-filtered changes (code_fields (shape_of fields)) (distinct-from 0 (shape_of fields))))
      (sym chosen-parts ∙ chosen-backwards ∙ ap (λ fs. fs ++ g ∷ reverse done) is ∙ append_assoc x (k ∷ y) (g ∷ reverse done)) in
      sym (has-reverse j before) ∙ ap (λ fs. has_field fs j) is
      ∙ has-left j x (k ∷ y) (ap (λ fs. has_field fs j) (sym same) ∙ has-filter changes j first there ∙ chosen-there j in_order)

  -- and is not the one whose turn it is
  pub other-before : (j : ℕ) → has_field first j ≡ true → (j == g) ≡ false
  other-before j there = false_unless (j == g) (λ e.
      let same : j ≡ g = (Decides-eqb j g).0 e in
      absurd (cc (sym apart ∙ ap (λ n. has_field before n) (sym same)
      ∙ left-before j there (ap (λ n. has_field order n) same ∙ listed g (own-there g before)))))

  pub same-left : (j : ℕ) → has_field first j ≡ true → has_field before j ≡ has_field order j
  same-left j there = by (has_field order j) refl
    where
      by : (b : Bool) → has_field order j ≡ b → has_field before j ≡ b
      by true e = left-before j there e
      by false e = false_unless (has_field before j) (λ h. absurd (cc (sym e ∙ listed j (ap (λ b. (g == j) || b) h ∙ or_true (g == j)))))

-- ---- boxes after fields that are settled alike

module _ (shape : List Domain) (row so_far : List Value) (order before : List ℕ) (g : ℕ) where
  -- the field is not g, is left in both lists or in none, and has the same value in both records where it is not left
  pub record SettlesAlike (j : ℕ) : Type 0 where
    pub other : (j == g) ≡ false
    pub left : has_field before j ≡ has_field order j
    pub kept : has_field order j ≡ false → value_of so_far j ≡ value_of row j

  pub settled-alike : (fields : List ℕ) (boxes : List (List ℕ)) → ((j : ℕ) → has_field fields j ≡ true → SettlesAlike j)
      → settled_after shape row order fields boxes ≡ settled_but shape so_far before g fields boxes
  settled-alike [] boxes alike = refl
  settled-alike (j ∷ fields) boxes alike =
      settled-alike fields (settled_at shape row order j boxes) (λ i there. alike i (ap (λ b. (j == i) || b) there ∙ or_true (j == i)))
      ∙ ap (λ bs. settled_but shape so_far before g fields bs) (at (has_field order j) refl)
    where
      here : SettlesAlike j
      here = alike j (own-there j fields)

      at : (b : Bool) → has_field order j ≡ b → (if b then covered shape boxes j else fixed shape boxes j (code_in (value_of row j)))
          ≡ (if j == g then boxes else settled_at shape so_far before j boxes)
      at b e =
          by b e ∙ ap (λ t. if t then covered shape boxes j else fixed shape boxes j (code_in (value_of so_far j))) (sym (here.left ∙ e))
          ∙ ap (λ t. if t then boxes else settled_at shape so_far before j boxes) (sym here.other)
        where
          by : (b : Bool) → has_field order j ≡ b → (if b then covered shape boxes j else fixed shape boxes j (code_in (value_of row j)))
              ≡ (if b then covered shape boxes j else fixed shape boxes j (code_in (value_of so_far j)))
          by true e = refl
          by false e = ap (λ (v : Value). fixed shape boxes j (code_in v)) (sym (here.kept e))
