use Rattle.std.proofs.Common.{◌≡◌, inl, inr, ℕ, zero, suc, Vec, Global, ◌≢◌, ◌↔◌, ◌+◌, ◌-◌, ◌<◌, ◌==◌, ◌^◌, ◌++◌, ◌||◌, Bool, true, false}
use Rattle.std.proofs.Common.{if◌then◌else◌, List, [], ◌∷◌, Option, Some, None, IfSome, IfNone, Result, Ok, Err, IfOk, drop, get_or, take, length}
use Rattle.std.proofs.Common.{refl, sym, ap, ◌∙◌, subst, arith}
use Rattle.std.proofs.lemmas.List.{take_more}
use Rattle.std.proofs.lemmas.Bool.Decides.{Decides-eqb}
use Rattle.edit_model.specs.Rows.{IsOfKind, IsRow, value_of}
use Rattle.edit_model.specs.Trials.{IsCodeValue}
use Rattle.edit_model.specs.declared.field.Field.{Field}
use Rattle.edit_model.specs.declared.field.Kind.{Kind}
use Rattle.edit_model.specs.declared.field.Kind.TheVariants as kind
use Rattle.edit_model.specs.declared.value.Value.{Value}
use Rattle.edit_model.specs.declared.value.Value.TheVariants.{Bad, Code, Number}
use Rattle.edit_line.proofs.BoolLaws.{or_true}
use Rattle.edit_line.specs.CodeFields.{place_of, size_from, size_of}
use Rattle.edit_line.specs.Shapes.{Domain, code_fields, codes_from, domain_of, has_field, shape_of, whole_sets}
use Rattle.edit_line.specs.Sets.{AreSets}
use Rattle.edit_line.proofs.SetLaws.{AreSets-length}
use Rattle.edit_line.proofs.ShapeLaws.{length-wholes}
use Rattle.categ_combine.specs.BoxLists.{AreBoxesOver, sets_of}
use Rattle.categ_combine.specs.Covers.{cover_count}
use Rattle.categ_combine.specs.Fixing.{fixed}
use Rattle.categ_combine.specs.Steps.{IsPassed}
use Rattle.categ_combine.specs.declared.covered.Covered.{Covered}
use Rattle.categ_combine.specs.declared.covered.Covered.TheVariants.{Passed}
use Rattle.categ_combine.specs.declared.box_from.BoxFrom.{BoxFrom}
use Rattle.back_subst.specs.Given.{IsGivenCode}
use Rattle.back_subst.specs.inner.Codes.{AreCountableBut, IsFree, is_free_at, settled_at, settled_but, settled_by}
use Rattle.back_subst.specs.inner.UnderWay.{AreBlankBut}
use Rattle.back_subst.proofs.FieldPoints.{code-at}
use Rattle.back_subst.proofs.OrderLaws.{parted}

-- The code of a field, as the code finds it.

-- ---- whether a code is free

pub box-place : (shape : List Domain) (boxes : List BoxFrom) (i : ℕ) (b : BoxFrom) (place : ℕ) (sets : List ℕ) → AreBoxesOver shape boxes
    → i < length boxes → b ≡ get_or boxes i b → place < length (code_fields shape)
    → sets ≡ b.code_box.sets → AreSets b.code_box.sets (whole_sets b.code_box.shape) → place < length sets
box-place shape boxes i b place sets over below b_is within are fit =
    let same : b.code_box.shape ≡ shape = ap (λ (x : BoxFrom). x.code_box.shape) b_is ∙ over i b below in
    let many = ap length are ∙ AreSets-length b.code_box.sets (whole_sets b.code_box.shape) fit ∙ ap (λ s. length (whole_sets s)) same
    ∙ length-wholes 0 shape in
    omega (arith, many, within)

-- ---- the code that is given
module _ (shape : List Domain) (boxes : List (List ℕ)) (g target size place : ℕ) (size_is : size ≡ size_of shape g) (place_is : place ≡ place_of shape g) where
  free-is : (c : ℕ) → is_free_at boxes place c ≡ is_free_at boxes (place_of shape g) c
  free-is c = ap (λ n. is_free_at boxes n c) place_is

  pub target-free : target < size → is_free_at boxes place target ≡ true → IsGivenCode (IsFree shape boxes g) target target
  target-free below free = record { is_allowed = (subst (λ n. target < n) size_is below, sym (free-is target) ∙ free); chosen = inl refl }

  pub first-given : (code : ℕ) → (target < size → is_free_at boxes place target ≡ false) → code < size → is_free_at boxes place code ≡ true
      → ((c : ℕ) → c < code → is_free_at boxes place c ≡ false) → IsGivenCode (IsFree shape boxes g) target code
  first-given code out below free first = record {
    is_allowed = (subst (λ n. code < n) size_is below, sym (free-is code) ∙ free);
    chosen = inr ((λ is. none target (out (subst (λ n. target < n) (sym size_is) is.0)) is.1), (λ c c_below is. none c (first c c_below) is.1));
  }
    where
      none : (c : ℕ) → is_free_at boxes place c ≡ false → is_free_at boxes (place_of shape g) c ≡ true → ⊥
      none c out is = absurd (cc (sym out ∙ free-is c ∙ is))

  -- where some code is free, the code or the first that is
  pub some-given : (target < size → is_free_at boxes place target ≡ false) → (r : Option ℕ)
      → IfSome r (λ code. (code < size) × (is_free_at boxes place code ≡ true) × ((c : ℕ) → c < code → is_free_at boxes place c ≡ false)) → (code : ℕ)
      → r ≡ Some code → IsGivenCode (IsFree shape boxes g) target code
  some-given out None is code e = absurd (cc)
  some-given out (Some c) is code e = let same : c ≡ code = cc in subst (λ n. IsGivenCode (IsFree shape boxes g) target n) same
      (first-given c out is.0 is.1 is.2)

  pub none-free : ((code : ℕ) × IsFree shape boxes g code) → (r : Option ℕ) → IfNone r ((c : ℕ) → c < size → is_free_at boxes place c ≡ false) → r ≡ None → ⊥
  none-free (code, is) None none e = absurd (cc (sym (none code (subst (λ n. code < n) (sym size_is) is.0)) ∙ free-is code ∙ is.1))
  none-free (code, is) (Some c) none e = absurd (cc)

-- the boxes of a record are told once
pub same-boxes : {F : Type 0} (a b : List (List ℕ)) (r : Result (List (List ℕ)) F) → r ≡ Ok a → r ≡ Ok b → a ≡ b
same-boxes a b r first second = cc

-- ---- the boxes of the other fields

-- a code of a record is one of its field's
module _ (row : List Value) (code : ℕ) where
  size-there : (i f : ℕ) (fields : List Field) (values : List Value) → IsRow fields values → ((j : ℕ) → value_of row (i + j) ≡ value_of values j)
      → has_field (codes_from i (shape_of fields)) f ≡ true → value_of row f ≡ Code code → code < size_from i (shape_of fields) f
  size-there i f [] values is same there held = absurd (cc)
  size-there i f (field ∷ fields) [] is same there held = absurd is
  size-there i f (field ∷ fields) (v ∷ values) is same there held = by field.kind is.0 (λ h. size-there (suc i) f fields values is.1 next h held) there
    where
      next : (j : ℕ) → value_of row (suc i + j) ≡ value_of values j
      next j = ap (λ (n : ℕ). value_of row n) (omega arith) ∙ same (suc j)

      here : value_of row i ≡ v
      here = ap (λ (n : ℕ). value_of row n) (omega arith) ∙ same 0

      own : (codes : List (List ℕ)) (w : Value) → IsOfKind (kind.Code codes) w → w ≡ Code code → code < length codes
      own codes (Code c) of_kind e = let is : c ≡ code = cc in subst (λ n. n < length codes) is of_kind
      own codes (Number x) of_kind e = absurd of_kind
      own codes Bad of_kind e = absurd (cc)

      by : (k : Kind) → IsOfKind k v → (has_field (codes_from (suc i) (shape_of fields)) f ≡ true → code < size_from (suc i) (shape_of fields) f)
          → has_field (codes_from i (domain_of k ∷ shape_of fields)) f ≡ true → code < size_from i (domain_of k ∷ shape_of fields) f
      by (kind.Number scale) of_kind rest h = rest h
      by (kind.Code codes) of_kind rest h = at (i == f) refl h
        where
          at : (b : Bool) → (i == f) ≡ b → (b || has_field (codes_from (suc i) (shape_of fields)) f) ≡ true
              → code < (if b then length codes else size_from (suc i) (shape_of fields) f)
          at true e _ = own codes v of_kind (sym here ∙ ap (λ n. value_of row n) ((Decides-eqb i f).0 e) ∙ held)
          at false e g = rest g

pub code-size : (fields : List Field) (row : List Value) (f code : ℕ) → IsRow fields row → has_field (code_fields (shape_of fields)) f ≡ true
    → value_of row f ≡ Code code → code < size_of (shape_of fields) f
code-size fields row f code is there held = size-there row code 0 f fields row is (λ j. ap (λ (n : ℕ). value_of row n) (omega arith)) there held

-- a field is settled by its value
pub settled-value : (fields : List Field) (row : List Value) (left : List ℕ) (g i : ℕ) (boxes : List (List ℕ)) → IsRow fields row
    → AreBlankBut (shape_of fields) row left g → has_field (code_fields (shape_of fields)) i ≡ true → (i == g) ≡ false
    → settled_by (shape_of fields) (value_of row i) i boxes ≡ settled_at (shape_of fields) row left i boxes
settled-value fields row left g i boxes is blank there apart = by (value_of row i) refl (has_field left i) refl
  where
    by : (v : Value) → value_of row i ≡ v → (b : Bool) → has_field left i ≡ b
        → settled_by (shape_of fields) v i boxes ≡ settled_at (shape_of fields) row left i boxes
    by (Code c) e true h = absurd (cc (sym e ∙ (blank i there apart).0 h))
    by (Code c) e false h = rw (h, e) refl
    by (Number x) e b h = absurd (subst IsCodeValue e ((code-at fields row i is there).0 (λ bad. absurd (cc (sym e ∙ bad)))))
    by Bad e true h = rw h refl
    by Bad e false h = absurd (cc (sym h ∙ (blank i there apart).1 e))

settled-joined : (shape : List Domain) (row : List Value) (left : List ℕ) (g f : ℕ) (fields : List ℕ) (boxes : List (List ℕ))
    → settled_but shape row left g (fields ++ f ∷ []) boxes
    ≡ (if f == g then settled_but shape row left g fields boxes else settled_at shape row left f (settled_but shape row left g fields boxes))
settled-joined shape row left g f [] boxes = refl
settled-joined shape row left g f (i ∷ fields) boxes = settled-joined shape row left g f fields (if i == g then boxes else settled_at shape row left i boxes)

module _ (fields : List Field) (row : List Value) (left : List ℕ) (g i : ℕ) (order : List ℕ) (boxes kept : List (List ℕ)) (below : i < length order)
    (before : kept ≡ settled_but (shape_of fields) row left g (take i order) boxes) where
  abbrev f : ℕ
  f = get_or order i 0

  -- the boxes after one field more
  joined : (b : Bool) → (f == g) ≡ b → (if b then kept else settled_at (shape_of fields) row left f kept)
      ≡ settled_but (shape_of fields) row left g (take (i + 1) order) boxes
  joined b e =
      ap (λ bs. if b then bs else settled_at (shape_of fields) row left f bs) before
      ∙ ap (λ t. if t then settled_but (shape_of fields) row left g (take i order) boxes else settled_at (shape_of fields) row left f
      (settled_but (shape_of fields) row left g (take i order) boxes)) (sym e)
      ∙ sym (settled-joined (shape_of fields) row left g f (take i order) boxes)
      ∙ ap (λ fs. settled_but (shape_of fields) row left g fs boxes) (sym (take_more order i 0 below))

  pub passed-by : (f == g) ≡ true → kept ≡ settled_but (shape_of fields) row left g (take (i + 1) order) boxes
  passed-by e = joined true e

  pub settled-more : IsRow fields row → AreBlankBut (shape_of fields) row left g → has_field (code_fields (shape_of fields)) f ≡ true → (f == g) ≡ false
      → (next : List (List ℕ)) → next ≡ settled_by (shape_of fields) (value_of row f) f kept
      → next ≡ settled_but (shape_of fields) row left g (take (i + 1) order) boxes
  settled-more is_row blank there e next next_is = next_is ∙ settled-value fields row left g f kept is_row blank there e ∙ joined false e

  -- where it has no code, it is eliminated with few pairs
  pub few-here : IsRow fields row → AreBlankBut (shape_of fields) row left g → has_field (code_fields (shape_of fields)) f ≡ true → (f == g) ≡ false
      → order ≡ code_fields (shape_of fields) → AreCountableBut (shape_of fields) row left g boxes
      → ((c : ℕ) → value_of row f ≢ Code c) → cover_count (shape_of fields) kept f < 2 ^ 64
  few-here is_row blank there e order_is few none =
      subst (λ bs. cover_count (shape_of fields) bs f < 2 ^ 64) (sym before)
      (few (take i order) (drop (suc i) order) f (sym order_is ∙ parted order i below) e ((blank f there e).1 (by (value_of row f) refl)))
    where
      by : (v : Value) → value_of row f ≡ v → value_of row f ≡ Bad
      by (Code c) h = absurd (none c h)
      by (Number x) h = absurd (subst IsCodeValue h ((code-at fields row f is_row there).0 (λ bad. absurd (cc (sym h ∙ bad)))))
      by Bad h = h

-- an elimination with few pairs is done
pub not-passed : (told : Covered) (count : ℕ) → told ≡ Passed → (IsPassed told ↔ (2 ^ 64 - 1 < count)) → count < 2 ^ 64 → ⊥
not-passed told count is same few = let more = same.0 (subst (λ (t : Covered). IsPassed t) (sym is) tt) in omega (arith, more, few)

-- ---- what fixing gives, for the boxes of a survey

pub fixed-over : {E : Type 0} (shape : List Domain) (boxes : List BoxFrom) (f code : ℕ) (r : Result (Vec BoxFrom Global) E) → AreBoxesOver shape boxes
    → code < size_of shape f
    → IfOk r (λ left. (s : List Domain) → AreBoxesOver s boxes → code < size_of s f → AreBoxesOver s left.items)
    → IfOk r (λ left. AreBoxesOver shape left.items)
fixed-over shape boxes f code (Ok left) over below made = made shape over below
fixed-over shape boxes f code (Err e) over below made = tt

pub fixed-settled : {E : Type 0} (shape : List Domain) (boxes : List BoxFrom) (f code : ℕ) (r : Result (Vec BoxFrom Global) E) → AreBoxesOver shape boxes
    → code < size_of shape f → (v : Value) → v ≡ Code code
    → IfOk r (λ left. (s : List Domain) → AreBoxesOver s boxes → code < size_of s f → sets_of left.items ≡ fixed s (sets_of boxes) f code)
    → IfOk r (λ left. sets_of left.items ≡ settled_by shape v f (sets_of boxes))
fixed-settled shape boxes f code (Ok left) over below v is made = made shape over below ∙ ap (λ (w : Value). settled_by shape w f (sets_of boxes)) (sym is)
fixed-settled shape boxes f code (Err e) over below v is made = tt

-- ---- the fields of a list

pub listed-at : (fields : List ℕ) (i e : ℕ) → i < length fields → has_field fields (get_or fields i e) ≡ true
listed-at [] i e below = absurd (omega arith)
listed-at (g ∷ fields) zero e below = ap (λ b. b || has_field fields g) ((Decides-eqb g g).1 refl)
listed-at (g ∷ fields) (suc i) e below = ap (λ b. (g == get_or fields i e) || b) (listed-at fields i e (omega arith)) ∙ or_true (g == get_or fields i e)

pub unequal : (f g : ℕ) → (f ≡ g → ⊥) → (f == g) ≡ false
unequal f g apart = by (f == g) refl
  where
    by : (b : Bool) → (f == g) ≡ b → b ≡ false
    by false e = refl
    by true e = absurd (apart ((Decides-eqb f g).0 e))
