use Rattle.std.proofs.Common.{◌≡◌, ◌↔◌, inl, inr, ℕ, ◌<◌, ◌==◌, ◌||◌, ◌++◌, Bool, true, false, List, [], ◌∷◌, All, Ok, IsTrue, length, reverse, pos}
use Rattle.std.proofs.Common.{◌<ℤ◌, refl, sym, ap, ◌∙◌, subst, arith}
use Rattle.std.proofs.lemmas.List.{reverse-append}
use Rattle.edit_line.specs.inner.LineFields.{IsCategorical}
use Rattle.fraction128.specs.Formulas.{Ratio, ratio_of}
use Rattle.edit_model.specs.Corrections.{differs_from}
use Rattle.edit_model.specs.Parts.{SurveyParts}
use Rattle.edit_model.specs.Points.{Point}
use Rattle.edit_model.specs.RowPoints.{code_in}
use Rattle.edit_model.specs.Rows.{IsRow, value_of}
use Rattle.edit_model.specs.declared.value.Value.{Value}
use Rattle.edit_model.specs.declared.value.Value.TheVariants.{Bad, Code, Number}
use Rattle.edit_line.specs.CodeFields.{size_of}
use Rattle.edit_line.specs.Lines.{HaveShape, LineParts}
use Rattle.edit_line.specs.Reductions.{lines_of}
use Rattle.edit_line.proofs.FieldLists.{has-append}
use Rattle.edit_line.specs.Shapes.{IsNumerical, has_field, shape_of}
use Rattle.edit_line.specs.declared.derived.Derived.{Derived}
use Rattle.linear_elim.specs.Systems.{system}
use Rattle.categ_combine.specs.FailingBoxes.{failing_boxes}
use Rattle.back_subst.specs.Allowed.{AgreesBut, AllowsCode, AllowsNumber, Completes}
use Rattle.back_subst.specs.Given.{IsGiven, IsGivenCode, IsGivenNumber, number_in}
use Rattle.back_subst.specs.inner.Bounds.{AreWithinBounds, DecideFor, RestsFit}
use Rattle.back_subst.specs.inner.Codes.{boxes_for, is_free}
use Rattle.back_subst.proofs.FreeCodes.{allowed-free}
use Rattle.back_subst.proofs.NumberLaws.{allowed-within}

-- The walk gives each field the value that the points ask for.

-- ---- what is given of allowed values is given of the same ones
pub IsGivenNumber-same : (A B : Ratio → Type 0) (target x : Ratio) → ((y : Ratio) → pos 0 <ℤ y.denominator → A y ↔ B y) → IsGivenNumber A target x
    → IsGivenNumber B target x
IsGivenNumber-same A B target x same given = record {
  interval = given.interval;
  exact = λ y above. (λ b. (given.exact y above).0 ((same y above).1 b), λ w. (same y above).0 ((given.exact y above).1 w));
  is_nearest = given.is_nearest;
}

pub IsGivenCode-same : (A B : ℕ → Type 0) (target code : ℕ) → ((c : ℕ) → A c ↔ B c) → IsGivenCode A target code → IsGivenCode B target code
IsGivenCode-same A B target code same given = record {
  is_allowed = (same code).0 given.is_allowed;
  chosen = elim given.chosen [ inl is ↦ inl is | inr (apart, first) ↦ inr (λ b. apart ((same target).1 b), λ c below b. first c below ((same c).1 b)) ];
}

-- ---- records that have the same values where none is left, and lists of the same fields
abbrev pub SameBut : List ℕ → List Value → List Value → Type 0
SameBut left row new = (length new ≡ length row) × ((i : ℕ) → has_field left i ≡ false → value_of new i ≡ value_of row i)

agrees-rows : (left right : List ℕ) (row new : List Value) (p : Point) → ((i : ℕ) → has_field right i ≡ has_field left i) → SameBut left row new
    → AgreesBut left row p → AgreesBut right new p
agrees-rows left right row new p fields same agrees i within absent =
    let outside : has_field left i ≡ false = sym (fields i) ∙ absent in
    subst (λ (v : Value). differs_from v p i ≡ false) (sym (same.1 i outside)) (agrees i (omega (arith, same.0)) outside)

module _ (survey : SurveyParts) (left right : List ℕ) (row new : List Value) (fields : (i : ℕ) → has_field right i ≡ has_field left i)
    (same : SameBut left row new) where
  pub completes-rows : (p : Point) → Completes survey row left p → Completes survey new right p
  completes-rows p done = record { correction = done.correction; agrees = agrees-rows left right row new p fields same done.agrees }

  completes-back : (p : Point) → Completes survey new right p → Completes survey row left p
  completes-back p done = record {
    correction = done.correction;
    agrees = agrees-rows right left new row p (λ i. sym (fields i)) (sym same.0, λ i outside. sym (same.1 i (sym (fields i) ∙ outside))) done.agrees;
  }

  pub AllowsNumber-rows : (f : ℕ) (x : Ratio) → AllowsNumber survey row left f x ↔ AllowsNumber survey new right f x
  AllowsNumber-rows f x = (λ h. (h.0, completes-rows h.0 h.1, h.2), λ h. (h.0, completes-back h.0 h.1, h.2))

  pub AllowsCode-rows : (f code : ℕ) → AllowsCode survey row left f code ↔ AllowsCode survey new right f code
  AllowsCode-rows f code = (λ h. (h.0, completes-rows h.0 h.1, h.2), λ h. (h.0, completes-back h.0 h.1, h.2))

  -- so the same value is given
  pub IsGiven-rows : (f : ℕ) (target v : Value) → IsGiven survey row left f target v → IsGiven survey new right f target v
  IsGiven-rows f target Bad given = given
  IsGiven-rows f target (Code c) given =
      IsGivenCode-same (AllowsCode survey row left f) (AllowsCode survey new right f) (code_in target) c (AllowsCode-rows f) given
  IsGiven-rows f target (Number x) given =
      IsGivenNumber-same (AllowsNumber survey row left f) (AllowsNumber survey new right f) (number_in target) (ratio_of x)
      (λ y above. AllowsNumber-rows f y) given

-- ---- where fewer fields are left

-- the edits decide as before
pub decide-turn : (survey : SurveyParts) (edits : List LineParts) (row new : List Value) (order left : List ℕ) → DecideFor survey edits row order
    → length new ≡ length row → ((i : ℕ) → has_field order i ≡ false → has_field left i ≡ false)
    → ((i : ℕ) → has_field order i ≡ false → value_of new i ≡ value_of row i) → DecideFor survey edits new left
decide-turn survey edits row new order left decide sizes within same = record {
  sound = decide.sound;
  complete =
      λ p correction agrees. decide.complete p correction
      (λ i i_within outside. subst (λ (v : Value). differs_from v p i ≡ false) (same i outside) (agrees i (omega (arith, sizes)) (within i outside)));
}

-- ---- the values of the walk
module _ (survey : SurveyParts) (edits : List LineParts) (row : List Value) (is_row : IsRow survey.fields row)
    (over : HaveShape (shape_of survey.fields) edits) where
  -- the number that is nearest among those within the bounds of the system's lines is the one that is given
  pub number-given : (f : ℕ) (before : List ℕ) → DecideFor survey edits row (f ∷ before) → IsNumerical (shape_of survey.fields) f
      → All (IsNumerical (shape_of survey.fields)) before → has_field before f ≡ false
      → (p : Point) → Completes survey row (f ∷ before) p → RestsFit (system edits before) row f → (target x : Ratio)
      → IsGivenNumber (AreWithinBounds (system edits before) row f) target x → IsGivenNumber (AllowsNumber survey row (f ∷ before) f) target x
  number-given f before decide number numbers apart p completes fit target x given =
      IsGivenNumber-same (AreWithinBounds (system edits before) row f) (AllowsNumber survey row (f ∷ before) f) target x
      (λ y above. let law = allowed-within survey edits row f before is_row over decide number numbers apart p completes fit y above in (law.1, law.0)) given

  -- the target, or the first code, that no box has after the other fields are settled is the one that is given
  pub code-given : (g : ℕ) (before numbers : List ℕ) → DecideFor survey edits row (g ∷ (before ++ numbers)) → IsCategorical (shape_of survey.fields) g
      → All (IsNumerical (shape_of survey.fields)) numbers
      → ((i : ℕ) → has_field before i ≡ true → IsCategorical (shape_of survey.fields) i) → (derived : List Derived)
      → lines_of derived ≡ system edits numbers → (boxes : List (List ℕ)) → failing_boxes (lines_of derived) row ≡ Ok boxes
      → (p : Point) → Completes survey row (g ∷ (before ++ numbers)) p → (target code : ℕ)
      → IsGivenCode (λ c. (c < size_of (shape_of survey.fields) g)
      × IsTrue (is_free (shape_of survey.fields) (boxes_for (shape_of survey.fields) row before g boxes) g c)) target code
      → IsGivenCode (AllowsCode survey row (g ∷ (before ++ numbers)) g) target code
  code-given g before numbers decide categorical all_numbers all_codes derived derived_are boxes made p completes target code given =
      IsGivenCode-same (λ c. (c < size_of (shape_of survey.fields) g)
      × IsTrue (is_free (shape_of survey.fields) (boxes_for (shape_of survey.fields) row before g boxes) g c))
      (AllowsCode survey row (g ∷ (before ++ numbers)) g) target code
      (λ c. let law = allowed-free survey edits row g before numbers is_row over decide categorical all_numbers all_codes derived derived_are boxes made p
      completes c in (law.1, law.0)) given

-- ---- the fields of a reversed list
pub has-reverse : (f : ℕ) (xs : List ℕ) → has_field (reverse xs) f ≡ has_field xs f
has-reverse f [] = refl
has-reverse f (x ∷ xs) =
    ap (λ ys. has_field ys f) (reverse-append (x ∷ []) xs) ∙ has-append f (reverse xs) (x ∷ []) ∙ ap (λ b. b || ((x == f) || false)) (has-reverse f xs)
    ∙ turned (has_field xs f) (x == f)
  where
    turned : (a b : Bool) → (a || (b || false)) ≡ (b || a)
    turned true true = refl
    turned true false = refl
    turned false true = refl
    turned false false = refl
