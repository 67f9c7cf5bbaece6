use Rattle.std.proofs.Common.{◌≡◌, ℕ, zero, suc, ◌+◌, ◌<◌, ◌==◌, ◌||◌, ◌++◌, Bool, true, false, if◌then◌else◌, List, [], ◌∷◌, length, reverse, refl}
use Rattle.std.proofs.Common.{sym, ap, ◌∙◌, subst, arith}
use Rattle.std.specs.List.{filter}
use Rattle.std.proofs.lemmas.Bool.Decides.{Decides-eqb}
use Rattle.std.proofs.lemmas.List.{length-map, reverse-append}
use Rattle.edit_model.proofs.NameLemmas.{false_unless}
use Rattle.edit_model.specs.Corrections as corrections
use Rattle.edit_model.specs.FieldSets.{has_number}
use Rattle.edit_model.specs.Parts.{SurveyParts}
use Rattle.edit_model.specs.Points.{Point}
use Rattle.edit_model.specs.Rows.{IsRow, value_of}
use Rattle.edit_model.specs.declared.field.Field.{Field}
use Rattle.edit_model.specs.declared.value.Value.{Value}
use Rattle.edit_model.specs.declared.value.Value.TheVariants.{Bad}
use Rattle.edit_line.proofs.BoolLaws.{or_true}
use Rattle.edit_line.specs.Lines.{LineParts}
use Rattle.edit_line.specs.Shapes.{Categorical, Domain, Numerical, code_fields, codes_from, domain_of, has_field, number_fields, numbers_from, shape_of}
use Rattle.edit_line.proofs.ShapeLaws.{same_codes, same_fields}
use Rattle.edit_line.proofs.FieldLists.{has-append}
use Rattle.edit_paths.proofs.LetterLaws.{order-shape}
use Rattle.back_subst.specs.Allowed.{Completes}
use Rattle.back_subst.specs.Given.{giving_order}
use Rattle.back_subst.specs.inner.Bounds.{DecideFor}
use Rattle.back_subst.specs.inner.UnderWay.{AreDistinct, IsUnderWay}
use Rattle.back_subst.proofs.CodeLaws.{distinct-from}
use Rattle.linear_elim.proofs.PointLaws.{number-no_code}
use Rattle.back_subst.proofs.OrderLaws.{distinct-numbers, has-filtered}
use Rattle.back_subst.proofs.UnderWayLaws.{own-there}
use Rattle.back_subst.proofs.WalkLaws.{SameBut, completes-rows, decide-turn, has-reverse}

-- The start of the giving: the record is Bad at each changed field.

-- ---- distinct fields

pub distinct-filtered : (t : ℕ → Bool) (fields : List ℕ) → AreDistinct fields → AreDistinct (filter t fields)
distinct-filtered t [] distinct = tt
distinct-filtered t (i ∷ fields) distinct = by (t i) (distinct-filtered t fields distinct.1)
  where
    by : (b : Bool) → AreDistinct (filter t fields) → AreDistinct (if b then i ∷ filter t fields else filter t fields)
    by true rest = (false_unless (has_field (filter t fields) i) (λ there. absurd (cc (sym distinct.0 ∙ (has-filtered t fields i there).0))), rest)
    by false rest = rest

distinct-joined : (xs ys : List ℕ) → AreDistinct xs → AreDistinct ys → ((f : ℕ) → has_field xs f ≡ true → has_field ys f ≡ false) → AreDistinct (xs ++ ys)
distinct-joined [] ys first second apart = second
distinct-joined (x ∷ xs) ys first second apart = (
  has-append x xs ys ∙ ap (λ b. b || has_field ys x) first.0 ∙ apart x (own-there x xs),
  distinct-joined xs ys first.1 second (λ f there. apart f (ap (λ b. (x == f) || b) there ∙ or_true (x == f))),
)

distinct-reversed : (xs : List ℕ) → AreDistinct xs → AreDistinct (reverse xs)
distinct-reversed [] distinct = tt
distinct-reversed (x ∷ xs) distinct =
    subst (λ fs. AreDistinct fs) (sym (reverse-append (x ∷ []) xs))
    (distinct-joined (reverse xs) (x ∷ []) (distinct-reversed xs distinct.1) (refl, tt)
    (λ f there. ap (λ b. b || false) (other f (sym (has-reverse f xs) ∙ there))))
  where
    other : (f : ℕ) → has_field xs f ≡ true → (x == f) ≡ false
    other f there = false_unless (x == f) (λ e. absurd (cc (sym distinct.0 ∙ ap (λ n. has_field xs n) ((Decides-eqb x f).0 e) ∙ there)))

-- ---- each field is numerical or categorical

pub field-either : (i f : ℕ) (shape : List Domain) → (f < length shape)
    → (has_field (codes_from i shape) (i + f) || has_field (numbers_from i shape) (i + f)) ≡ true
field-either i f [] below = absurd (omega arith)
field-either i zero (Numerical ∷ shape) below =
    ap (λ b. has_field (codes_from (suc i) shape) (i + 0) || (b || has_field (numbers_from (suc i) shape) (i + 0)))
    ((Decides-eqb i (i + 0)).1 (omega arith)) ∙ or_true (has_field (codes_from (suc i) shape) (i + 0))
field-either i zero (Categorical k ∷ shape) below =
    ap (λ b. (b || has_field (codes_from (suc i) shape) (i + 0)) || has_field (numbers_from (suc i) shape) (i + 0)) ((Decides-eqb i (i + 0)).1 (omega arith))
field-either i (suc f) (Numerical ∷ shape) below =
    later (has_field (codes_from (suc i) shape) (i + suc f)) (i == (i + suc f)) (has_field (numbers_from (suc i) shape) (i + suc f))
    (moved i f shape (field-either (suc i) f shape (omega arith)))
  where
    later : (a b c : Bool) → (a || c) ≡ true → (a || (b || c)) ≡ true
    later true b c h = refl
    later false true c h = refl
    later false false c h = h

    moved : (i f : ℕ) (shape : List Domain) → (has_field (codes_from (suc i) shape) (suc i + f) || has_field (numbers_from (suc i) shape) (suc i + f))
        ≡ true → (has_field (codes_from (suc i) shape) (i + suc f) || has_field (numbers_from (suc i) shape) (i + suc f)) ≡ true
    moved i f shape h = let same : i + suc f ≡ suc i + f = omega
        arith in ap (λ n. has_field (codes_from (suc i) shape) n || has_field (numbers_from (suc i) shape) n) same ∙ h
field-either i (suc f) (Categorical k ∷ shape) below =
    later (i == (i + suc f)) (has_field (codes_from (suc i) shape) (i + suc f)) (has_field (numbers_from (suc i) shape) (i + suc f))
    (moved i f shape (field-either (suc i) f shape (omega arith)))
  where
    later : (a b c : Bool) → (b || c) ≡ true → ((a || b) || c) ≡ true
    later true b c h = refl
    later false b c h = h

    moved : (i f : ℕ) (shape : List Domain) → (has_field (codes_from (suc i) shape) (suc i + f) || has_field (numbers_from (suc i) shape) (suc i + f))
        ≡ true → (has_field (codes_from (suc i) shape) (i + suc f) || has_field (numbers_from (suc i) shape) (i + suc f)) ≡ true
    moved i f shape h = let same : i + suc f ≡ suc i + f = omega
        arith in ap (λ n. has_field (codes_from (suc i) shape) n || has_field (numbers_from (suc i) shape) n) same ∙ h

-- each field has one of the two kinds
pub kind-either : (fields : List Field) (f : ℕ) → f < length fields
    → (has_field (code_fields (shape_of fields)) f || has_field (number_fields (shape_of fields)) f) ≡ true
kind-either fields f below =
    ap (λ n. has_field (code_fields (shape_of fields)) n || has_field (number_fields (shape_of fields)) n) own
    ∙ field-either 0 f (shape_of fields) (omega (arith, below, length-map fields (λ (field : Field). domain_of field.kind)))
  where
    own : f ≡ 0 + f
    own = omega arith

-- each field is in path order
pub in-order : (fields : List Field) (f : ℕ) → f < length fields → has_field (corrections.path_order fields) f ≡ true
in-order fields f below =
    ap (λ fs. has_field fs f) (order-shape fields) ∙ has-append f (number_fields (shape_of fields)) (code_fields (shape_of fields))
    ∙ turned (has_field (number_fields (shape_of fields)) f) (has_field (code_fields (shape_of fields)) f) (kind-either fields f below)
  where
    turned : (a b : Bool) → (b || a) ≡ true → (a || b) ≡ true
    turned true b h = refl
    turned false true h = refl
    turned false false h = h

-- ---- the start

pub past-end : (row : List Value) (f : ℕ) → (f < length row → ⊥) → value_of row f ≡ Bad
past-end [] f out = refl
past-end (v ∷ row) zero out = absurd (out (omega arith))
past-end (v ∷ row) (suc f) out = past-end row f (λ below. out (omega arith))

pub row-size : (fields : List Field) (row : List Value) → IsRow fields row → length row ≡ length (shape_of fields)
row-size [] [] is = refl
row-size [] (v ∷ row) is = absurd is
row-size (field ∷ fields) [] is = absurd is
row-size (field ∷ fields) (v ∷ row) is = ap suc (row-size fields row is.1)

module _ (survey : SurveyParts) (changed : ℕ) where
  abbrev order : List ℕ
  order = giving_order survey.fields changed

  order-has : (f : ℕ) → has_field order f ≡ (has_field (filter (has_number changed) (code_fields (shape_of survey.fields))) f || has_field
      (filter (has_number changed) (number_fields (shape_of survey.fields))) f)
  order-has f =
      has-append f (reverse (filter (has_number changed) (corrections.code_fields survey.fields)))
      (reverse (filter (has_number changed) (corrections.number_fields survey.fields)))
      ∙ ap (λ b. b || has_field (reverse (filter (has_number changed) (corrections.number_fields survey.fields))) f)
      (has-reverse f (filter (has_number changed) (corrections.code_fields survey.fields)))
      ∙ ap (λ b. has_field (filter (has_number changed) (corrections.code_fields survey.fields)) f || b)
      (has-reverse f (filter (has_number changed) (corrections.number_fields survey.fields)))
      ∙ ap (λ fs. has_field (filter (has_number changed) fs) f || has_field (filter (has_number changed) (corrections.number_fields survey.fields)) f)
      (same_codes (corrections.code_fields survey.fields) survey.fields (shape_of survey.fields) refl refl)
      ∙ ap (λ fs. has_field (filter (has_number changed) (code_fields (shape_of survey.fields))) f || has_field (filter (has_number changed) fs) f)
      (same_fields (corrections.number_fields survey.fields) survey.fields (shape_of survey.fields) refl refl)

  -- each field of the order is changed
  pub order-changed : (f : ℕ) → has_field order f ≡ true → has_number changed f ≡ true
  order-changed f there = by (has_field (filter (has_number changed) (code_fields (shape_of survey.fields))) f) refl (sym (order-has f) ∙ there)
    where
      by : (b : Bool) → has_field (filter (has_number changed) (code_fields (shape_of survey.fields))) f ≡ b
          → (b || has_field (filter (has_number changed) (number_fields (shape_of survey.fields))) f) ≡ true → has_number changed f ≡ true
      by true e h = (has-filtered (has_number changed) (code_fields (shape_of survey.fields)) f e).1
      by false e h = (has-filtered (has_number changed) (number_fields (shape_of survey.fields)) f h).1

  -- no field stands in it twice
  pub order-distinct : AreDistinct order
  order-distinct =
      distinct-joined (reverse (filter (has_number changed) (corrections.code_fields survey.fields)))
      (reverse (filter (has_number changed) (corrections.number_fields survey.fields)))
      (distinct-reversed _ (subst (λ fs. AreDistinct (filter (has_number changed) fs))
      (sym (same_codes (corrections.code_fields survey.fields) survey.fields (shape_of survey.fields) refl refl))
      (distinct-filtered (has_number changed) (code_fields (shape_of survey.fields)) (distinct-from 0 (shape_of survey.fields)))))
      (distinct-reversed _ (subst (λ fs. AreDistinct (filter (has_number changed) fs))
      (sym (same_fields (corrections.number_fields survey.fields) survey.fields (shape_of survey.fields) refl refl))
      (distinct-filtered (has_number changed) (number_fields (shape_of survey.fields)) (distinct-numbers 0 (shape_of survey.fields)))))
      (λ f there. false_unless _ (λ number.
      let code = (has-filtered (has_number changed) (code_fields (shape_of survey.fields)) f
      (ap (λ fs. has_field (filter (has_number changed) fs) f)
      (sym (same_codes (corrections.code_fields survey.fields) survey.fields (shape_of survey.fields) refl refl)) ∙ sym (has-reverse f _) ∙ there)).0 in
      let num = (has-filtered (has_number changed) (number_fields (shape_of survey.fields)) f
      (ap (λ fs. has_field (filter (has_number changed) fs) f)
      (sym (same_fields (corrections.number_fields survey.fields) survey.fields (shape_of survey.fields) refl refl)) ∙ sym (has-reverse f _) ∙ number)).0 in
      absurd (cc (sym code ∙ number-no_code f 0 (shape_of survey.fields) num))))

  filtered-has : (fields : List ℕ) (f : ℕ) → has_field fields f ≡ true → has_number changed f ≡ true → has_field (filter (has_number changed) fields) f ≡ true
  filtered-has [] f there is = there
  filtered-has (i ∷ fields) f there is = by (i == f) refl there (has_number changed i) refl (λ h. filtered-has fields f h is)
    where
      by : (a : Bool) → (i == f) ≡ a → (a || has_field fields f) ≡ true → (b : Bool) → has_number changed i ≡ b
          → (has_field fields f ≡ true → has_field (filter (has_number changed) fields) f ≡ true)
          → has_field (if b then i ∷ filter (has_number changed) fields else filter (has_number changed) fields) f ≡ true
      by true e h true g rest = ap (λ b. b || has_field (filter (has_number changed) fields) f) e
      by true e h false g rest = absurd (cc (sym g ∙ ap (λ n. has_number changed n) ((Decides-eqb i f).0 e) ∙ is))
      by false e h true g rest = ap (λ b. (i == f) || b) (rest h) ∙ or_true (i == f)
      by false e h false g rest = rest h

  -- a changed field of the survey is in the order
  pub order-there : (f : ℕ) → f < length (shape_of survey.fields) → has_number changed f ≡ true → has_field order f ≡ true
  order-there f below is =
      order-has f ∙ by (has_field (code_fields (shape_of survey.fields)) f) refl
      (ap (λ n. has_field (code_fields (shape_of survey.fields)) n || has_field (number_fields (shape_of survey.fields)) n) own
      ∙ field-either 0 f (shape_of survey.fields) below)
    where
      own : f ≡ 0 + f
      own = omega arith

      by : (b : Bool) → has_field (code_fields (shape_of survey.fields)) f ≡ b → (b || has_field (number_fields (shape_of survey.fields)) f) ≡ true
          → (has_field (filter (has_number changed) (code_fields (shape_of survey.fields))) f || has_field
          (filter (has_number changed) (number_fields (shape_of survey.fields))) f) ≡ true
      by true e h =
          ap (λ b. b || has_field (filter (has_number changed) (number_fields (shape_of survey.fields))) f)
          (filtered-has (code_fields (shape_of survey.fields)) f e is)
      by false e h =
          ap (λ b. has_field (filter (has_number changed) (code_fields (shape_of survey.fields))) f || b)
          (filtered-has (number_fields (shape_of survey.fields)) f h is)
          ∙ or_true (has_field (filter (has_number changed) (code_fields (shape_of survey.fields))) f)

  -- a record that is Bad at the changed fields, and as the other elsewhere, is ready to be given values
  pub start-way : (edits : List LineParts) (target : ℕ → Value) (row blank : List Value) → IsRow survey.fields row → IsRow survey.fields blank
      → ((f : ℕ) → has_number changed f ≡ true → value_of blank f ≡ Bad) → ((f : ℕ) → has_number changed f ≡ false → value_of blank f ≡ value_of row f)
      → DecideFor survey edits row order → (p : Point) → Completes survey row order p → IsUnderWay survey edits target row [] order blank
  start-way edits target row blank is_row is_blank bad keeps decide p completes = record {
    is_row = is_blank;
    keeps = same.1;
    blank = λ f there. bad f (order-changed f there);
    distinct = order-distinct;
    first = tt;
    decide = decide-turn survey edits row blank order order decide same.0 (λ f outside. outside) same.1;
    point = p;
    completes = completes-rows survey order order row blank (λ f. refl) same p completes;
  }
    where
      outside : (f : ℕ) → has_field order f ≡ false → (b : Bool) → has_number changed f ≡ b → value_of blank f ≡ value_of row f
      outside f absent false e = keeps f e
      outside f absent true e =
          bad f e ∙ sym (past-end row f (λ below. absurd (cc (sym absent ∙ order-there f (omega (arith, below, row-size survey.fields row is_row)) e))))

      same : SameBut order row blank
      same = (row-size survey.fields blank is_blank ∙ sym (row-size survey.fields row is_row), λ f absent. outside f absent (has_number changed f) refl)
