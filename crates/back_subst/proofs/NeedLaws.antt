use Rattle.std.proofs.Common.{◌≡◌, inl, inr, ◌<◌, ◌≤◌, ℕ, zero, suc, nat_lt, Bool, true, false, if◌then◌else◌, List, [], ◌∷◌, Option, All, length}
use Rattle.std.proofs.Common.{refl, sym, ap, ◌∙◌, subst, arith}
use Rattle.std.specs.List.{filter, sum_by}
use Rattle.std.proofs.lemmas.Bool.Decides.{Decides-ltb}
use Rattle.std.proofs.lemmas.List.Sums.{sum_by-cons}
use Rattle.edit_model.specs.Corrections.{Differs, IsCorrection, differs_from, path_order}
use Rattle.edit_model.specs.FieldSets.{has_number}
use Rattle.edit_model.specs.Parts.{SurveyParts}
use Rattle.edit_model.specs.Points.{Point}
use Rattle.edit_model.specs.RowPoints.{Agrees}
use Rattle.edit_model.specs.Rows.{IsRow, value_of}
use Rattle.edit_model.specs.Surveys.{IsField}
use Rattle.edit_model.specs.Words.{weight_at}
use Rattle.edit_model.specs.declared.field.Field.{Field}
use Rattle.edit_model.specs.declared.value.Value.{Value}
use Rattle.edit_model.specs.declared.value.Value.TheVariants.{Bad}
use Rattle.edit_model.proofs.RowLaws.{row-length}
use Rattle.edit_model.proofs.WordLaws.{changed-weigh}
use Rattle.edit_line.specs.Reductions.{IsIn}
use Rattle.edit_line.specs.Shapes.{has_field}
use Rattle.edit_line.proofs.FieldLists.{has-there, there-has}
use Rattle.bound_cert.specs.Paths.{changes}
use Rattle.edit_paths.proofs.ChoiceLaws.{word-at}
use Rattle.edit_paths.proofs.FieldPlaces.{order-within}
use Rattle.edit_paths.proofs.PathOrder.{sum-less}
use Rattle.back_subst.specs.Allowed.{Completes}
use Rattle.back_subst.specs.Gifts.{IsNeeded, path_of}
use Rattle.back_subst.specs.Given.{IsImputed}
use Rattle.back_subst.proofs.StartLaws.{past-end}

-- A correction that changes a set that is needed differs at each of its fields.

-- those of a test that leaves out a field weigh less than those of one that has it
sum-below : (w : ℕ → ℕ) (s t : ℕ → Bool) (fields : List ℕ) (f : ℕ) → ((g : ℕ) → IsIn g fields → s g ≡ true → t g ≡ true) → IsIn f fields → t f ≡ true
    → s f ≡ false → 0 < w f → sum_by w (filter s fields) < sum_by w (filter t fields)
sum-below w s t [] f each none has out some = absurd none
sum-below w s t (i ∷ fields) f each (inl same) has out some =
    by (s i) (ap s (sym same) ∙ out) (t i) (ap t (sym same) ∙ has) (sum-less w s t fields (λ g there. each g (inr there))) (subst (λ n. 0 < w n) same some)
  where
    by : (a : Bool) → a ≡ false → (b : Bool) → b ≡ true → sum_by w (filter s fields) ≤ sum_by w (filter t fields) → 0 < w i
        → sum_by w (if a then i ∷ filter s fields else filter s fields) < sum_by w (if b then i ∷ filter t fields else filter t fields)
    by true e b h rest own = absurd (cc)
    by false e false h rest own = absurd (cc)
    by false e true h rest own = omega (arith, rest, own, sum_by-cons w i (filter t fields))
sum-below w s t (i ∷ fields) f each (inr there) has out some =
    by (s i) refl (t i) refl (sum-below w s t fields f (λ g g_there. each g (inr g_there)) there has out some)
  where
    by : (a : Bool) → s i ≡ a → (b : Bool) → t i ≡ b → sum_by w (filter s fields) < sum_by w (filter t fields)
        → sum_by w (if a then i ∷ filter s fields else filter s fields) < sum_by w (if b then i ∷ filter t fields else filter t fields)
    by true e true h rest = omega (arith, rest, sum_by-cons w i (filter s fields), sum_by-cons w i (filter t fields))
    by true e false h rest = absurd (cc (sym h ∙ each i (inl refl) e))
    by false e true h rest = omega (arith, rest, sum_by-cons w i (filter t fields))
    by false e false h rest = rest

-- each field weighs something
weight-some : (fields : List Field) (f : ℕ) → All IsField fields → f < length fields → 0 < weight_at fields f
weight-some [] f are below = absurd (omega arith)
weight-some (field ∷ fields) zero are below = let own = (are 0 field (omega arith)).weight.0 in omega (arith, own)
weight-some (field ∷ fields) (suc f) are below = weight-some fields f (λ k d k_below. are (suc k) d (omega arith)) (omega arith)

module _ (survey : SurveyParts) (row : List Value) (changed : ℕ) (are : All IsField survey.fields) (is_row : IsRow survey.fields row)
    (in-order : (f : ℕ) → f < length survey.fields → has_field (path_order survey.fields) f ≡ true)
    (q : Point) (correction : IsCorrection survey q) (kept : (f : ℕ) → f < length row → has_number changed f ≡ false → Agrees row q f) where
  changes-is : (f : ℕ) → has_field (path_order survey.fields) f ≡ true → changes survey.fields (path_of survey.fields changed) f ≡ has_number changed f
  changes-is f there = word-at (has_number changed) (path_order survey.fields) f false there

  -- it differs at changed fields alone
  within : (f : ℕ) → has_field (path_order survey.fields) f ≡ true → differs_from (value_of row f) q f ≡ true → has_number changed f ≡ true
  within f there differs = by (has_number changed f) refl
    where
      by : (b : Bool) → has_number changed f ≡ b → b ≡ true
      by true e = refl
      by false e = absurd (cc (sym differs ∙ kept f (omega (arith, order-within survey.fields f there, row-length survey.fields row is_row)) e))

  pub needed-differs : IsNeeded survey row changed → (f : ℕ) → has_number changed f ≡ true → Differs row q f
  needed-differs needed f there = at (nat_lt f (length row)) refl
    where
      bad : value_of row f ≡ Bad → differs_from (value_of row f) q f ≡ true
      bad is = ap (λ (v : Value). differs_from v q f) is

      least : (below : f < length row) → IsNeeded survey row changed → (b : Bool) → differs_from (value_of row f) q f ≡ b → b ≡ true
      least below needed true e = refl
      least below (inr none) false e = absurd (cc (sym e ∙ bad (none f below there)))
      least below (inl weight) false e =
          let f_below : f < length survey.fields = omega (arith, below, row-length survey.fields row is_row) in
          let less = sum-below (weight_at survey.fields) (λ g. differs_from (value_of row g) q g) (changes survey.fields (path_of survey.fields changed))
          (path_order survey.fields) f
          (λ g g_there differs. let own = there-has g (path_order survey.fields) g_there in changes-is g own ∙ within g own differs)
          (has-there f (path_order survey.fields) (in-order f f_below)) (changes-is f (in-order f f_below) ∙ there) e
          (weight-some survey.fields f are f_below) in
          let at_least = weight.least q correction in
          absurd (omega (arith, less, at_least, changed-weigh survey row q is_row))

      at : (b : Bool) → nat_lt f (length row) ≡ b → Differs row q f
      at true is = least ((Decides-ltb f (length row)).0 is) needed (differs_from (value_of row f) q f) refl
      at false is = bad (past-end row f (λ below. absurd (cc (sym is ∙ (Decides-ltb f (length row)).1 below))))

-- a record that was given values where a set is needed differs at each field of the set
pub gift-differs : (survey : SurveyParts) (row new : List Value) (changed : ℕ) (donor : Option (List Value)) → All IsField survey.fields
    → IsRow survey.fields row → ((f : ℕ) → f < length survey.fields → has_field (path_order survey.fields) f ≡ true)
    → IsImputed survey row changed donor new → IsNeeded survey row changed → (p : Point) (f : ℕ) → Completes survey new [] p → has_number changed f ≡ true
    → Differs row p f
gift-differs survey row new changed donor are is_row in-order imputed needed p f completes there =
    needed-differs survey row changed are is_row in-order p completes.correction (λ g below unchanged.
    subst (λ (v : Value). differs_from v p g ≡ false) (imputed.keeps g unchanged)
    (completes.agrees g (omega (arith, below, row-length survey.fields row is_row, row-length survey.fields new imputed.fits)) refl)) needed f there
