use Rattle.std.proofs.Common.{◌≡◌, ℕ, ◌<◌, ◌==◌, ◌||◌, not, Bool, true, false, List, [], ◌∷◌, length, pos, ◌<ℤ◌, refl, sym, ap, ◌∙◌, subst, arith}
use Rattle.std.proofs.lemmas.Bool.Decides.{Decides-eqb, Decides-int_eq}
use Rattle.std.proofs.lemmas.Int.{ints}
use Rattle.fraction128.specs.Formulas.{ratio_of}
use Rattle.edit_model.specs.Corrections.{differs_from}
use Rattle.edit_model.specs.Parts.{SurveyParts}
use Rattle.edit_model.specs.Points.{Point}
use Rattle.edit_model.specs.RowPoints.{Agrees}
use Rattle.edit_model.specs.Rows.{value_of}
use Rattle.edit_model.specs.declared.value.Value.{Value}
use Rattle.edit_model.specs.declared.value.Value.TheVariants.{Bad, Code, Number}
use Rattle.edit_line.specs.Shapes.{has_field}
use Rattle.back_subst.specs.Allowed.{AgreesBut, AllowsNumber, Completes}
use Rattle.back_subst.specs.Given.{AreGiven, IsGiven, number_in}
use Rattle.back_subst.proofs.IntervalLaws.{given-allowed}

-- The record that is given is a correction's, and it differs from the old record where it is changed.

number_in-above : (v : Value) → pos 0 <ℤ (number_in v).denominator
number_in-above (Number x) = x.positive
number_in-above (Code c) = omega (arith, ints)
number_in-above Bad = omega (arith, ints)

-- one field more agrees
agrees-more : (row : List Value) (left : List ℕ) (f : ℕ) (p : Point) → AgreesBut (f ∷ left) row p → (f < length row → Agrees row p f) → AgreesBut left row p
agrees-more row left f p agrees own i within absent = by (f == i) refl
  where
    by : (b : Bool) → (f == i) ≡ b → Agrees row p i
    by true e = let same : f ≡ i = (Decides-eqb f i).0 e in subst (λ j. Agrees row p j) same (own (omega (arith, same)))
    by false e = agrees i within (ap (λ b. b || has_field left i) e ∙ absent)

module _ (survey : SurveyParts) (target : ℕ → Value) (row : List Value) where
  -- a value that is given leaves a completion
  pub given-next : (left : List ℕ) (f : ℕ) (v : Value) → value_of row f ≡ v → IsGiven survey row (f ∷ left) f (target f) v → (p : Point)
      → Completes survey row (f ∷ left) p → (q : Point) × Completes survey row left q
  given-next left f Bad is given p completes = absurd given
  given-next left f (Code c) is given p completes =
      let (q, done, code) = given.is_allowed in (
        q,
        record {
          correction = done.correction;
          agrees = agrees-more row left f q done.agrees
              (λ _. ap (λ (w : Value). differs_from w q f) is ∙ ap not ((Decides-eqb c (q.code f)).1 (sym code)));
        },
      )
  given-next left f (Number x) is given p completes =
      let (q, done, number) = given-allowed (AllowsNumber survey row (f ∷ left) f) (number_in (target f)) (ratio_of x)
      (record { numerator = p.numerator f; denominator = p.denominator }) (number_in-above (target f)) x.positive p.positive (p, completes, refl) given in (
        q,
        record {
          correction = done.correction;
          agrees = agrees-more row left f q done.agrees
              (λ _. ap (λ (w : Value). differs_from w q f) is ∙ ap not ((Decides-int_eq _ _).1 number));
        },
      )

  -- where some correction completes the record, and the fields that are left are given values, some correction has all its values
  pub given-consistent : (left : List ℕ) → AreGiven survey target row left → (p : Point) → Completes survey row left p → (q : Point) × Completes survey row [] q
  given-consistent [] given p completes = (p, completes)
  given-consistent (f ∷ left) given p completes = let (q, done) = given-next left f (value_of row f) refl given.0 p completes in given-consistent left
      given.1 q done
