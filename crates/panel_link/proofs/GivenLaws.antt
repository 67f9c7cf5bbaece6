use Rattle.std.proofs.Common.{◌≡◌, ◌<◌, ◌^◌, ℕ, Bool, true, false, List, None, [], length, nat_lt, slice_index_or, inl, refl, sym, ap, ◌∙◌, subst, arith}
use Rattle.std.proofs.lemmas.Bool.Decides.{Decides-ltb}
use Rattle.edit_model.specs.Corrections.{Differs, IsLeastWeight, differs_from, path_order, word_of}
use Rattle.edit_model.specs.FieldSets.{has_number}
use Rattle.edit_model.specs.Parts.{SurveyParts}
use Rattle.edit_model.specs.Points.{Point}
use Rattle.edit_model.specs.Rows.{value_of}
use Rattle.edit_model.specs.declared.value.Value.{Value}
use Rattle.edit_model.proofs.RowLaws.{row-length}
use Rattle.edit_line.specs.EditSets.{EditsParts}
use Rattle.edit_line.specs.Shapes.{place_in, shape_of}
use Rattle.linear_elim.proofs.PointLaws.{map-agree}
use Rattle.bound_cert.specs.Paths.{path_weight}
use Rattle.bound_cert.specs.declared.cert.Cert.{Cert}
use Rattle.bound_cert.specs.declared.outcome.Outcome.TheVariants as outcome
use Rattle.bound_cert.proofs.PathLaws.{point-weighs}
use Rattle.edit_paths.specs.Cases.{IsCase, case_of}
use Rattle.edit_paths.specs.Choices.{IsChoice}
use Rattle.edit_paths.specs.Outcomes.{outcome_of}
use Rattle.edit_paths.specs.States.{IsOpen}
use Rattle.edit_paths.proofs.ChoiceLaws.{change-choice, word-at}
use Rattle.edit_paths.proofs.FieldPlaces.{order-within}
use Rattle.back_subst.specs.Allowed.{Completes}
use Rattle.back_subst.specs.Gifts.{CanGive, IsCheap, path_of}
use Rattle.back_subst.specs.Given.{IsImputed}
use Rattle.back_subst.proofs.NeedLaws.{needed-differs}
use Rattle.back_subst.proofs.StartLaws.{in-order, past-end}
use Rattle.panel_link.specs.Laws.{IsCorrectedAmong}
use Rattle.panel_link.specs.LinkedCorrections.{IsFirstAmong, IsLeastAmong, IsLinkedCorrection, lacks_value}
use Rattle.panel_link.specs.Pins.{pinned}
use Rattle.panel_link.specs.inner.Tellings.{TellLinked}
use Rattle.panel_link.proofs.LeastAmong.{first-among, least-among, least-pinned}
use Rattle.panel_link.proofs.PathWorks.{found-cheap, found-open}
use Rattle.panel_link.proofs.PinLaws.{pinned-correction}

-- A change that the search finds where the edits tell the corrections that leave the fixed fields alone.

module _ (survey : SurveyParts) (edits : EditsParts) (row : List Value) (fixed budget : ℕ) (path : List Bool) (weight : ℕ) (cert : Cert)
    (is : IsCase (case_of survey edits row)) (same : TellLinked survey edits row fixed)
    (e : outcome_of (case_of survey edits row) budget ≡ outcome.Change path weight cert) where
  pub choice : IsChoice (case_of survey edits row) path
  choice = (change-choice (case_of survey edits row) is budget path weight cert e).0

  pub weight-is : weight ≡ path_weight survey.fields path
  weight-is = (change-choice (case_of survey edits row) is budget path weight cert e).1

  module _ (changed : ℕ) (path_is : path_of survey.fields changed ≡ path) where
    -- a fixed field is not changed
    pub not-changed : (f : ℕ) → f < length row → has_number fixed f ≡ true → has_number changed f ≡ false
    not-changed f below has =
        let (q, meets, word) = choice.reached in
        let there = in-order survey.fields f (omega (arith, below, row-length survey.fields row is.row)) in
        sym (word-at (has_number changed) (path_order survey.fields) f false there)
        ∙ ap (λ (w : List Bool). slice_index_or w (place_in (path_order survey.fields) f) false) (path_is ∙ sym word)
        ∙ word-at (λ i. differs_from (value_of row i) q i) (path_order survey.fields) f false there
        ∙ ((same q).0 meets).agrees f below has

    -- values can be given at the changed fields
    pub can-give : edits.shape ≡ shape_of survey.fields → budget < 2 ^ 64 → CanGive survey edits row changed
    can-give shape small = record {
      is_row = is.row;
      shape = shape;
      path = subst (λ (p : List Bool). IsOpen (case_of survey edits row) p) (sym path_is) (found-open (case_of survey edits row) is budget path weight cert e);
      sound = λ p meets. ((same p).0 meets).correction;
      complete = λ p correction outside.
          ((same p).1 (record { correction = correction; agrees = λ f below has. outside f below (not-changed f below has) })).edits;
      few = subst (λ (p : List Bool). IsCheap (case_of survey edits row) p) (sym path_is)
          (found-cheap (case_of survey edits row) is budget path weight cert e small);
    }

    -- ---- with its new values

    module _ (values : lacks_value survey row fixed ≡ false) (new : List Value) (imputed : IsImputed survey row changed None new) (p : Point)
        (completes : Completes survey new [] p) where
      -- the record keeps those of the fixed fields
      kept : (f : ℕ) → has_number fixed f ≡ true → value_of new f ≡ value_of row f
      kept f has = by (nat_lt f (length row)) refl
        where
          by : (b : Bool) → nat_lt f (length row) ≡ b → value_of new f ≡ value_of row f
          by true less = imputed.keeps f (not-changed f ((Decides-ltb f (length row)).0 less) has)
          by false past =
              let out : (f < length row → ⊥) = λ below. cc (sym past ∙ (Decides-ltb f (length row)).1 below) in
              past-end new f (λ below. out (omega (arith, below, row-length survey.fields row is.row, row-length survey.fields new imputed.fits)))
              ∙ sym (past-end row f out)

      same-long : length new ≡ length row
      same-long = row-length survey.fields new imputed.fits ∙ sym (row-length survey.fields row is.row)

      linked : IsLinkedCorrection survey row fixed p
      linked = record {
        correction = completes.correction;
        agrees = λ f below has. subst (λ (v : Value). differs_from v p f ≡ false) (kept f has) (completes.agrees f (omega (arith, below, same-long)) refl);
      }

      -- it differs from the record at all changed fields
      differs : (f : ℕ) → has_number changed f ≡ true → Differs row p f
      differs f has =
          needed-differs (pinned survey row fixed) row changed is.fields is.row (in-order survey.fields) p
          ((pinned-correction survey row fixed is.row values p).1 linked)
          (λ g below unchanged. subst (λ (v : Value). differs_from v p g ≡ false) (imputed.keeps g unchanged)
          (completes.agrees g (omega (arith, below, same-long)) refl))
          (inl (subst (λ (w : List Bool). IsLeastWeight (pinned survey row fixed) row (path_weight survey.fields w)) (sym path_is)
          (least-pinned survey edits row fixed is values same path choice))) f has

      letter : (f : ℕ) → f < length survey.fields → differs_from (value_of row f) p f ≡ has_number changed f
      letter f below = by (has_number changed f) refl
        where
          by : (b : Bool) → has_number changed f ≡ b → differs_from (value_of row f) p f ≡ b
          by true has = differs f has
          by false out =
              ap (λ (v : Value). differs_from v p f) (sym (imputed.keeps f out))
              ∙ completes.agrees f (omega (arith, below, row-length survey.fields new imputed.fits)) refl

      word-is : word_of survey row p ≡ path
      word-is =
          map-agree (λ f. differs_from (value_of row f) p f) (has_number changed) (path_order survey.fields)
          (λ f there. letter f (order-within survey.fields f there)) ∙ path_is

      -- and is a correction of the least weight among those that leave the fixed fields alone
      pub corrected : IsCorrectedAmong survey row new fixed path weight
      corrected = record {
        point = p;
        correction = completes;
        kept = kept;
        differs = word-is;
        weighs = sym (point-weighs survey row p is.row) ∙ ap (path_weight survey.fields) word-is ∙ sym weight-is;
        least = subst (λ w. IsLeastAmong survey row fixed w) (sym weight-is) (least-among survey edits row fixed is values same path choice);
        first = subst (λ w. IsFirstAmong survey row fixed w path) (sym weight-is) (first-among survey edits row fixed is values same path choice);
      }

  -- the weight of the change is the least of these all the same, where no values are given
  pub least-stopped : lacks_value survey row fixed ≡ false → IsLeastAmong survey row fixed weight × IsFirstAmong survey row fixed weight path
  least-stopped values = (
    subst (λ w. IsLeastAmong survey row fixed w) (sym weight-is) (least-among survey edits row fixed is values same path choice),
    subst (λ w. IsFirstAmong survey row fixed w path) (sym weight-is) (first-among survey edits row fixed is values same path choice),
  )
