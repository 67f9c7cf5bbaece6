-- The loop over what a proof says of the lines of the rules.
use Rattle.std.proofs.Common.{◌≡◌, ◌≢◌, ℕ, zero, suc, ◌+◌, ◌-◌, ◌<◌, ◌≤◌, Bool, true, false, if◌then◌else◌, is_none, List, [], ◌∷◌, ◌++◌, Option, Some, None}
use Rattle.std.proofs.Common.{drop, get_or, length, map, option_map, take, length-append, slice_get, slice_set, refl, sym, ap, ◌∙◌, subst, arith}
use Rattle.std.proofs.Math.ListN.{replicate}
use Rattle.std.proofs.lemmas.List.{drop_all, length-map, take_all}
use Rattle.std.proofs.lemmas.Simd.{splat_is_map}
use Rattle.edit_model.specs.Parts.{SurveyParts}
use Rattle.edit_model.specs.declared.field.Field.{Field}
use Rattle.edit_model.specs.declared.value.Value.{Value}
use Rattle.edit_line.specs.Lines.{AreOver, LineParts, is_equal}
use Rattle.edit_line.specs.Negations.{negation_of}
use Rattle.edit_line.specs.Shapes.{Domain, shape_of}
use Rattle.edit_line.specs.declared.relation.Relation.TheVariants.{Equal}
use Rattle.edit_line.proofs.Members.{in-get}
use Rattle.edit_line.proofs.RelationLaws.{is_equal-Decides}
use Rattle.edit_normal.specs.RuleLines.{normal_lines_of}
use Rattle.derivation.specs.Premises.{Premises, premises_of}
use Rattle.derivation.specs.Refutations.{given_lines, left_before, no_values, refutation_of, trues}
use Rattle.derivation.specs.declared.step.Step.{Step}
use Rattle.derivation.proofs.RefutationLaws.{given-over}
use Rattle.proof_grammar.specs.ProofLines.{verdict_lines}
use Rattle.cert_check.specs.Dropped.{dropped_fault, or_later, refutation_at, refutation_fault, verdict_fault, verdicts_fault}
use Rattle.cert_check.specs.inner.Parts.{IsFaultAt}
use Rattle.cert_check.proofs.PlaceLaws.{read-at, some-at}

-- ---- which lines are left

-- for a line that is dropped, those before it and the later ones that are kept
left-dropped : {X : Type 0} (place : ℕ) (verdicts : List (Option X)) (x : X) → slice_get verdicts place ≡ Some (Some x) → trues place
    ++ drop place (map is_none verdicts) ≡ left_before place (drop (suc place) (map is_none verdicts))
left-dropped place [] x at = absurd (cc)
left-dropped zero (None ∷ verdicts) x at = absurd (cc)
left-dropped zero (Some y ∷ verdicts) x at = refl
left-dropped (suc place) (v ∷ verdicts) x at = ap (λ (bs : List Bool). true ∷ bs) (left-dropped place verdicts x at)

-- behind it, it is left itself
left-more : (place : ℕ) (kept : List Bool) → place < length kept → slice_set (trues place ++ drop place kept) place true ≡ trues (suc place)
    ++ drop (suc place) kept
left-more place [] below = absurd (omega arith)
left-more zero (b ∷ kept) below = refl
left-more (suc place) (b ∷ kept) below = ap (λ (bs : List Bool). true ∷ bs) (left-more place kept (omega arith))

-- ---- one line after the other

drop-at : {X : Type 0} (xs : List X) (place : ℕ) (x : X) → slice_get xs place ≡ Some x → drop place xs ≡ x ∷ drop (suc place) xs
drop-at [] place x at = absurd (cc)
drop-at (y ∷ xs) zero x at = let same : y ≡ x = cc in ap (λ z. z ∷ xs) same
drop-at (y ∷ xs) (suc place) x at = drop-at xs place x at

module _ (survey : SurveyParts) (verdicts : List (Option (List Step))) where
  abbrev kept : List Bool
  kept = map is_none verdicts

  abbrev lines : List LineParts
  lines = normal_lines_of survey

  -- the lines before a place are right, and take so many lines of the proof; these lines are left
  pub record IsTold (place offset : ℕ) (left : List Bool) : Type 0 where
    pub left_are : left ≡ trues place ++ drop place kept
    pub rest : verdicts_fault survey kept 0 lines verdicts
        ≡ option_map (λ n. offset + n) (verdicts_fault survey kept place (drop place lines) (drop place verdicts))

  pub told-first : (left : List Bool) → left ≡ kept → IsTold 0 0 left
  told-first left is = record { left_are = is; rest = nothing-first (verdicts_fault survey kept 0 lines verdicts) }
    where
      nothing-first : (o : Option ℕ) → o ≡ option_map (λ n. 0 + n) o
      nothing-first None = refl
      nothing-first (Some n) = ap Some (omega arith)

  module _ (place offset : ℕ) (left : List Bool) (told : IsTold place offset left) (line : LineParts) (verdict : Option (List Step))
      (line_at : slice_get lines place ≡ Some line) (verdict_at : slice_get verdicts place ≡ Some verdict) where
    apart : verdicts_fault survey kept place (drop place lines) (drop place verdicts)
        ≡ or_later (verdict_fault (refutation_at survey kept place line) line verdict) (length (verdict_lines verdict))
        (verdicts_fault survey kept (suc place) (drop (suc place) lines) (drop (suc place) verdicts))
    apart =
        ap (λ (ls : List LineParts). verdicts_fault survey kept place ls (drop place verdicts)) (drop-at lines place line line_at)
        ∙ ap (λ (vs : List (Option (List Step))). verdicts_fault survey kept place (line ∷ drop (suc place) lines) vs)
        (drop-at verdicts place verdict verdict_at)

    -- the line is looked at over the lines that are left for it
    pub told-here : (given : List LineParts) (row : List Value) → given ≡ lines → row ≡ no_values survey.fields
        → verdict_fault (refutation_of (shape_of survey.fields) given left line row) line verdict
        ≡ verdict_fault (refutation_at survey kept place line) line verdict
    told-here given row given_is row_is = by verdict verdict_at
      where
        by : (v : Option (List Step)) → slice_get verdicts place ≡ Some v → verdict_fault (refutation_of (shape_of survey.fields) given left line row) line v
            ≡ verdict_fault (refutation_at survey kept place line) line v
        by None at = refl
        by (Some steps) at =
            ap (λ (ls : List LineParts). dropped_fault (refutation_of (shape_of survey.fields) ls left line row) line steps) given_is
            ∙ ap (λ (bs : List Bool). dropped_fault (refutation_of (shape_of survey.fields) lines bs line row) line steps)
            (told.left_are ∙ left-dropped place verdicts steps at)
            ∙ ap (λ (vs : List Value). dropped_fault (refutation_of (shape_of survey.fields) lines (left_before place (drop (suc place) kept)) line vs) line
            steps) row_is

    -- its fault is the first
    pub told-fault : (behind : ℕ) → verdict_fault (refutation_at survey kept place line) line verdict ≡ Some behind
        → verdicts_fault survey kept 0 lines verdicts ≡ Some (offset + behind)
    told-fault behind found =
        told.rest
        ∙ ap (λ (o : Option ℕ). option_map (λ n. offset + n) o)
        (apart ∙ ap (λ (o : Option ℕ). or_later o (length (verdict_lines verdict)) (verdicts_fault survey kept (suc place) (drop (suc place) lines)
        (drop (suc place) verdicts))) found)

    -- one line more that is right
    pub told-more : (later next : ℕ) (after : List Bool) → place < length kept → verdict_fault (refutation_at survey kept place line) line verdict ≡ None
        → later ≡ suc place → next ≡ offset + length (verdict_lines verdict) → after ≡ slice_set left place true
        → IsTold later next after
    told-more later next after below none later_is next_is after_is =
        subst (λ (n : ℕ). IsTold n next after) (sym later_is) (subst (λ (n : ℕ). IsTold (suc place) n after) (sym next_is) (record {
          left_are = after_is ∙ ap (λ (bs : List Bool). slice_set bs place true) told.left_are ∙ left-more place kept below;
          rest =
              told.rest
              ∙ ap (λ (o : Option ℕ). option_map (λ n. offset + n) o)
              (apart ∙ ap (λ (o : Option ℕ). or_later o (length (verdict_lines verdict)) (verdicts_fault survey kept (suc place) (drop (suc place) lines)
              (drop (suc place) verdicts))) none)
              ∙ joined (verdicts_fault survey kept (suc place) (drop (suc place) lines) (drop (suc place) verdicts));
        }))
      where
        joined : (o : Option ℕ) → option_map (λ n. offset + n) (option_map (λ n. length (verdict_lines verdict) + n) o)
            ≡ option_map (λ n. (offset + length (verdict_lines verdict)) + n) o
        joined None = refl
        joined (Some n) = ap Some (omega arith)

  -- what is found of the line at a place
  module _ (place offset : ℕ) (left : List Bool) (told : IsTold place offset left) (given : List LineParts) (row : List Value) (given_is : given ≡ lines)
      (row_is : row ≡ no_values survey.fields) (each : length verdicts ≡ length lines) (below : place < length verdicts)
      (verdict : Option (List Step)) (verdict_is : verdict ≡ get_or verdicts place verdict) (found : Option ℕ)
      (says : IsFaultAt survey given left place row verdict found) where
    verdict_at : slice_get verdicts place ≡ Some verdict
    verdict_at = read-at verdicts place verdict below verdict_is

    here : (line : LineParts) × (slice_get lines place ≡ Some line)
    here = some-at lines place (omega (arith, below, each))

    is-fault : found ≡ verdict_fault (refutation_at survey kept place here.0) here.0 verdict
    is-fault = says here.0 (ap (λ (ls : List LineParts). slice_get ls place) given_is ∙ here.1)
        ∙ told-here place offset left told here.0 verdict here.1 verdict_at given row given_is row_is

    pub found-some : (behind : ℕ) → found ≡ Some behind → Some (offset + behind) ≡ verdicts_fault survey kept 0 lines verdicts
    found-some behind some = sym (told-fault place offset left told here.0 verdict here.1 verdict_at behind (sym is-fault ∙ some))

    pub found-none : (later next : ℕ) (after : List Bool) → found ≡ None → later ≡ suc place → next ≡ offset + length (verdict_lines verdict) → after
        ≡ slice_set left place true → IsTold later next after
    found-none later next after none later_is next_is after_is =
        told-more place offset left told here.0 verdict here.1 verdict_at later next after (omega (arith, below, length-map verdicts is_none))
        (sym is-fault ∙ none) later_is next_is after_is

  -- past the last line all are right
  pub told-all : (place offset : ℕ) (left : List Bool) → IsTold place offset left → length verdicts ≤ place → verdicts_fault survey kept 0 lines verdicts ≡ None
  told-all place offset left told past =
      told.rest
      ∙ ap (λ (o : Option ℕ). option_map (λ n. offset + n) o)
      (ap (λ (vs : List (Option (List Step))). verdicts_fault survey kept place (drop place lines) vs) (drop_all place verdicts past)
      ∙ none-left (drop place lines))
    where
      none-left : (ls : List LineParts) → verdicts_fault survey kept place ls [] ≡ None
      none-left [] = refl
      none-left (l ∷ ls) = refl

-- of a line that is no equality the fault is that of its steps
pub undropped-fault : (p : Premises) (line : LineParts) (steps : List Step) → line.relation ≢ Equal → refutation_fault p steps ≡ dropped_fault p line steps
undropped-fault p line steps apart = by (is_equal line.relation) refl
  where
    by : (b : Bool) → is_equal line.relation ≡ b → refutation_fault p steps ≡ (if b then Some 0 else refutation_fault p steps)
    by true e = absurd (apart ((is_equal-Decides line.relation).0 e))
    by false e = refl

-- ---- while the steps of a line are checked

-- with the line's negation behind them the lines are over the same fields
pub lent-over : (fields : List Field) (lines : List LineParts) (place : ℕ) (line : LineParts) (given negation : List LineParts) → place < length lines → line
    ≡ get_or lines place line → AreOver (shape_of fields) lines → given ≡ lines ++ negation
    → negation ≡ negation_of line → AreOver (shape_of fields) given
lent-over fields lines place line given negation below is over given_is negation_is =
    subst (λ (ls : List LineParts). AreOver (shape_of fields) ls) (sym (given_is ∙ ap (λ (ns : List LineParts). lines ++ ns) negation_is))
    (given-over fields lines line over (in-get line lines place (read-at lines place line below is)))

-- and with as many flags more they are what the refutation builds on
pub lent-premises : (shape : List Domain) (lines : List LineParts) (left : List Bool) (line : LineParts) (row : List Value) (given negation : List LineParts)
    (usable : List Bool) (n m : ℕ) → length left ≡ length lines → given ≡ lines ++ negation
    → negation ≡ negation_of line → n ≡ length given → m ≡ length left → usable ≡ take n left ++ replicate (n - m) true → premises_of shape given usable row 0
    ≡ refutation_of shape lines left line row
lent-premises shape lines left line row given negation usable n m same given_is negation_is n_is m_is usable_is =
    ap (λ (ls : List LineParts). premises_of shape ls usable row 0) (given_is ∙ ap (λ (ns : List LineParts). lines ++ ns) negation_is)
    ∙ ap (λ (bs : List Bool). premises_of shape (given_lines lines line) bs row 0)
    (usable_is ∙ ap (λ (bs : List Bool). bs ++ replicate (n - m) true) (take_all n left (omega (arith, count, same)))
    ∙ ap (λ (bs : List Bool). left ++ bs) (splat_is_map (negation_of line) (n - m) true (omega (arith, count, same, m_is))))
  where
    count : n ≡ length lines + length (negation_of line)
    count = n_is ∙ ap (λ (ls : List LineParts). length ls) given_is ∙ length-append lines negation
        ∙ ap (λ (ns : List LineParts). length lines + length ns) negation_is
