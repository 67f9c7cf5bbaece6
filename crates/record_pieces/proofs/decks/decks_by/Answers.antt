use Rattle.std.proofs.Common.{◌≡◌, ◌⊎◌, ◌∙◌, ◌<◌, ◌≤◌, ◌+◌, ◌++◌, ℕ, List, [], ◌∷◌, Some, ap, arith, get_or, inl, inr, length, subst, sym}
use Rattle.std.proofs.lemmas.Bool.{cases_lt}
use Rattle.std.proofs.lemmas.List.{get_or_append_left, get_or_push, length_push}
use Rattle.std.proofs.lemmas.Result.{IfOk-from_err}
use Rattle.edit_model.specs.Parts.{SurveyParts}
use Rattle.edit_model.specs.declared.value.Value.{Value}
use Rattle.donor_search.specs.Decks.{DeckParts}
use Rattle.record_pieces.specs.Classes.{code_count}
use Rattle.record_pieces.specs.Rests.{IsDeckIn}
use Rattle.record_pieces.proofs.ClassLaws.{of-code}
use Rattle.record_pieces.proofs.decks.decks_by.Goals as goal

-- one deck more, of the next class
deck-more : (survey : SurveyParts) (rows : List (List Value)) (field code : ℕ) (old : List DeckParts) (deck : DeckParts) → length old ≡ code
    → ((class : ℕ) (d : DeckParts) → class < code → IsDeckIn survey rows (Some field) class (get_or old class d))
    → IsDeckIn survey rows (Some field) code deck
    → (class : ℕ) (d : DeckParts) → class < code + 1 → IsDeckIn survey rows (Some field) class (get_or (old ++ deck ∷ []) class d)
deck-more survey rows field code old deck many each is class d lt = by (cases_lt class code)
  where
    by : (class < code) ⊎ (code ≤ class) → IsDeckIn survey rows (Some field) class (get_or (old ++ deck ∷ []) class d)
    by (inl before) = subst (IsDeckIn survey rows (Some field) class)
        (sym (get_or_append_left old (deck ∷ []) d class (omega (arith, before, many)))) (each class d before)
    by (inr last) =
        let same : code ≡ class = omega (arith, last, lt) in
        subst (λ (n : ℕ). IsDeckIn survey rows (Some field) n (get_or (old ++ deck ∷ []) n d)) same
        (subst (IsDeckIn survey rows (Some field) code) (sym (get_or_push old deck d code many)) is)

pub loop-code-preserved : goal.loop-code-preserved
loop-code-preserved c =
    let survey = c.args.survey.now in
    let rows = c.args.sheet.now.rows in
    let field = c.args.field in
    let old = c.loop-code.decks.items in
    let code = c.loop-code.code in
    let deck : DeckParts = c.in_ok-of_class.field-0 in
    let made = c.in_ok-of_class.ensures in
    let items : c.push.new.self.items ≡ old ++ deck ∷ [] = c.in_ok-push.ensures.items in
    let below : code < code_count survey.fields field = omega (arith, c.loop-code-test.true, c.code_count-code-end.ensures.count) in
    record {
      as_many = (let l = length_push old deck in omega (arith, ap (λ (ds : List DeckParts). length ds) items, l, c.loop-code.invariant.as_many));
      each = λ plain class d lt. subst (λ (ds : List DeckParts). IsDeckIn survey rows (Some field) class (get_or ds class d)) (sym items)
          (deck-more survey rows field code old deck c.loop-code.invariant.as_many (c.loop-code.invariant.each plain)
          (record { donors = made.of_class ∙ of-code survey rows field code below; give = made.measurable; index = made.index plain }) class d lt);
    }

pub returns-in_err-of : goal.returns-in_err-of
returns-in_err-of c = IfOk-from_err _ _ c.from_residual.ensures.0

pub returns-in_err-marks : goal.returns-in_err-marks
returns-in_err-marks c = IfOk-from_err _ _ c.from_residual-in_err-marks.ensures.0

pub returns-in_err-of_class : goal.returns-in_err-of_class
returns-in_err-of_class c = IfOk-from_err _ _ c.from_residual-in_err-of_class.ensures.0

pub returns-in_err-push : goal.returns-in_err-push
returns-in_err-push c = IfOk-from_err _ _ c.from_residual-in_err-push.ensures.0
