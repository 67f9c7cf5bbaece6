use Rattle.std.proofs.Common.{◌≡◌, ◌∙◌, ◌<◌, ◌++◌, ℕ, zero, suc, List, [], ◌∷◌, None, ap, arith, get_or, length, refl, subst, sym}
use Rattle.std.proofs.lemmas.Result.{IfOk-from_err}
use Rattle.edit_model.specs.Parts.{SurveyParts}
use Rattle.edit_model.specs.declared.value.Value.{Value}
use Rattle.donor_search.specs.Decks.{DeckParts}
use Rattle.record_pieces.specs.Rests.{AreDecksOf, IsDeckIn}
use Rattle.record_pieces.proofs.decks.deck_of_all.Goals as goal

-- one deck alone is that of the first class
deck-alone : (survey : SurveyParts) (rows : List (List Value)) (deck : DeckParts) → IsDeckIn survey rows None 0 deck
    → AreDecksOf survey rows None (deck ∷ [])
deck-alone survey rows deck is = record { field = tt; small = tt; as_many = refl; few = omega arith; each = each }
  where
    each : (class : ℕ) (d : DeckParts) → class < length (deck ∷ []) → IsDeckIn survey rows None class (get_or (deck ∷ []) class d)
    each zero d lt = is
    each (suc class) d lt = absurd (omega (arith, lt))

pub returns : goal.returns
returns c plain =
    let deck : DeckParts = c.in_ok-new.field-0 in
    let made = c.in_ok-new.ensures in
    let items : c.push.new.self.items ≡ deck ∷ [] = c.in_ok-push.ensures.items ∙ ap (λ (ds : List DeckParts). ds ++ deck ∷ []) c.new-decks.ensures.items in
    subst (AreDecksOf c.args.survey.now c.args.sheet.now.rows None) (sym items)
    (deck-alone c.args.survey.now c.args.sheet.now.rows deck (record { donors = made.clean; give = made.measurable; index = made.index plain }))

pub returns-in_err-new : goal.returns-in_err-new
returns-in_err-new c = IfOk-from_err _ _ c.from_residual.ensures.0

pub returns-in_err-push : goal.returns-in_err-push
returns-in_err-push c = IfOk-from_err _ _ c.from_residual-in_err-push.ensures.0
