use Rattle.std.proofs.Common.{◌≡◌, ◌⊎◌, ◌∙◌, ◌<◌, ◌≤◌, ℕ, true, false, List, All, ap, arith, get_or, inl, inr, length, ltb, subst, sym, true≢false}
use Rattle.std.proofs.lemmas.Bool.{cases_lt}
use Rattle.std.proofs.lemmas.Bool.Decides.{Decides-ltb}
use Rattle.std.proofs.Math.Seq.{take-nil}
use Rattle.std.proofs.lemmas.Result.{IfOk-weaker}
use Rattle.edit_model.specs.Parts.{SurveyParts}
use Rattle.edit_model.specs.declared.value.Value.{Value}
use Rattle.donor_measure.specs.declared.yardstick.Yardstick.{Yardstick}
use Rattle.donor_search.specs.CleanRows.{IsRankable}
use Rattle.donor_search.specs.Decks.{DeckParts, IsDeckOf}
use Rattle.donor_search.specs.Rankings.{ranking_of}
use Rattle.donor_search.proofs.RankedLaws.{ranking_all}
use Rattle.record_pieces.specs.Classes.{IsDonorIn, class_count, donors_in}
use Rattle.record_pieces.specs.Rests.{IsDeckIn, class_field_in, rows_in}
use Rattle.record_pieces.proofs.ClassLaws.{class-donors, none-for}
use Rattle.record_pieces.proofs.search.ranking_in.Goals as goal

-- a class without a deck is past the last that has donors
past : (count kept decks lent class : ℕ) → false ≡ ltb class lent → lent ≡ decks → decks ≡ count → class ≡ kept → count ≤ kept
past count kept decks lent class none same many is = by (cases_lt class lent)
  where
    by : (class < lent) ⊎ (lent ≤ class) → count ≤ kept
    by (inl below) = absurd (true≢false (sym ((Decides-ltb class lent).1 below) ∙ sym none))
    by (inr le) = omega (arith, le, same, many, is)

-- where there is no deck of the class there is no donor
pub returns-in-None-clause-ranking : goal.returns-in-None-clause-ranking
returns-in-None-clause-ranking g c =
    let rest = c.args.rest.now in
    let decks = c.requires.rest.decks in
    let lent = ap (λ (ds : List DeckParts). length ds) c.deref.ensures.value in
    let none = none-for rest.survey (rows_in rest) (class_field_in rest) c.args.row.now c.args.kept
    (past _ _ (length rest.decks.of_class.items) (length c.deref.result.now) c.args.class c.in-None.ensures.lookup.0 lent decks.as_many c.requires.class) in
    c.new.ensures.items ∙ sym (ap (λ (ds : List ℕ). ranking_of rest.measure.yardsticks (rows_in rest) ds c.args.row.now c.args.kept rest.near) none
    ∙ take-nil rest.near)

-- the deck that was found is that of the class
deck-is : (survey : SurveyParts) (rows : List (List Value)) (class : ℕ) (lent decks : List DeckParts) (deck : DeckParts) (P : DeckParts → Type 0)
    → lent ≡ decks → true ≡ ltb class (length lent) → deck ≡ get_or lent class deck → ((d : DeckParts) → class < length decks → P (get_or decks class d))
    → P deck
deck-is survey rows class lent decks deck P same below is each =
    subst P (sym (is ∙ ap (λ (ds : List DeckParts). get_or ds class deck) same))
    (each deck (subst (λ (ds : List DeckParts). class < length ds) same ((Decides-ltb class (length lent)).0 (sym below))))

pub ranking-requires-clause-donors : goal.ranking-requires-clause-donors
ranking-requires-clause-donors g c =
    let rest = c.args.rest.now in
    let deck = c.in-Some.deck.now in
    let found = c.in-Some.ensures.lookup in
    let is = deck-is rest.survey (rows_in rest) c.args.class c.deref.result.now rest.decks.of_class.items deck
    (IsDeckIn rest.survey (rows_in rest) (class_field_in rest) c.args.class) c.deref.ensures.value found.0 (found.3.1 deck)
    (c.requires.rest.decks.each c.args.class) in
    subst (λ (ys : List Yardstick). All (IsRankable ys (rows_in rest) c.args.kept) deck.donors) (sym c.requires.rest.yardsticks)
    (is.give c.requires.rest.plain c.args.kept)

pub ranking-requires-clause-deck : goal.ranking-requires-clause-deck
ranking-requires-clause-deck g c =
    let rest = c.args.rest.now in
    let deck = c.in-Some.deck.now in
    let found = c.in-Some.ensures.lookup in
    let is = deck-is rest.survey (rows_in rest) c.args.class c.deref.result.now rest.decks.of_class.items deck
    (IsDeckIn rest.survey (rows_in rest) (class_field_in rest) c.args.class) c.deref.ensures.value found.0 (found.3.1 deck)
    (c.requires.rest.decks.each c.args.class) in
    subst (λ (ys : List Yardstick). IsDeckOf ys (rows_in rest) deck) (sym c.requires.rest.yardsticks) is.index

pub returns-in-Some-clause-ranking : goal.returns-in-Some-clause-ranking
returns-in-Some-clause-ranking g c =
    let rest = c.args.rest.now in
    let deck = c.in-Some.deck.now in
    let found = c.in-Some.ensures.lookup in
    let is = deck-is rest.survey (rows_in rest) c.args.class c.deref.result.now rest.decks.of_class.items deck
    (IsDeckIn rest.survey (rows_in rest) (class_field_in rest) c.args.class) c.deref.ensures.value found.0 (found.3.1 deck)
    (c.requires.rest.decks.each c.args.class) in
    let donors = is.donors ∙ ap (donors_in rest.survey (rows_in rest) (class_field_in rest)) c.requires.class in
    IfOk-weaker c.ranking.result _ _
    (λ r same. same ∙ ap (λ (ds : List ℕ). ranking_of rest.measure.yardsticks (rows_in rest) ds c.args.row.now c.args.kept rest.near) donors)
    c.ranking.ensures.ranking

pub returns-in-Some-clause-donors : goal.returns-in-Some-clause-donors
returns-in-Some-clause-donors g c =
    let rest = c.args.rest.now in
    let deck = c.in-Some.deck.now in
    let found = c.in-Some.ensures.lookup in
    let decks = c.requires.rest.decks in
    let is = deck-is rest.survey (rows_in rest) c.args.class c.deref.result.now rest.decks.of_class.items deck
    (IsDeckIn rest.survey (rows_in rest) (class_field_in rest) c.args.class) c.deref.ensures.value found.0 (found.3.1 deck)
    (decks.each c.args.class) in
    let lent = ap (λ (ds : List DeckParts). length ds) c.deref.ensures.value in
    let below : c.args.class < class_count rest.survey.fields (class_field_in rest) =
    (let there = (Decides-ltb c.args.class (length c.deref.result.now)).0 (sym found.0) in
    omega (arith, there, lent, decks.as_many)) in
    let of_class = subst (All (IsDonorIn rest.survey (rows_in rest) (class_field_in rest) c.args.class)) (sym is.donors)
    (class-donors rest.survey (rows_in rest) (class_field_in rest) c.args.class below) in
    IfOk-weaker c.ranking.result _ _
    (λ r same. subst (All (IsDonorIn rest.survey (rows_in rest) (class_field_in rest) c.args.class)) (sym same)
    (ranking_all rest.measure.yardsticks (IsDonorIn rest.survey (rows_in rest) (class_field_in rest) c.args.class) (rows_in rest) deck.donors
    c.args.row.now c.args.kept rest.near of_class))
    c.ranking.ensures.ranking
