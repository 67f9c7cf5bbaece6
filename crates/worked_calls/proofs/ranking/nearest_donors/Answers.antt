use Rattle.std.proofs.Common.{◌≡◌, ◌<◌, ℕ, All, List, [], length, arith, sym, subst}
use Rattle.std.specs.List.{AllByRecursion}
use Rattle.std.proofs.lemmas.List.Elements.{All-from_recursion}
use Rattle.edit_model.specs.PlainNumbers.{HasPlainNumbers}
use Rattle.edit_model.specs.Rows.{IsRow}
use Rattle.edit_model.specs.declared.field.Field.{Field}
use Rattle.edit_model.specs.declared.value.Value.{Value}
use Rattle.donor_measure.specs.Measures.{HasMeasurable}
use Rattle.donor_measure.specs.declared.yardstick.Yardstick.{Yardstick}
use Rattle.donor_search.specs.CleanRows.{IsRankable, row_at}
use Rattle.donor_search.specs.Decks.{IsDeckOf}
use Rattle.donor_search.proofs.CleanLaws.{is_row_at}
use Rattle.donor_search.proofs.DonorLaws.{has_kept}
use Rattle.worked_calls.proofs.ranking.nearest_donors.Goals as goal

row-is : (fields : List Field) (rows : List (List Value)) (row_no : ℕ) (row : List Value)
    → AllByRecursion (IsRow fields) rows → row_no < length rows → row ≡ row_at rows row_no → IsRow fields row
row-is fields rows row_no row all below same = subst (λ (r : List Value). IsRow fields r) (sym same) (is_row_at fields rows row_no all below)

pub kept_set-requires-clause-row : goal.kept_set-requires-clause-row
kept_set-requires-clause-row g c =
    row-is c.args.survey.now.fields c.args.sheet.now.rows c.args.row_no c.row-row.result.now c.requires.rows
    (omega (arith, c.if-row_no-len.false, c.len.ensures.rows)) c.row-row.ensures

pub ranking-requires-clause-row : goal.ranking-requires-clause-row
ranking-requires-clause-row g c =
    let below : c.args.row_no < length c.args.sheet.now.rows = omega (arith, c.if-row_no-len.false, c.len.ensures.rows) in
    let is = row-is c.args.survey.now.fields c.args.sheet.now.rows c.args.row_no c.row-row.result.now c.requires.rows below c.row-row.ensures in
    let has : HasPlainNumbers c.row-row.result.now = subst (λ (r : List Value). HasPlainNumbers r) (sym c.row-row.ensures)
    (All-from_recursion HasPlainNumbers c.args.sheet.now.rows c.requires.plain c.args.row_no [] below) in
    subst (λ (ys : List Yardstick). HasMeasurable ys c.kept_set.result c.row-row.result.now) (sym c.new-measure.ensures.yardsticks)
    (has_kept c.args.survey.now.fields c.row-row.result.now c.kept_set.result is has (λ f within at. c.kept_set.ensures.held f at))

pub ranking-requires-clause-donors : goal.ranking-requires-clause-donors
ranking-requires-clause-donors g c =
    subst (λ (ys : List Yardstick). All (IsRankable ys c.args.sheet.now.rows c.kept_set.result) c.in_ok-deck.deck.donors)
    (sym c.new-measure.ensures.yardsticks) (c.in_ok-deck.ensures.measurable c.requires.plain c.kept_set.result)

pub ranking-requires-clause-deck : goal.ranking-requires-clause-deck
ranking-requires-clause-deck g c =
    subst (λ (ys : List Yardstick). IsDeckOf ys c.args.sheet.now.rows c.in_ok-deck.deck)
    (sym c.new-measure.ensures.yardsticks) (c.in_ok-deck.ensures.index c.requires.plain)
