use Rattle.std.proofs.Common.{◌≡◌, ◌==◌, ◌∙◌, ℕ, false, Bool, List, [], All, Some, ap, not, subst, sym}
use Rattle.std.proofs.lemmas.Bool.{false_from_ne_true}
use Rattle.std.proofs.lemmas.Bool.Decides.{Decides-eqb}
use Rattle.std.proofs.lemmas.List.Elements.{All-from_recursion}
use Rattle.std.proofs.lemmas.Result.{IfOk-from_err}
use Rattle.bound_cert.specs.Paths.{kept_set}
use Rattle.edit_model.specs.PlainNumbers.{HasPlainNumbers}
use Rattle.edit_model.specs.declared.value.Value.{Value}
use Rattle.donor_measure.specs.Measures.{HasMeasurable}
use Rattle.donor_measure.specs.declared.yardstick.Yardstick.{Yardstick}
use Rattle.donor_search.specs.CleanRows.{row_at}
use Rattle.donor_search.proofs.CleanLaws.{is_row_at}
use Rattle.donor_search.proofs.DonorLaws.{has_kept}
use Rattle.record_pieces.specs.Classes.{IsDonorIn, class_count, class_kept}
use Rattle.record_pieces.specs.Rests.{class_field_in, rows_in}
use Rattle.record_pieces.specs.declared.rest.Rest.{Rest}
use Rattle.record_pieces.specs.inner.Searches.{RanksIn}
use Rattle.record_pieces.proofs.RankingLaws.{ranks-path}
use Rattle.record_pieces.proofs.search.change_wish.Goals as goal

pub ranking_in-requires-clause-row : goal.ranking_in-requires-clause-row
ranking_in-requires-clause-row g c =
    let is_rest = c.requires.rest in
    let rest = c.args.rest.now in
    let fields = rest.survey.fields in
    let rows = rows_in rest in
    let row_no = c.args.row_no in
    let is = is_row_at fields rows row_no is_rest.rows c.requires.row in
    let plain = All-from_recursion HasPlainNumbers rows is_rest.plain row_no [] c.requires.row in
    let held = rw c.row-row.ensures at c.kept_set-kept.ensures.held in
    subst (λ (r : List Value). HasMeasurable rest.measure.yardsticks c.kept_set-kept.result r) (sym c.row-row.ensures)
    (subst (λ (ys : List Yardstick). HasMeasurable ys c.kept_set-kept.result (row_at rows row_no)) (sym is_rest.yardsticks)
    (has_kept fields (row_at rows row_no) c.kept_set-kept.result is plain (λ f within has. held f has)))

-- the class of a record, by the fields that its path keeps
class-of : {F : Type 0} (rest : Rest F) (last row_no kept : ℕ) (path : List Bool) → last ≡ class_count rest.survey.fields (class_field_in rest)
    → (row : List Value) → row ≡ row_at (rows_in rest) row_no → kept ≡ kept_set rest.survey.fields row path
    → class_kept last (class_field_in rest) row kept
    ≡ class_kept (class_count rest.survey.fields (class_field_in rest)) (class_field_in rest) (row_at (rows_in rest) row_no)
    (kept_set rest.survey.fields (row_at (rows_in rest) row_no) path)
class-of rest last row_no kept path many row there set =
    (λ i. class_kept (many i) (class_field_in rest) row (set i))
    ∙ ap (λ (r : List Value). class_kept (class_count rest.survey.fields (class_field_in rest)) (class_field_in rest) r
    (kept_set rest.survey.fields r path)) there

pub class_kept-class-requires-clause-few : goal.class_kept-class-requires-clause-few
class_kept-class-requires-clause-few g c = c.requires.rest.decks.few

pub class_kept-class-requires-clause-field : goal.class_kept-class-requires-clause-field
class_kept-class-requires-clause-field g c = c.requires.rest.decks.small

pub returns : goal.returns
returns g c =
    let rest = c.args.rest.now in
    let some : (c.args.weight == 0) ≡ false = false_from_ne_true (c.args.weight == 0) (λ same. c.if-weight-eq0.false ((Decides-eqb c.args.weight 0).0 same)) in
    let ranks = ranks-path g.F.Fn rest c.requires.rest c.args.row_no c.row-row.result.now c.row-row.ensures c.args.path.now c.requires.case c.requires.whole
    c.requires.opened c.kept_set-kept.result c.kept_set-kept.ensures.set c.from_vec.result
    (c.from_vec.ensures ∙ c.in_ok-ranking.ensures.ranking) in
    record {
      class = c.class_kept-class.ensures ∙ class-of rest _ c.args.row_no c.kept_set-kept.result c.args.path.now
          c.requires.rest.decks.as_many c.row-row.result.now c.row-row.ensures c.kept_set-kept.ensures.set;
      ranking = subst (λ (none : Bool). RanksIn rest c.args.row_no (not none) c.args.path.now (Some c.from_vec.result)) (sym some) ranks;
      donors = subst (All (IsDonorIn rest.survey (rows_in rest) (class_field_in rest) c.class_kept-class.result)) (sym c.from_vec.ensures)
          c.in_ok-ranking.ensures.donors;
    }

pub returns-in_err-ranking-clause-class : goal.returns-in_err-ranking-clause-class
returns-in_err-ranking-clause-class g c = IfOk-from_err _ _ c.from_residual.ensures.0

pub returns-in_err-ranking-clause-ranking : goal.returns-in_err-ranking-clause-ranking
returns-in_err-ranking-clause-ranking g c = IfOk-from_err _ _ c.from_residual.ensures.0

pub returns-in_err-ranking-clause-donors : goal.returns-in_err-ranking-clause-donors
returns-in_err-ranking-clause-donors g c = IfOk-from_err _ _ c.from_residual.ensures.0
