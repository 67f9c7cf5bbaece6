use Rattle.std.proofs.Common.{◌≡◌, ◌≤◌, ◌+◌, ◌∙◌, ℕ, List, ap, map, subst, sym}
use Rattle.std.specs.Prelude.{nat_eq}
use Rattle.std.specs.Result.{IfOk}
use Rattle.std.specs.List.{All, AllByRecursion, Contains, IsDistinct}
use Rattle.donor_search.specs.Asked.{index_field, most_asked}
use Rattle.donor_search.specs.Rankings.{IsAmongFirst, IsInOrder, distance_to, is_nearer, ranking_of}
use Rattle.donor_search.specs.declared.candidate.Candidate.{Candidate}
use Rattle.donor_search.proofs.OrderLaws.{if_ok_then, ranking_nearest, ranking_order}
use Rattle.donor_search.proofs.RankedLaws.{once_rising, ranking_among, ranking_distinct}
use Rattle.donor_search.proofs.RankingLaws.{names}
use Rattle.donor_search.proofs.nearest.ranking.Goals as goal

pub returns-clause-ranking : goal.returns-clause-ranking
returns-clause-ranking g c =
    let far : ℕ → ℕ = distance_to c.args.measure.now.yardsticks c.args.sheet.now.rows c.args.row.now c.args.kept in
    let ranked : List ℕ = ranking_of c.args.measure.now.yardsticks c.args.sheet.now.rows c.args.deck.now.donors c.args.row.now c.args.kept c.args.near in
    subst (λ (ds : List ℕ). IfOk c.donors_of.result (λ ranking. ranking.items ≡ ds))
    (ap (map (λ (x : Candidate). x.donor)) (c.deref.ensures.value ∙ c.in_ok-nearest.ensures.ranked) ∙ names far ranked)
    c.donors_of.ensures

pub returns-clause-order : goal.returns-clause-order
returns-clause-order g c =
    let far : ℕ → ℕ = distance_to c.args.measure.now.yardsticks c.args.sheet.now.rows c.args.row.now c.args.kept in
    let ranked : List ℕ = ranking_of c.args.measure.now.yardsticks c.args.sheet.now.rows c.args.deck.now.donors c.args.row.now c.args.kept c.args.near in
    if_ok_then c.donors_of.result (λ ranking. ranking.items ≡ ranked) (λ ranking. IsInOrder (is_nearer far) ranking.items)
    (λ ranking is. subst (λ (ds : List ℕ). IsInOrder (is_nearer far) ds) (sym is) (ranking_order far c.args.near c.args.deck.now.donors))
    (returns-clause-ranking g c)

pub returns-clause-nearest : goal.returns-clause-nearest
returns-clause-nearest g c =
    let far : ℕ → ℕ = distance_to c.args.measure.now.yardsticks c.args.sheet.now.rows c.args.row.now c.args.kept in
    let donors = c.args.deck.now.donors in
    let ranked : List ℕ = ranking_of c.args.measure.now.yardsticks c.args.sheet.now.rows donors c.args.row.now c.args.kept c.args.near in
    if_ok_then c.donors_of.result (λ ranking. ranking.items ≡ ranked) (λ ranking. AllByRecursion (IsAmongFirst (is_nearer far) ranking.items) donors)
    (λ ranking is. subst (λ (ds : List ℕ). AllByRecursion (IsAmongFirst (is_nearer far) ds) donors) (sym is) (ranking_nearest far c.args.near donors))
    (returns-clause-ranking g c)

pub returns-clause-among : goal.returns-clause-among
returns-clause-among g c =
    let donors = c.args.deck.now.donors in
    let ranked : List ℕ = ranking_of c.args.measure.now.yardsticks c.args.sheet.now.rows donors c.args.row.now c.args.kept c.args.near in
    if_ok_then c.donors_of.result (λ ranking. ranking.items ≡ ranked) (λ ranking. All (Contains donors) ranking.items)
    (λ ranking is. subst (λ (ds : List ℕ). All (Contains donors) ds) (sym is)
    (ranking_among c.args.measure.now.yardsticks c.args.sheet.now.rows donors c.args.row.now c.args.kept c.args.near)) (returns-clause-ranking g c)

pub returns-clause-steps : goal.returns-clause-steps
returns-clause-steps g c =
    let ys = c.args.measure.now.yardsticks in
    let rows = c.args.sheet.now.rows in
    let donors = c.args.deck.now.donors in
    let ranked : List ℕ = ranking_of ys rows donors c.args.row.now c.args.kept c.args.near in
    if_ok_then c.donors_of.result (λ ranking. ranking.items ≡ ranked)
    (λ ranking. c.nearest_of.new.steps ≤ c.args.steps.now + most_asked ys rows donors c.args.row.now c.args.kept c.args.near
    (index_field ys c.args.kept) ranking.items)
    (λ ranking is. subst (λ (ds : List ℕ). c.nearest_of.new.steps ≤ c.args.steps.now + most_asked ys rows donors c.args.row.now c.args.kept c.args.near
    (index_field ys c.args.kept) ds) (sym is)
    c.in_ok-nearest.ensures.steps) (returns-clause-ranking g c)

pub returns-clause-once : goal.returns-clause-once
returns-clause-once g c =
    let donors = c.args.deck.now.donors in
    let ranked : List ℕ = ranking_of c.args.measure.now.yardsticks c.args.sheet.now.rows donors c.args.row.now c.args.kept c.args.near in
    if_ok_then c.donors_of.result (λ ranking. ranking.items ≡ ranked) (λ ranking. IsDistinct nat_eq ranking.items)
    (λ ranking is. subst (λ (ds : List ℕ). IsDistinct nat_eq ds) (sym is)
    (ranking_distinct c.args.measure.now.yardsticks c.args.sheet.now.rows donors c.args.row.now c.args.kept c.args.near
    (once_rising donors c.requires.deck.rising))) (returns-clause-ranking g c)
