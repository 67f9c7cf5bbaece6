use Rattle.std.proofs.Common.{◌≡◌, ◌∙◌, ℕ, suc, ◌+◌, ◌<◌, List, [], ◌∷◌, ◌++◌, Global, Vec, ap, arith, get_or, length, map, reverse, subst, sym}
use Rattle.std.specs.Arc.{arc_value}
use Rattle.std.specs.List.{All}
use Rattle.std.proofs.lemmas.List.{length-map, length-reverse, length_push, map_push, reverse-append}
use Rattle.donor_book.specs.declared.claim.Won.{Won}
use Rattle.donor_book.specs.Passes.{BookName}
use Rattle.class_books.specs.ClassPasses.{ClassPassState, ClassTerms, ClassesName, state_in}
use Rattle.class_books.specs.Histories.{history_in}
use Rattle.class_books.specs.inner.Hands.{first_classes, last_class, name_of}
use Rattle.class_books.specs.inner.Numbers.{rows_in, state_with, won_with}
use Rattle.class_books.proofs.CloseLaws.{AreGathered, AreHistoriesFrom, IsHistoryOf, IsTurn, claims-joined, classes-left, closed-class, count}
use Rattle.class_books.proofs.CloseLaws.{history-at, last-same, map-reverse, of-book, others-same, own, passes-left, rest-terms, states-first, states-left}
use Rattle.class_books.proofs.shared.SharedClasses.close.Goals as goal
use Rattle.class_books.proofs.shared.SharedClasses.close.Goals.{After-drop-classes, After-gather, In-Some-pop}

abbrev items : Vec Won Global → List Won
items v = v.items

-- ---- the passes of the last class that is left are gathered

turn-of : (c : In-Some-pop)
    → IsTurn c.args.self c.pop-in-loop-book.new.self.items c.loop-book.books.items c.in-Some-pop.book c.loop-book.passes.items c.loop-book.last
turn-of c = record { split = c.in-Some-pop.ensures.items; same = c.loop-book.invariant.same }

pub gather-requires-clause-some : goal.gather-requires-clause-some
gather-requires-clause-some c =
    let turn = turn-of (goal.at.gather-requires-clause-some c).In-Some-pop in
    subst (λ (n : ClassesName). 0 < length n.books) (sym (last-same turn)) (let n = count turn in omega (arith, n))

pub gather-requires-clause-same : goal.gather-requires-clause-same
gather-requires-clause-same c = others-same (turn-of (goal.at.gather-requires-clause-same c).In-Some-pop)

pub gather-requires-clause-all : goal.gather-requires-clause-all
gather-requires-clause-all c =
    let turn = turn-of (goal.at.gather-requires-clause-all c).In-Some-pop in
    c.loop-book.invariant.all ∙ sym (ap (λ (n : ClassesName). n.terms.passes) (last-same turn))

-- ---- its book is closed

module _ (c : After-gather) where
  abbrev rest : List BookName
  rest = c.pop-in-loop-book.new.self.items

  abbrev others : List ClassPassState
  others = c.loop-book.passes.items

  abbrev last : ClassPassState
  last = c.loop-book.last

  turn : IsTurn c.args.self rest c.loop-book.books.items c.in-Some-pop.book others last
  turn = record { split = c.in-Some-pop.ensures.items; same = c.loop-book.invariant.same }

  gathered : AreGathered c.args.self (length rest) c.in-Some-pop.book c.gather.result.items c.args.passes.items
  gathered = record {
    own = own turn c.loop-book.invariant.terms;
    of_book = of-book turn c.gather.result.items c.gather.ensures.of_last;
    ranks = c.gather.ensures.ranks;
    same = c.requires.classes;
    states = states-left turn c.gather.result.items c.args.passes.items c.gather.ensures.gathered c.loop-book.invariant.states;
  }

  left-are : c.gather.new.others.items ++ c.gather.new.last ∷ [] ≡ map (first_classes (length rest)) (others ++ last ∷ [])
  left-are = passes-left turn c.gather.new.others.items c.gather.new.last c.gather.ensures.others c.gather.ensures.last

  as-many : length c.gather.result.items ≡ c.args.self.terms.passes
  as-many =
      sym (length-map c.gather.result.items (state_with last.classes.terms.class_of (last_class last))) ∙ ap length c.gather.ensures.gathered
      ∙ length-map (others ++ last ∷ []) (state_in (last_class last)) ∙ length_push others last ∙ c.loop-book.invariant.all

  terms-are : arc_value c.self.inside.classes ≡ c.args.self.terms
  terms-are = ap (λ (n : ClassesName). n.terms) c.self.view_is

pub close-history-requires-clause-book : goal.close-history-requires-clause-book
close-history-requires-clause-book c = (gathered (goal.at.close-history-requires-clause-book c).After-gather).of_book

pub close-history-requires-clause-all : goal.close-history-requires-clause-all
close-history-requires-clause-all c =
    let at = (goal.at.close-history-requires-clause-all c).After-gather in
    as-many at ∙ sym (ap (λ t. t.passes) (gathered at).own)

pub history_in_file-requires-clause-rows : goal.history_in_file-requires-clause-rows
history_in_file-requires-clause-rows c k d lt =
    let at = (goal.at.history_in_file-requires-clause-rows c).After-gather in
    let w = get_or c.close-history.result.items k d in
    let class = length (rest at) in
    let len : c.len.result ≡ class = c.len.ensures ∙ c.pop-in-loop-book.new.self.ok.0 in
    let small = (c.close-history.ensures.sound.within k d lt).0 in
    subst (λ n. w.row_no < length (rows_in c.deref.result.now.class_of n)) (sym len)
    (subst (λ (t : ClassTerms). w.row_no < length (rows_in t.class_of class)) (sym (c.deref.ensures ∙ terms-are at))
    (subst (λ t. w.row_no < t.rows) (gathered at).own small))

pub loop-book-preserved : goal.loop-book-preserved
loop-book-preserved c =
    let at = (goal.at.loop-book-preserved c).After-gather in
    let inv = c.loop-book.invariant in
    let name = c.args.self in
    let passes = c.args.passes.items in
    let class = length (rest at) in
    let all = others at ++ last at ∷ [] in
    let history = c.close-history.result.items in
    let closed = c.loop-book.histories.items in
    let more = c.push_reserved.ensures.items in
    let n = count (turn at) in
    let len : c.len.result ≡ class = c.len.ensures ∙ c.pop-in-loop-book.new.self.ok.0 in
    let in_file : c.history_in_file.result.items ≡ map (won_with name.terms.class_of class) history = c.history_in_file.ensures
    ∙ ap (λ (t : ClassTerms). map (won_with t.class_of c.len.result) history) (c.deref.ensures ∙ terms-are at)
    ∙ ap (λ k. map (won_with name.terms.class_of k) history) len in
    let told = c.close-history.ensures in
    let one : IsHistoryOf name passes class c.history_in_file.result.items = subst (IsHistoryOf name passes class) (sym in_file)
    (closed-class (gathered at) history told.whole told.sound told.legal) in
    let reversed : reverse (map items c.push_reserved.new.self.items) ≡ c.history_in_file.result.items ∷ reverse (map items closed) =
    ap (λ (l : List (Vec Won Global)). reverse (map items l)) more ∙ ap reverse (map_push items closed c.history_in_file.result)
    ∙ reverse-append (map items closed) (c.history_in_file.result.items ∷ []) in
    let next : length c.loop-book.books.items ≡ suc class = omega (arith, n) in
    record {
      terms = rest-terms (turn at) inv.terms;
      same = subst (All (λ (q : ClassPassState). q.classes ≡ name_of name.terms (rest at))) (sym (left-are at)) (classes-left (turn at));
      states = λ k lt. ap (map (state_in k)) (left-are at) ∙ states-first class k all lt ∙ inv.states k (omega (arith, n, lt));
      all = ap (λ k. k + 1) (ap length c.gather.ensures.others ∙ length-map (others at) (first_classes (last_class (last at)))) ∙ inv.all;
      closed = subst (AreHistoriesFrom name passes class) (sym reversed)
          (one, subst (λ k. AreHistoriesFrom name passes k (reverse (map items closed))) next inv.closed);
      filled = (let more_is = ap length more in let l = length_push closed c.history_in_file.result in let filled = inv.filled in
          omega (arith, more_is, l, filled, n));
      room = c.push_reserved.ensures.capacity ∙ inv.room;
    }

-- ---- all are closed

module _ (c : After-drop-classes) where
  abbrev closed : List (List Won)
  closed = map items c.reverse.new.self.items

  none-left : length c.loop-book.books.items ≡ 0
  none-left = let ok = c.loop-book.books.ok.0 in let left = c.in_default-pop.ensures.cases.0 in omega (arith, ok, left)

  in-order : closed ≡ reverse (map items c.loop-book.histories.items)
  in-order = ap (map items) c.reverse.ensures.items ∙ map-reverse items c.loop-book.histories.items

  all-closed : AreHistoriesFrom c.args.self c.args.passes.items 0 closed
  all-closed =
      subst (AreHistoriesFrom c.args.self c.args.passes.items 0) (sym in-order)
      (subst (λ k. AreHistoriesFrom c.args.self c.args.passes.items k (reverse (map items c.loop-book.histories.items))) none-left c.loop-book.invariant.closed)

  one-each : length closed ≡ c.args.self.terms.classes
  one-each =
      let same = ap length in-order in
      let l = length-reverse (map items c.loop-book.histories.items) in
      let m = length-map c.loop-book.histories.items items in
      let filled = c.loop-book.invariant.filled in
      let none = none-left in
      omega (arith, same, l, m, filled, none)

  -- the history of each class
  closed-at : (class : ℕ) → class < c.args.self.terms.classes → IsHistoryOf c.args.self c.args.passes.items class (history_in class closed)
  closed-at class lt =
      let same : 0 + class ≡ class = omega arith in
      let one = one-each in
      subst (λ k. IsHistoryOf c.args.self c.args.passes.items k (history_in class closed)) same
      (history-at c.args.self c.args.passes.items 0 closed all-closed class (omega (arith, one, lt)))

pub returns-clause-whole : goal.returns-clause-whole
returns-clause-whole c class lt = (closed-at c class lt).whole

pub returns-clause-sound : goal.returns-clause-sound
returns-clause-sound c class lt = (closed-at c class lt).sound

pub returns-clause-of_class : goal.returns-clause-of_class
returns-clause-of_class c class lt = (closed-at c class lt).of_class

pub returns-clause-legal : goal.returns-clause-legal
returns-clause-legal c = claims-joined c.args.self c.args.passes.items (closed c) (one-each c) (all-closed c)
