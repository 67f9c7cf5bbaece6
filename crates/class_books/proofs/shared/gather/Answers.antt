use Rattle.std.proofs.Common.{◌≡◌, ◌∙◌, ◌+◌, ◌<◌, ◌≤◌, ◌++◌, [], ◌∷◌, List, ap, arith, drop, length, map, refl, subst, sym}
use Rattle.std.specs.List.{All}
use Rattle.std.proofs.lemmas.List.{append-nil, drop_all, length_push, map_push, take_all, with_items_is}
use Rattle.std.proofs.lemmas.List.Elements.{All-nil, All-push}
use Rattle.class_books.specs.ClassPasses.{ClassPassState, ClassesName, state_in}
use Rattle.class_books.specs.inner.Hands.{IsOfLast, RanksOwn, first_classes, last_class}
use Rattle.class_books.specs.inner.Numbers.{state_with}
use Rattle.class_books.proofs.GatherLaws.{IsTakenUpTo, classes-are, gathered-more, last-more, others-more}
use Rattle.class_books.proofs.shared.gather.Goals as goal

pub loop-other-preserved : goal.loop-other-preserved
loop-other-preserved c =
    let loop = c.loop-other in
    let inv = loop.invariant in
    let last = c.args.last.now in
    let old = c.deref_mut-other-items.result.now in
    let d = c.other-item.result in
    let taken : IsTakenUpTo last old loop.other-items loop.other-index = record {
      within = c.loop-other-test.true;
      others = inv.others;
      same = subst (All (λ (q : ClassPassState). q.classes ≡ last.classes)) (sym c.deref_mut-other-items.ensures.value) c.requires.same;
    } in
    let hand = c.take_last-in-loop-other.result in
    let told = c.take_last-in-loop-other.ensures in
    let pass = c.into_parts-pass-in-loop-other.result.0 in
    let parts = c.into_parts-pass-in-loop-other.ensures in
    let room = loop.room.items in
    let items = c.push_reserved.ensures.items in
    record {
      others = others-more taken d c.take_last-in-loop-other.new.self told.rest;
      gathered = ap (map (state_with last.classes.terms.class_of (last_class last))) items
          ∙ gathered-more taken d room hand pass parts.pass told.state inv.gathered;
      of_last = subst (All (IsOfLast last.classes)) (sym items)
          (All-push (IsOfLast last.classes) room pass inv.of_last (last-more taken d hand pass parts.pass told.last));
      ranks = subst (All RanksOwn) (sym items) (All-push RanksOwn room pass inv.ranks (subst RanksOwn (sym parts.pass) parts.ranks));
      filled = ap length items ∙ length_push room pass ∙ ap (λ n. n + 1) inv.filled;
      room = c.push_reserved.ensures.capacity ∙ inv.room;
    }

pub returns-clause-of_last : goal.returns-clause-of_last
returns-clause-of_last c =
    let last = c.args.last.now in
    subst (All (IsOfLast last.classes)) (sym c.push_reserved-2.ensures.items)
    (All-push (IsOfLast last.classes) c.loop-other.room.items c.into_parts-pass.result.0 c.loop-other.invariant.of_last
    (subst (IsOfLast last.classes) (sym c.into_parts-pass.ensures.pass) c.take_last.ensures.last))

pub returns-clause-ranks : goal.returns-clause-ranks
returns-clause-ranks c =
    subst (All RanksOwn) (sym c.push_reserved-2.ensures.items)
    (All-push RanksOwn c.loop-other.room.items c.into_parts-pass.result.0 c.loop-other.invariant.ranks
    (subst RanksOwn (sym c.into_parts-pass.ensures.pass) c.into_parts-pass.ensures.ranks))

pub loop-other-init : goal.loop-other-init
loop-other-init c =
    let last = c.args.last.now in
    let empty = c.into_parts-pass.ensures.empty in
    record {
      others = refl;
      gathered = ap (map (state_with last.classes.terms.class_of (last_class last))) empty;
      of_last = subst (All (IsOfLast last.classes)) (sym empty) (All-nil (IsOfLast last.classes));
      ranks = subst (All RanksOwn) (sym empty) (All-nil RanksOwn);
      filled = ap length empty;
      room = refl;
    }

pub take_last-requires-in-loop-other : goal.take_last-requires-in-loop-other
take_last-requires-in-loop-other c =
    let last = c.args.last.now in
    let taken : IsTakenUpTo last c.deref_mut-other-items.result.now c.loop-other.other-items c.loop-other.other-index = record {
      within = c.loop-other-test.true;
      others = c.loop-other.invariant.others;
      same = subst (All (λ (q : ClassPassState). q.classes ≡ last.classes)) (sym c.deref_mut-other-items.ensures.value) c.requires.same;
    } in
    subst (λ (n : ClassesName). 0 < length n.books) (sym (classes-are taken c.other-item.result)) c.requires.some

pub push_reserved-requires : goal.push_reserved-requires
push_reserved-requires c =
    let passes = ap (λ t. t.passes) c.take_last.ensures.last.terms in
    let size = ap length c.deref_mut-other-items.ensures.value in
    let room = c.loop-other.room.ok.0 in
    let inv = c.loop-other.invariant in
    let filled = inv.filled in
    let same = inv.room in
    omega (arith, passes, size, room, filled, same, c.into_parts-pass.ensures.room, c.requires.all, c.loop-other-test.true)

pub push_reserved-requires-2 : goal.push_reserved-requires-2
push_reserved-requires-2 c =
    let passes = ap (λ t. t.passes) c.take_last.ensures.last.terms in
    let size = ap length c.deref_mut-other-items.ensures.value in
    let room = c.loop-other.room.ok.0 in
    let inv = c.loop-other.invariant in
    let filled = inv.filled in
    let same = inv.room in
    let within = c.loop-other.auto.other-index-end in
    omega (arith, passes, size, room, filled, same, within, c.into_parts-pass.ensures.room, c.requires.all)

pub returns-clause-others : goal.returns-clause-others
returns-clause-others c =
    let loop = c.loop-other in
    let old = c.deref_mut-other-items.result.now in
    let shorter = first_classes (last_class c.args.last.now) in
    let value = c.deref_mut-other-items.ensures.value in
    let size : length loop.other-items ≡ c.args.others.now.len =
    (let l = ap length value in let ok = c.args.others.now.ok.0 in let same = loop.auto.other-items in omega (arith, l, ok, same)) in
    let all : length old ≤ loop.other-index = omega (arith, c.loop-other-test.false) in
    with_items_is c.args.others.now loop.other-items size ∙ loop.invariant.others
    ∙ ap (λ (l : List ClassPassState). map shorter l ++ drop loop.other-index old) (take_all loop.other-index old all)
    ∙ ap (λ (l : List ClassPassState). map shorter old ++ l) (drop_all loop.other-index old all) ∙ append-nil (map shorter old)
    ∙ ap (map shorter) value

pub returns-clause-last : goal.returns-clause-last
returns-clause-last c = c.take_last.ensures.rest

pub returns-clause-gathered : goal.returns-clause-gathered
returns-clause-gathered c =
    let loop = c.loop-other in
    let last = c.args.last.now in
    let old = c.deref_mut-other-items.result.now in
    let state = state_with last.classes.terms.class_of (last_class last) in
    let of_class = state_in (last_class last) in
    let gathered : map state loop.room.items ≡ map of_class c.args.others.now.items =
    loop.invariant.gathered
    ∙ ap (map of_class) (take_all loop.other-index old (omega (arith, c.loop-other-test.false)) ∙ c.deref_mut-other-items.ensures.value) in
    let one : state c.into_parts-pass.result.0 ≡ of_class last = ap state c.into_parts-pass.ensures.pass ∙ c.take_last.ensures.state in
    ap (map state) c.push_reserved-2.ensures.items ∙ map_push state loop.room.items c.into_parts-pass.result.0 ∙ (λ j. gathered j ++ one j ∷ [])
    ∙ sym (map_push of_class c.args.others.now.items last)
