use Rattle.std.proofs.Common.{◌≡◌, ◌∙◌, ℕ, ◌+◌, ◌<◌, ◌++◌, [], ◌∷◌, List, Option, IfSome, ap, arith, drop, get_or, length, length-append, option_to_list, refl}
use Rattle.std.proofs.Common.{subst, sym, take}
use Rattle.std.specs.List.{All}
use Rattle.std.proofs.lemmas.List.{drop-drop, drop-set-lt, get_or-drop, take_all, take_more_set, with_items_is}
use Rattle.std.proofs.lemmas.List.Elements.{All-pop, All-push}
use Rattle.donor_book.specs.Passes.{PassState}
use Rattle.class_books.specs.ClassPasses.{ClassPassState}
use Rattle.class_books.specs.inner.Hands.{IsNext, with_class}
use Rattle.class_books.proofs.shared.deal.Goals as goal
use Rattle.class_books.proofs.shared.deal.Goals.{In-Some}

-- what is left to go over is as it was
rest-at : (now old : List ClassPassState) (i : ℕ) (d : ClassPassState) → drop i now ≡ drop i old → get_or now i d ≡ get_or old i d
rest-at now old i d is =
    let same : i + 0 ≡ i = omega arith in
    ap (λ k. get_or now k d) (sym same) ∙ sym (get_or-drop i now 0 d) ∙ ap (λ (l : List ClassPassState). get_or l 0 d) is ∙ get_or-drop i old 0 d
    ∙ ap (λ k. get_or old k d) same

module _ (c : In-Some) where
  abbrev old : List ClassPassState
  old = c.deref_mut-class_pass-items.result.now

  within : c.loop-class_pass.class_pass-index < length old
  within = omega arith

  -- what holds of each pass that is left holds of the next
  next-one : (P : PassState → Type 0) → All P c.loop-class_pass.passes.items → All P c.pop.new.self.items × P c.in-Some.pass
  next-one P all =
      let both = All-pop P c.loop-class_pass.passes.items c.pop.new.self.items c.pop.result c.pop.ensures.items all in
      (both.0, subst (λ (o : Option PassState). IfSome o P) c.in-Some.is both.1)

  item-is : (d : ClassPassState) → get_or c.loop-class_pass.class_pass-items c.loop-class_pass.class_pass-index d
      ≡ get_or old c.loop-class_pass.class_pass-index d
  item-is d = rest-at c.loop-class_pass.class_pass-items old c.loop-class_pass.class_pass-index d c.loop-class_pass.invariant.rest

pub loop-class_pass-init : goal.loop-class_pass-init
loop-class_pass-init c =
    let value = c.deref_mut-class_pass-items.ensures.value in
    record {
      left = (let same = ap length value in let many = c.requires.as_many in omega (arith, same, many));
      rest = refl;
      next = subst (All (λ (q : ClassPassState). All (IsNext q) c.args.passes.items)) (sym value) c.requires.next;
      books = λ book all. all;
      dealt = λ old book same all k d lt. absurd (omega (arith, lt));
    }

pub add-requires : goal.add-requires
add-requires c =
    let at = (goal.at.add-requires c).In-Some in
    let i = c.loop-class_pass.class_pass-index in
    let d = c.class_pass-item.result in
    subst (λ (q : ClassPassState). IsNext q c.in-Some.pass) (sym (item-is at d))
    (next-one at (IsNext (get_or (old at) i d)) (c.loop-class_pass.invariant.next i d (within at))).1

pub loop-class_pass-preserved : goal.loop-class_pass-preserved
loop-class_pass-preserved c =
    let at = (goal.at.loop-class_pass-preserved c).In-Some in
    let loop = c.loop-class_pass in
    let i = loop.class_pass-index in
    let now = loop.class_pass-items in
    let d = c.class_pass-item.result in
    let lt : i < length now = omega arith in
    record {
      left = (let items = ap length (c.pop.ensures.items ∙ ap (λ (o : Option PassState). c.pop.new.self.items ++ option_to_list o) c.in-Some.is) in
          let l = length-append c.pop.new.self.items (c.in-Some.pass ∷ []) in let left = loop.invariant.left in omega (arith, items, l, left));
      rest = drop-set-lt (i + 1) now i c.add.new.self (omega arith) ∙ sym (drop-drop 1 i now) ∙ ap (drop 1) loop.invariant.rest ∙ drop-drop 1 i (old at);
      next = λ k e less. (next-one at (IsNext (get_or (old at) k e)) (loop.invariant.next k e less)).0;
      books = λ book all. (next-one at (λ (p : PassState). p.book ≡ book) (loop.invariant.books book all)).0;
      dealt = λ first book same all.
          (let is : c.add.new.self ≡ with_class first book = c.in_ok-add.ensures
          ∙ ap (λ (q : ClassPassState). with_class q c.in-Some.pass.book) (item-is at d ∙ same i d (within at))
          ∙ ap (with_class first) (next-one at (λ (p : PassState). p.book ≡ book) (loop.invariant.books book all)).1 in
          subst (All (λ (q : ClassPassState). q ≡ with_class first book)) (sym (take_more_set now i c.add.new.self lt))
          (All-push (λ (q : ClassPassState). q ≡ with_class first book) (take i now) c.add.new.self (loop.invariant.dealt first book same all) is));
    }

pub returns-clause-dealt : goal.returns-clause-dealt
returns-clause-dealt c first book same all =
    let loop = c.loop-class_pass in
    let now = loop.class_pass-items in
    let value = c.deref_mut-class_pass-items.ensures.value in
    let size : length now ≡ c.args.all.now.len = (let l = ap length value in let ok = c.args.all.now.ok.0 in omega (arith, l, ok)) in
    let dealt = loop.invariant.dealt first book (subst (All (λ (q : ClassPassState). q ≡ first)) (sym value) same) all in
    subst (All (λ (q : ClassPassState). q ≡ with_class first book)) (sym (with_items_is c.args.all.now now size))
    (subst (All (λ (q : ClassPassState). q ≡ with_class first book)) (take_all loop.class_pass-index now (omega arith)) dealt)
