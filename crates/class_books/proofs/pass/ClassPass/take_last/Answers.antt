use Rattle.std.proofs.Common.{◌≡◌, ◌∙◌, ◌-◌, ◌<◌, ap, arith, get_or, length, subst, sym, take}
use Rattle.std.specs.Arc.{arc_value}
use Rattle.std.proofs.lemmas.List.{length-map, take-map}
use Rattle.std.proofs.lemmas.Option.{same_Some}
use Rattle.donor_book.specs.Passes.{PassState}
use Rattle.class_books.specs.ClassPasses.{ClassPassState, state_in}
use Rattle.class_books.specs.inner.Hands.{AreOfTerms, IsOfLast, books_of, class_pass_of, first_classes, last_class}
use Rattle.class_books.specs.inner.Numbers.{state_with}
use Rattle.class_books.proofs.ClassPassLaws.{class-pass-take, last-of, last-state, of-terms-take}
use Rattle.class_books.proofs.pass.ClassPass.take_last.Goals as goal

pub invariant_of-self : goal.invariant_of-self
invariant_of-self c =
    let terms = arc_value c.self.inside.classes in
    let hands = c.self.inside.hands in
    let books : books_of c.pop.new.self.items ≡ take (hands.len - 1) (books_of hands.items) = ap books_of c.pop.ensures.rest
    ∙ sym (take-map (λ (p : PassState). p.book) (hands.len - 1) hands.items) in
    subst (AreOfTerms terms) (sym books) (of-terms-take terms (books_of hands.items) (hands.len - 1) c.self.invariant)

pub returns-clause-rest : goal.returns-clause-rest
returns-clause-rest c =
    let terms = arc_value c.self.inside.classes in
    let hands = c.self.inside.hands in
    let at : hands.len - 1 ≡ last_class (class_pass_of terms hands.items) =
    (let l = length-map hands.items (λ (p : PassState). p.book) in let ok = hands.ok.0 in omega (arith, l, ok)) in
    ap (class_pass_of terms) c.pop.ensures.rest ∙ class-pass-take terms hands.items (hands.len - 1)
    ∙ ap (λ n. first_classes n (class_pass_of terms hands.items)) at ∙ ap (λ (q : ClassPassState). first_classes (last_class q) q) c.self.view_is

pub returns-clause-last : goal.returns-clause-last
returns-clause-last c =
    let terms = arc_value c.self.inside.classes in
    let hands = c.self.inside.hands in
    let some : 0 < length (books_of hands.items) = subst (λ (q : ClassPassState). 0 < length q.classes.books) (sym c.self.view_is) c.requires in
    let less : 0 < hands.len = (let l = length-map hands.items (λ (p : PassState). p.book) in let ok = hands.ok.0 in omega (arith, l, ok, some)) in
    let value : c.in-Some.hand ≡ get_or hands.items (hands.len - 1) c.in-Some.hand = same_Some c.in-Some.hand
    (get_or hands.items (hands.len - 1) c.in-Some.hand) (sym c.in-Some.is ∙ c.pop.ensures.value c.in-Some.hand less) in
    subst (λ (q : ClassPassState). IsOfLast q.classes c.in-Some.hand) c.self.view_is
    (last-of terms hands.items (hands.len - 1) c.in-Some.hand (let ok = hands.ok.0 in omega (arith, ok, less)) value c.self.invariant)

pub returns-clause-state : goal.returns-clause-state
returns-clause-state c =
    let terms = arc_value c.self.inside.classes in
    let hands = c.self.inside.hands in
    let some : 0 < length (books_of hands.items) = subst (λ (q : ClassPassState). 0 < length q.classes.books) (sym c.self.view_is) c.requires in
    let less : 0 < hands.len = (let l = length-map hands.items (λ (p : PassState). p.book) in let ok = hands.ok.0 in omega (arith, l, ok, some)) in
    let value : c.in-Some.hand ≡ get_or hands.items (hands.len - 1) c.in-Some.hand = same_Some c.in-Some.hand
    (get_or hands.items (hands.len - 1) c.in-Some.hand) (sym c.in-Some.is ∙ c.pop.ensures.value c.in-Some.hand less) in
    subst (λ (q : ClassPassState). state_with q.classes.terms.class_of (last_class q) c.in-Some.hand ≡ state_in (last_class q) q) c.self.view_is
    (last-state terms hands.items (hands.len - 1) c.in-Some.hand (let ok = hands.ok.0 in omega (arith, ok, less)) value)
