use Rattle.std.proofs.Common.{◌∙◌, ◌≡◌, ◌++◌, [], ◌∷◌, ap, length, sym, subst}
use Rattle.std.specs.Arc.{arc_value}
use Rattle.std.proofs.lemmas.List.{map_push}
use Rattle.donor_book.specs.Passes.{PassState}
use Rattle.class_books.specs.ClassPasses.{ClassPassState}
use Rattle.class_books.specs.inner.Hands.{AreOfTerms, books_of, class_pass_of, with_class}
use Rattle.class_books.specs.inner.Numbers.{class_terms}
use Rattle.class_books.proofs.ClassPassLaws.{class-pass-push, of-terms-push}
use Rattle.class_books.proofs.pass.ClassPass.add.Goals as goal

pub invariant_of-self-2 : goal.invariant_of-self-2
invariant_of-self-2 c =
    let terms = arc_value c.self.inside.classes in
    let hands = c.self.inside.hands.items in
    let items : c.push.new.self.items ≡ hands ++ c.args.pass ∷ [] = c.in_ok-push.ensures.items ∙ ap (λ (p : PassState). hands ++ p ∷ []) c.in_ok-of.ensures in
    let books : books_of c.push.new.self.items ≡ books_of hands ++ c.args.pass.book ∷ [] = ap books_of items
    ∙ map_push (λ (p : PassState). p.book) hands c.args.pass in
    let own : c.args.pass.book.terms ≡ class_terms terms (length (books_of hands)) =
    c.requires.terms ∙ ap (λ (q : ClassPassState). class_terms q.classes.terms (length q.classes.books)) (sym c.self.view_is) in
    subst (AreOfTerms terms) (sym books) (of-terms-push terms (books_of hands) c.args.pass.book c.self.invariant own)

pub returns : goal.returns
returns c =
    let terms = arc_value c.self.inside.classes in
    let hands = c.self.inside.hands.items in
    let items : c.push.new.self.items ≡ hands ++ c.args.pass ∷ [] = c.in_ok-push.ensures.items ∙ ap (λ (p : PassState). hands ++ p ∷ []) c.in_ok-of.ensures in
    ap (class_pass_of terms) items ∙ class-pass-push terms hands c.args.pass c.requires.seen c.requires.mine
    ∙ ap (λ (q : ClassPassState). with_class q c.args.pass.book) c.self.view_is
