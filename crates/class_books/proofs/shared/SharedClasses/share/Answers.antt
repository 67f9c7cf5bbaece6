use Rattle.std.proofs.Common.{◌≡◌, ◌∙◌, ◌+◌, ◌<◌, List, ap, arith, length, refl, subst, sym}
use Rattle.std.specs.Arc.{arc_value}
use Rattle.std.specs.List.{All}
use Rattle.std.proofs.lemmas.List.{length_push}
use Rattle.donor_book.specs.Passes.{BookName}
use Rattle.class_books.specs.ClassPasses.{ClassPassState, ClassTerms, IsFreshPass}
use Rattle.class_books.specs.inner.Hands.{AreOfTerms, fresh_pass, name_of}
use Rattle.class_books.specs.inner.Numbers.{class_terms, rows_in}
use Rattle.class_books.proofs.ClassPassLaws.{fresh-is, fresh-push, of-terms-push}
use Rattle.class_books.proofs.shared.SharedClasses.share.Goals as goal

pub loop-class-preserved : goal.loop-class-preserved
loop-class-preserved c =
    let loop = c.loop-class in
    let inv = loop.invariant in
    let terms = arc_value c.in_ok-tables-2.tables in
    let books = loop.books.items in
    let book = c.in_ok-book.book in
    let items = c.push_reserved.ensures.items in
    let terms_is : terms ≡ record { class_of = c.args.class_of.items; classes = c.args.classes; limit = c.args.limit; passes = c.args.passes } =
    c.in_ok-tables-2.ensures.ok ∙ c.in_ok-tables.ensures in
    let rows : length c.rows_of.result.now ≡ length (rows_in terms.class_of (length books)) =
    ap length (c.rows_of.ensures.rows ∙ ap (λ (t : ClassTerms). rows_in t.class_of loop.class) c.deref.ensures)
    ∙ ap (λ k. length (rows_in terms.class_of k)) (sym inv.as_many) in
    let limit = sym (ap (λ (t : ClassTerms). t.limit) terms_is) in
    let passes = sym (ap (λ (t : ClassTerms). t.passes) terms_is) in
    let own : book.terms ≡ class_terms terms (length books) = c.in_ok-book.ensures.terms
    ∙ (λ i. record { limit = limit i; donors = rows i; rows = rows i; passes = passes i }) in
    let dealt = c.in_ok-deal.ensures.dealt (fresh_pass terms books) book inv.dealt (λ k d lt. (c.in_ok-book.ensures.fresh k d lt).book) in
    record {
      as_many = ap length items ∙ length_push books book ∙ ap (λ n. n + 1) inv.as_many;
      terms = subst (AreOfTerms terms) (sym items) (of-terms-push terms books book inv.terms own);
      dealt = λ k d lt. dealt k d lt ∙ fresh-push terms books book ∙ ap (fresh_pass terms) (sym items);
      passes = c.in_ok-deal.ensures.as_many ∙ inv.passes;
      room = c.push_reserved.ensures.capacity ∙ inv.room;
    }

pub returns-clause-fresh : goal.returns-clause-fresh
returns-clause-fresh c k d lt =
    let terms = arc_value c.in_ok-tables-2.tables in
    let books = c.loop-class.books.items in
    subst (IsFreshPass (name_of terms books)) (sym (c.loop-class.invariant.dealt k d lt)) (fresh-is terms books)

pub loop-class-init : goal.loop-class-init
loop-class-init c =
    let terms = arc_value c.in_ok-tables-2.tables in
    let empty = c.in_ok-books.ensures.items in
    record {
      as_many = ap length empty;
      terms = subst (AreOfTerms terms) (sym empty) (λ class d lt. absurd (omega (arith, lt)));
      dealt = subst (λ (l : List BookName). All (λ (q : ClassPassState). q ≡ fresh_pass terms l) c.in_ok-all.all.items) (sym empty) c.in_ok-all.ensures.fresh;
      passes = c.in_ok-all.ensures.as_many;
      room = refl;
    }

pub rows_of-requires : goal.rows_of-requires
rows_of-requires c =
    subst (λ (t : ClassTerms). c.loop-class.class < t.classes) (sym (c.deref.ensures ∙ c.in_ok-tables-2.ensures.ok ∙ c.in_ok-tables.ensures))
    c.loop-class-test.true

pub deal-requires-clause-as_many : goal.deal-requires-clause-as_many
deal-requires-clause-as_many c = c.in_ok-book.ensures.passes ∙ sym c.loop-class.invariant.passes

pub deal-requires-clause-next : goal.deal-requires-clause-next
deal-requires-clause-next c k d lt k' d' lt' =
    let inv = c.loop-class.invariant in
    let terms = arc_value c.in_ok-tables-2.tables in
    let books = c.loop-class.books.items in
    let fresh = c.in_ok-book.ensures.fresh k' d' lt' in
    let terms_is : terms ≡ record { class_of = c.args.class_of.items; classes = c.args.classes; limit = c.args.limit; passes = c.args.passes } =
    c.in_ok-tables-2.ensures.ok ∙ c.in_ok-tables.ensures in
    let rows : length c.rows_of.result.now ≡ length (rows_in terms.class_of (length books)) =
    ap length (c.rows_of.ensures.rows ∙ ap (λ (t : ClassTerms). rows_in t.class_of c.loop-class.class) c.deref.ensures)
    ∙ ap (λ n. length (rows_in terms.class_of n)) (sym inv.as_many) in
    let limit = sym (ap (λ (t : ClassTerms). t.limit) terms_is) in
    let passes = sym (ap (λ (t : ClassTerms). t.passes) terms_is) in
    let own : c.in_ok-book.book.terms ≡ class_terms terms (length books) = c.in_ok-book.ensures.terms
    ∙ (λ i. record { limit = limit i; donors = rows i; rows = rows i; passes = passes i }) in
    record {
      terms = ap (λ (b : BookName). b.terms) fresh.book ∙ own
          ∙ sym (ap (λ (q : ClassPassState). class_terms q.classes.terms (length q.classes.books)) (inv.dealt k d lt));
      seen = fresh.seen;
      mine = fresh.mine;
    }

pub push_reserved-requires : goal.push_reserved-requires
push_reserved-requires c =
    let inv = c.loop-class.invariant in
    let as_many = inv.as_many in
    let room = inv.room in
    omega (arith, as_many, room, c.loop-class.books.ok.0, c.in_ok-books.ensures.capacity, c.loop-class-test.true)

pub invariant_of-shared : goal.invariant_of-shared
invariant_of-shared c =
    let terms = arc_value c.in_ok-tables-2.tables in
    let inv = c.loop-class.invariant in
    let terms_is : terms ≡ record { class_of = c.args.class_of.items; classes = c.args.classes; limit = c.args.limit; passes = c.args.passes } =
    c.in_ok-tables-2.ensures.ok ∙ c.in_ok-tables.ensures in
    let classes = ap (λ (t : ClassTerms). t.classes) terms_is in
    let as_many = inv.as_many in
    let end = c.loop-class.auto.class-end in
    record {
      some = subst (λ (t : ClassTerms). 0 < t.passes) (sym terms_is) c.requires.passes;
      as_many = omega (arith, as_many, classes, end, c.loop-class-test.false);
      terms_are = inv.terms;
      empty = c.in_ok-histories.ensures.items;
      room = omega (arith, classes, c.in_ok-histories.ensures.capacity);
    }

pub returns-clause-terms : goal.returns-clause-terms
returns-clause-terms c = c.in_ok-tables-2.ensures.ok ∙ c.in_ok-tables.ensures

pub returns-clause-passes : goal.returns-clause-passes
returns-clause-passes c = c.loop-class.invariant.passes
