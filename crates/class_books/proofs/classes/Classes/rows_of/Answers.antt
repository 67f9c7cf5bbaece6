use Rattle.std.proofs.Common.{◌≡◌, ◌∙◌, ℕ, ◌<◌, Global, Vec, ap, arith, length, subst, sym}
use Rattle.class_books.specs.ClassPasses.{ClassTerms}
use Rattle.class_books.specs.inner.Numbers.{rows_in}
use Rattle.class_books.proofs.ClassTables.{rows-few, rows-read}
use Rattle.class_books.proofs.classes.Classes.rows_of.Goals as goal

pub returns : goal.returns
returns c =
    let tables = c.self.inside in
    let class_of = tables.class_of.items in
    let lt : c.args.class < length tables.rows.items = subst (λ (t : ClassTerms). c.args.class < t.classes) (sym c.self.view_is) c.requires in
    let vec = c.index.result.now in
    let read = rows-read (λ (v : Vec ℕ Global). v.items) class_of tables.numbers.items tables.rows.items c.args.class vec c.self.invariant.are lt
    c.index.ensures in
    let rows : c.as_slice.result.now ≡ rows_in class_of c.args.class = c.as_slice.ensures.value ∙ read in
    let most = rows-few c.args.class 0 class_of in
    record {
      rows = rows ∙ ap (λ (t : ClassTerms). rows_in t.class_of c.args.class) c.self.view_is;
      few = (let room = c.self.invariant.few in let same = ap length rows in omega (arith, most, room, same));
    }
