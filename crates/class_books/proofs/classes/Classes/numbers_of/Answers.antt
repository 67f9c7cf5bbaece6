use Rattle.std.proofs.Common.{◌≡◌, ◌∙◌, ◌<◌, List, ℕ, arith, length, refl, subst, take}
use Rattle.std.proofs.lemmas.List.{length-set, take_all}
use Rattle.class_books.specs.inner.Numbers.{AreNumbersOf}
use Rattle.class_books.proofs.ClassTables.{numbers-more, numbers-none}
use Rattle.class_books.proofs.classes.Classes.numbers_of.Goals as goal

pub loop-place-init : goal.loop-place-init
loop-place-init c = record { size = refl; are = λ class all. numbers-none c.args.self.now.class_of class }

pub loop-place-preserved : goal.loop-place-preserved
loop-place-preserved c =
    let loop = c.loop-place in
    let rows = c.args.rows.now in
    let lt : loop.place < length rows = omega arith in
    record {
      size = length-set loop.numbers loop.place c.number_of.result ∙ loop.invariant.size;
      are = λ class all. numbers-more c.args.self.now.class_of class rows loop.numbers loop.place c.number_of.result lt
          (let size = loop.invariant.size in let few = c.requires.few in omega (arith, size, few, lt)) (loop.invariant.are class all)
          (c.number_of.ensures class (all loop.place 0 lt));
    }

pub returns : goal.returns
returns c class all =
    let rows = c.args.rows.now in
    let numbers = c.loop-place.numbers in
    let end : c.loop-place.place ≡ length rows = omega arith in
    subst (λ (l : List ℕ). AreNumbersOf c.args.self.now.class_of class l (take (length rows) numbers)) (take_all (length rows) rows (omega arith))
    (subst (λ n. AreNumbersOf c.args.self.now.class_of class (take n rows) (take n numbers)) end (c.loop-place.invariant.are class all))
