use Rattle.std.proofs.Common.{◌≡◌, ◌∙◌, ℕ, ◌<◌, ◌≤◌, [], Global, List, Vec, ap, arith, get_or, length, map, refl, subst, sym, take}
use Rattle.std.specs.List.{All}
use Rattle.std.proofs.lemmas.List.{length-map, length-set, length-take, length-take-le, take_all}
use Rattle.std.proofs.lemmas.List.Elements.{All-map}
use Rattle.class_books.specs.inner.Numbers.{AreNumbered}
use Rattle.std.proofs.lemmas.Result.{IfOk-from_err}
use Rattle.class_books.proofs.ClassTables.{numbered-none, numbered-turn, rows-few, rows-read}
use Rattle.class_books.proofs.classes.Classes.of.Goals as goal
use Rattle.class_books.proofs.classes.Classes.of.Goals.{After-index_mut-of_class}

abbrev items : Vec ℕ Global → List ℕ
items v = v.items

module _ (c : After-index_mut-of_class) where
  abbrev class_of : List ℕ
  class_of = c.deref-class-items.result.now

  -- the class of the row is one of those that there are
  within : get_or class_of c.loop-row_no.row_no 0 < length c.loop-row_no.rows.items
  within =
      let lt : c.loop-row_no.row_no < length c.args.class_of.items = subst (λ (l : List ℕ). c.loop-row_no.row_no < length l) c.deref-class-items.ensures.value
      (c.loop-row_no-test.true) in
      let small = c.requires.classes c.loop-row_no.row_no 0 lt in
      subst (λ (l : List ℕ). get_or l c.loop-row_no.row_no 0 < length c.loop-row_no.rows.items) (sym c.deref-class-items.ensures.value)
      (subst (λ n. get_or c.args.class_of.items c.loop-row_no.row_no 0 < n) (sym c.loop-row_no.invariant.count) small)

  -- it has at most as many rows as were taken
  few : length c.index_mut-of_class.result.now.items ≤ c.loop-row_no.row_no
  few =
      let rows = rows-read items (take c.loop-row_no.row_no class_of) c.loop-row_no.numbers.items c.loop-row_no.rows.items
      (get_or class_of c.loop-row_no.row_no 0) c.index_mut-of_class.result.now
      c.loop-row_no.invariant.are within c.index_mut-of_class.ensures.value in
      let most = rows-few (get_or class_of c.loop-row_no.row_no 0) 0 (take c.loop-row_no.row_no class_of) in
      let taken = length-take c.loop-row_no.row_no class_of in
      let same = ap length rows in
      omega (arith, most, taken, same)

pub loop-row_no-init : goal.loop-row_no-init
loop-row_no-init c = record {
  are = subst (λ (l : List ℕ). AreNumbered [] l (map items c.in_ok-rows.rows.items)) (sym c.in_ok-numbers.ensures.items)
      (numbered-none (map items c.in_ok-rows.rows.items) (All-map (λ (l : List ℕ). l ≡ []) items c.in_ok-rows.rows.items c.in_ok-rows.ensures.empty));
  count = c.in_ok-rows.ensures.as_many;
  room = refl;
}

pub overflow_cast-len : goal.overflow_cast-len
overflow_cast-len c =
    let most = few ((goal.at.overflow_cast-len c).After-index_mut-of_class) in
    let len = c.len-in-loop-row_no.ensures ∙ c.index_mut-of_class.result.now.ok.0 in
    let same = ap length c.deref-class-items.ensures.value in
    record { fits = omega (arith, most, len, same, c.loop-row_no-test.true, c.requires.rows) }

pub loop-row_no-preserved : goal.loop-row_no-preserved
loop-row_no-preserved c =
    let loop = c.loop-row_no in
    let at = (goal.at.loop-row_no-preserved c).After-index_mut-of_class in
    let list = c.deref-class-items.result.now in
    let rows = c.index_mut-of_class.result.now in
    let new = c.push.new.self in
    let size = c.len-in-loop-row_no.ensures ∙ rows.ok.0 in
    record {
      are = numbered-turn items list loop.numbers.items c.push_reserved.new.self.items loop.rows.items loop.row_no c.len-in-loop-row_no.result rows new
          c.loop-row_no-test.true (within at) c.index_mut-of_class.ensures.value size c.push_reserved.ensures.items c.in_ok-push.ensures.items
          loop.invariant.are;
      count = length-set loop.rows.items (get_or list loop.row_no 0) new ∙ loop.invariant.count;
      room = c.push_reserved.ensures.capacity ∙ loop.invariant.room;
    }

pub index_mut-of_class-requires : goal.index_mut-of_class-requires
index_mut-of_class-requires c =
    let row = c.loop-row_no.row_no in
    let value = c.deref-class-items.ensures.value in
    let small = c.requires.classes row 0 (subst (λ (l : List ℕ). row < length l) value c.loop-row_no-test.true) in
    let within : get_or c.deref-class-items.result.now row 0 < c.args.classes = subst (λ (l : List ℕ). get_or l row 0 < c.args.classes) (sym value) small in
    let count = c.loop-row_no.invariant.count in
    omega (arith, within, count, c.loop-row_no.rows.ok.0)

pub push_reserved-requires : goal.push_reserved-requires
push_reserved-requires c =
    let loop = c.loop-row_no in
    let lt = c.loop-row_no-test.true in
    let inv = loop.invariant in
    let numbered = inv.are.as_many in
    let room = inv.room in
    let taken = length-take-le loop.row_no c.deref-class-items.result.now (omega (arith, lt)) in
    let size = ap length c.deref-class-items.ensures.value in
    omega (arith, lt, numbered, room, taken, size, loop.numbers.ok.0, c.in_ok-numbers.ensures.capacity, c.len.ensures, c.args.class_of.ok.0)

pub overflow_cast-row_no : goal.overflow_cast-row_no
overflow_cast-row_no c =
    let size = ap length c.deref-class-items.ensures.value in
    record { fits = omega (arith, size, c.loop-row_no-test.true, c.requires.rows) }

pub returns-in_err-rows : goal.returns-in_err-rows
returns-in_err-rows c = IfOk-from_err _ _ c.from_residual.ensures.0

pub returns-in_err-numbers : goal.returns-in_err-numbers
returns-in_err-numbers c = IfOk-from_err _ _ c.from_residual-in_err-numbers.ensures.0

pub returns-in_err-push : goal.returns-in_err-push
returns-in_err-push c = IfOk-from_err _ _ c.from_residual-in_err-push.ensures.0

pub invariant_of-result : goal.invariant_of-result
invariant_of-result c =
    let loop = c.loop-row_no in
    let list = c.deref-class-items.result.now in
    let rows = map items loop.rows.items in
    let count : length rows ≡ c.args.classes = length-map loop.rows.items items ∙ loop.invariant.count in
    let all : take loop.row_no list ≡ c.args.class_of.items = take_all loop.row_no list (omega (arith, c.loop-row_no-test.false))
    ∙ c.deref-class-items.ensures.value in
    record {
      few = c.requires.rows;
      within = subst (λ n. All (λ class. class < n) c.args.class_of.items) (sym count) c.requires.classes;
      are = subst (λ (l : List ℕ). AreNumbered l loop.numbers.items rows) all loop.invariant.are;
    }

pub returns : goal.returns
returns c =
    let count = c.loop-row_no.invariant.count in
    λ i. record { class_of = c.args.class_of.items; classes = count i; limit = c.args.limit; passes = c.args.passes }
