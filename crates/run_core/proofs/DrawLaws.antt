-- Each number is drawn once, whatever the order of the draws.
use Rattle.std.proofs.Common.{◌≡◌, ◌≢◌, ℕ, ◌+◌, ◌-◌, ◌<◌, ◌≤◌, Bool, true, false, List, [], ◌∷◌, length, get_or, set, replicate, min, cond, Some, None, nat_lt}
use Rattle.std.proofs.Common.{eqb, refl, sym, ap, ◌∙◌, ⊎_elim, arith}
use Rattle.std.specs.List.{Any, count_by}
use Rattle.std.proofs.lemmas.Bool.Decides.{eqb_tells}
use Rattle.std.proofs.lemmas.List.Folds.{sum_by-replicate}
use Rattle.std.proofs.lemmas.List.Sums.{get_or-le-sum_by, sum_by-set, sum_by_push}
use borrow.Author.Tests.{ltb-true, ltb-false}
use Rattle.run_core.specs.Laws.{AreDrawn, DrawnLaw}
use Rattle.run_core.specs.Runs.{MayCome, run}
use Rattle.run_core.specs.States.{CoreParts, start_of}
use Rattle.run_core.specs.Steps.{after, after_draw}
use Rattle.run_core.specs.Workers.{WorkerState, having_drawn, idle, next_after, number_for}
use Rattle.run_core.specs.declared.event.CoreEvent.{CoreEvent}
use Rattle.run_core.specs.declared.event.CoreEvent.TheVariants as event
use Rattle.run_core.specs.inner.Counts.{AreCounted, once_below}

-- ---- one draw

-- how often a worker drew the number
abbrev times : ℕ → WorkerState → ℕ
times number w = count_by (λ x. eqb x number) w.drawn

abbrev one_if : Bool → ℕ
one_if b = cond b 1 0

abbrev ends : WorkerState → ℕ
ends w = one_if w.ended

one_more : (number next : ℕ) → once_below number (next + 1) ≡ once_below number next + one_if (eqb next number)
one_more number next = ⊎_elim (λ (t : (eqb next number ≡ true) × (next ≡ number)). here t.0 t.1)
    (λ (f : (eqb next number ≡ false) × (next ≢ number)). apart f.0 f.1) (eqb_tells next number)
  where
    here : eqb next number ≡ true → next ≡ number → once_below number (next + 1) ≡ once_below number next + one_if (eqb next number)
    here test same = let one : one_if (eqb next number) ≡ one_if true = ap one_if test in omega (arith, one, same)

    apart : eqb next number ≡ false → next ≢ number → once_below number (next + 1) ≡ once_below number next + one_if (eqb next number)
    apart test other = let none : one_if (eqb next number) ≡ one_if false = ap one_if test in omega (arith, none, other)

module _ (rows next k : ℕ) (workers : List WorkerState) (counted : AreCounted rows next workers) (within : k < length workers) where
  abbrev drawer : WorkerState
  drawer = get_or workers k idle

  -- a worker changes, and the next number with it
  counted_set : (later : ℕ) (new : WorkerState)
      → ((number : ℕ) → times number new + once_below number (min next rows) ≡ times number drawer + once_below number (min later rows))
      → ends new + (next - rows) ≡ ends drawer + (later - rows)
      → AreCounted rows later (set workers k new)
  counted_set later new drew told = record {
    each = λ number. (let change = sum_by-set (times number) workers k new idle within in let before = counted.each number in let now = drew number in
        omega (arith, change, before, now));
    ends = (let change = sum_by-set ends workers k new idle within in let before = counted.ends in omega (arith, change, before, told));
  }

  -- a worker that was told that none is left
  told_again : drawer.ended ≡ true → AreCounted rows next (set workers k (having_drawn drawer None))
  told_again ended = counted_set next (having_drawn drawer None) (λ number. refl) (ap (λ b. one_if b + (next - rows)) (sym ended))

  -- a number is left
  drew_next : next < rows → AreCounted rows (next + 1) (set workers k (having_drawn drawer (Some next)))
  drew_next less = counted_set (next + 1) (having_drawn drawer (Some next)) more (omega (arith, less))
    where
      more : (number : ℕ) → times number (having_drawn drawer (Some next)) + once_below number (min next rows)
          ≡ times number drawer + once_below number (min (next + 1) rows)
      more number =
          let push = sum_by_push (λ (x : ℕ). one_if (eqb x number)) drawer.drawn next in
          let step = one_more number next in
          let now : min next rows ≡ next = omega (arith, less) in
          let later : min (next + 1) rows ≡ next + 1 = omega (arith, less) in
          rw (now, later) (omega (arith, push, step))

  -- none is left
  drew_none : drawer.ended ≡ false → rows ≤ next → AreCounted rows (next + 1) (set workers k (having_drawn drawer None))
  drew_none goes past = counted_set (next + 1) (having_drawn drawer None) same (let none : ends drawer ≡ 0 = ap one_if goes in omega (arith, past, none))
    where
      same : (number : ℕ) → times number drawer + once_below number (min next rows) ≡ times number drawer + once_below number (min (next + 1) rows)
      same number = let now : min (next + 1) rows ≡ min next rows = omega (arith, past) in rw now refl

  -- the draws stay counted
  counted_draw : AreCounted rows (next_after drawer next) (set workers k (having_drawn drawer (number_for drawer next rows)))
  counted_draw = by drawer.ended refl (nat_lt next rows) refl
    where
      by : (b : Bool) → drawer.ended ≡ b → (left : Bool) → nat_lt next rows ≡ left → AreCounted rows (cond b next (next + 1))
          (set workers k (having_drawn drawer (cond b None (cond left (Some next) None))))
      by true ended left is = told_again ended
      by false goes true is = drew_next (ltb-true next rows is)
      by false goes false is = drew_none goes (ltb-false next rows is)

-- ---- all events

-- nothing is drawn at first
counted_start : (rows workers : ℕ) → AreCounted rows 0 (replicate workers idle)
counted_start rows workers = record {
  each = λ number. (let none = sum_by-replicate (times number) workers idle in omega (arith, none));
  ends = (let none = sum_by-replicate ends workers idle in omega (arith, none));
}

counted_run : (state : CoreParts) (events : List CoreEvent) → MayCome state events → AreCounted state.rows state.next state.workers
    → AreCounted state.rows (run state events).next (run state events).workers
counted_run state [] may counted = counted
counted_run state (event.Draw worker ∷ events) may counted = counted_run (after_draw state worker) events may.2
    (counted_draw state.rows state.next worker state.workers counted may.1)
counted_run state (event.Publish worker system ∷ events) may counted = counted_run (after state (event.Publish worker system)) events may.2 counted
counted_run state (event.Claim worker row ranking ∷ events) may counted = counted_run (after state (event.Claim worker row ranking)) events may.2 counted

-- what is counted is drawn once
drawn_from_counted : (rows next : ℕ) (workers : List WorkerState) → AreCounted rows next workers → AreDrawn rows (min next rows) workers
drawn_from_counted rows next workers counted = record {
  few = omega arith;
  once = λ number below. (let is = counted.each number in omega (arith, is, below));
  no_other = λ number past. (let is = counted.each number in omega (arith, is, past));
  all = λ told. (let some_one = some_end told in let is = counted.ends in omega (arith, some_one, is));
}
  where
    some_end : Any (λ (w : WorkerState). w.ended ≡ true) workers → 0 < count_by (λ (w : WorkerState). w.ended) workers
    some_end told =
        let one = get_or-le-sum_by ends workers told.0 told.1 told.2 in
        let is : ends (get_or workers told.0 told.1) ≡ 1 = ap ends told.3 ∙ ap one_if told.4 in omega (arith, one, is)

pub drawn_once : DrawnLaw
drawn_once rows workers edits book events may =
    let state = start_of rows workers edits book in
    let end = run state events in
    (min end.next rows, drawn_from_counted rows end.next end.workers (counted_run state events may (counted_start rows workers)))
