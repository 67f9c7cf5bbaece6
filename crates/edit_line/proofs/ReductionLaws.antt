use Rattle.std.proofs.Common.{◌≡◌, ◌↔◌, zero, suc, ◌++◌, ◌||◌, Bool, true, false, not, if◌then◌else◌, List, [], ◌∷◌, All, ◌⊎◌, inl, inr, refl, sym, ap, ◌∙◌}
use Rattle.std.proofs.Common.{subst, arith}
use Rattle.std.specs.List.{filter, fold, list_any}
use Rattle.edit_model.specs.Points.{Point}
use Rattle.edit_line.specs.Lines.{AllHold, AreOver, Follows, HasShape, HaveOneShape, HaveShape, LineHolds, LineParts}
use Rattle.edit_line.specs.Reductions.{IsCovered, IsIn, lines_of, reduce, reduce_derived, with_derived, with_line}
use Rattle.edit_line.specs.Shapes.{Domain}
use Rattle.edit_line.specs.Subsumption.{is_trivial, subsumes}
use Rattle.edit_line.specs.declared.derived.Derived.{Derived}
use Rattle.edit_line.proofs.Members.{all-in, in-all, in-any, in-filter, in-left, in-reduced, in-right, in-taken}
use Rattle.edit_line.proofs.SubsumptionLaws.{subsumes-follows, trivial-holds}

-- A list of lines without its trivial and subsumed ones says what the list says.

-- ---- what stays was there

kept-from : (line new : LineParts) (kept : List LineParts) → IsIn line (with_line kept new) → IsIn line kept ⊎ (line ≡ new)
kept-from line new kept h = in-taken (is_trivial new || list_any (λ a. subsumes a new) kept) (λ b. not (subsumes new b)) line new kept h

-- each reduced line is one of the lines
pub reduce-from : (line : LineParts) (lines : List LineParts) → IsIn line (reduce lines) → IsIn line lines
reduce-from line lines h = in-reduced with_line kept-from line lines h

-- so they have what the lines have
pub all-reduce : (P : LineParts → Type 0) (lines : List LineParts) → All P lines → All P (reduce lines)
all-reduce P lines all = all-in P (reduce lines) (λ line there. in-all P line lines all (reduce-from line lines there))

-- ---- what goes is trivial, or follows from what stays

follows-through : (a b c : LineParts) → Follows (a ∷ []) b → Follows (b ∷ []) c → Follows (a ∷ []) c
follows-through a b c first second p holds = second p (one p (first p holds))
  where
    one : (p : Point) → LineHolds b p → AllHold (b ∷ []) p
    one p h zero d below = h
    one p h (suc k) d below = absurd (omega arith)

follows-itself : (a : LineParts) → Follows (a ∷ []) a
follows-itself a p holds = holds 0 a (omega arith)

module _ (shape : List Domain) where
  -- a kept line is covered after one more
  kept-covered : (line new : LineParts) (kept : List LineParts) → new.shape ≡ shape → line.shape ≡ shape → IsIn line kept → (s : LineParts)
      × IsIn s (with_line kept new) × Follows (s ∷ []) line
  kept-covered line new kept new_over over there = by (is_trivial new || list_any (λ a. subsumes a new) kept)
    where
      by_test : (t : Bool) → subsumes new line ≡ t → (s : LineParts) × IsIn s (filter (λ b. not (subsumes new b)) kept ++ new ∷ []) × Follows (s ∷ []) line
      by_test true e = (new, in-right new (filter (λ b. not (subsumes new b)) kept) (new ∷ []) (inl refl), subsumes-follows new line (over ∙ sym new_over) e)
      by_test false e = (
        line,
        in-left line (filter (λ b. not (subsumes new b)) kept) (new ∷ [])
            (in-filter (λ b. not (subsumes new b)) line kept (ap not e) there),
        follows-itself line,
      )

      by : (b : Bool) → (s : LineParts) × IsIn s (if b then kept else filter (λ b. not (subsumes new b)) kept ++ new ∷ []) × Follows (s ∷ []) line
      by true = (line, there, follows-itself line)
      by false = by_test (subsumes new line) refl

  -- and so is the new line
  new-covered : (new : LineParts) (kept : List LineParts) → new.shape ≡ shape → All (λ (line : LineParts). line.shape ≡ shape) kept
      → IsCovered (with_line kept new) new
  new-covered new kept new_over over = by (is_trivial new) (list_any (λ a. subsumes a new) kept) refl refl
    where
      by : (t s : Bool) → is_trivial new ≡ t → list_any (λ a. subsumes a new) kept ≡ s → IsCovered
          (if t || s then kept else filter (λ b. not (subsumes new b)) kept ++ new ∷ []) new
      by true s trivial any = inl trivial
      by false true trivial any =
          let (a, there, test) = in-any (λ a. subsumes a new) kept any in
          inr (a, there, subsumes-follows a new (new_over ∙ sym (in-all (λ (line : LineParts). line.shape ≡ shape) a kept over there)) test)
      by false false trivial any = inr (new, in-right new (filter (λ b. not (subsumes new b)) kept) (new ∷ []) (inl refl), follows-itself new)

  over-more : (new : LineParts) (kept : List LineParts) → new.shape ≡ shape → All (λ (line : LineParts). line.shape ≡ shape) kept
      → All (λ (line : LineParts). line.shape ≡ shape) (with_line kept new)
  over-more new kept new_over over = all-in (λ (line : LineParts). line.shape ≡ shape) (with_line kept new)
      (λ line there. from line (kept-from line new kept there))
    where
      from : (line : LineParts) → IsIn line kept ⊎ (line ≡ new) → line.shape ≡ shape
      from line (inl old) = in-all (λ (line : LineParts). line.shape ≡ shape) line kept over old
      from line (inr same) = ap (λ (l : LineParts). l.shape) same ∙ new_over

  -- a line that is covered stays so
  covered-on : (line : LineParts) (kept lines : List LineParts) → AreOver shape kept → AreOver shape lines → IsCovered kept line
      → IsCovered (fold with_line kept lines) line
  covered-on line kept [] over rest covered = covered
  covered-on line kept (new ∷ lines) over rest (inl trivial) = inl trivial
  covered-on line kept (new ∷ lines) over rest (inr (s, there, follows)) =
      let new_over = rest 0 new (omega arith) in
      let (t, now, from) = kept-covered s new kept new_over (in-all (λ (line : LineParts). line.shape ≡ shape) s kept over there) there in
      covered-on line (with_line kept new) lines (over-more new kept new_over over) (λ k d below. rest (suc k) d (omega arith))
      (inr (t, now, follows-through t s line from follows))

  fold-covers : (kept lines : List LineParts) → AreOver shape kept → AreOver shape lines → All (λ line. IsCovered (fold with_line kept lines) line) lines
  fold-covers kept [] over rest k d below = absurd (omega arith)
  fold-covers kept (new ∷ lines) over rest zero d below =
      let new_over = rest 0 new (omega arith) in
      covered-on new (with_line kept new) lines (over-more new kept new_over over) (λ k d below. rest (suc k) d (omega arith))
      (new-covered new kept new_over over)
  fold-covers kept (new ∷ lines) over rest (suc k) d below =
      fold-covers (with_line kept new) lines (over-more new kept (rest 0 new (omega arith)) over) (λ j e under. rest (suc j) e (omega arith)) k d (omega arith)

  -- each line is trivial, or follows from one that stays
  pub reduce-covers : (lines : List LineParts) → AreOver shape lines → All (λ line. IsCovered (reduce lines) line) lines
  reduce-covers lines over = fold-covers [] lines (λ k d below. absurd (omega arith)) over

-- the reduced lines hold where the lines do
pub reduce-holds : (lines : List LineParts) (p : Point) → AllHold lines p → AllHold (reduce lines) p
reduce-holds lines p = all-reduce (λ line. LineHolds line p) lines

-- and the other way round
pub holds-reduce : (shape : List Domain) (lines : List LineParts) (p : Point) → AreOver shape lines → AllHold (reduce lines) p → AllHold lines p
holds-reduce shape lines p over holds = λ k d below. by _ (reduce-covers shape lines over k d below)
  where
    by : (line : LineParts) → IsCovered (reduce lines) line → LineHolds line p
    by line (inl trivial) = trivial-holds line p trivial
    by line (inr (s, there, follows)) = follows p (one (in-all (λ l. LineHolds l p) s (reduce lines) holds there))
      where
        one : LineHolds s p → AllHold (s ∷ []) p
        one h zero d below = h
        one h (suc k) d below = absurd (omega arith)

pub HaveShape-reduce : (shape : List Domain) (lines : List LineParts) → HaveShape shape lines → HaveShape shape (reduce lines)
HaveShape-reduce shape lines = all-reduce (λ line. HasShape shape line) lines

-- ---- the same of lines with their origins

pub lines_of-append : (first second : List Derived) → lines_of (first ++ second) ≡ lines_of first ++ lines_of second
lines_of-append [] second = refl
lines_of-append (d ∷ first) second = ap (λ (ls : List LineParts). d.line ∷ ls) (lines_of-append first second)

filter-lines : (test : LineParts → Bool) (lines : List Derived) → lines_of (filter (λ (d : Derived). test d.line) lines) ≡ filter test (lines_of lines)
filter-lines test [] = refl
filter-lines test (d ∷ lines) = by (test d.line) (filter-lines test lines)
  where
    by : (b : Bool) → lines_of (filter (λ (d : Derived). test d.line) lines) ≡ filter test (lines_of lines)
        → lines_of (if b then d ∷ filter (λ (d : Derived). test d.line) lines else filter (λ (d : Derived). test d.line) lines)
        ≡ (if b then d.line ∷ filter test (lines_of lines) else filter test (lines_of lines))
    by true e = ap (λ (ls : List LineParts). d.line ∷ ls) e
    by false e = e

any-lines : (test : LineParts → Bool) (lines : List Derived) → list_any (λ (d : Derived). test d.line) lines ≡ list_any test (lines_of lines)
any-lines test [] = refl
any-lines test (d ∷ lines) = ap (λ b. test d.line || b) (any-lines test lines)

with_derived-lines : (kept : List Derived) (new : Derived) → lines_of (with_derived kept new) ≡ with_line (lines_of kept) new.line
with_derived-lines kept new = by (is_trivial new.line) (list_any (λ (a : Derived). subsumes a.line new.line) kept)
    (list_any (λ a. subsumes a new.line) (lines_of kept)) (any-lines (λ a. subsumes a new.line) kept)
  where
    appended : lines_of (filter (λ (b : Derived). not (subsumes new.line b.line)) kept ++ new ∷ []) ≡ filter (λ b. not (subsumes new.line b)) (lines_of kept)
        ++ new.line ∷ []
    appended = lines_of-append (filter (λ (b : Derived). not (subsumes new.line b.line)) kept) (new ∷ [])
        ∙ ap (λ (ls : List LineParts). ls ++ new.line ∷ []) (filter-lines (λ b. not (subsumes new.line b)) kept)

    by : (t s u : Bool) → s ≡ u → lines_of (if t || s then kept else filter (λ (b : Derived). not (subsumes new.line b.line)) kept ++ new ∷ [])
        ≡ (if t || u then lines_of kept else filter (λ b. not (subsumes new.line b)) (lines_of kept) ++ new.line ∷ [])
    by true s u e = refl
    by false true true e = refl
    by false false false e = appended
    by false true false e = absurd (cc)
    by false false true e = absurd (cc)

fold-lines : (kept lines : List Derived) → lines_of (fold with_derived kept lines) ≡ fold with_line (lines_of kept) (lines_of lines)
fold-lines kept [] = refl
fold-lines kept (d ∷ lines) = fold-lines (with_derived kept d) lines ∙ ap (λ (ls : List LineParts). fold with_line ls (lines_of lines))
    (with_derived-lines kept d)

-- the lines of the reduced list are the reduced lines
pub reduce-lines : (lines : List Derived) → lines_of (reduce_derived lines) ≡ reduce (lines_of lines)
reduce-lines lines = fold-lines [] lines

-- what holds of each line holds of each that stays
pub all-reduced : (P : LineParts → Type 0) (lines kept : List Derived) → kept ≡ reduce_derived lines → All P (lines_of lines) → All P (lines_of kept)
all-reduced P lines kept is all = subst (λ (ls : List LineParts). All P ls) (sym (ap (λ (ds : List Derived). lines_of ds) is ∙ reduce-lines lines))
    (all-reduce P (lines_of lines) all)

-- what the reduced list covers, and says
pub reduced-covers : (lines kept : List Derived) → kept ≡ reduce_derived lines → HaveOneShape (lines_of lines)
    → All (λ line. IsCovered (lines_of kept) line) (lines_of lines)
reduced-covers lines kept is (shape, over) =
    let same : lines_of kept ≡ reduce (lines_of lines) = ap (λ (ds : List Derived). lines_of ds) is ∙ reduce-lines lines in
    subst (λ (ls : List LineParts). All (λ line. IsCovered ls line) (lines_of lines)) (sym same) (reduce-covers shape (lines_of lines) over)

pub reduced-same : (lines kept : List Derived) → kept ≡ reduce_derived lines → (p : Point) → HaveOneShape (lines_of lines)
    → AllHold (lines_of kept) p ↔ AllHold (lines_of lines) p
reduced-same lines kept is p (shape, over) =
    let same : lines_of kept ≡ reduce (lines_of lines) = ap (λ (ds : List Derived). lines_of ds) is ∙ reduce-lines lines in (
      λ holds. holds-reduce shape (lines_of lines) p over (subst (λ (ls : List LineParts). AllHold ls p) same holds),
      λ holds. subst (λ (ls : List LineParts). AllHold ls p) (sym same) (reduce-holds (lines_of lines) p holds),
    )
