use Rattle.std.proofs.Common.{◌≡◌, ℕ, zero, suc, ◌+◌, ◌==◌, Bool, true, false, if◌then◌else◌, List, [], ◌∷◌, ◌++◌, Option, Some, None, Ok, length}
use Rattle.std.proofs.Common.{length-append, slice_get, refl, sym, ap, ◌∙◌, subst, arith}
use Rattle.std.proofs.lemmas.Bool.Decides.{Decides-eqb, Decides-int_eq}
use Rattle.std.proofs.Common.{append-nil, append_assoc}
use Rattle.std.specs.List.{list_any, position_or_len}
use Rattle.std.specs.Option.{ok_or}
use Rattle.std.specs.Ordering.{int_eq}
use Rattle.foundation.specs.Results.{◌>>=◌}
use Rattle.foundation.specs.Options.{◌>>?◌}
use Rattle.edit_model.specs.declared.value.Value.{Value}
use Rattle.edit_line.specs.Lines.{LineParts}
use Rattle.edit_line.proofs.BoolLaws.{both_true}
use Rattle.derivation.specs.LineLists.{AreLinesOf, line_by, lines_from}
use Rattle.derivation.specs.Premises.{Premises, premises_of}
use Rattle.derivation.specs.SharedLines.{is_same, place_in, with_step}
use Rattle.derivation.specs.ValidSteps.{as_line, combined_line}
use Rattle.derivation.specs.declared.step.Step.{Step}
use Rattle.derivation.specs.declared.step.Step.TheVariants as step
use Rattle.derivation.proofs.CoverLaws.{was-some}

-- A table grows at its end, and what its steps give stays.

-- ---- lists that grow at their end

pub get-more : {X : Type 0} (xs ys : List X) (i : ℕ) (x : X) → slice_get xs i ≡ Some x → slice_get (xs ++ ys) i ≡ Some x
get-more [] ys i x e = absurd (cc)
get-more (y ∷ xs) ys zero x e = e
get-more (y ∷ xs) ys (suc i) x e = get-more xs ys i x e

pub get-behind : {X : Type 0} (xs ys : List X) (i j : ℕ) → i ≡ length xs + j → slice_get (xs ++ ys) i ≡ slice_get ys j
get-behind [] ys i j is = let same : i ≡ j = omega arith in ap (slice_get ys) same
get-behind (x ∷ xs) ys zero j is = absurd (omega arith)
get-behind (x ∷ xs) ys (suc i) j is = get-behind xs ys i j (omega arith)

pub get-end : {X : Type 0} (xs : List X) (x : X) → slice_get (xs ++ x ∷ []) (length xs) ≡ Some x
get-end xs x = get-behind xs (x ∷ []) (length xs) 0 (omega arith)

-- ---- steps that are equal

pub is_same-is : (one other : Step) → is_same one other ≡ true → one ≡ other
is_same-is (step.Given i) (step.Given j) e = ap (λ n. step.Given n) ((Decides-eqb i j).0 e)
is_same-is (step.Combine a m b n g) (step.Combine c k d l h) e =
    let (first, rest) = both_true (a == c) _ e in
    let (second, rest2) = both_true (int_eq m k) _ rest in
    let (third, rest3) = both_true (b == d) _ rest2 in
    let (fourth, fifth) = both_true (int_eq n l) _ rest3 in
    let a_is = (Decides-eqb a c).0 first in
    let m_is = (Decides-int_eq m k).0 second in
    let b_is = (Decides-eqb b d).0 third in
    let n_is = (Decides-int_eq n l).0 fourth in
    let g_is = (Decides-int_eq g h).0 fifth in
    λ i. step.Combine (a_is i) (m_is i) (b_is i) (n_is i) (g_is i)
is_same-is (step.Given i) (step.Combine c k d l h) e = absurd (cc)
is_same-is (step.Given i) (step.Fail a) e = absurd (cc)
is_same-is (step.Given i) (step.Cover field parts) e = absurd (cc)
is_same-is (step.Given i) (step.Fix field part) e = absurd (cc)
is_same-is (step.Combine a m b n g) (step.Given i) e = absurd (cc)
is_same-is (step.Combine a m b n g) (step.Fail c) e = absurd (cc)
is_same-is (step.Combine a m b n g) (step.Cover field parts) e = absurd (cc)
is_same-is (step.Combine a m b n g) (step.Fix field part) e = absurd (cc)
is_same-is (step.Fail a) other e = absurd (cc)
is_same-is (step.Cover field parts) other e = absurd (cc)
is_same-is (step.Fix field part) other e = absurd (cc)

-- the first element that passes a test, where one does
pub first-passes : {X : Type 0} (test : X → Bool) (xs : List X) → list_any test xs ≡ true → (x : X) × (slice_get xs (position_or_len test xs) ≡ Some x)
    × (test x ≡ true)
first-passes test [] e = absurd (cc)
first-passes {X} test (y ∷ xs) e = by (test y) refl (first-passes test xs) e
  where
    by : (b : Bool) → test y ≡ b → (list_any test xs ≡ true → (x : X) × (slice_get xs (position_or_len test xs) ≡ Some x) × (test x ≡ true))
        → list_any test (y ∷ xs) ≡ true
        → (x : X) × (slice_get (y ∷ xs) (position_or_len test (y ∷ xs)) ≡ Some x) × (test x ≡ true)
    by true is later h = (y, rw is refl, is)
    by false is later h = let (x, there, passes) = later (rw is at h) in
        let next : 1 + position_or_len test xs ≡ suc (position_or_len test xs) = omega arith in
        (x, rw is (ap (slice_get (y ∷ xs)) next ∙ there), passes)

-- and where none does
pub none-passes : {X : Type 0} (test : X → Bool) (xs : List X) → list_any test xs ≡ false → position_or_len test xs ≡ length xs
none-passes test [] e = refl
none-passes {X} test (y ∷ xs) e = by (test y) refl (none-passes test xs) e
  where
    by : (b : Bool) → test y ≡ b → (list_any test xs ≡ false → position_or_len test xs ≡ length xs) → list_any test (y ∷ xs) ≡ false
        → position_or_len test (y ∷ xs) ≡ length (y ∷ xs)
    by true is later h = let no_one : true ≡ false = rw is at h in absurd (cc)
    by false is later h = rw is (omega (arith, later (rw is at h)))

module _ (p : Premises) where
  -- ---- the lines of steps

  -- what a step gives, it gives behind more lines
  pub line_by-more : (lines more : List LineParts) (one : Step) (line : LineParts) → line_by p lines one ≡ Some line → line_by p (lines ++ more) one ≡ Some line
  line_by-more lines more (step.Given place) line e = e
  line_by-more lines more (step.Combine a m b n g) line e =
      let (s, first, later) = was-some (slice_get lines a) _ line e in
      let (t, second, last) = was-some (slice_get lines b) _ line later in
      ap (λ (o : Option LineParts). o >>? (λ s. slice_get (lines ++ more) b >>? (λ t. as_line (combined_line m n g s t)))) (get-more lines more a s first)
      ∙ ap (λ (o : Option LineParts). o >>? (λ t. as_line (combined_line m n g s t))) (get-more lines more b t second)
      ∙ last
  line_by-more lines more (step.Fail a) line e = absurd (cc)
  line_by-more lines more (step.Cover field parts) line e = absurd (cc)
  line_by-more lines more (step.Fix field part) line e = absurd (cc)

  -- a step after others, of which all give lines
  module _ (lines : List LineParts) (one : Step) (steps : List Step) where
    pub first-line : (all : List LineParts) → lines_from p lines (one ∷ steps) ≡ Ok all → (line : LineParts) × (line_by p lines one ≡ Some line)
        × (lines_from p (lines ++ line ∷ []) steps ≡ Ok all)
    first-line all e = by (line_by p lines one) refl e
      where
        by : (o : Option LineParts) → line_by p lines one ≡ o → (ok_or o (length lines) >>= (λ x. lines_from p (lines ++ x ∷ []) steps)) ≡ Ok all
            → (line : LineParts) × (line_by p lines one ≡ Some line) × (lines_from p (lines ++ line ∷ []) steps ≡ Ok all)
        by None is h = absurd (cc)
        by (Some line) is h = (line, is, h)

    pub with-first : (line : LineParts) → line_by p lines one ≡ Some line → lines_from p lines (one ∷ steps) ≡ lines_from p (lines ++ line ∷ []) steps
    with-first line e = ap (λ (o : Option LineParts). ok_or o (length lines) >>= (λ x. lines_from p (lines ++ x ∷ []) steps)) e

  -- the lines behind those that there were
  pub lines-behind : (lines : List LineParts) (steps : List Step) (all : List LineParts) → lines_from p lines steps ≡ Ok all → (more : List LineParts)
      × (all ≡ lines ++ more) × (length more ≡ length steps)
  lines-behind lines [] all e = let same : lines ≡ all = cc in ([], sym same ∙ sym (append-nil lines), refl)
  lines-behind lines (one ∷ steps) all e =
      let (line, gives, later) = first-line lines one steps all e in
      let (more, is, long) = lines-behind (lines ++ line ∷ []) steps all later in
      (line ∷ more, is ∙ rw append_assoc refl, omega (arith, long))

  -- as many as there are steps
  pub length-lines : (steps : List Step) (lines : List LineParts) → AreLinesOf p steps lines → length lines ≡ length steps
  length-lines steps lines are = let (more, is, long) = lines-behind [] steps lines are in ap length is ∙ long

  -- one step more at the end
  pub lines-at-end : (lines : List LineParts) (steps : List Step) (all : List LineParts) (one : Step) (line : LineParts) → lines_from p lines steps ≡ Ok all
      → line_by p all one ≡ Some line → lines_from p lines (steps ++ one ∷ []) ≡ Ok (all ++ line ∷ [])
  lines-at-end lines [] all one line e gives =
      let same : lines ≡ all = cc in
      subst (λ (ls : List LineParts). lines_from p ls (one ∷ []) ≡ Ok (all ++ line ∷ [])) (sym same) (with-first all one [] line gives)
  lines-at-end lines (first ∷ steps) all one line e gives =
      let (own, is, later) = first-line lines first steps all e in
      with-first lines first (steps ++ one ∷ []) own is ∙ lines-at-end (lines ++ own ∷ []) steps all one line later gives

  -- the line at a place is that of the step there, from all of them
  line-there : (lines : List LineParts) (steps : List Step) (all : List LineParts) (k : ℕ) (one : Step) → lines_from p lines steps ≡ Ok all → slice_get steps k
      ≡ Some one
      → (line : LineParts) × (slice_get all (length lines + k) ≡ Some line) × (line_by p all one ≡ Some line)
  line-there lines [] all k one e at = absurd (cc)
  line-there lines (first ∷ steps) all zero one e at =
      let (line, gives, later) = first-line lines first steps all e in
      let (more, is, long) = lines-behind (lines ++ line ∷ []) steps all later in
      let whole : all ≡ lines ++ line ∷ more = is ∙ rw append_assoc refl in
      let same : first ≡ one = cc in (
        line,
        ap (λ (ls : List LineParts). slice_get ls (length lines + 0)) whole ∙ get-behind lines (line ∷ more) (length lines + 0) 0 refl,
        ap (λ (ls : List LineParts). line_by p ls one) whole ∙ line_by-more lines (line ∷ more) one line (ap (line_by p lines) (sym same) ∙ gives),
      )
  line-there lines (first ∷ steps) all (suc k) one e at =
      let (own, gives, later) = first-line lines first steps all e in
      let (line, there, is) = line-there (lines ++ own ∷ []) steps all k one later at in
      let same : length lines + suc k ≡ length (lines ++ own ∷ []) + k = omega (arith, length-append lines (own ∷ [])) in
      (line, ap (slice_get all) same ∙ there, is)

  -- ---- a step that is put into the table

  -- the table with the step has lines, which begin with those that it had, and the step's line stands at its place
  pub put-line : (table : List Step) (lines : List LineParts) (one : Step) (line : LineParts) → AreLinesOf p table lines → line_by p lines one ≡ Some line
      → (more : List LineParts) × AreLinesOf p (with_step table one) (lines ++ more) × (slice_get (lines ++ more) (place_in table one) ≡ Some line)
  put-line table lines one line are gives = by (list_any (is_same one) table) refl
    where
      by : (b : Bool) → list_any (is_same one) table ≡ b
          → (more : List LineParts) × AreLinesOf p (if b then table else table ++ one ∷ []) (lines ++ more)
          × (slice_get (lines ++ more) (place_in table one) ≡ Some line)
      by true is =
          let (other, there, same) = first-passes (is_same one) table is in
          let equal = is_same-is one other same in
          let (own, at, made) = line-there [] table lines (place_in table one) other are there in
          let own_is : line ≡ own = cc (ap (line_by p lines) equal, gives, made) in
          let place : 0 + place_in table one ≡ place_in table one = omega arith in (
            [],
            are ∙ ap (λ (ls : List LineParts). Ok ls) (sym (append-nil lines)),
            ap (λ (ls : List LineParts). slice_get ls (place_in table one))
                (append-nil lines) ∙ ap (slice_get lines) (sym place) ∙ at ∙ ap (λ (l : LineParts). Some l) (sym own_is),
          )
      by false is =
          let place : place_in table one ≡ length lines = none-passes (is_same one) table is ∙ sym (length-lines table lines are) in
          (line ∷ [], lines-at-end [] table lines one line are gives, ap (slice_get (lines ++ line ∷ [])) place ∙ get-end lines line)

-- the lines of steps do not depend on the record
pub same-lines : (p : Premises) (row : List Value) (kept : ℕ) (lines : List LineParts) (steps : List Step)
    → lines_from (premises_of p.shape p.given p.usable row kept) lines steps ≡ lines_from p lines steps
same-lines p row kept lines [] = refl
same-lines p row kept lines (one ∷ steps) =
    ap (λ (o : Option LineParts). ok_or o (length lines) >>= (λ line. lines_from (premises_of p.shape p.given p.usable row kept) (lines ++ line ∷ []) steps))
    (same one)
    ∙ later (line_by p lines one) (λ line. same-lines p row kept (lines ++ line ∷ []) steps)
  where
    same : (s : Step) → line_by (premises_of p.shape p.given p.usable row kept) lines s ≡ line_by p lines s
    same (step.Given place) = refl
    same (step.Combine a m b n g) = refl
    same (step.Fail a) = refl
    same (step.Cover field parts) = refl
    same (step.Fix field part) = refl

    later : (o : Option LineParts) → ((line : LineParts) → lines_from (premises_of p.shape p.given p.usable row kept) (lines ++ line ∷ []) steps
        ≡ lines_from p (lines ++ line ∷ []) steps)
        → (ok_or o (length lines) >>= (λ line. lines_from (premises_of p.shape p.given p.usable row kept) (lines ++ line ∷ []) steps))
        ≡ (ok_or o (length lines) >>= (λ line. lines_from p (lines ++ line ∷ []) steps))
    later None each = refl
    later (Some line) each = each line
