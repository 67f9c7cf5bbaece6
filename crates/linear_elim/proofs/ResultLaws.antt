use Rattle.std.proofs.Common.{pos, ◌≡◌, ◌≢◌, ◌↔◌, ◌==◌, ◌<◌, ◌&&◌, not, arith, Bool, true, false, if◌then◌else◌, ℕ, suc, List, [], ◌∷◌, ◌++◌, All}
use Rattle.std.proofs.Common.{Option, Some, None, Result, Ok, Err, map, refl, sym, ap, ◌∙◌, subst}
use Rattle.std.specs.List.{filter, flat_map, fold}
use Rattle.std.proofs.lemmas.Bool.Decides.{Decides-eqb}
use Rattle.std.proofs.lemmas.Option.{same_Some}
use Rattle.foundation.specs.Results.{◌>>=◌, fault_as}
use Rattle.edit_model.specs.Points.{Point}
use Rattle.edit_line.specs.EditSets.{base_lines}
use Rattle.edit_line.specs.Lines.{AllHold, Follows, HaveShape, LineParts, factor}
use Rattle.edit_line.specs.Reductions.{lines_of, reduce, reduce_derived}
use Rattle.edit_line.specs.Shapes.{Domain, IsNumerical}
use Rattle.edit_line.specs.declared.derived.Derived.{Derived}
use Rattle.edit_line.specs.declared.derived.Origin.TheVariants.{Same}
use Rattle.edit_line.proofs.ReductionLaws.{reduce-lines}
use Rattle.edit_line.specs.Combinations.{first_overflow, numbers, unless_overflow}
use Rattle.linear_elim.specs.Combinations.{combination, combine_result, combined_with, determines, first_multiplier, is_flat, is_lower, second_multiplier}
use Rattle.linear_elim.specs.PointChanges.{CanHoldAt, CanHoldIn}
use Rattle.linear_elim.specs.Steps.{StepOverflow, collect, combinations, eliminated, eliminated_result, equality_from, flat_from, followed_by}
use Rattle.linear_elim.specs.Steps.{is_opposite, made, made_by, made_result, made_with, pair_result, paired, reduced_result, row_result, step}
use Rattle.linear_elim.specs.Steps.{step_result, substituted_result, substitutions, with_more, without_first}
use Rattle.linear_elim.specs.Systems.{fold_result, overflow_at, system, system_of}
use Rattle.linear_elim.proofs.EqualityPlaces.{equality-past, equality-plain, no_equality-plain}
use Rattle.linear_elim.proofs.StepLaws.{HaveShape-step, step-flat, step-follows, step-holds, step-lifts}
use Rattle.linear_elim.proofs.SystemLaws.{HaveShape-system, system-follows, system-holds, system-lifts}

-- Where the step or the fold has lines, they are those of the plain one, so the same laws hold of them.

-- ---- the parts of an answer

-- what an answer gives is one thing
pub ok_same : {A E : Type 0} (a b : A) (r : Result A E) → r ≡ Ok a → r ≡ Ok b → a ≡ b
ok_same a b r first second = cc

-- lists that are joined in an answer
pub joined : {X F : Type 0} (before : List X) (rest : Result (List X) F) (zs : List X) → with_more before rest ≡ Ok zs
    → (ys : List X) × (rest ≡ Ok ys) × (zs ≡ before ++ ys)
joined {X} {F} before (Ok ys) zs e = (ys, refl, ok_same zs (before ++ ys) (Ok (before ++ ys)) e refl)
joined before (Err fault) zs e = absurd (cc)

pub followed : {X F : Type 0} (first rest : Result (List X) F) (zs : List X) → followed_by first rest ≡ Ok zs
    → (xs : List X) × (ys : List X) × (first ≡ Ok xs) × (rest ≡ Ok ys) × (zs ≡ xs ++ ys)
followed (Ok xs) rest zs e = let (ys, is, same) = joined xs rest zs e in (xs, ys, refl, is, same)
followed (Err fault) rest zs e = absurd (cc)

lines_of-append : (first second : List Derived) → lines_of (first ++ second) ≡ lines_of first ++ lines_of second
lines_of-append [] second = refl
lines_of-append (d ∷ first) second = ap (λ (ls : List LineParts). d.line ∷ ls) (lines_of-append first second)

-- what each element gives, without origins, is what the plain function gives
collect-plain : {F : Type 0} (each : ℕ → Derived → Result (List Derived) F) (plain : LineParts → List LineParts) (i : ℕ) (lines ys : List Derived)
    → ((j : ℕ) (d : Derived) (zs : List Derived) → each j d ≡ Ok zs → lines_of zs ≡ plain d.line)
    → collect each i lines ≡ Ok ys → lines_of ys ≡ flat_map plain (lines_of lines)
collect-plain {F} each plain i [] ys same e = ap (λ (ds : List Derived). lines_of ds) (ok_same ys [] (Ok []) e refl)
collect-plain each plain i (d ∷ lines) ys same e =
    let (first, rest, first_is, rest_is, joined_is) = followed (each i d) (collect each (suc i) lines) ys e in
    ap (λ (ds : List Derived). lines_of ds) joined_is
    ∙ lines_of-append first rest
    ∙ ap (λ (ls : List LineParts). ls ++ lines_of rest) (same i d first first_is)
    ∙ ap (λ (ls : List LineParts). plain d.line ++ ls) (collect-plain each plain (suc i) lines rest same rest_is)

-- ---- the step

-- the combination of a pair
pair-plain : (f i : ℕ) (s : Derived) (j : ℕ) (t : Derived) (zs : List Derived) → pair_result f i s j t ≡ Ok zs
    → lines_of zs ≡ (if is_opposite f s.line t.line then combination s.line t.line f ∷ [] else [])
pair-plain f i s j t zs e =
    by (is_opposite f s.line t.line) (first_overflow 0 (first_multiplier s.line t.line f) (second_multiplier s.line t.line f) (numbers s.line)
    (numbers t.line)) e
  where
    by : (b : Bool) (o : Option ℕ)
        → (if b then paired s.line.shape i j (unless_overflow o
        (combined_with (first_multiplier s.line t.line f) (second_multiplier s.line t.line f) s.line t.line)) else Ok []) ≡ Ok zs
        → lines_of zs ≡ (if b then combination s.line t.line f ∷ [] else [])
    by true None e = ap (λ (ds : List Derived). lines_of ds) (ok_same zs _ _ e refl)
    by true (Some place) e = absurd (cc)
    by false o e = ap (λ (ds : List Derived). lines_of ds) (ok_same zs _ _ e refl)

-- each as it passes a test, or nothing
chosen-each : (test : LineParts → Bool) (g : LineParts → LineParts) (lines : List LineParts)
    → flat_map (λ t. if test t then g t ∷ [] else []) lines ≡ map g (filter test lines)
chosen-each test g [] = refl
chosen-each test g (t ∷ lines) = by (test t) (chosen-each test g lines)
  where
    by : (b : Bool) → flat_map (λ t. if test t then g t ∷ [] else []) lines ≡ map g (filter test lines)
        → (if b then g t ∷ [] else []) ++ flat_map (λ t. if test t then g t ∷ [] else []) lines ≡ map g (if b then t ∷ filter test lines else filter test lines)
    by true e = ap (λ (ls : List LineParts). g t ∷ ls) e
    by false e = e

-- the same of lists
chosen-lists : (test : LineParts → Bool) (g : LineParts → List LineParts) (lines : List LineParts)
    → flat_map (λ s. if test s then g s else []) lines ≡ flat_map g (filter test lines)
chosen-lists test g [] = refl
chosen-lists test g (s ∷ lines) = by (test s) (chosen-lists test g lines)
  where
    by : (b : Bool) → flat_map (λ s. if test s then g s else []) lines ≡ flat_map g (filter test lines)
        → (if b then g s else []) ++ flat_map (λ s. if test s then g s else []) lines ≡ flat_map g (if b then s ∷ filter test lines else filter test lines)
    by true e = ap (λ (ls : List LineParts). g s ++ ls) e
    by false e = e

row-plain : (f : ℕ) (lines : List Derived) (i : ℕ) (s : Derived) (zs : List Derived) → row_result f lines i s ≡ Ok zs
    → lines_of zs ≡ (if is_lower f s.line then map (λ t. combination s.line t f) (filter (is_opposite f s.line) (lines_of lines)) else [])
row-plain f lines i s zs e = by (is_lower f s.line) e
  where
    by : (b : Bool) → (if b then collect (pair_result f i s) 0 lines else Ok []) ≡ Ok zs
        → lines_of zs ≡ (if b then map (λ t. combination s.line t f) (filter (is_opposite f s.line) (lines_of lines)) else [])
    by true e =
        collect-plain (pair_result f i s) (λ t. if is_opposite f s.line t then combination s.line t f ∷ [] else []) 0 lines zs
        (λ j t ys is. pair-plain f i s j t ys is) e
        ∙ chosen-each (is_opposite f s.line) (λ t. combination s.line t f) (lines_of lines)
    by false e = ap (λ (ds : List Derived). lines_of ds) (ok_same zs _ _ e refl)

pub flat-plain : (f i : ℕ) (lines : List Derived) → lines_of (flat_from f i lines) ≡ filter (is_flat f) (lines_of lines)
flat-plain f i [] = refl
flat-plain f i (s ∷ lines) = by (is_flat f s.line) (flat-plain f (suc i) lines)
  where
    by : (b : Bool) → lines_of (flat_from f (suc i) lines) ≡ filter (is_flat f) (lines_of lines)
        → lines_of (if b then record { line = s.line; origin = Same i } ∷ flat_from f (suc i) lines else flat_from f (suc i) lines)
        ≡ (if b then s.line ∷ filter (is_flat f) (lines_of lines) else filter (is_flat f) (lines_of lines))
    by true e = ap (λ (ls : List LineParts). s.line ∷ ls) e
    by false e = e

-- the combinations of the opposite pairs
combinations-plain : (f : ℕ) (lines ys : List Derived) → collect (row_result f lines) 0 lines ≡ Ok ys → lines_of ys ≡ combinations (lines_of lines) f
combinations-plain f lines ys e =
    collect-plain (row_result f lines) (λ s. if is_lower f s then map (λ t. combination s t f) (filter (is_opposite f s) (lines_of lines)) else []) 0 lines
    ys (λ j d zs is. row-plain f lines j d zs is) e
    ∙ chosen-lists (is_lower f) (λ s. map (λ t. combination s t f) (filter (is_opposite f s) (lines_of lines))) (lines_of lines)

-- ---- the substitutions of an equality

module _ (f k : ℕ) (e : Derived) where
  -- into another line
  substituted-plain : (j : ℕ) (t : Derived) (zs : List Derived) → k ≢ j → substituted_result f k e j t ≡ Ok zs
      → lines_of zs ≡ (if not (is_flat f t.line) then combination e.line t.line f ∷ [] else [])
  substituted-plain j t zs apart is =
      by (k == j) (not (is_flat f t.line)) refl (first_overflow 0 (first_multiplier e.line t.line f) (second_multiplier e.line t.line f) (numbers e.line)
      (numbers t.line)) is
    where
      by : (same b : Bool) → (k == j) ≡ same → (o : Option ℕ)
          → (if not same && b then paired e.line.shape k j (unless_overflow o
          (combined_with (first_multiplier e.line t.line f) (second_multiplier e.line t.line f) e.line t.line)) else Ok []) ≡ Ok zs
          → lines_of zs ≡ (if b then combination e.line t.line f ∷ [] else [])
      by true b same o h = absurd (apart ((Decides-eqb k j).0 same))
      by false true same None h = ap (λ (ds : List Derived). lines_of ds) (ok_same zs _ _ h refl)
      by false true same (Some place) h = absurd (cc)
      by false false same o h = ap (λ (ds : List Derived). lines_of ds) (ok_same zs _ _ h refl)

  -- one more line
  joined-plain : (t : LineParts) (lines : List LineParts)
      → (if not (is_flat f t) then combination e.line t f ∷ [] else []) ++ substitutions e.line lines f ≡ substitutions e.line (t ∷ lines) f
  joined-plain t lines = by (not (is_flat f t))
    where
      by : (b : Bool) → (if b then combination e.line t f ∷ [] else []) ++ substitutions e.line lines f
          ≡ map (λ l. combination e.line l f) (if b then t ∷ filter (λ l. not (is_flat f l)) lines else filter (λ l. not (is_flat f l)) lines)
      by true = refl
      by false = refl

  -- after the equality
  later-plain : (i : ℕ) (lines ys : List Derived) → k < i → collect (substituted_result f k e) i lines ≡ Ok ys
      → lines_of ys ≡ substitutions e.line (lines_of lines) f
  later-plain i [] ys past is = ap (λ (ds : List Derived). lines_of ds) (ok_same ys [] (Ok []) is refl)
  later-plain i (t ∷ lines) ys past is =
      let (first, rest, first_is, rest_is, joined_is) = followed (substituted_result f k e i t) (collect (substituted_result f k e) (suc i) lines) ys is in
      ap (λ (ds : List Derived). lines_of ds) joined_is
      ∙ lines_of-append first rest
      ∙ ap (λ (ls : List LineParts). ls ++ lines_of rest) (substituted-plain i t first (λ same. absurd (omega (arith, same, past))) first_is)
      ∙ ap (λ (ls : List LineParts). (if not (is_flat f t.line) then combination e.line t.line f ∷ [] else []) ++ ls)
      (later-plain (suc i) lines rest (omega (arith, past)) rest_is)
      ∙ joined-plain t.line (lines_of lines)

  -- from a place on, with the equality after it
  substitutions-plain : (i : ℕ) (lines ys : List Derived) → equality_from f i lines ≡ Some (k, e) → collect (substituted_result f k e) i lines ≡ Ok ys
      → lines_of ys ≡ substitutions e.line (without_first (determines f) (lines_of lines)) f
  substitutions-plain i [] ys found is = absurd (cc)
  substitutions-plain i (t ∷ lines) ys found is =
      let (first, rest, first_is, rest_is, joined_is) = followed (substituted_result f k e i t) (collect (substituted_result f k e) (suc i) lines) ys is in
      ap (λ (ds : List Derived). lines_of ds) joined_is ∙ lines_of-append first rest
      ∙ by (determines f t.line) found first rest first_is rest_is (substitutions-plain (suc i) lines rest)
    where
      by : (b : Bool) → (if b then Some (i, t) else equality_from f (suc i) lines) ≡ Some (k, e) → (first rest : List Derived)
          → substituted_result f k e i t ≡ Ok first → collect (substituted_result f k e) (suc i) lines ≡ Ok rest
          → (equality_from f (suc i) lines ≡ Some (k, e) → collect (substituted_result f k e) (suc i) lines ≡ Ok rest
          → lines_of rest ≡ substitutions e.line (without_first (determines f) (lines_of lines)) f)
          → lines_of first ++ lines_of rest ≡ substitutions e.line (if b then lines_of lines else t.line ∷ without_first (determines f) (lines_of lines)) f
      by true h first rest first_is rest_is later =
          let same : i ≡ k = ap (λ (p : ℕ × Derived). p.0) (same_Some (i, t) (k, e) h) in
          ap (λ (ls : List LineParts). ls ++ lines_of rest) (none first same first_is) ∙ later-plain (suc i) lines rest (omega (arith, same)) rest_is
        where
          none : (first : List Derived) → i ≡ k → substituted_result f k e i t ≡ Ok first → lines_of first ≡ []
          none first same is = by_place (k == i) ((Decides-eqb k i).1 (sym same)) is
            where
              by_place : (b : Bool) → b ≡ true → (if not b && not (is_flat f t.line) then paired e.line.shape k i (combine_result e.line t.line f) else Ok
                  []) ≡ Ok first → lines_of first ≡ []
              by_place true at h = ap (λ (ds : List Derived). lines_of ds) (ok_same first _ _ h refl)
              by_place false at h = absurd (cc)
      by false h first rest first_is rest_is later =
          let past = equality-past f (suc i) lines (k, e) h in
          ap (λ (ls : List LineParts). ls ++ lines_of rest) (substituted-plain i t first (λ same. absurd (omega (arith, same, past))) first_is)
          ∙ ap (λ (ls : List LineParts). (if not (is_flat f t.line) then combination e.line t.line f ∷ [] else []) ++ ls) (later h rest_is)
          ∙ joined-plain t.line (without_first (determines f) (lines_of lines))

-- the lines that are made
made-plain : (lines : List Derived) (f : ℕ) (ys : List Derived) → made_result lines f ≡ Ok ys → lines_of ys ≡ made (lines_of lines) f
made-plain lines f ys e = by (equality_from f 0 lines) refl e
  where
    by : (o : Option (ℕ × Derived)) → equality_from f 0 lines ≡ o → made_with o lines f ≡ Ok ys → lines_of ys ≡ made (lines_of lines) f
    by (Some e) found is =
        substitutions-plain f e.0 e.1 0 lines ys found is ∙ ap (λ (o : Option LineParts). made_by o (lines_of lines) f) (sym (equality-plain f 0 lines e found))
    by None none is = combinations-plain f lines ys is ∙ ap (λ (o : Option LineParts). made_by o (lines_of lines) f) (sym (no_equality-plain f 0 lines none))

pub eliminated-plain : (lines : List Derived) (f : ℕ) (ys : List Derived) → eliminated_result lines f ≡ Ok ys → lines_of ys ≡ eliminated (lines_of lines) f
eliminated-plain lines f ys e =
    let (rest, rest_is, joined_is) = joined (flat_from f 0 lines) (made_result lines f) ys e in
    ap (λ (ds : List Derived). lines_of ds) joined_is
    ∙ lines_of-append (flat_from f 0 lines) rest
    ∙ ap (λ (ls : List LineParts). ls ++ lines_of rest) (flat-plain f 0 lines)
    ∙ ap (λ (ls : List LineParts). filter (is_flat f) (lines_of lines) ++ ls) (made-plain lines f rest rest_is)

-- where the step has lines, they are the plain step's
pub step-plain : (lines : List Derived) (f : ℕ) (ys : List Derived) → step_result lines f ≡ Ok ys → lines_of ys ≡ step (lines_of lines) f
step-plain lines f ys e = by (eliminated_result lines f) refl e
  where
    by : (r : Result (List Derived) StepOverflow) → eliminated_result lines f ≡ r → reduced_result r ≡ Ok ys → lines_of ys ≡ step (lines_of lines) f
    by (Ok zs) is e =
        ap (λ (ds : List Derived). lines_of ds) (ok_same ys _ _ e refl) ∙ reduce-lines zs
        ∙ ap (λ (ls : List LineParts). reduce ls) (eliminated-plain lines f zs is)
    by (Err fault) is e = absurd (cc)

-- ---- the fold

pub fold-plain : (lines : List Derived) (fields : List ℕ) (ys : List Derived) → fold_result lines fields ≡ Ok ys
    → lines_of ys ≡ fold step (lines_of lines) fields
fold-plain lines [] ys e = ap (λ (ds : List Derived). lines_of ds) (ok_same ys _ _ e refl)
fold-plain lines (f ∷ fields) ys e = by (step_result lines f) refl e (λ next. fold-plain next fields ys)
  where
    by : (r : Result (List Derived) StepOverflow) → step_result lines f ≡ r → (fault_as (overflow_at f) r >>= (λ next. fold_result next fields)) ≡ Ok ys
        → ((next : List Derived) → fold_result next fields ≡ Ok ys → lines_of ys ≡ fold step (lines_of next) fields)
        → lines_of ys ≡ fold step (step (lines_of lines) f) fields
    by (Ok next) is e rest = rest next e ∙ ap (λ (ls : List LineParts). fold step ls fields) (step-plain lines f next is)
    by (Err fault) is e rest = absurd (cc)

pub base-plain : (edits : List (ℕ × LineParts)) → lines_of (base_lines edits) ≡ map (λ (e : ℕ × LineParts). e.1) edits
base-plain [] = refl
base-plain (e ∷ edits) = ap (λ (ls : List LineParts). e.1 ∷ ls) (base-plain edits)

-- where the system has lines, they are the plain fold's
pub system-plain : (edits : List (ℕ × LineParts)) (fields : List ℕ) (ys : List Derived) → system_of edits fields ≡ Ok ys
    → lines_of ys ≡ system (map (λ (e : ℕ × LineParts). e.1) edits) fields
system-plain edits fields ys e =
    fold-plain (reduce_derived (base_lines edits)) fields ys e
    ∙ ap (λ (ls : List LineParts). fold step ls fields) (reduce-lines (base_lines edits) ∙ ap (λ (ls : List LineParts). reduce ls) (base-plain edits))

-- ---- the laws of an answer

module _ (shape : List Domain) (lines : List Derived) (f : ℕ) (ys : List Derived) (is : step_result lines f ≡ Ok ys)
    (over : HaveShape shape (lines_of lines)) where
  -- the step's lines are over the fields of the lines
  pub HaveShape-result : HaveShape shape (lines_of ys)
  HaveShape-result = subst (λ (ls : List LineParts). HaveShape shape ls) (sym (step-plain lines f ys is)) (HaveShape-step shape (lines_of lines) f over)

  -- the field stands in none of them
  pub flat-result : All (λ line. factor line f ≡ pos 0) (lines_of ys)
  flat-result =
      subst (λ (ls : List LineParts). All (λ line. factor line f ≡ pos 0) ls) (sym (step-plain lines f ys is)) (step-flat shape (lines_of lines) f over)

  -- they follow from the lines
  pub follows-result : All (λ line. Follows (lines_of lines) line) (lines_of ys)
  follows-result k line below p holds =
      subst (λ (ls : List LineParts). AllHold ls p) (sym (step-plain lines f ys is)) (step-follows shape (lines_of lines) f over p holds) k line below

  -- they hold at a point exactly where some value at the field, in place of the point's own, makes all of the lines hold
  pub lifts-result : (p : Point) → IsNumerical shape f → AllHold (lines_of ys) p ↔ CanHoldAt (lines_of lines) f p
  lifts-result p number = (
    λ holds.
        let (q, differs, codes, at_q) = step-lifts shape (lines_of lines) f over p
        (subst (λ (ls : List LineParts). AllHold ls p) (step-plain lines f ys is) holds) in
        (q, differs, at_q),
    λ can. let (q, differs, at_q) = can in subst (λ (ls : List LineParts). AllHold ls p) (sym (step-plain lines f ys is))
        (step-holds shape (lines_of lines) f over p q number differs at_q),
  )

module _ (shape : List Domain) (edits : List (ℕ × LineParts)) (fields : List ℕ) (ys : List Derived) (is : system_of edits fields ≡ Ok ys)
    (over : HaveShape shape (map (λ (e : ℕ × LineParts). e.1) edits)) where
  -- the system's lines are over the fields of the edits
  pub HaveShape-answer : HaveShape shape (lines_of ys)
  HaveShape-answer =
      subst (λ (ls : List LineParts). HaveShape shape ls) (sym (system-plain edits fields ys is))
      (HaveShape-system shape (map (λ (e : ℕ × LineParts). e.1) edits) fields over)

  -- they follow from the edits
  pub follows-answer : All (λ line. Follows (map (λ (e : ℕ × LineParts). e.1) edits) line) (lines_of ys)
  follows-answer k line below p holds =
      subst (λ (ls : List LineParts). AllHold ls p) (sym (system-plain edits fields ys is))
      (system-follows shape (map (λ (e : ℕ × LineParts). e.1) edits) fields p over holds) k line below

  -- they hold at a point exactly where some values at the fields, in place of the point's own, make all edits hold
  pub lifts-answer : (p : Point) → All (IsNumerical shape) fields → AllHold (lines_of ys) p ↔ CanHoldIn (map (λ (e : ℕ × LineParts). e.1) edits) fields p
  lifts-answer p numbers = (
    λ holds.
        let (q, differs, codes, at_q) = system-lifts shape (map (λ (e : ℕ × LineParts). e.1) edits) fields p over
        (subst (λ (ls : List LineParts). AllHold ls p) (system-plain edits fields ys is) holds) in
        (q, differs, at_q),
    λ can. let (q, differs, at_q) = can in subst (λ (ls : List LineParts). AllHold ls p) (sym (system-plain edits fields ys is))
        (system-holds shape (map (λ (e : ℕ × LineParts). e.1) edits) fields p q over numbers differs at_q),
  )
