use Rattle.std.proofs.Common.{◌≡◌, ◌≢◌, ◌==◌, ◌<◌, ◌&&◌, not, suc, Option, Some, None, ◌+◌, Bool, true, false, if◌then◌else◌, ℕ, List, [], ◌∷◌, ◌++◌}
use Rattle.std.proofs.Common.{length, map, refl, sym, ap, ◌∙◌, arith}
use Rattle.std.specs.List.{filter, flat_map}
use Rattle.std.proofs.lemmas.Bool.Decides.{Decides-eqb}
use Rattle.std.proofs.lemmas.List.{length-map}
use Rattle.std.proofs.lemmas.Option.{same_Some}
use Rattle.edit_line.specs.Lines.{LineParts}
use Rattle.edit_line.specs.Reductions.{lines_of}
use Rattle.edit_line.specs.declared.derived.Derived.{Derived}
use Rattle.linear_elim.specs.Combinations.{combination, determines, is_flat, is_lower}
use Rattle.linear_elim.specs.Steps.{count_with, equality_from, is_opposite, made, made_by, pairs_count, rows_count, substituted_count, substitutes}
use Rattle.linear_elim.specs.Steps.{substitutions, without_first}
use Rattle.linear_elim.proofs.EqualityPlaces.{equality-past, equality-plain, no_equality-plain}

-- The count of a step's pairs is the number of the lines that it makes.

-- as many lines pass the test with their origins as without
filter-count : (test : LineParts → Bool) (lines : List Derived) → length (filter (λ (d : Derived). test d.line) lines) ≡ length (filter test (lines_of lines))
filter-count test [] = refl
filter-count test (d ∷ lines) = by (test d.line) (filter-count test lines)
  where
    by : (b : Bool) → length (filter (λ (d : Derived). test d.line) lines) ≡ length (filter test (lines_of lines))
        → length (if b then d ∷ filter (λ (d : Derived). test d.line) lines else filter (λ (d : Derived). test d.line) lines)
        ≡ length (if b then d.line ∷ filter test (lines_of lines) else filter test (lines_of lines))
    by true e = omega (arith, e)
    by false e = e

length-append : (first second : List LineParts) → length (first ++ second) ≡ length first + length second
length-append [] second = omega arith
length-append (l ∷ first) second = let rest = length-append first second in omega arith

rows-are : (f : ℕ) (lines rows : List Derived)
    → rows_count f lines rows ≡ length (flat_map (λ s. map (λ t. combination s t f) (filter (is_opposite f s) (lines_of lines)))
    (filter (is_lower f) (lines_of rows)))
rows-are f lines [] = refl
rows-are f lines (s ∷ rows) = by (is_lower f s.line) (rows-are f lines rows)
  where
    one : length (filter (λ (t : Derived). is_opposite f s.line t.line) lines)
        ≡ length (map (λ t. combination s.line t f) (filter (is_opposite f s.line) (lines_of lines)))
    one = filter-count (is_opposite f s.line) lines ∙ sym (length-map (filter (is_opposite f s.line) (lines_of lines)) (λ t. combination s.line t f))

    by : (b : Bool) → rows_count f lines rows ≡ length
        (flat_map (λ s. map (λ t. combination s t f) (filter (is_opposite f s) (lines_of lines))) (filter (is_lower f) (lines_of rows)))
        → (if b then length (filter (λ (t : Derived). is_opposite f s.line t.line) lines) else 0) + rows_count f lines rows
        ≡ length (flat_map (λ s. map (λ t. combination s t f) (filter (is_opposite f s) (lines_of lines)))
        (if b then s.line ∷ filter (is_lower f) (lines_of rows) else filter (is_lower f) (lines_of rows)))
    by true e =
        ap (λ n. n + rows_count f lines rows) one
        ∙ ap (λ n. length (map (λ t. combination s.line t f) (filter (is_opposite f s.line) (lines_of lines))) + n) e
        ∙ sym (length-append (map (λ t. combination s.line t f) (filter (is_opposite f s.line) (lines_of lines))) _)
    by false e = omega (arith, e)

-- ---- the substitutions of an equality

module _ (f k : ℕ) (e : Derived) where
  -- one more line
  joined-count : (t : LineParts) (lines : List LineParts)
      → (if not (is_flat f t) then 1 else 0) + length (substitutions e.line lines f) ≡ length (substitutions e.line (t ∷ lines) f)
  joined-count t lines = by (not (is_flat f t))
    where
      by : (b : Bool) → (if b then 1 else 0) + length (substitutions e.line lines f)
          ≡ length (map (λ l. combination e.line l f) (if b then t ∷ filter (λ l. not (is_flat f l)) lines else filter (λ l. not (is_flat f l)) lines))
      by true = omega arith
      by false = omega arith

  -- another line is counted where the field stands in it
  count-other : (j : ℕ) (t : LineParts) (n : ℕ) → k ≢ j → (if substitutes f k j t then 1 else 0) + n ≡ (if not (is_flat f t) then 1 else 0) + n
  count-other j t n apart = by (k == j) refl
    where
      by : (b : Bool) → (k == j) ≡ b → (if not b && not (is_flat f t) then 1 else 0) + n ≡ (if not (is_flat f t) then 1 else 0) + n
      by true is = absurd (apart ((Decides-eqb k j).0 is))
      by false is = refl

  -- and the equality is not
  count-own : (j : ℕ) (t : LineParts) (n : ℕ) → k ≡ j → (if substitutes f k j t then 1 else 0) + n ≡ n
  count-own j t n same = by (k == j) ((Decides-eqb k j).1 same)
    where
      by : (b : Bool) → b ≡ true → (if not b && not (is_flat f t) then 1 else 0) + n ≡ n
      by true is = omega arith
      by false is = absurd (cc)

  later-count : (i : ℕ) (lines : List Derived) → k < i → substituted_count f k i lines ≡ length (substitutions e.line (lines_of lines) f)
  later-count i [] past = refl
  later-count i (t ∷ lines) past =
      count-other i t.line (substituted_count f k (suc i) lines) (λ same. absurd (omega (arith, same, past)))
      ∙ ap (λ n. (if not (is_flat f t.line) then 1 else 0) + n) (later-count (suc i) lines (omega (arith, past))) ∙ joined-count t.line (lines_of lines)

  substitutions-are : (i : ℕ) (lines : List Derived) → equality_from f i lines ≡ Some (k, e)
      → substituted_count f k i lines ≡ length (substitutions e.line (without_first (determines f) (lines_of lines)) f)
  substitutions-are i [] found = absurd (cc)
  substitutions-are i (t ∷ lines) found = by (determines f t.line) found (substitutions-are (suc i) lines)
    where
      by : (b : Bool) → (if b then Some (i, t) else equality_from f (suc i) lines) ≡ Some (k, e)
          → (equality_from f (suc i) lines ≡ Some (k, e) → substituted_count f k (suc i) lines
          ≡ length (substitutions e.line (without_first (determines f) (lines_of lines)) f))
          → (if substitutes f k i t.line then 1 else 0) + substituted_count f k (suc i) lines
          ≡ length (substitutions e.line (if b then lines_of lines else t.line ∷ without_first (determines f) (lines_of lines)) f)
      by true h rest =
          let same : i ≡ k = ap (λ (p : ℕ × Derived). p.0) (same_Some (i, t) (k, e) h) in
          count-own i t.line (substituted_count f k (suc i) lines) (sym same) ∙ later-count (suc i) lines (omega (arith, same))
      by false h rest =
          let past = equality-past f (suc i) lines (k, e) h in
          count-other i t.line (substituted_count f k (suc i) lines) (λ same. absurd (omega (arith, same, past)))
          ∙ ap (λ n. (if not (is_flat f t.line) then 1 else 0) + n) (rest h) ∙ joined-count t.line (without_first (determines f) (lines_of lines))

-- the pairs that a step combines are as many as the lines that it makes
pub pairs-are : (lines : List Derived) (f : ℕ) → pairs_count lines f ≡ length (made (lines_of lines) f)
pairs-are lines f = by (equality_from f 0 lines) refl
  where
    by : (o : Option (ℕ × Derived)) → equality_from f 0 lines ≡ o → count_with o lines f ≡ length (made (lines_of lines) f)
    by (Some e) found =
        substitutions-are f e.0 e.1 0 lines found ∙ ap (λ (o : Option LineParts). length (made_by o (lines_of lines) f))
        (sym (equality-plain f 0 lines e found))
    by None none = rows-are f lines lines ∙ ap (λ (o : Option LineParts). length (made_by o (lines_of lines) f)) (sym (no_equality-plain f 0 lines none))
