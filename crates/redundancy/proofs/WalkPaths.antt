use Rattle.std.proofs.Common.{◌≡◌, ◌&&◌, ◌||◌, ℕ, zero, suc, ◌+◌, ◌-◌, ◌<◌, ◌≤◌, Bool, true, false, not, if◌then◌else◌, nat_lt, List, [], ◌∷◌, ◌++◌, Option}
use Rattle.std.proofs.Common.{Some, None, Ok, cond, length, take, slice_index_or, ℤ, pos, length-append, refl, sym, ap, ◌∙◌, arith}
use Rattle.std.specs.List.{filter, list_all, list_any, position, position_or_len}
use Rattle.std.specs.Ordering.{int_eq}
use Rattle.std.proofs.Math.Seq.{take-append_seam}
use Rattle.std.proofs.lemmas.List.{get_or_past, take_all}
use Rattle.std.specs.Option.{ok_or}
use Rattle.foundation.specs.Results.{◌>>=◌}
use Rattle.fraction128.specs.Formulas.{Ratio}
use Rattle.edit_model.specs.Corrections.{path_order}
use Rattle.edit_model.specs.Rows.{is_bad, value_of}
use Rattle.edit_model.specs.Trials.{sum_with}
use Rattle.edit_model.specs.declared.value.Value.{Value}
use Rattle.edit_line.specs.Boxes.{are_whole}
use Rattle.edit_line.specs.Lines.{HaveShape, LineParts}
use Rattle.edit_line.specs.Reductions.{IsIn, lines_of}
use Rattle.edit_line.specs.Shapes.{Domain, code_fields, number_fields, shape_of, whole_sets}
use Rattle.edit_line.specs.Subsumption.{has_no_factor, is_enough, is_false}
use Rattle.edit_line.specs.Sums.{fails_at, fails_by, stands_only, sum_from, whole}
use Rattle.edit_line.specs.declared.derived.Derived.{Derived}
use Rattle.edit_line.proofs.BoolLaws.{or_none}
use Rattle.edit_line.proofs.Members.{in-filter-out}
use Rattle.bound_cert.specs.Paths.{changes, keeps, keeps_bad, path_place}
use Rattle.edit_paths.specs.Cases.{SearchCase}
use Rattle.edit_paths.specs.Paths.{changed_numbers, number_count, treated_codes, treats}
use Rattle.edit_paths.specs.States.{closed_by, first_failing}
use Rattle.edit_paths.specs.declared.state.PathState.{PathState}
use Rattle.edit_paths.specs.declared.state.PathState.TheVariants.{ClosedLine, Open}
use Rattle.edit_paths.proofs.FieldPlaces.{Placed, codes-placed, numbers-placed}
use Rattle.edit_paths.proofs.LetterLaws.{letter-there}
use Rattle.redundancy.specs.Verdicts.{changing}
use Rattle.redundancy.specs.inner.Turns.{closing_line}

-- The walk along the path that changes every field is the walk field by field.

-- ---- the letters of the path

pub length-changing : (n : ℕ) → length (changing n) ≡ n
length-changing zero = refl
length-changing (suc n) = length-append (changing n) (true ∷ []) ∙ omega (arith, length-changing n)

letters-more : (path : List Bool) (i : ℕ) → ((j : ℕ) → slice_index_or path j true ≡ true) → slice_index_or (path ++ true ∷ []) i true ≡ true
letters-more [] zero all = refl
letters-more [] (suc i) all = refl
letters-more (b ∷ path) zero all = all 0
letters-more (b ∷ path) (suc i) all = letters-more path i (λ j. all (suc j))

letters : (n i : ℕ) → slice_index_or (changing n) i true ≡ true
letters zero i = refl
letters (suc n) i = letters-more (changing n) i (λ j. letters n j)

pub same-length : (xs : List ℕ) (f : ℕ) (n : ℕ) → length xs ≡ n → length (xs ++ f ∷ []) ≡ suc n
same-length xs f n is = length-append xs (f ∷ []) ∙ omega (arith, is)

take-none : (m : ℕ) → (let none : List ℕ = [] in take m none ≡ none)
take-none zero = refl
take-none (suc m) = refl

-- the fields that a test takes, where it takes those of the first places
filter-first : (c : SearchCase) (t : ℕ → Bool) (n k : ℕ) (fields : List ℕ) → Placed c k fields → ((f : ℕ) → t f ≡ nat_lt (path_place c.survey.fields f) n)
    → filter t fields ≡ take (n - k) fields
filter-first c t n k [] placed each = sym (take-none (n - k))
filter-first c t n k (f ∷ fields) placed each = by (nat_lt k n) refl (filter-first c t n (suc k) fields placed.1 each)
  where
    takes : t f ≡ nat_lt k n
    takes = each f ∙ ap (λ i. nat_lt i n) placed.0

    by : (b : Bool) → nat_lt k n ≡ b → filter t fields ≡ take (n - suc k) fields → (if t f then f ∷ filter t fields else filter t fields)
        ≡ take (n - k) (f ∷ fields)
    by true e rest =
        let below : k < n = grind (arith, e) in
        ap (λ b. if b then f ∷ filter t fields else filter t fields) (takes ∙ e) ∙ ap (λ (fs : List ℕ). f ∷ fs) rest
        ∙ ap (λ m. take m (f ∷ fields)) (shifted below)
      where
        shifted : k < n → suc (n - suc k) ≡ n - k
        shifted below = omega (arith, below)
    by false e rest =
        let past : n ≤ k = grind (arith, e) in
        ap (λ b. if b then f ∷ filter t fields else filter t fields) (takes ∙ e) ∙ rest ∙ ap (λ m. take m fields) (nothing past)
        ∙ sym (ap (λ m. take m (f ∷ fields)) (nothing-here past))
      where
        nothing : n ≤ k → n - suc k ≡ 0
        nothing past = omega (arith, past)

        nothing-here : n ≤ k → n - k ≡ 0
        nothing-here past = omega (arith, past)

module _ (c : SearchCase) (n : ℕ) where
  pub keeps-none : (f : ℕ) → keeps c.survey.fields (changing n) f ≡ false
  keeps-none f = ap not (letters n (path_place c.survey.fields f))

  pub keeps-no_bad : keeps_bad c.survey.fields c.row (changing n) ≡ false
  keeps-no_bad = none (path_order c.survey.fields)
    where
      none : (fields : List ℕ) → list_any (λ f. keeps c.survey.fields (changing n) f && is_bad (value_of c.row f)) fields ≡ false
      none [] = refl
      none (f ∷ fields) = ap (λ b. (b && is_bad (value_of c.row f)) || list_any (λ f. keeps c.survey.fields (changing n) f && is_bad (value_of c.row f)) fields)
          (keeps-none f) ∙ none fields

  pub changes-first : (f : ℕ) → changes c.survey.fields (changing n) f ≡ nat_lt (path_place c.survey.fields f) n
  changes-first f = by (nat_lt (path_place c.survey.fields f) n) refl
    where
      by : (b : Bool) → nat_lt (path_place c.survey.fields f) n ≡ b → changes c.survey.fields (changing n) f ≡ b
      by true e = sym (letter-there (changing n) (path_place c.survey.fields f) (omega (arith, length-changing n, below)))
          ∙ letters n (path_place c.survey.fields f)
        where
          below : path_place c.survey.fields f < n
          below = grind (arith, e)
      by false e = get_or_past (changing n) (path_place c.survey.fields f) false (omega (arith, length-changing n, past))
        where
          past : n ≤ path_place c.survey.fields f
          past = grind (arith, e)

  treats-changed : (f : ℕ) → treats c (changing n) f ≡ changes c.survey.fields (changing n) f
  treats-changed f = ap (λ b. b || changes c.survey.fields (changing n) f) (keeps-none f)

  -- the numerical fields that it changes are the first ones
  numbers-first : changed_numbers c (changing n) ≡ take (n - 0) (number_fields (shape_of c.survey.fields))
  numbers-first = filter-first c (changes c.survey.fields (changing n)) n 0 (number_fields (shape_of c.survey.fields)) (numbers-placed c) changes-first

  codes-first : treated_codes c (changing n) ≡ take (n - number_count c) (code_fields (shape_of c.survey.fields))
  codes-first = filter-first c (treats c (changing n)) n (number_count c) (code_fields (shape_of c.survey.fields)) (codes-placed c)
      (λ f. treats-changed f ∙ changes-first f)

  pub numbers-done : (done fields : List ℕ) → number_fields (shape_of c.survey.fields) ≡ done ++ fields → length done ≡ n → changed_numbers c (changing n)
      ≡ done
  numbers-done done fields split size = numbers-first ∙ ap (λ m. take m (number_fields (shape_of c.survey.fields))) (whole_size size)
      ∙ ap (λ (fs : List ℕ). take (length done) fs) split ∙ take-append_seam done fields
    where
      whole_size : length done ≡ n → n - 0 ≡ length done
      whole_size size = omega (arith, size)

  pub numbers-all : number_count c ≤ n → changed_numbers c (changing n) ≡ number_fields (shape_of c.survey.fields)
  numbers-all enough = numbers-first ∙ take_all (n - 0) (number_fields (shape_of c.survey.fields)) (omega (arith, enough))

  pub codes-done : (done fields : List ℕ) → code_fields (shape_of c.survey.fields) ≡ done ++ fields → number_count c + length done ≡ n
      → treated_codes c (changing n) ≡ done
  codes-done done fields split size = codes-first ∙ ap (λ m. take m (code_fields (shape_of c.survey.fields))) (rest size)
      ∙ ap (λ (fs : List ℕ). take (length done) fs) split ∙ take-append_seam done fields
    where
      rest : number_count c + length done ≡ n → n - number_count c ≡ length done
      rest size = omega (arith, size)

  -- each treated field is eliminated
  pub treated-changed : (f : ℕ) → IsIn f (treated_codes c (changing n)) → changes c.survey.fields (changing n) f ≡ true
  treated-changed f there = sym (treats-changed f) ∙ (in-filter-out (treats c (changing n)) f (code_fields (shape_of c.survey.fields)) there).1

-- ---- false lines of all codes

pub position-cons : {X : Type 0} (t : X → Bool) (x : X) (xs : List X) → position t (x ∷ xs)
    ≡ (if t x then Some 0 else cond (nat_lt (position_or_len t xs) (length xs)) (Some (1 + position_or_len t xs)) None)
position-cons {X} t x xs = by (t x)
  where
    shifted : (a b : ℕ) → nat_lt (1 + a) (suc b) ≡ nat_lt a b
    shifted a b = order (nat_lt a b) refl
      where
        order : (l : Bool) → nat_lt a b ≡ l → nat_lt (1 + a) (suc b) ≡ l
        order true e = grind (arith, e)
        order false e = grind (arith, e)

    by : (b : Bool) → cond (nat_lt (cond (not b) (1 + position_or_len t xs) 0) (suc (length xs))) (Some (cond (not b) (1 + position_or_len t xs) 0)) None
        ≡ (if b then Some 0 else cond (nat_lt (position_or_len t xs) (length xs)) (Some (1 + position_or_len t xs)) None)
    by true = ap (λ b. cond b (Some 0) None) below
      where
        below : nat_lt 0 (suc (length xs)) ≡ true
        below = grind arith
    by false = ap (λ b. cond b (Some (1 + position_or_len t xs)) None) (shifted (position_or_len t xs) (length xs))

no-sum : (fields : List ℕ) (factors : List ℤ) (row : List Value) (sum : Ratio) → list_all (λ a. int_eq a (pos 0)) factors ≡ true
    → sum_from fields factors row sum ≡ Ok sum
no-sum [] factors row sum none = refl
no-sum (f ∷ fields) [] row sum none = refl
no-sum (f ∷ fields) (a ∷ factors) row sum none = by (int_eq a (pos 0)) refl none (λ h. no-sum fields factors row sum h)
  where
    by : (b : Bool) → int_eq a (pos 0) ≡ b → (b && list_all (λ a. int_eq a (pos 0)) factors) ≡ true
        → (list_all (λ a. int_eq a (pos 0)) factors ≡ true → sum_from fields factors row sum ≡ Ok sum)
        → (ok_or (if b then Some sum else sum_with sum a (value_of row f)) f >>= (λ next. sum_from fields factors row next)) ≡ Ok sum
    by true e rest h = h rest
    by false e rest h = absurd (cc)

-- where a line has no factor, it fails exactly where it does not hold
pub no-factor : (line : LineParts) (row : List Value) → has_no_factor line ≡ true → fails_at line row ≡ Ok (not (is_enough line.relation line.constant))
no-factor line row none = ap (λ r. fails_by line.relation r) (no-sum (number_fields line.shape) line.factors row (whole line.constant) none)

module _ (c : SearchCase) (n : ℕ) where
  pub stands-none : (fields : List ℕ) (factors : List ℤ) → length factors ≡ length fields → stands_only (keeps c.survey.fields (changing n)) fields factors
      ≡ list_all (λ a. int_eq a (pos 0)) factors
  stands-none [] [] same = refl
  stands-none [] (a ∷ factors) same = absurd (omega (arith, same))
  stands-none (f ∷ fields) [] same = refl
  stands-none (f ∷ fields) (a ∷ factors) same =
      ap (λ b. (int_eq a (pos 0) || b) && stands_only (keeps c.survey.fields (changing n)) fields factors) (keeps-none c n f)
      ∙ ap (λ b. b && stands_only (keeps c.survey.fields (changing n)) fields factors) (or_none (int_eq a (pos 0)))
      ∙ ap (λ b. int_eq a (pos 0) && b) (stands-none fields factors (omega (arith, same)))

  -- the state of a path that the lines from place i on decide
  abbrev pub state_at : ℕ → Option ℕ → PathState
  state_at i (Some k) = ClosedLine (i + k)
  state_at i None = Open

  pub failing-closing : (i : ℕ) (lines : List Derived) → HaveShape (shape_of c.survey.fields) (lines_of lines) → first_failing c (changing n) i lines
      ≡ state_at i (closing_line (whole_sets (shape_of c.survey.fields)) lines)
  failing-closing i [] over = refl
  failing-closing i (d ∷ lines) over =
      ap (λ z. if are_whole (shape_of c.survey.fields) d.line.sets && z then closed_by i (fails_at d.line c.row) (first_failing c (changing n) (suc i) lines)
      else first_failing c (changing n) (suc i) lines)
      (stands-none (number_fields d.line.shape) d.line.factors ((over 0 d.line (omega arith)).factors
      ∙ ap (λ (s : List Domain). length (number_fields s)) (sym (over 0 d.line (omega arith)).same)))
      ∙ by (are_whole (shape_of c.survey.fields) d.line.sets) (has_no_factor d.line) (is_enough d.line.relation d.line.constant)
      (λ none. no-factor d.line c.row none) (failing-closing (suc i) lines (λ k l below. over (suc k) l (omega arith)))
      ∙ sym (ap (λ o. state_at i o) (position-cons (λ (d : Derived). are_whole (shape_of c.survey.fields) d.line.sets && is_false d.line) d lines))
    where
      later : (o : Bool) (m : ℕ) → state_at (suc i) (cond o (Some m) None) ≡ state_at i (cond o (Some (1 + m)) None)
      later true m = ap (λ k. ClosedLine k) (omega arith)
      later false m = refl

      by : (w z e : Bool) → (z ≡ true → fails_at d.line c.row ≡ Ok (not e)) → first_failing c (changing n) (suc i) lines
          ≡ state_at (suc i) (closing_line (whole_sets (shape_of c.survey.fields)) lines)
          → (if w && z then closed_by i (fails_at d.line c.row) (first_failing c (changing n) (suc i) lines) else first_failing c (changing n) (suc i) lines)
          ≡ state_at i (if w && (z && not e) then Some 0 else cond
          (nat_lt (position_or_len (λ (d : Derived). are_whole (shape_of c.survey.fields) d.line.sets && is_false d.line) lines) (length lines))
          (Some (1 + position_or_len (λ (d : Derived). are_whole (shape_of c.survey.fields) d.line.sets && is_false d.line) lines)) None)
      by true true true fails rest =
          ap (λ r. closed_by i r (first_failing c (changing n) (suc i) lines)) (fails refl) ∙ rest
          ∙ later (nat_lt (position_or_len (λ (d : Derived). are_whole (shape_of c.survey.fields) d.line.sets && is_false d.line) lines) (length lines))
          (position_or_len (λ (d : Derived). are_whole (shape_of c.survey.fields) d.line.sets && is_false d.line) lines)
      by true true false fails rest = ap (λ r. closed_by i r (first_failing c (changing n) (suc i) lines)) (fails refl) ∙ ap (λ k. ClosedLine k) (omega arith)
      by true false e fails rest = rest
          ∙ later (nat_lt (position_or_len (λ (d : Derived). are_whole (shape_of c.survey.fields) d.line.sets && is_false d.line) lines) (length lines))
          (position_or_len (λ (d : Derived). are_whole (shape_of c.survey.fields) d.line.sets && is_false d.line) lines)
      by false z e fails rest = rest ∙ later
          (nat_lt (position_or_len (λ (d : Derived). are_whole (shape_of c.survey.fields) d.line.sets && is_false d.line) lines) (length lines))
          (position_or_len (λ (d : Derived). are_whole (shape_of c.survey.fields) d.line.sets && is_false d.line) lines)
