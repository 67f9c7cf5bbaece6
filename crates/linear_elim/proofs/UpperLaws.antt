use Rattle.std.proofs.Common.{◌≡◌, ℕ, zero, suc, ◌+◌, ◌<◌, ◌≤◌, ◌&&◌, Bool, true, false, if◌then◌else◌, List, [], ◌∷◌, Result, Ok, Err, Some, length}
use Rattle.std.proofs.Common.{drop, filter, get_or, refl, sym, ap, ◌∙◌, arith, add-one}
use Rattle.std.proofs.Math.Seq.{drop-cons}
use Rattle.std.proofs.lemmas.List.{drop_all}
use Rattle.std.specs.List.{slice_get}
use Rattle.edit_line.specs.Combinations.{all_meet}
use Rattle.edit_line.specs.Lines.{LineParts}
use Rattle.edit_line.specs.declared.derived.Derived.{Derived}
use Rattle.linear_elim.specs.Combinations.{combine_result, is_upper}
use Rattle.linear_elim.specs.Steps.{collect, followed_by, is_opposite, pair_result, paired}
use Rattle.linear_elim.specs.inner.Taken.{taken_in}
use Rattle.linear_elim.specs.inner.Uppers.{collect_at, count_at, found_count, found_result, places_from}
use Rattle.linear_elim.proofs.StepLoops.{taken-joined}

-- A row of pairs takes the same lines, whether all are looked at or the upper ones alone.

-- ---- a list from one place on

found : {X : Type 0} (xs : List X) (i : ℕ) (x : X) (rest : List X) → drop i xs ≡ x ∷ rest → (slice_get xs i ≡ Some x) × (drop (suc i) xs ≡ rest)
found [] zero x rest e = absurd (cc)
found [] (suc i) x rest e = absurd (cc)
found (y ∷ xs) zero x rest e = (cc, cc)
found (y ∷ xs) (suc i) x rest e = found xs i x rest e

-- ---- what is given for each line

followed-none : {F : Type 0} (rest : Result (List Derived) F) → followed_by (Ok []) rest ≡ rest
followed-none (Ok rest) = refl
followed-none (Err fault) = refl

module _ {F : Type 0} (each : ℕ → Derived → Result (List Derived) F) (test : LineParts → Bool)
    (none : (j : ℕ) (t : Derived) → test t.line ≡ false → each j t ≡ Ok []) (lines : List Derived) where
  collect-places : (i : ℕ) (rest : List Derived) → drop i lines ≡ rest → collect_at each lines (places_from test i rest) ≡ collect each i rest
  collect-places i [] from = refl
  collect-places i (t ∷ rest) from = by (test t.line) refl (collect-places (suc i) rest (found lines i t rest from).1)
    where
      by : (b : Bool) → test t.line ≡ b → collect_at each lines (places_from test (suc i) rest) ≡ collect each (suc i) rest
          → collect_at each lines (if b then i ∷ places_from test (suc i) rest else places_from test (suc i) rest)
          ≡ followed_by (each i t) (collect each (suc i) rest)
      by true is more =
          ap (λ o. followed_by (found_result each i o) (collect_at each lines (places_from test (suc i) rest))) (found lines i t rest from).0
          ∙ ap (λ r. followed_by (each i t) r) more
      by false is more = more ∙ sym (followed-none (collect each (suc i) rest)) ∙ ap (λ r. followed_by r (collect each (suc i) rest)) (sym (none i t is))

module _ (counts test : LineParts → Bool) (none : (t : LineParts) → test t ≡ false → counts t ≡ false) (lines : List Derived) where
  count-places : (i : ℕ) (rest : List Derived) → drop i lines ≡ rest
      → count_at counts lines (places_from test i rest) ≡ length (filter (λ (t : Derived). counts t.line) rest)
  count-places i [] from = refl
  count-places i (t ∷ rest) from = by (test t.line) refl (count-places (suc i) rest (found lines i t rest from).1)
    where
      one : (b : Bool) → (if b then 1 else 0) + length (filter (λ (t : Derived). counts t.line) rest)
          ≡ length (if b then t ∷ filter (λ (t : Derived). counts t.line) rest else filter (λ (t : Derived). counts t.line) rest)
      one true = omega arith
      one false = omega arith

      by : (b : Bool) → test t.line ≡ b → count_at counts lines (places_from test (suc i) rest) ≡ length (filter (λ (t : Derived). counts t.line) rest)
          → count_at counts lines (if b then i ∷ places_from test (suc i) rest else places_from test (suc i) rest)
          ≡ length (filter (λ (t : Derived). counts t.line) (t ∷ rest))
      by true is more =
          ap (λ o. found_count counts o + count_at counts lines (places_from test (suc i) rest)) (found lines i t rest from).0
          ∙ ap (λ n. (if counts t.line then 1 else 0) + n) more ∙ one (counts t.line)
      by false is more =
          more ∙ ap (λ b. length (if b then t ∷ filter (λ (t : Derived). counts t.line) rest else filter (λ (t : Derived). counts t.line) rest))
          (sym (none t.line is))

-- ---- of a row

module _ (f : ℕ) (s : Derived) where
  not-opposite : (t : LineParts) → is_upper f t ≡ false → is_opposite f s.line t ≡ false
  not-opposite t is = ap (λ b. b && all_meet s.line.sets t.sets) is

  not-paired : (i j : ℕ) (t : Derived) → is_upper f t.line ≡ false → pair_result f i s j t ≡ Ok []
  not-paired i j t is = ap (λ b. if b then paired s.line.shape i j (combine_result s.line t.line f) else Ok []) (not-opposite t.line is)

  pub row-uppers : (i : ℕ) (lines : List Derived) (places : List ℕ) → places ≡ places_from (is_upper f) 0 lines
      → collect_at (pair_result f i s) lines places ≡ collect (pair_result f i s) 0 lines
  row-uppers i lines places are =
      ap (λ ps. collect_at (pair_result f i s) lines ps) are ∙ collect-places (pair_result f i s) (is_upper f) (not-paired i) lines 0 lines refl

  pub count-uppers : (lines : List Derived) (places : List ℕ) → places ≡ places_from (is_upper f) 0 lines
      → count_at (is_opposite f s.line) lines places ≡ length (filter (λ (t : Derived). is_opposite f s.line t.line) lines)
  count-uppers lines places are =
      ap (λ ps. count_at (is_opposite f s.line) lines ps) are ∙ count-places (is_opposite f s.line) (is_upper f) not-opposite lines 0 lines refl

-- ---- a loop over places: what is done, and what is left, give the whole

module _ {F : Type 0} (each : ℕ → Derived → Result (List Derived) F) (lines : List Derived) (places : List ℕ) (whole : Result (List Derived) F) (i : ℕ)
    (kept : List Derived) (before : taken_in kept (collect_at each lines (drop i places)) ≡ whole) where
  here : i < length places → taken_in kept (followed_by (found_result each (get_or places i 0) (slice_get lines (get_or places i 0)))
      (collect_at each lines (drop (suc i) places))) ≡ whole
  here below = ap (λ ps. taken_in kept (collect_at each lines ps)) (sym (drop-cons places i 0 below)) ∙ before

  pub places-more : (new : List Derived) → i < length places
      → taken_in kept (found_result each (get_or places i 0) (slice_get lines (get_or places i 0))) ≡ Ok new
      → taken_in new (collect_at each lines (drop (i + 1) places)) ≡ whole
  places-more new below is = rw (add-one) (sym (taken-joined kept new _ (collect_at each lines (drop (suc i) places)) is) ∙ here below)

  pub places-fault : (fault : F) → i < length places → found_result each (get_or places i 0) (slice_get lines (get_or places i 0)) ≡ Err fault
      → whole ≡ Err fault
  places-fault fault below is = sym (here below) ∙ ap (λ r. taken_in kept (followed_by r (collect_at each lines (drop (suc i) places)))) is

  pub places-end : length places ≤ i → whole ≡ Ok kept
  places-end past = sym before ∙ ap (λ ps. taken_in kept (collect_at each lines ps)) (drop_all i places past)

module _ (test : LineParts → Bool) (lines : List Derived) (places : List ℕ) (i : ℕ) where
  pub places_count-more : i < length places → count_at test lines (drop i places)
      ≡ found_count test (slice_get lines (get_or places i 0)) + count_at test lines (drop (i + 1) places)
  places_count-more below = rw (add-one) (ap (λ ps. count_at test lines ps) (drop-cons places i 0 below))

  pub places_count-end : length places ≤ i → count_at test lines (drop i places) ≡ 0
  places_count-end past = ap (λ ps. count_at test lines ps) (drop_all i places past)
