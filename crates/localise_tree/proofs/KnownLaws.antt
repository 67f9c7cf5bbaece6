use Rattle.std.proofs.Common.{◌≡◌, ◌⊎◌, ◌*◌, ◌≤◌, ◌^◌, if◌then◌else◌, ◌&&◌, ◌||◌, ◌++◌, ℕ, suc, ◌+◌, ◌<◌, Bool, true, false, cond, List, [], ◌∷◌}
use Rattle.std.proofs.Common.{Option, Some, None, inl, inr, length, slice_index_or, take, refl, sym, ap, ◌∙◌, subst, arith, ◌==◌}
use Rattle.std.specs.BTreeMap.{get}
use Rattle.std.specs.List.{AllByRecursion}
use Rattle.std.specs.Ordering.{is_eq, nat_cmp}
use Rattle.std.proofs.Math.Nat.{lt_of_lt_of_le, pow-suc}
use Rattle.std.proofs.Math.Pow.{pow_mono}
use Rattle.std.proofs.lemmas.Bool.Decides.{eqb_tells}
use Rattle.std.specs.Cmp.{unsigned_tied}
use Rattle.std.proofs.lemmas.List.{get_or-map, get_or_append_left, get_or_push, length-append, length-map, length-take-le, map-append, take_more}
use Rattle.edit_model.specs.Corrections.{is_first}
use Rattle.edit_line.specs.Reductions.{IsIn}
use Rattle.edit_line.proofs.SetLaws.{both_true}
use Rattle.edit_paths.specs.Cases.{SearchCase}
use Rattle.edit_paths.specs.Certificates.{has_path}
use Rattle.edit_paths.specs.States.{state_of}
use Rattle.edit_paths.proofs.PathOrder.{first-equal}
use Rattle.path_walk.specs.Bases.{IsKnownBasis}
use Rattle.path_walk.proofs.NumberPathLaws.{in-index}
use Rattle.localise_tree.specs.declared.best_first.Taken.{Taken}
use Rattle.localise_tree.specs.inner.Knowns.{ArePlaces, IsFound, IsPlaceOf, Places, letters_number, place_at}
use Rattle.localise_tree.specs.inner.Takens.{IsTaken, taken_paths}

-- The places of the paths that were taken, by their letters.

-- no number of letters is 0
some_number : (a : List Bool) → 0 < letters_number a
some_number [] = omega arith
some_number (x ∷ a) = omega (arith, some_number a)

-- and that of at most 64 letters has 65 bits
pub small-number : (a : List Bool) → length a ≤ 64 → letters_number a < 2 ^ 65
small-number a short = lt_of_lt_of_le (below a) (pow_mono {i = length a + 1} {j = 65} (omega (arith, short)))
  where
    below : (b : List Bool) → letters_number b < 2 ^ (length b + 1)
    below [] = omega arith
    below (x ∷ b) = subst (λ (n : ℕ). letters_number (x ∷ b) < n) (sym (ap (λ (k : ℕ). 2 ^ k) one_more ∙ pow-suc 2 (length b + 1))) (by x (below b))
      where
        one_more : length (x ∷ b) + 1 ≡ suc (length b + 1)
        one_more = omega arith

        by : (y : Bool) → letters_number b < 2 ^ (length b + 1) → 2 * letters_number b + (if y then 1 else 0) < 2 ^ (length b + 1) * 2
        by true small = omega (arith, small)
        by false small = omega (arith, small)

-- the numbers of letters tell them apart
one-number : (a b : List Bool) → letters_number a ≡ letters_number b → a ≡ b
one-number [] [] e = refl
one-number [] (y ∷ b) e = absurd (omega (arith, e, some_number b))
one-number (x ∷ a) [] e = absurd (omega (arith, e, some_number a))
one-number (true ∷ a) (true ∷ b) e = ap (λ (ls : List Bool). true ∷ ls) (one-number a b (omega (arith, e)))
one-number (false ∷ a) (false ∷ b) e = ap (λ (ls : List Bool). false ∷ ls) (one-number a b (omega (arith, e)))
one-number (true ∷ a) (false ∷ b) e = absurd (omega (arith, e))
one-number (false ∷ a) (true ∷ b) e = absurd (omega (arith, e))

-- a path is the same as itself
same-path : (path : List Bool) → is_first path path ≡ true
same-path [] = refl
same-path (true ∷ path) = same-path path
same-path (false ∷ path) = same-path path

same-letters : (a b : List Bool) → is_eq (nat_cmp (letters_number a) (letters_number b)) ≡ (is_first a b && is_first b a)
same-letters a b =
    unsigned_tied (letters_number a) (letters_number b) ∙ by (eqb_tells (letters_number a) (letters_number b)) (is_first a b && is_first b a) refl
  where
    by : ((letters_number a == letters_number b) ≡ true × (letters_number a ≡ letters_number b))
        ⊎ ((letters_number a == letters_number b) ≡ false × (letters_number a ≡ letters_number b → ⊥))
        → (r : Bool) → (is_first a b && is_first b a) ≡ r → (letters_number a == letters_number b) ≡ (is_first a b && is_first b a)
    by (inl (same, e)) r is =
        same ∙ subst (λ (c : List Bool). true ≡ (is_first a c && is_first c a)) (one-number a b e) (sym (ap (λ (f : Bool). f && f) (same-path a)))
    by (inr (apart, other)) false is = apart ∙ sym is
    by (inr (apart, other)) true is = let (one, two) = both_true (is_first a b) (is_first b a) is in absurd
        (other (ap letters_number (first-equal a b one two)))

has-last : (paths : List (List Bool)) (path q : List Bool) → has_path (paths ++ path ∷ []) q ≡ (has_path paths q || (is_first path q && is_first q path))
has-last [] path q = or_false (is_first path q && is_first q path)
  where
    or_false : (b : Bool) → (b || false) ≡ b
    or_false true = refl
    or_false false = refl
has-last (p ∷ paths) path q =
    ap (λ b. (is_first p q && is_first q p) || b) (has-last paths path q)
    ∙ or_assoc (is_first p q && is_first q p) (has_path paths q) (is_first path q && is_first q path)
  where
    or_assoc : (a b d : Bool) → (a || (b || d)) ≡ ((a || b) || d)
    or_assoc true b d = refl
    or_assoc false b d = refl

-- one path more
module _ (paths : List (List Bool)) (path q : List Bool) (place : ℕ) (last : length paths ≡ place) where
  longer_by_one : length (paths ++ path ∷ []) ≡ place + 1
  longer_by_one = length-append paths (path ∷ []) ∙ omega (arith, last)

  place-other : (old : Option ℕ) → (is_first path q && is_first q path) ≡ false → IsPlaceOf paths q old → IsPlaceOf (paths ++ path ∷ []) q old
  place-other (Some i) other (below, at) = (omega (arith, longer_by_one, below, last), get_or_append_left paths (path ∷ []) [] i below ∙ at)
  place-other None other absent = has-last paths path q ∙ ap (λ b. b || (is_first path q && is_first q path)) absent ∙ other

  place-with : (old : Option ℕ) → IsPlaceOf paths q old
      → IsPlaceOf (paths ++ path ∷ []) q (cond (is_eq (nat_cmp (letters_number path) (letters_number q))) (Some place) old)
  place-with old was =
      subst (λ b. IsPlaceOf (paths ++ path ∷ []) q (cond b (Some place) old)) (sym (same-letters path q)) (by (is_first path q && is_first q path) refl)
    where
      by : (b : Bool) → (is_first path q && is_first q path) ≡ b → IsPlaceOf (paths ++ path ∷ []) q (cond b (Some place) old)
      by false other = place-other old other was
      by true same =
          let (one, two) = both_true (is_first path q) (is_first q path) same in
          (omega (arith, longer_by_one), get_or_push paths path [] place last ∙ first-equal path q one two)

-- ---- the paths that were taken

pub places-next : (taken : List Taken) (i : ℕ) (t : Taken) (places new : Places) (number : ℕ) → i < length taken → t ≡ slice_index_or taken i t
    → number ≡ letters_number t.path → ArePlaces (taken_paths (take i taken)) places
    → ((q : ℕ) → get nat_cmp new q ≡ cond (is_eq (nat_cmp number q)) (Some i) (get nat_cmp places q)) → ArePlaces (taken_paths (take (i + 1) taken)) new
places-next taken i t places new number below is same are with q =
    subst (λ (ps : List (List Bool)). IsPlaceOf ps q (place_at new q)) (sym paths)
    (subst (λ o. IsPlaceOf (taken_paths (take i taken) ++ t.path ∷ []) q o)
    (sym (with (letters_number q) ∙ ap (λ (n : ℕ). cond (is_eq (nat_cmp n (letters_number q))) (Some i) (place_at places q)) same))
    (place-with (taken_paths (take i taken)) t.path q i (length-map (take i taken) (λ (u : Taken). u.path) ∙ length-take-le i taken (omega (arith, below)))
    (place_at places q) (are q)))
  where
    paths : taken_paths (take (i + 1) taken) ≡ taken_paths (take i taken) ++ t.path ∷ []
    paths =
        ap (λ (ts : List Taken). taken_paths ts) (take_more taken i t below)
        ∙ map-append (λ (u : Taken). u.path) (take i taken) (slice_index_or taken i t ∷ [])
        ∙ ap (λ (u : Taken). taken_paths (take i taken) ++ u.path ∷ []) (sym is)

-- a place is one of the taken paths
pub place-below : (taken : List Taken) (letters : List Bool) (place : ℕ) (o : Option ℕ) → o ≡ Some place → IsPlaceOf (taken_paths taken) letters o
    → place < length taken
place-below taken letters place o is at = let (below, same) = subst (λ p. IsPlaceOf (taken_paths taken) letters p) is at in omega
    (arith, below, length-map taken (λ (u : Taken). u.path))

-- and has the letters
pub place-found : (taken : List Taken) (letters : List Bool) (place : ℕ) (o : Option ℕ) (t : Taken) → o ≡ Some place
    → IsPlaceOf (taken_paths taken) letters o → t ≡ slice_index_or taken place t → IsFound taken letters t
place-found taken letters place o t is at found =
    let (below, same) = subst (λ p. IsPlaceOf (taken_paths taken) letters p) is at in
    let within = place-below taken letters place o is at in
    record {
      there = subst (λ (u : Taken). IsIn u taken) (sym found) (in-index taken place t within);
      path =
          sym (get_or-map (λ (u : Taken). u.path) taken place t [] within ∙ ap (λ (u : Taken). u.path) (sym found)) ∙ same;
    }

-- ---- what is known of a path that was taken

module _ (taken : List Taken) (letters : List Bool) (one : Taken) (found : IsFound taken letters one) where
  pub found-has : has_path (taken_paths taken) letters ≡ true
  found-has = subst (λ (p : List Bool). has_path (taken_paths taken) p ≡ true) found.path (among taken found.there)
    where
      among : (ts : List Taken) → IsIn one ts → has_path (taken_paths ts) one.path ≡ true
      among [] there = absurd there
      among (t ∷ ts) (inl same) =
          ap (λ (u : Taken). (is_first u.path one.path && is_first one.path u.path) || has_path (taken_paths ts) one.path) (sym same)
          ∙ ap (λ b. (b && b) || has_path (taken_paths ts) one.path) (same-path one.path)
      among (t ∷ ts) (inr later) =
          ap (λ b. (is_first t.path one.path && is_first one.path t.path) || b) (among ts later)
          ∙ or_true (is_first t.path one.path && is_first one.path t.path)
        where
          or_true : (b : Bool) → (b || true) ≡ true
          or_true true = refl
          or_true false = refl

  module _ (c : SearchCase) (are : AllByRecursion (IsTaken c) taken) where
    found-taken : IsTaken c one
    found-taken = among taken found.there are
      where
        among : (ts : List Taken) → IsIn one ts → AllByRecursion (IsTaken c) ts → IsTaken c one
        among [] there each = absurd there
        among (t ∷ ts) (inl same) each = subst (λ (u : Taken). IsTaken c u) (sym same) each.0
        among (t ∷ ts) (inr later) each = among ts later each.1

    pub found-state : state_of c letters ≡ one.state
    found-state = sym (found-taken.state ∙ ap (λ (p : List Bool). state_of c p) found.path)

    pub found-basis : IsKnownBasis c letters one.basis
    found-basis = subst (λ (p : List Bool). IsKnownBasis c p one.basis) found.path found-taken.basis
