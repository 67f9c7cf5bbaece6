use Rattle.std.proofs.Common.{◌≡◌, ◌+◌, ◌<◌, ◌≤◌, ℕ, Bool, true, false, true≢false, List, [], ◌∷◌, ◌++◌, map, length, refl, sym, ap, ◌∙◌, subst, inl, inr}
use Rattle.std.proofs.Common.{⊎_elim, nat_lt, arith}
use mathlib.Core.Bool.{◌||◌}
use Rattle.std.specs.Prelude.{nat_le}
use Rattle.std.specs.List.{sum_by}
use Rattle.std.proofs.lemmas.List.{length-map, map-append}
use Rattle.std.proofs.lemmas.List.Elements.{All-push}
use Rattle.std.proofs.lemmas.List.Sums.{sum_by-cons}
use Rattle.boxcar.specs.Table.{Shows}
use Rattle.shared_edits.specs.Pools.{IsFull, IsOf, IsReaderOf, PoolParts, Walked, lines_walked, system_of}
use Rattle.shared_edits.specs.declared.entry.Entry.{Entry}
use Rattle.shared_edits.specs.inner.Entries.{IsBehind, walked_of}

-- A reader publishes a system, unless it is full.

lines-entries : (es : List Entry) → sum_by (λ (e : Entry). e.lines) es ≡ lines_walked (map walked_of es)
lines-entries [] = refl
lines-entries (e ∷ es) = sum_by-cons (λ (d : Entry). d.lines) e es ∙ (λ i. e.counted i + lines-entries es i)
    ∙ sym (sum_by-cons (λ (w : Walked). length (system_of w).lines) (walked_of e) (map walked_of es))

-- whether the reader publishes no system of so many lines
abbrev pub is_full : List Entry → ℕ → Bool
is_full es count = nat_le 4096 (length es) || nat_lt 200000 (sum_by (λ (e : Entry). e.lines) es + count)

module _ (es : List Entry) (count : ℕ) where
  pub full-is : is_full es count ≡ true → IsFull count (map walked_of es)
  full-is full = by (nat_le 4096 (length es)) (nat_lt 200000 (sum_by (λ (e : Entry). e.lines) es + count)) refl refl full
    where
      by : (many long : Bool) → nat_le 4096 (length es) ≡ many → nat_lt 200000 (sum_by (λ (e : Entry). e.lines) es + count) ≡ long → (many || long) ≡ true
          → IsFull count (map walked_of es)
      by true long is other e = let many : 4096 ≤ length es = grind (arith, is) in inl (let as_many = length-map es walked_of in omega (arith, many, as_many))
      by false true is other e = let long : 200000 < sum_by (λ (e : Entry). e.lines) es + count = grind (arith, other) in
          inr (let same = lines-entries es in omega (arith, long, same))
      by false false is other e = absurd (true≢false (sym e))

  pub not-full-is : is_full es count ≡ false → ¬ IsFull count (map walked_of es)
  not-full-is not_full full = by (nat_le 4096 (length es)) (nat_lt 200000 (sum_by (λ (e : Entry). e.lines) es + count)) refl refl not_full
    where
      by : (many long : Bool) → nat_le 4096 (length es) ≡ many → nat_lt 200000 (sum_by (λ (e : Entry). e.lines) es + count) ≡ long → (many || long) ≡ false → ⊥
      by true long is other e = true≢false e
      by false true is other e = true≢false e
      by false false is other e =
          let few : length es < 4096 = grind (arith, is) in
          let short : sum_by (λ (e : Entry). e.lines) es + count ≤ 200000 = grind (arith, other) in
          let as_many = length-map es walked_of in
          let same = lines-entries es in
          ⊎_elim (λ (many : 4096 ≤ length (map walked_of es)). absurd (omega (arith, many, few, as_many)))
          (λ (long : 200000 < lines_walked (map walked_of es) + count). absurd (omega (arith, long, short, same))) full

  pub not-full-few : is_full es count ≡ false → length es < 4096
  not-full-few not_full = by (nat_le 4096 (length es)) refl not_full
    where
      by : (many : Bool) → nat_le 4096 (length es) ≡ many → (many || nat_lt 200000 (sum_by (λ (e : Entry). e.lines) es + count)) ≡ false → length es < 4096
      by true is e = absurd (true≢false e)
      by false is e = grind (arith, is)

-- ---- an entry more

module _ (es new : List Entry) (e : Entry) (is : new ≡ es ++ e ∷ []) where
  pub pushed-is : map walked_of new ≡ map walked_of es ++ walked_of e ∷ []
  pushed-is = ap (map walked_of) is ∙ map-append walked_of es (e ∷ [])

  pub pushed-of : (pool : PoolParts) → IsReaderOf pool (map walked_of es) → IsOf pool (walked_of e) → IsReaderOf pool (map walked_of new)
  pushed-of pool of here = subst (IsReaderOf pool) (sym pushed-is) (All-push (IsOf pool) (map walked_of es) (walked_of e) of here)

  pub pushed-behind : (next : ℕ) → IsBehind next (map walked_of es) → e.own ≡ true → IsBehind next (map walked_of new)
  pushed-behind next behind own = subst (IsBehind next) (sym pushed-is) (All-push (λ (w : Walked). w.own ≡ false → w.token.index < next) (map walked_of es)
      (walked_of e) behind (λ other. absurd (true≢false (sym own ∙ other))))

-- the reader's own entry is the pool's
pub own-of : (pool : PoolParts) (e : Entry) → Shows pool.entries (walked_of e).token → e.fits ≡ true → (system_of (walked_of e)).edits ≡ pool.edits
    → IsOf pool (walked_of e)
own-of pool e shown fits edits = record { shown = shown; system = e.system; compared = (λ passes. edits, λ same. fits) }
