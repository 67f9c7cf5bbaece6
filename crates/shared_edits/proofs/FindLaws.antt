use Rattle.std.proofs.Common.{◌≡◌, ℕ, zero, suc, ◌<◌, ◌≤◌, Bool, true, false, true≢false, List, [], ◌∷◌, map, length, length-append, Some, None, Ok, cond, refl}
use Rattle.std.proofs.Common.{sym, ap, ◌∙◌, subst, nat_eq, nat_lt, arith}
use mathlib.Core.Bool.{◌&&◌}
use Rattle.std.specs.List.{position, position_or_len}
use Rattle.std.proofs.lemmas.List.{get_or_append_left, length-map}
use Rattle.std.proofs.Math.ListN.{get_or-map}
use Rattle.std.proofs.lemmas.List.Sums.{fails_before_first}
use Rattle.std.proofs.lemmas.List.Quantifiers.{position-Some}
use Rattle.std.proofs.lemmas.Bool.{eq-eqb, eqb-true}
use lib.ListN.{get_or}
use Rattle.edit_line.specs.EditSets.{EditsParts}
use Rattle.linear_elim.specs.Systems.{system_at}
use Rattle.shared_edits.specs.Pools.{Carries, IsOf, IsReaderOf, Knows, PoolParts, Walked, carries, system_of}
use Rattle.shared_edits.specs.Walks.{HasWalkedOn}
use Rattle.shared_edits.specs.declared.entry.Entry.{Entry}
use Rattle.shared_edits.specs.inner.Entries.{walked_of}

-- A reader finds what it has walked.

-- the stored entry is the pool's, without these fields
abbrev pub is_wanted : ℕ → Entry → Bool
is_wanted fields e = e.fits && nat_eq e.fields fields

both_true : (a b : Bool) → (a && b) ≡ true → (a ≡ true) × (b ≡ true)
both_true true b e = (refl, e)
both_true false b e = absurd (true≢false (sym e))

none_passes : (test : Entry → Bool) (es : List Entry) → position test es ≡ None → (k : ℕ) (d : Entry) → k < length es → test (get_or es k d) ≡ false
none_passes test es none k d within = by (nat_lt (position_or_len test es) (length es)) refl none
  where
    by : (b : Bool) → nat_lt (position_or_len test es) (length es) ≡ b → cond b (Some (position_or_len test es)) None ≡ None → test (get_or es k d) ≡ false
    by true is e = absurd (cc)
    by false is e = let past : length es ≤ position_or_len test es = grind (arith, is) in fails_before_first test es k d (omega (arith, past, within))

module _ (pool : PoolParts) (fields : ℕ) where
  -- the test is true exactly of the pool's system without the fields
  pub carries-is : (w : Walked) → IsOf pool w → carries fields w ≡ true → Carries pool fields w
  carries-is w of passes = let both = both_true w.fits (nat_eq (system_of w).fields fields) passes in
      (of.compared.0 both.0, eqb-true (system_of w).fields fields both.1)

  pub is-carries : (w : Walked) → IsOf pool w → Carries pool fields w → carries fields w ≡ true
  is-carries w of is = rw (of.compared.1 is.0) (eq-eqb (system_of w).fields fields is.1)

  wanted-carries : (e : Entry) → is_wanted fields e ≡ carries fields (walked_of e)
  wanted-carries e = ap (λ n. e.fits && nat_eq n fields) e.carried

  entry_there : (es : List Entry) (k : ℕ) (w : Walked) → k < length (map walked_of es) → (e : Entry) × (get_or (map walked_of es) k w ≡ walked_of e)
      × (get_or es k e ≡ e) × (k < length es)
  entry_there [] k w below = absurd (omega (arith, below))
  entry_there (e ∷ es) zero w below = (e, refl, refl, omega arith)
  entry_there (e ∷ es) (suc k) w below = let (d, is, at, within) = entry_there es k w (omega (arith, below)) in (d, is, at, omega (arith, within))

  module _ (es : List Entry) (of : IsReaderOf pool (map walked_of es)) where
    -- where no such entry is stored, the reader does not know the fields
    pub unknown : position (is_wanted fields) es ≡ None → ¬ Knows pool fields (map walked_of es)
    unknown none knows =
        let (k, w, within, at, is) = knows in
        let (e, e_is, e_at, e_within) = entry_there es k w within in
        let same : w ≡ walked_of e = sym at ∙ e_is in
        let here : IsOf pool w = subst (IsOf pool) at (of k w within) in
        let wanted : is_wanted fields e ≡ true = wanted-carries e ∙ ap (carries fields) (sym same) ∙ is-carries w here is in
        let not_wanted : is_wanted fields e ≡ false = ap (is_wanted fields) (sym e_at) ∙ none_passes (is_wanted fields) es none k e e_within in
        true≢false (sym wanted ∙ not_wanted)

    -- and one that is found is the pool's system without the fields
    pub found : (k : ℕ) (e : Entry) → position (is_wanted fields) es ≡ Some k → e ≡ get_or es k e → IsOf pool (walked_of e) × Carries pool fields (walked_of e)
        × Knows pool fields (map walked_of es)
    found k e at is =
        let there = position-Some (is_wanted fields) es k e at in
        let within : k < length (map walked_of es) = (let as_many = length-map es walked_of in omega (arith, as_many, there.0)) in
        let same : get_or (map walked_of es) k (walked_of e) ≡ walked_of e = get_or-map walked_of es k e ∙ ap walked_of (sym is) in
        let here : IsOf pool (walked_of e) = subst (IsOf pool) same (of k (walked_of e) within) in
        let is_here = carries-is (walked_of e) here (sym (wanted-carries e) ∙ ap (is_wanted fields) is ∙ there.1) in
        (here, is_here, (k, walked_of e, within, same, is_here))

  -- it has the lines of the edits without the fields
  pub carries-lines : (w : Walked) → IsOf pool w → Carries pool fields w → system_at pool.edits fields ≡ Ok (system_of w).lines
  carries-lines w of is =
      subst (λ (n : ℕ). system_at pool.edits n ≡ Ok (system_of w).lines) is.1
      (subst (λ (e : EditsParts). system_at e (system_of w).fields ≡ Ok (system_of w).lines) is.0 of.system.lines_are)

-- what a reader knows it knows when it has walked on
pub knows-later : (pool : PoolParts) (fields : ℕ) (old new : List Walked) → HasWalkedOn old new → Knows pool fields old → Knows pool fields new
knows-later pool fields old new walks knows =
    let (k, w, within, at, is) = knows in
    subst (λ (ws : List Walked). Knows pool fields ws) (sym walks.on)
    (let as_many = length-append old walks.more in (k, w, omega (arith, within, as_many), get_or_append_left old walks.more w k within ∙ at, is))

-- also among the entries that it has stored
pub stored-knows : (pool : PoolParts) (fields : ℕ) (old new : List Walked) (es : List Entry) → HasWalkedOn old new → map walked_of es ≡ new
    → Knows pool fields old → Knows pool fields (map walked_of es)
stored-knows pool fields old new es walks are knows = subst (λ (ws : List Walked). Knows pool fields ws) (sym are) (knows-later pool fields old new walks knows)

-- and what it does not know after its walk it did not know before
pub unknown-before : (pool : PoolParts) (fields set : ℕ) (old new : List Walked) → HasWalkedOn old new → set ≡ fields → ¬ Knows pool set new
    → ¬ Knows pool fields old
unknown-before pool fields set old new walks same unknown knows =
    unknown (subst (λ (s : ℕ). Knows pool s new) (sym same) (knows-later pool fields old new walks knows))
