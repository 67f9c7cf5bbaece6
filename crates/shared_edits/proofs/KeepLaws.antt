use Rattle.std.proofs.Common.{◌≡◌, ◌+◌, ℕ, Bool, true, List, [], ◌∷◌, length, length-append, Result, Ok, Err, IfOk, OnOk, sym, ap, ◌∙◌, subst, ⊎_elim, nat_lt}
use Rattle.std.proofs.Common.{arith}
use mathlib.Core.Bool.{◌||◌}
use Rattle.std.specs.Prelude.{nat_le}
use Rattle.std.specs.Arc.{arc_value}
use Rattle.std.specs.List.{list_any}
use Rattle.std.proofs.lemmas.List.Folds.{list_any-from_Any}
use Rattle.std.proofs.Math.Seq.{get_or-append_seam}
use Rattle.edit_line.proofs.BoolLaws.{true-first, true-second}
use Rattle.linear_elim.specs.Answers.{Answers}
use Rattle.linear_elim.specs.Helds.{system_held}
use Rattle.linear_elim.specs.Systems.{SystemParts, system_at}
use Rattle.linear_elim.specs.Told.{told_system}
use Rattle.linear_elim.specs.declared.fault.SystemFault.{SystemFault}
use Rattle.linear_elim.specs.declared.held.Held.{Held}
use Rattle.linear_elim.specs.declared.held.Held.TheVariants as held
use Rattle.shared_edits.specs.Pools.{IsFull, IsOf, IsReaderOf, Knows, PoolParts, Walked, carries, keeps_fields, line_count, lines_walked}
use Rattle.shared_edits.specs.Walks.{Obtains, Publishes, WalksThenObtains}
use Rattle.shared_edits.proofs.FindLaws.{is-carries}

-- What a source of systems keeps.

-- the reader is full for the system without these fields
abbrev is_full : PoolParts → ℕ → List Walked → Bool
is_full pool fields reader = nat_le 4096 (length reader) || nat_lt 200000 (lines_walked reader + line_count (system_at pool.edits fields))

full-true : (pool : PoolParts) (fields : ℕ) (reader : List Walked) → IsFull (line_count (system_at pool.edits fields)) reader → is_full pool fields reader
    ≡ true
full-true pool fields reader full = ⊎_elim
    (λ many. true-first _ (nat_lt 200000 (lines_walked reader + line_count (system_at pool.edits fields))) (grind (arith, many)))
    (λ long. true-second (nat_le 4096 (length reader)) _ (grind (arith, long))) full

-- what it knows it keeps
pub knows-keeps : (pool : PoolParts) (fields : ℕ) (reader : List Walked) → IsReaderOf pool reader → Knows pool fields reader → keeps_fields pool fields reader
    ≡ true
knows-keeps pool fields reader of knows =
    let (k, w, within, at, is) = knows in
    true-first (list_any (carries fields) reader) (is_full pool fields reader)
    (list_any-from_Any (carries fields) reader (k, w, within, at, is-carries pool fields w (subst (λ (v : Walked). IsOf pool v) at (of k w within)) is))

-- what it publishes it knows
published-knows : (pool : PoolParts) (fields : ℕ) (system : SystemParts) (old new : List Walked) → Publishes system old new → system.edits ≡ pool.edits
    → system.fields ≡ fields → Knows pool fields new
published-knows pool fields system old new publishes edits same =
    let (w, on, own, is) = publishes in
    subst (λ (ws : List Walked). Knows pool fields ws) (sym on)
    (let as_many = length-append old (w ∷ []) in (
      length old,
      w,
      omega (arith, as_many),
      get_or-append_seam old w [] w,
      (
        ap (λ (s : SystemParts). s.edits) is
            ∙ edits,
        ap (λ (s : SystemParts). s.fields) is ∙ same,
      ),
    ))

-- and where a system is obtained, it keeps that
obtains-keeps : (pool : PoolParts) (fields : ℕ) (h : Held) (old new : List Walked) → IsReaderOf pool new → WalksThenObtains pool fields old h new
    → (system_held h).edits ≡ pool.edits → (system_held h).fields ≡ fields → system_at pool.edits fields ≡ Ok (system_held h).lines
    → keeps_fields pool fields new ≡ true
obtains-keeps pool fields h old new of obtains edits same lines = by h edits same lines obtains.2
  where
    by : (h : Held) → (system_held h).edits ≡ pool.edits → (system_held h).fields ≡ fields → system_at pool.edits fields ≡ Ok (system_held h).lines
        → Obtains pool fields h obtains.0 new → keeps_fields pool fields new ≡ true
    by (held.Shared system) edits same lines obtained = ⊎_elim
        (λ found. knows-keeps pool fields new of (subst (λ (ws : List Walked). Knows pool fields ws) (sym found.2) found.0))
        (λ made. knows-keeps pool fields new of (published-knows pool fields (arc_value system) obtains.0 new made.1.1 edits same)) obtained
    by (held.Own system) edits same lines obtained = ⊎_elim
        (λ found. absurd found.1)
        (λ made. true-second (list_any (carries fields) new) (is_full pool fields new) (full-true pool fields new
        (subst (λ (ws : List Walked). IsFull (line_count (system_at pool.edits fields)) ws) (sym made.1.1)
        (subst (λ (n : ℕ). IsFull n obtains.0) (sym (ap line_count lines)) made.1.0))))
        obtained

-- where a system was answered, it is kept
pub answered-keeps : (pool : PoolParts) (fields : ℕ) (old new : List Walked) (result : Result Held SystemFault) → IsReaderOf pool new
    → IfOk result (λ h. (system_held h).edits ≡ pool.edits)
    → IfOk result (λ h. (system_held h).fields ≡ fields) → Answers (λ h. (system_held h).lines) told_system result (system_at pool.edits fields)
    → IfOk result (λ h. WalksThenObtains pool fields old h new)
    → OnOk result (keeps_fields pool fields new ≡ true)
answered-keeps pool fields old new (Ok h) of edits same exact obtained = obtains-keeps pool fields h old new of obtained edits same exact
answered-keeps pool fields old new (Err fault) of edits same exact obtained = tt
