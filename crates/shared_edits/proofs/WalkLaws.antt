use Rattle.std.proofs.Common.{◌≡◌, ℕ, ◌+◌, ◌<◌, ◌≤◌, Bool, true, false, true≢false, List, [], ◌∷◌, ◌++◌, map, length, length-append, refl, sym, ap, ◌∙◌, subst}
use Rattle.std.proofs.Common.{⊎_elim, nat_eq, eqb, arith, append_assoc, append-nil}
use mathlib.Core.Bool.{◌&&◌, ◌||◌}
use Rattle.std.specs.List.{IsDistinct, list_any}
use Rattle.std.proofs.lemmas.List.{map-append}
use Rattle.std.proofs.lemmas.List.Elements.{All-head, All-nil, All-push, All-tail}
use Rattle.std.proofs.lemmas.List.Folds.{list_any-append}
use Rattle.std.proofs.lemmas.Map.Keys.{IsDistinct-push}
use Rattle.std.proofs.lemmas.Cmp.{nat_eq_equiv}
use Rattle.std.proofs.lemmas.Bool.{eqb-true}
use lib.ListN.{get_or}
use Rattle.shared_edits.specs.Pools.{IsOf, IsReaderOf, PoolParts, Walked}
use Rattle.shared_edits.specs.Walks.{HasWalkedOn, index_of, stands_at}
use Rattle.shared_edits.specs.declared.entry.Entry.{Entry}
use Rattle.shared_edits.specs.inner.Entries.{IsBehind, WalksAt, has_own, walked_of}

-- A reader walks one entry more.

or_false : (a b : Bool) → (a || b) ≡ false → (a ≡ false) × (b ≡ false)
or_false true b e = absurd (true≢false e)
or_false false b e = (refl, e)

any_index : (n : ℕ) (ws : List Walked) → list_any (eqb n) (map index_of ws) ≡ stands_at n ws
any_index n [] = refl
any_index n (w ∷ ws) = ap (λ b. eqb n (index_of w) || b) (any_index n ws)

-- whether the reader published the entry at this index itself
abbrev own_at : ℕ → List Walked → Bool
own_at index walked = list_any (λ (w : Walked). w.own && nat_eq index (index_of w)) walked

-- an index that is behind, and is no own entry's, was not walked
not_walked : (next : ℕ) (ws : List Walked) → IsBehind next ws → own_at next ws ≡ false → stands_at next ws ≡ false
not_walked next [] behind none = refl
not_walked next (w ∷ ws) behind none = by w.own (nat_eq next (index_of w)) refl refl none
    (not_walked next ws (All-tail (λ (v : Walked). v.own ≡ false → v.token.index < next) w ws behind))
  where
    by : (own here : Bool) → w.own ≡ own → nat_eq next (index_of w) ≡ here → ((own && here) || own_at next ws) ≡ false
        → (own_at next ws ≡ false → stands_at next ws ≡ false) → (nat_eq next (index_of w) || stands_at next ws) ≡ false
    by true false is at none rest = rw at (rest none)
    by false false is at none rest = rw at (rest none)
    by true true is at none rest = absurd (true≢false none)
    by false true is at none rest =
        let below = All-head (λ (v : Walked). v.own ≡ false → v.token.index < next) w ws behind is in
        let same = eqb-true next (index_of w) at in absurd (omega (arith, below, same))

behind_more : (next : ℕ) (ws : List Walked) → IsBehind next ws → IsBehind (next + 1) ws
behind_more next ws behind k d below other = let before : index_of (get_or ws k d) < next = behind k d below other in omega (arith, before)

walk_step : (pool : PoolParts) (old now : List Walked) (next : ℕ) (w : Walked) → HasWalkedOn old now → IsReaderOf pool now → IsBehind next now
    → IsOf pool w → w.own ≡ false → index_of w ≡ next → next < 4160 → own_at next now ≡ false
    → HasWalkedOn old (now ++ w ∷ []) × IsReaderOf pool (now ++ w ∷ []) × IsBehind (next + 1) (now ++ w ∷ [])
walk_step pool old now next w walks of behind here other at low none =
    let fresh : stands_at next now ≡ false = not_walked next now behind none in
    let both = or_false (stands_at next old) (stands_at next walks.more) (sym (list_any-append (λ (v : Walked). nat_eq next (index_of v)) old walks.more)
    ∙ ap (λ ws. stands_at next ws) (sym walks.on) ∙ fresh) in (
      record {
        more = walks.more ++ w ∷ [];
        on = ap (λ ws. ws ++ w ∷ []) walks.on ∙ append_assoc old walks.more (w ∷ []);
        others = All-push (λ (v : Walked). v.own ≡ false) walks.more w walks.others other;
        within = All-push (λ (v : Walked). index_of v < 4160) walks.more w walks.within (omega (arith, at, low));
        unwalked = All-push (λ (v : Walked). stands_at (index_of v) old ≡ false) walks.more w walks.unwalked (ap (λ n. stands_at n old) at ∙ both.0);
        once = subst (λ (ns : List ℕ). IsDistinct eqb ns) (sym (map-append index_of walks.more (w ∷ [])))
            (IsDistinct-push nat_eq_equiv (map index_of walks.more) (index_of w) walks.once
            (any_index (index_of w) walks.more ∙ ap (λ n. stands_at n walks.more) at ∙ both.1));
      },
      All-push (IsOf pool) now w of here,
      All-push (λ (v : Walked). v.own ≡ false → v.token.index < next + 1) now w (behind_more next now behind) (λ is. omega (arith, at)),
    )

-- a walk that adds nothing
pub walks_nothing : (old : List Walked) → HasWalkedOn old old
unfolding IsDistinct
walks_nothing old = record {
  more = [];
  on = sym (append-nil old);
  others = All-nil (λ (w : Walked). w.own ≡ false);
  within = All-nil (λ (w : Walked). index_of w < 4160);
  unwalked = All-nil (λ (w : Walked). stands_at (index_of w) old ≡ false);
  once = tt;
}

own_entries : (index : ℕ) (es : List Entry) → own_at index (map walked_of es) ≡ has_own index es
own_entries index [] = refl
own_entries index (e ∷ es) = ap (λ b. (e.own && nat_eq index e.token.index) || b) (own_entries index es)

-- one turn of a walk
pub walk_turn : (pool : PoolParts) (old : List Walked) (es new : List Entry) (next : ℕ) → HasWalkedOn old (map walked_of es)
    → IsReaderOf pool (map walked_of es) → IsBehind next (map walked_of es) → next < 4160
    → WalksAt pool next es new → HasWalkedOn old (map walked_of new) × IsReaderOf pool (map walked_of new) × IsBehind (next + 1) (map walked_of new)
walk_turn pool old es new next walks of behind low step = ⊎_elim mine other step
  where
    Turned : List Walked → Type 0
    Turned now = HasWalkedOn old now × IsReaderOf pool now × IsBehind (next + 1) now

    mine : (has_own next es ≡ true) × (new ≡ es) → Turned (map walked_of new)
    mine t = subst Turned (ap (map walked_of) (sym t.1)) (walks, of, behind_more next (map walked_of es) behind)

    other : (has_own next es ≡ false) × ((e : Entry) × (new ≡ es ++ e ∷ []) × IsOf pool (walked_of e) × (e.own ≡ false) × (e.token.index ≡ next))
        → Turned (map walked_of new)
    other t =
        let (none, (e, is, here, own, at)) = t in
        subst Turned (sym (ap (map walked_of) is ∙ map-append walked_of es (e ∷ [])))
        (walk_step pool old (map walked_of es) next (walked_of e) walks of behind here own at low (own_entries next es ∙ none))

-- a walk adds at most one entry to a turn
pub turn_length : (pool : PoolParts) (index : ℕ) (es new : List Entry) → WalksAt pool index es new → length new ≤ length es + 1
turn_length pool index es new step = ⊎_elim
    (λ t. let e = ap (λ (xs : List Entry). length xs) t.1 in omega (arith, e))
    (λ t. let e = ap (λ (xs : List Entry). length xs) t.1.1 in let l = length-append es (t.1.0 ∷ []) in omega (arith, e, l)) step
