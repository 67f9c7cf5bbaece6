use Rattle.std.proofs.Common.{◌≡◌, ◌∙◌, ℕ, ◌++◌, Bool, true, List, [], ◌∷◌, Result, Ok, Err, IfOk, OnErr, ap, append_assoc, append-nil, arith, length}
use Rattle.std.proofs.Common.{length-append, subst, sym, ⊎_elim}
use Rattle.std.specs.List.{All}
use Rattle.std.proofs.lemmas.Bool.Decides.{nat_tests}
use Rattle.std.proofs.lemmas.List.Folds.{list_any-append}
use Rattle.std.proofs.lemmas.List.Sums.{sum_by-append}
use Rattle.linear_elim.specs.declared.fault.SystemFault.{SystemFault}
use Rattle.linear_elim.specs.declared.held.Held.{Held}
use Rattle.linear_elim.specs.declared.held.Held.TheVariants as held
use Rattle.shared_edits.specs.Pools.{PoolParts, Walked, carries, keeps_fields, system_of}
use Rattle.shared_edits.specs.Walks.{HasWalkedOn, IsKept, Obtains, WalksThenObtains}
use Rattle.std.proofs.lemmas.List.Elements.{All-push, All-weaker}
use Rattle.record_pieces.specs.Rests.{KeepsFor}
use Rattle.record_pieces.specs.declared.piece.Piece.{Piece}
use Rattle.record_pieces.specs.declared.rest.Rest.{Rest}

-- What is kept of the changes that were found.

module _ {F : Type 0} (rest : Rest F) (first second : ℕ → Bool) (more : (f : ℕ) → first f ≡ true → second f ≡ true)
    (pieces : List Piece) (kept : All (KeepsFor rest first) pieces) where
  -- a source that keeps more keeps them too
  pub keeps-later : All (KeepsFor rest second) pieces
  keeps-later = All-weaker (KeepsFor rest first) (KeepsFor rest second) (λ p was path weight cert is. more _ (was path weight cert is)) pieces kept

  -- and what one piece more needs
  pub keeps-more : (piece : Piece) → KeepsFor rest second piece → All (KeepsFor rest second) (pieces ++ piece ∷ [])
  keeps-more piece is = All-push (KeepsFor rest second) pieces piece keeps-later is

-- ---- what a reader keeps when a system is obtained

-- a list that begins with another
abbrev Begins : List Walked → List Walked → Type 0
Begins old new = (more : List Walked) × (new ≡ old ++ more)

kept-begins : (h : Held) (old new : List Walked) → IsKept h old new → Begins old new
kept-begins (held.Shared system) old new (unfull, published) = (published.0 ∷ [], published.1)
kept-begins (held.Own system) old new (full, same) = ([], same ∙ sym (append-nil old))

obtained-begins : (pool : PoolParts) (fields : ℕ) (h : Held) (old new : List Walked) → Obtains pool fields h old new → Begins old new
obtained-begins pool fields h old new obtained = ⊎_elim (λ found. ([], found.2 ∙ sym (append-nil old))) (λ made. kept-begins h old new made.1) obtained

begins-chain : (first second third : List Walked) → Begins first second → Begins second third → Begins first third
begins-chain first second third one two =
    (one.0 ++ two.0, two.1 ∙ ap (λ (ws : List Walked). ws ++ two.0) one.1 ∙ append_assoc first one.0 two.0)

answered-begins : (pool : PoolParts) (fields : ℕ) (old new : List Walked) (result : Result Held SystemFault)
    → IfOk result (λ h. WalksThenObtains pool fields old h new) → OnErr result (HasWalkedOn old new) → Begins old new
answered-begins pool fields old new (Ok h) (walked, on, obtained) refused =
    begins-chain old walked new (on.more, on.on) (obtained-begins pool fields h walked new obtained)
answered-begins pool fields old new (Err fault) obtained refused = (refused.more, refused.on)

-- a reader that has walked more keeps what it kept
begins-keeps : (pool : PoolParts) (f : ℕ) (old more : List Walked) → keeps_fields pool f old ≡ true → keeps_fields pool f (old ++ more) ≡ true
begins-keeps pool f old more kept =
    let any = list_any-append (carries f) old more in
    let long = length-append old more in
    let lines = sum_by-append (λ (w : Walked). length (system_of w).lines) old more in
    grind (arith, nat_tests, any, long, lines)

-- whatever was answered, it keeps what it kept before
pub still-keeps : (pool : PoolParts) (fields : ℕ) (old new : List Walked) (result : Result Held SystemFault)
    → IfOk result (λ h. WalksThenObtains pool fields old h new) → OnErr result (HasWalkedOn old new) → (f : ℕ)
    → keeps_fields pool f old ≡ true → keeps_fields pool f new ≡ true
still-keeps pool fields old new result obtained refused f kept =
    let begins = answered-begins pool fields old new result obtained refused in
    subst (λ (ws : List Walked). keeps_fields pool f ws ≡ true) (sym begins.1) (begins-keeps pool f old begins.0 kept)
