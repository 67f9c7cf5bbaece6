-- One try to enter a claim, and the words that are read.
use Rattle.std.specs.Prelude.{◌≡◌, ℕ, ◌+◌, ◌++◌, ◌-◌, ◌<◌, ◌≤◌, ◌==◌, ◌^◌, List, [], ◌∷◌, length, MatchBool, Option}
use mathlib.Core.Option.{none}
use Rattle.atomic_table.specs.Table.{Me, step}
use Rattle.atomic_table.specs.Seated.{TableId}
use Rattle.donor_book.specs.declared.claim.Entry.{Entry}
use Rattle.donor_book.specs.declared.claim.Won.{Won}
use Rattle.donor_book.specs.declared.rule.Known.{Known}
use Rattle.donor_book.specs.declared.rule.Terms.{Terms}
use Rattle.donor_book.specs.Claims.{IsDonor}
use Rattle.donor_book.specs.Passes.{ArePlaced, IsSound, PassState}
use Rattle.donor_book.specs.inner.Indexes.{IsReplay}
use Rattle.donor_book.specs.inner.Rule.{HasTried, word_of, words_of}

-- one try, whatever the step's operands are
abbrev pub HasTriedTo : Entry → Me (Unit {0}) Known → ℕ → Me (Unit {0}) Known → Type 0
HasTriedTo entry old found new = HasTried entry (step 0 0 0 0 none) old found new

-- the pass of a seat at this table that knows this
abbrev pub pass_of : TableId → Terms → Known → PassState
pass_of table terms k = record { book = record { table = table; terms = terms }; seen = k.seen; mine = k.mine }

-- a seat at this table, which stands for one pass or more with these terms and has no step under way
abbrev pub IsAt : TableId → Terms → TableId → Me (Unit {0}) Known → Type 0
IsAt table terms at me = (at ≡ table) × (me.1 ≡ []) × (me.0.terms ≡ terms) × (0 < me.0.passes)

-- the words of a shared book: one for each row and one more; some pass claims from it, and no history is read yet
abbrev pub SharesBook : TableId → Terms → Terms → List Won → ℕ → Type 0
SharesBook table key terms history room =
    (table.words ≡ terms.rows + 1)
    × (table.slots ≡ 0)
    × (key ≡ terms)
    × (0 < terms.passes)
    × (terms.rows + 1 < 2 ^ 32)
    × (terms.donors + 1 < 2 ^ 32)
    × (history ≡ [])
    × (terms.rows ≤ room)

-- a seat that stands for one pass with these terms, and the length, the uses and the replies of what it has seen
abbrev pub KeepsPass : Me (Unit {0}) Known → Terms → ℕ → List ℕ → List (Option (Option ℕ)) → Type 0
KeepsPass me terms len uses replies =
    (me.1 ≡ [])
    × (me.0.passes ≡ 1)
    × (me.0.heard ≡ [])
    × (me.0.terms ≡ terms)
    × (terms.rows + 1 < 2 ^ 32)
    × (terms.donors + 1 < 2 ^ 32)
    × (len ≡ length me.0.seen)
    × IsSound terms me.0.seen
    × (length uses ≡ terms.donors)
    × (length replies ≡ terms.rows)
    × IsReplay me.0.seen uses replies
    × ArePlaced me.0.seen me.0.mine

-- one claim of another pass is seen
abbrev pub Sees : PassState → PassState → Type 0
Sees old new = (x : Won) × (new.seen ≡ old.seen ++ x ∷ []) × (new.mine ≡ old.mine)

-- the claim of the word that a try found, where 0 stands for the claim that was tried
abbrev pub IsRead : Won → ℕ → Won → Type 0
IsRead tried found x = MatchBool (found == 0) (x ≡ tried) ((y : Won) → word_of y ≡ found → IsDonor (2 ^ 32 - 1) y.reply → x ≡ y)

-- the words are those of this history
pub record AreWordsOf (terms : Terms) (words : List ℕ) (history : List Won) : Type 0 where
  pub words_are : words ≡ words_of terms history
  pub sound : IsSound terms history
