-- The rule of a row of claims: its words are one history, and each claim in it is of one pass.
use Rattle.std.specs.Prelude.{◌≡◌, ℕ, ◌+◌, ◌-◌, ◌*◌, ◌^◌, ◌<◌, ◌==◌, Option, Some, None, List, [], ◌∷◌, ◌++◌, min, length, map, replicate, nat_eq, MatchBool}
use Rattle.std.specs.List.{All, IsDistinct, sum_by}
use mathlib.Core.Option.{some}
use lib.ListN.{get_elem?}
use Rattle.atomic_table.specs.Table.{Me, State, Step}
use Rattle.donor_book.specs.declared.claim.Entry.{Entry}
use Rattle.donor_book.specs.declared.claim.Won.{Won}
use Rattle.donor_book.specs.declared.rule.Known.{Known}
use Rattle.donor_book.specs.declared.rule.Placed.{Placed}
use Rattle.donor_book.specs.declared.rule.Terms.{Terms}
use Rattle.donor_book.specs.Claims.{IsWithin, claim_of}
use Rattle.donor_book.specs.Entries.{entry_of, won_of}
use Rattle.donor_book.specs.Passes.{IsClaim, StartsWith, claims_at, placed}

-- nobody is 0, and a donor one more than its number
abbrev pub code_of_reply : Option ℕ → ℕ
code_of_reply None = 0
code_of_reply (Some donor) = donor + 1

-- the word of a claim, which is not 0
abbrev pub word_of : Won → ℕ
word_of w = (w.row_no + 1) * 2 ^ 32 + code_of_reply w.reply

-- the words are the claims of the history, and 0 behind them, one more than there are rows
abbrev pub words_of : Terms → List Won → List ℕ
words_of terms history = map word_of history ++ replicate (terms.rows + 1 - length history) 0

-- what a pass knows that has taken in no other
abbrev pub known : Terms → ℕ → List Won → List Placed → Known
known terms passes seen mine = record { terms = terms; passes = passes; seen = seen; mine = mine; heard = [] }

-- the pass, when it has seen this and has these claims
abbrev pub seeing : List Won → List Placed → Known → Known
seeing seen mine k = record { terms = k.terms; passes = k.passes; seen = seen; mine = mine; heard = k.heard }

-- 1 where the place is below n, and else 0
abbrev pub once_below : ℕ → ℕ → ℕ
once_below place n = min 1 (n - place)

-- what a pass has seen or heard begins the history, and its claims stand in it. One that stands for no pass has no
-- claims, and any other knows the terms
pub record IsFair (terms : Terms) (history : List Won) (k : Known) : Type 0 where
  pub seen : StartsWith history k.seen
  pub heard : All (StartsWith history) k.heard
  pub mine : All (IsClaim terms.limit history) k.mine
  pub idle : k.passes ≡ 0 → k.mine ≡ []
  pub knows : 0 < k.passes → k.terms ≡ terms

-- no row stands twice in the history, each place of it is of one claim of one pass, and all passes are stood for
pub record IsHistory (terms : Terms) (history : List Won) (views : List Known) : Type 0 where
  pub within : All (IsWithin terms.donors terms.rows) history
  pub once : IsDistinct nat_eq (map (λ (w : Won). w.row_no) history)
  pub passes_are : sum_by (λ (k : Known). k.passes) views ≡ terms.passes
  pub places : (place : ℕ) → sum_by (λ (k : Known). claims_at place k.mine) views ≡ once_below place (length history)
  pub fair : (by : ℕ) (k : Known) → get_elem? views by ≡ some k → IsFair terms history k

-- the words of the table are such a history
abbrev pub AreClaims : Terms → State (Unit {0}) Known → Type 0
AreClaims terms state = (history : List Won) × (state.words ≡ words_of terms history) × IsHistory terms history state.views

-- the first pass stands for all
abbrev pub first_known : Terms → Known
first_known terms = known terms terms.passes [] []

-- an entry, where none is tried
abbrev pub no_entry : Entry
no_entry = entry_of 0 [] None

-- the entry goes behind all that the pass had seen
abbrev pub with_entry : Entry → Known → Known
with_entry entry k = seeing (k.seen ++ won_of entry ∷ []) (k.mine ++ placed (length k.seen) entry ∷ []) k

-- the word is a claim of another, of a row that is new to the pass, which is seen
abbrev pub SeesAnother : Me (Unit {0}) Known → ℕ → Me (Unit {0}) Known → Type 0
SeesAnother old found new =
    (x : Won)
    × (word_of x ≡ found)
    × IsWithin old.0.terms.donors old.0.terms.rows x
    × (claim_of x.row_no old.0.seen ≡ None)
    × (new ≡ (seeing (old.0.seen ++ x ∷ []) old.0.mine old.0, old.1))

-- the word was 0, and the entry was entered; or it is a claim of another, which was seen
abbrev pub HasTried : Entry → Step (Unit {0}) → Me (Unit {0}) Known → ℕ → Me (Unit {0}) Known → Type 0
HasTried entry step old found new =
    MatchBool (found == 0) (new ≡ (with_entry entry old.0, old.1))
    (SeesAnother old found new)

-- what is left where a pass is split off
abbrev pub without_a_pass : Known → Known
without_a_pass k = record { terms = k.terms; passes = k.passes - 1; seen = k.seen; mine = k.mine; heard = k.heard }

-- the pass that was split off
abbrev pub new_known : Known → Known
new_known k = known k.terms 1 [] []

-- a pass that takes in another stands for both, has the claims of both, and has heard what the other had seen
abbrev pub both_known : Known → Known → Known
both_known k other = record {
  terms = k.terms;
  passes = k.passes + other.passes;
  seen = k.seen;
  mine = k.mine ++ other.mine;
  heard = k.heard ++ other.seen ∷ other.heard;
}

-- the terms of a pass that was taken in
abbrev pub no_terms : Terms
no_terms = record { limit = 0; donors = 0; rows = 0; passes = 0 }

-- a pass that was taken in: it stands for no pass, and knows nothing
abbrev pub spent_known : Known
spent_known = known no_terms 0 [] []
