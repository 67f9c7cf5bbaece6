-- Where bytes leave the grammar.
use Rattle.std.specs.Prelude.{◌≡◌, ℕ, suc, ◌<◌, ◌==◌, if◌then◌else◌, List, [], ◌∷◌, ◌++◌}
use Rattle.proof_grammar.specs.declared.proof.Proof.{Proof}
use Rattle.proof_grammar.specs.Limits.{IsPlain}
use Rattle.proof_grammar.specs.ProofLines.{proof_text}

-- the bytes are the text of a proof
abbrev pub IsInGrammar : List ℕ → Type 0
IsInGrammar bytes = (p : Proof) × IsPlain p × (bytes ≡ proof_text p)

-- no other plain proof has this text
abbrev pub IsOnlyOf : List ℕ → Proof → Type 0
IsOnlyOf bytes p = (other : Proof) → IsPlain other → bytes ≡ proof_text other → other ≡ p

-- the text of some proof begins with these bytes
abbrev pub BeginsProof : List ℕ → Type 0
BeginsProof bytes = (p : Proof) × IsPlain p × (rest : List ℕ) × (proof_text p ≡ bytes ++ rest)

-- how many line feeds there are
abbrev pub feed_count : List ℕ → ℕ
feed_count [] = 0
feed_count (b ∷ bytes) = if b == 10 then suc (feed_count bytes) else feed_count bytes

-- a line feed ends the line of this number, from 1, and some proof begins with the bytes up to it
abbrev pub GoesOn : List ℕ → ℕ → Type 0
GoesOn bytes line =
    (front : List ℕ) × (rest : List ℕ) × (bytes ≡ front ++ 10 ∷ rest) × (suc (feed_count front) ≡ line) × BeginsProof (front ++ 10 ∷ [])

-- the bytes are no proof, and this is the first line, from 1, that can't go on
pub record IsFirstFaultyLine (bytes : List ℕ) (line : ℕ) : Type 0 where
  pub refused : ¬ IsInGrammar bytes
  pub numbered : 0 < line
  pub before : (k : ℕ) → 0 < k → k < line → GoesOn bytes k
  pub here : ¬ GoesOn bytes line
