use Rattle.std.specs.Prelude.{◌≡◌, ◌⊎◌, ℕ, List, ◌++◌, codes, length}
use Rattle.std.specs.Fmt.{decimal}
use Rattle.proof_grammar.specs.FirstFaults.{IsFirstFaultyLine}
use Rattle.proof_grammar.specs.Limits.{IsPlain}
use Rattle.proof_grammar.specs.ProofLines.{proof_text}
use Rattle.proof_grammar.specs.declared.proof.Proof.{Proof}

-- What the program tells of the bytes of a file. Private contracts alone cite this page.

-- how many lines of the rules, steps of its table, records and claims a proof has
abbrev pub counts_text : Proof → List ℕ
counts_text p =
    codes "lines " ++ decimal (length p.verdicts) ++ codes " table " ++ decimal (length p.table) ++ codes " records "
    ++ decimal (length p.rows) ++ codes " claims " ++ decimal (length p.claims) ++ codes "\n"

-- the line that can't go on
abbrev pub fault_text : ℕ → List ℕ
fault_text line = codes "line " ++ decimal line ++ codes " can't go on\n"

-- the counts of the proof that the bytes spell, or the first line that can't go on
abbrev pub IsTold : List ℕ → List ℕ → Type 0
IsTold bytes text =
    ((p : Proof) × IsPlain p × (bytes ≡ proof_text p) × (text ≡ counts_text p))
    ⊎ ((line : ℕ) × IsFirstFaultyLine bytes line × (text ≡ fault_text line))
