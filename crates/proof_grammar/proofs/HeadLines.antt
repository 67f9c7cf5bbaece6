-- The first lines of the parts of a proof, which say how many lines follow.
use Rattle.std.specs.Prelude.{ℕ, suc, [], ◌∷◌, ◌++◌, Option, Some, None, codes}
use Rattle.std.specs.Fmt.{decimal}
use Rattle.proof_grammar.specs.declared.heads.LeafHead.{LeafHead}
use Rattle.proof_grammar.specs.declared.heads.LeafHead.TheVariants.{BadAt, BoundAt, BoxAt, LineAt}
use Rattle.proof_grammar.specs.declared.heads.RowHead.{RowHead}
use Rattle.proof_grammar.specs.declared.heads.RowHead.TheVariants.{BudgetAt, ChangeAt, CleanAt, ContradictoryAt, EventAt, GiftAt}
use Rattle.proof_grammar.specs.declared.heads.RunLimits.{RunLimits}
use Rattle.proof_grammar.specs.Limits.{IsEvent, IsGift, IsLong, IsShort}
use Rattle.bound_cert.specs.Paths.{path_text}
use Rattle.proof_grammar.specs.ProofLines.{Line, event_line, gift_words, limits_words}

-- of a verdict: None where it is kept, else the number of its steps
abbrev pub verdict_head : Option ℕ → Line
verdict_head None = codes "keep" ∷ []
verdict_head (Some n) = codes "drop" ∷ decimal n ∷ []

abbrev pub IsVerdictHead : Option ℕ → Type 0
IsVerdictHead None = Unit {0}
IsVerdictHead (Some n) = IsLong n

-- of a leaf, with the number of its steps
abbrev pub leaf_head : LeafHead → Line
leaf_head (BoundAt path) = codes "bound" ∷ path_text path ∷ []
leaf_head (BadAt path) = codes "bad" ∷ path_text path ∷ []
leaf_head (LineAt path n) = codes "line" ∷ path_text path ∷ decimal n ∷ []
leaf_head (BoxAt path n) = codes "box" ∷ path_text path ∷ decimal n ∷ []

abbrev pub steps_behind : LeafHead → ℕ
steps_behind (BoundAt path) = 0
steps_behind (BadAt path) = 0
steps_behind (LineAt path n) = n
steps_behind (BoxAt path n) = n

abbrev pub IsLeafHead : LeafHead → Type 0
IsLeafHead head = IsLong (steps_behind head)

-- of a row, with the number of its leaves; the weight of a change is one more than the number here
abbrev pub row_head : RowHead → Line
row_head CleanAt = codes "clean" ∷ []
row_head (ChangeAt w path n) = codes "change" ∷ decimal (suc w) ∷ path_text path ∷ decimal n ∷ []
row_head (GiftAt weight path fault n) = (codes "gift" ∷ decimal weight ∷ path_text path ∷ gift_words fault) ++ decimal n ∷ []
row_head (BudgetAt path work) = codes "budget" ∷ path_text path ∷ decimal work ∷ []
row_head (EventAt path event) = event_line path event
row_head (ContradictoryAt n) = codes "contradictory" ∷ decimal n ∷ []

abbrev pub leaves_behind : RowHead → ℕ
leaves_behind CleanAt = 0
leaves_behind (ChangeAt w path n) = n
leaves_behind (GiftAt weight path fault n) = n
leaves_behind (BudgetAt path work) = 0
leaves_behind (EventAt path event) = 0
leaves_behind (ContradictoryAt n) = n

abbrev pub IsRowHead : RowHead → Type 0
IsRowHead CleanAt = Unit {0}
IsRowHead (ChangeAt w path n) = IsLong (suc w) × IsLong n
IsRowHead (GiftAt weight path fault n) = IsLong weight × IsGift fault × IsLong n
IsRowHead (BudgetAt path work) = IsLong work
IsRowHead (EventAt path event) = IsEvent event
IsRowHead (ContradictoryAt n) = IsLong n

-- the limits of the run
abbrev pub limits_line : RunLimits → Line
limits_line l = limits_words l.limit l.near l.budget

abbrev pub AreLimits : RunLimits → Type 0
AreLimits l = IsShort l.limit × IsShort l.near × IsLong l.budget
