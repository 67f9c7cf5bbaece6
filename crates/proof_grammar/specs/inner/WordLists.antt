-- How the words of a line are read, one after another.
use Rattle.std.specs.Prelude.{ℕ, List, [], ◌∷◌, Option, Some, None}
use Rattle.proof_grammar.specs.ProofLines.{Line}
use Rattle.proof_grammar.specs.Words.{Front}

-- what is read behind the front
abbrev pub then_in : {X Y : Type 0} → Front X → (X → Line → Option Y) → Option Y
then_in None next = None
then_in (Some (x, ws)) next = next x ws

-- what the first word says before what the later ones say; None where either says nothing
abbrev pub consed : {X : Type 0} → Option X → Option (List X) → Option (List X)
consed None xs = None
consed (Some x) None = None
consed (Some x) (Some xs) = Some (x ∷ xs)

-- what each of the words says; None where one says nothing
abbrev pub all_in : {X : Type 0} → (List ℕ → Option X) → Line → Option (List X)
all_in said [] = Some []
all_in said (w ∷ ws) = consed (said w) (all_in said ws)
