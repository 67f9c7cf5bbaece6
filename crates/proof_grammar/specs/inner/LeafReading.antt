use Rattle.std.specs.Prelude.{Bool, ℕ, if◌then◌else◌, List, [], ◌∷◌, Option, None, Ok, codes}
use Rattle.std.specs.Str.{bytes_eq}
use Rattle.derivation.specs.declared.step.Step.{Step}
use Rattle.bound_cert.specs.declared.cert.Leaf.{Leaf}
use Rattle.bound_cert.specs.declared.cert.LeafWhy.TheVariants as why
use Rattle.proof_grammar.specs.declared.heads.LeafHead.{LeafHead}
use Rattle.proof_grammar.specs.declared.heads.LeafHead.TheVariants.{BadAt, BoundAt, BoxAt, LineAt}
use Rattle.proof_grammar.specs.ProofLines.{Line}
use Rattle.proof_grammar.specs.inner.StepReading.{leaf_step_in, step_in}
use Rattle.proof_grammar.specs.inner.Readings.{Reading, read_line, read_many, seen, then_read}
use Rattle.proof_grammar.specs.Words.{ended, long_said, path_said, word_in}
use Rattle.proof_grammar.specs.inner.WordLists.{then_in}

-- How leaves are read.

-- a path alone
abbrev pub path_in : {X : Type 0} → (List Bool → X) → Line → Option X
path_in to ws = then_in (word_in path_said ws) (λ path ws. ended (to path) ws)

-- a path and a number
abbrev pub path_and_number_in : {X : Type 0} → (List Bool → ℕ → X) → Line → Option X
path_and_number_in to ws =
    then_in (word_in path_said ws) (λ path ws.
    then_in (word_in long_said ws) (λ n ws. ended (to path n) ws))

-- `bound`, behind its word
abbrev pub bound_in : Line → Option LeafHead
bound_in ws = path_in (λ path. BoundAt path) ws

-- `bad`, behind its word
abbrev pub bad_in : Line → Option LeafHead
bad_in ws = path_in (λ path. BadAt path) ws

-- `line`, behind its word: how many steps follow
abbrev pub line_in : Line → Option LeafHead
line_in ws = path_and_number_in (λ path n. LineAt path n) ws

-- `box`, behind its word: how many steps follow
abbrev pub box_in : Line → Option LeafHead
box_in ws = path_and_number_in (λ path n. BoxAt path n) ws

-- the head of a leaf
abbrev pub leaf_in : Line → Option LeafHead
leaf_in [] = None
leaf_in (w ∷ ws) =
    if bytes_eq w (codes "bound") then bound_in ws
    else if bytes_eq w (codes "bad") then bad_in ws
    else if bytes_eq w (codes "line") then line_in ws
    else if bytes_eq w (codes "box") then box_in ws
    else None

-- this number of steps, of a verdict
abbrev pub steps_reading : ℕ → List Line → Reading Line (List Step)
steps_reading n ls = read_many (read_line step_in) n ls

-- the same, of a leaf
abbrev pub leaf_steps_reading : Option ℕ → ℕ → List Line → Reading Line (List Step)
leaf_steps_reading shared n ls = read_many (read_line (leaf_step_in shared)) n ls

-- what is read behind the head of a leaf
abbrev pub behind_leaf : Option ℕ → LeafHead → List Line → Reading Line Leaf
behind_leaf shared (BoundAt path) ls = Ok (record { path = path; why = why.Bound }, ls)
behind_leaf shared (BadAt path) ls = Ok (record { path = path; why = why.BadKept }, ls)
behind_leaf shared (LineAt path n) ls = seen (λ steps. record { path = path; why = why.Line steps }) (leaf_steps_reading shared n ls)
behind_leaf shared (BoxAt path n) ls = seen (λ steps. record { path = path; why = why.Box steps }) (leaf_steps_reading shared n ls)

-- a leaf: its head, and the steps behind it
abbrev pub leaf_reading : Option ℕ → List Line → Reading Line Leaf
leaf_reading shared ls = then_read (read_line leaf_in ls) (behind_leaf shared)
