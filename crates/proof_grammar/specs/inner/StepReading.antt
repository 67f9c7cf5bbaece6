use Rattle.std.specs.Prelude.{ℕ, Bool, true, false, ◌+◌, ◌^◌, nat_lt, if◌then◌else◌, List, [], ◌∷◌, Option, Some, None, codes, option_map}
use Rattle.std.specs.Str.{bytes_eq}
use Rattle.derivation.specs.declared.step.Step.{Step}
use Rattle.derivation.specs.declared.step.Step.TheVariants as step
use Rattle.proof_grammar.specs.ProofLines.{Line}
use Rattle.proof_grammar.specs.Words.{divisor_said, ended, named_long, named_short, whole_said, word_in}
use Rattle.proof_grammar.specs.inner.WordLists.{all_in, then_in}

-- How the lines of steps are read.

-- `given`, behind its word
abbrev pub given_in : Line → Option Step
given_in ws = then_in (word_in named_long ws) (λ i ws. ended (step.Given i) ws)

-- `combine`, behind its word
abbrev pub combine_in : Line → Option Step
combine_in ws =
    then_in (word_in named_long ws) (λ a ws.
    then_in (word_in whole_said ws) (λ m ws.
    then_in (word_in named_long ws) (λ b ws.
    then_in (word_in whole_said ws) (λ n ws.
    then_in (word_in divisor_said ws) (λ g ws. ended (step.Combine a m b n g) ws)))))

-- `fail`, behind its word
abbrev pub fail_in : Line → Option Step
fail_in ws = then_in (word_in named_long ws) (λ a ws. ended (step.Fail a) ws)

-- `cover`, behind its word
abbrev pub cover_in : Line → Option Step
cover_in ws = then_in (word_in named_short ws) (λ field ws. option_map (λ (parts : List ℕ). step.Cover field parts) (all_in named_long ws))

-- `fix`, behind its word
abbrev pub fix_in : Line → Option Step
fix_in ws =
    then_in (word_in named_short ws) (λ field ws.
    then_in (word_in named_long ws) (λ part ws. ended (step.Fix field part) ws))

-- a step, where there is no table
abbrev pub step_in : Line → Option Step
step_in [] = None
step_in (w ∷ ws) =
    if bytes_eq w (codes "given") then given_in ws
    else if bytes_eq w (codes "combine") then combine_in ws
    else if bytes_eq w (codes "fail") then fail_in ws
    else if bytes_eq w (codes "cover") then cover_in ws
    else if bytes_eq w (codes "fix") then fix_in ws
    else None

-- ---- steps of a table

-- a step of a table: it gives a line
abbrev pub table_step_in : Line → Option Step
table_step_in [] = None
table_step_in (w ∷ ws) =
    if bytes_eq w (codes "given") then given_in ws
    else if bytes_eq w (codes "combine") then combine_in ws
    else None

-- ---- steps of leaves, where lines of a table stand behind this many given ones

-- nothing is left, and the test is true
abbrev pub ended_if : Bool → Step → Line → Option Step
ended_if true step ws = ended step ws
ended_if false step ws = None

-- a line of the rules
abbrev pub few_given_in : ℕ → Line → Option Step
few_given_in count ws = then_in (word_in named_long ws) (λ i ws. ended_if (nat_lt i count) (step.Given i) ws)

-- a line of the table
abbrev pub shared_in : ℕ → Line → Option Step
shared_in count ws = then_in (word_in named_long ws) (λ k ws. ended_if (nat_lt (count + k) (2 ^ 64)) (step.Given (count + k)) ws)

-- a step of a leaf, where there is a table behind this many given lines
abbrev pub shared_step_in : ℕ → Line → Option Step
shared_step_in count [] = None
shared_step_in count (w ∷ ws) =
    if bytes_eq w (codes "given") then few_given_in count ws
    else if bytes_eq w (codes "shared") then shared_in count ws
    else if bytes_eq w (codes "combine") then combine_in ws
    else if bytes_eq w (codes "fail") then fail_in ws
    else if bytes_eq w (codes "cover") then cover_in ws
    else if bytes_eq w (codes "fix") then fix_in ws
    else None

-- a step of a leaf, with a table or without one
abbrev pub leaf_step_in : Option ℕ → Line → Option Step
leaf_step_in None ws = step_in ws
leaf_step_in (Some count) ws = shared_step_in count ws
