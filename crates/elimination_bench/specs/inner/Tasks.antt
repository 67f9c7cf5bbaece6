use Rattle.std.specs.Prelude.{ℕ, ◌≤◌, ◌^◌, ◌&&◌, List, [], ◌∷◌, Option, Some, None, codes, bytes_eq, nat_le, if◌then◌else◌}
use Rattle.bench_frame.specs.Numbers.{number_in}
use Rattle.elimination_bench.specs.inner.Differences.{numbers_of}
use Rattle.elimination_bench.specs.declared.differences.Differences.{Differences}
use Rattle.elimination_bench.specs.declared.differences.Differences.TheVariants.{Coded, Plain}
use Rattle.elimination_bench.specs.declared.listing.Listing.{Listing}
use Rattle.elimination_bench.specs.declared.listing.Listing.TheVariants.{Given, Sums}
use Rattle.elimination_bench.specs.declared.words.Task.{Task}
use Rattle.elimination_bench.specs.declared.words.Task.TheVariants.{Fold, Pairs, Steps}

-- the task of the verb over the system without its first fields, by their number; the pairs of each step are told of
-- one step at least
abbrev pub task_over : List ℕ → Differences → ℕ → Option Task
task_over verb system count =
    if bytes_eq verb (codes "fold")
    then Some (Fold system count)
    else if bytes_eq verb (codes "pairs") && nat_le 1 count then Some (Pairs system count) else None

-- the task where the number of fields was read
abbrev pub served : List ℕ → Differences → Option ℕ → Option Task
served verb system None = None
served verb system (Some count) = task_over verb system count

-- the check of this number of steps, where their number was read
abbrev pub listed : Listing → Option ℕ → Option Task
listed listing None = None
listed listing (Some count) = Some (Steps listing count)

-- the task of the words `fold FIELDS` or `pairs FIELDS`, with `codes` behind it for lines with drawn sets of codes, or
-- of `steps COUNT`, with `sums` behind it for steps that combine lines
abbrev pub task_in : List (List ℕ) → Option Task
task_in (verb ∷ count ∷ []) =
    if bytes_eq verb (codes "steps")
    then listed Given (number_in count 0 (10 ^ 7))
    else served verb Plain (number_in count 0 (numbers_of Plain))
task_in (verb ∷ count ∷ kind ∷ []) =
    if bytes_eq verb (codes "steps") && bytes_eq kind (codes "sums")
    then listed Sums (number_in count 0 (10 ^ 7))
    else if bytes_eq kind (codes "codes") then served verb Coded (number_in count 0 (numbers_of Coded)) else None
task_in _ = None

-- the system has this number of fields to eliminate, and a step to show where steps are asked for
abbrev pub IsServed : Task → Type 0
IsServed (Fold system count) = count ≤ numbers_of system
IsServed (Pairs system count) = (1 ≤ count) × (count ≤ numbers_of system)
IsServed (Steps listing count) = Unit {0}
