use Rattle.std.specs.Prelude.{ℕ, List, Option, Some, None, Result, Ok, Err}
use Rattle.elimination_bench.specs.inner.Folds.{fold_answer, pairs_answer}
use Rattle.elimination_bench.specs.inner.Listings.{first_refused, verdict_text}
use Rattle.bench_frame.specs.declared.fault.Fault.{Fault}
use Rattle.bench_frame.specs.declared.fault.Fault.TheVariants.{Usage}
use Rattle.elimination_bench.specs.declared.words.Task.{Task}
use Rattle.elimination_bench.specs.declared.words.Task.TheVariants.{Fold, Pairs, Steps}

-- what is told of a task, or of words that ask for none
abbrev pub told_of : Option Task → Result (List ℕ) Fault
told_of None = Err Usage
told_of (Some (Fold system count)) = fold_answer system count
told_of (Some (Pairs system count)) = pairs_answer system count
told_of (Some (Steps listing count)) = Ok (verdict_text count (first_refused listing count))
