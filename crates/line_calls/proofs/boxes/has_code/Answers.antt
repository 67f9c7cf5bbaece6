use Rattle.std.proofs.Common.{ℕ, ◌<◌, subst}
use Rattle.std.proofs.lemmas.Bool.Decides.{Decides-ltb}
use Rattle.line_calls.proofs.boxes.has_code.Goals as goal

pub returns : goal.returns
returns c = λ less. subst (λ (n : ℕ). c.args.code < n) c.size_of.ensures.size ((Decides-ltb c.args.code c.size_of.result).0 less)
