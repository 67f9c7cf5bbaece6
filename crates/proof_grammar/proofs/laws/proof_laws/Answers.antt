use Rattle.proof_grammar.proofs.SizeLaws.{plain-if}
use Rattle.proof_grammar.proofs.laws.proof_laws.Goals as goal

pub returns : goal.returns
returns c = record { plain = plain-if }
