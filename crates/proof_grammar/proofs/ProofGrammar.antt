use Rattle.std.proofs.Common.{◌≡◌, List, Result, Ok, Err}
use Rattle.proof_grammar.specs.declared.proof.Proof.{Proof}
use Rattle.proof_grammar.specs.Limits.{IsPlain}
use Rattle.proof_grammar.specs.ProofLines.{Line, proof_lines}
use Rattle.proof_grammar.proofs.Grammar.{proof}
use Rattle.proof_grammar.proofs.Productions.{IsFirstStop, Production, one-text, whole-again, whole-found, whole-stops, whole_of}

-- Reading the lines of a proof.

abbrev pub plain_proof : Production IsPlain proof_lines
plain_proof = proof

-- the proof that lines spell, or the lines from the first that can't go on
abbrev pub proof_in : List Line → Result Proof (List Line)
proof_in lines = whole_of (plain_proof.read lines)

-- what is read is a plain proof, and the lines are its own
pub proof-found : (lines : List Line) (p : Proof) → proof_in lines ≡ Ok p → IsPlain p × (lines ≡ proof_lines p)
proof-found lines p e = whole-found IsPlain proof_lines plain_proof lines p e

-- the lines of a plain proof are read as that proof
pub proof-again : (p : Proof) → IsPlain p → proof_in (proof_lines p) ≡ Ok p
proof-again p plain = whole-again IsPlain proof_lines plain_proof p plain

-- so plain proofs of the same lines are one
pub proof-once : (p q : Proof) → IsPlain p → IsPlain q → proof_lines p ≡ proof_lines q → p ≡ q
proof-once p q first second same = one-text IsPlain proof_lines plain_proof p q first second same

-- where reading stops, some proof begins with the lines before, and none with the next line too; where there is no next line, the lines are no whole proof
pub proof-stops : (lines left : List Line) → proof_in lines ≡ Err left → IsFirstStop IsPlain proof_lines plain_proof lines left
proof-stops lines left e = whole-stops IsPlain proof_lines plain_proof lines left e
