use Rattle.std.proofs.Common.{◌≡◌, ◌⊎◌, inl, inr, ℕ, List, Result, Ok, Err, refl}
use Rattle.proof_grammar.specs.FirstFaults.{IsFirstFaultyLine, IsInGrammar}
use Rattle.proof_grammar.specs.ProofLines.{Line}
use Rattle.proof_grammar.specs.declared.proof.Proof.{Proof}
use Rattle.proof_grammar.proofs.ProofWords.{proof_of_bytes, text-found, text-once}
use Rattle.proof_grammar.proofs.TextFaults.{one-line, text-stops}
use Rattle.proof_grammar.proofs.text.one_reading.Goals as goal

pub returns-clause-one_proof : goal.returns-clause-one_proof
returns-clause-one_proof c = text-once

pub returns-clause-decided : goal.returns-clause-decided
returns-clause-decided c = λ bytes. by bytes (proof_of_bytes bytes) refl
  where
    by : (bytes : List ℕ) (r : Result Proof (List Line)) → proof_of_bytes bytes ≡ r → IsInGrammar bytes ⊎ ((line : ℕ) × IsFirstFaultyLine bytes line)
    by bytes (Ok p) is = inl (let (plain, same) = text-found bytes p is in (p, plain, same))
    by bytes (Err left) is = inr (let (line, number, fault) = text-stops bytes left is in (line, fault))

pub returns-clause-one_line : goal.returns-clause-one_line
returns-clause-one_line c = one-line
