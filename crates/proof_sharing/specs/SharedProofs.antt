-- Proofs whose derived lines are written once, for all records.
use Rattle.std.specs.Prelude.{◌+◌, ◌<◌, ◌^◌, [], length}
use Rattle.bound_cert.specs.SharedTrees.{shared_rows, table_with_rows}
use Rattle.proof_grammar.specs.Limits.{IsPlain}
use Rattle.proof_grammar.specs.declared.proof.Proof.{Proof}
use Rattle.proof_grammar.specs.Sizes.{IsCoherent}

-- the proof of version 2: the lines that the steps of its leaves give stand once, in the table, and the leaves name them there,
-- behind the lines of the rules
abbrev pub shared_proof : Proof → Proof
shared_proof p = record {
  version = 2;
  limit = p.limit;
  near = p.near;
  budget = p.budget;
  verdicts = p.verdicts;
  table = table_with_rows [] p.rows;
  rows = shared_rows (length p.verdicts) [] p.rows;
  claims = p.claims;
}

-- it is plain where the proof is, and 64 bits count the lines of the rules and of the table
abbrev pub PlainSharingLaw : Type 0
PlainSharingLaw = (p : Proof) → IsPlain p → length p.verdicts + length (table_with_rows [] p.rows) < 2 ^ 64 → IsPlain (shared_proof p)

-- it is in order where the proof is
abbrev pub CoherentSharingLaw : Type 0
CoherentSharingLaw = (p : Proof) → IsCoherent p → IsCoherent (shared_proof p)
