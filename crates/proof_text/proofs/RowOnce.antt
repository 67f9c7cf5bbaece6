use Rattle.std.proofs.Common.{◌≡◌, ℕ, ◌++◌, false, List, [], ◌∷◌, codes, inl, refl, sym, ap, ◌∙◌, arith}
use Rattle.std.specs.Fmt.{decimal}
use Rattle.bound_cert.specs.declared.outcome.RowProof.{RowProof}
use Rattle.proof_grammar.specs.Limits.{IsPlain, IsRowProof}
use Rattle.proof_grammar.specs.ProofLines.{limits_words, line_text, proof_text}
use Rattle.proof_grammar.specs.declared.proof.Proof.{Proof}
use Rattle.proof_grammar.proofs.ProofWords.{text-once}
use Rattle.proof_text.specs.RowTexts.{row_text}
use Rattle.proof_text.specs.inner.Texts.{claims_text, table_text, verdicts_text, version_text}
use Rattle.proof_text.proofs.PartTexts.{proof-parts}

-- A row is told by its text, since a proof of that row alone is.

-- a proof that shows this row alone
abbrev alone : RowProof → Proof
alone row = record { version = 1; limit = 0; near = 0; budget = 0; verdicts = []; table = []; rows = row ∷ []; claims = [] }

alone-plain : (row : RowProof) → IsRowProof row → IsPlain (alone row)
alone-plain row fits = record {
  version = inl refl;
  limit = omega arith;
  near = omega arith;
  budget = omega arith;
  verdicts = (omega arith, tt);
  table = refl;
  rows = (omega arith, (fits, tt));
  claims = (omega arith, tt);
}

abbrev first-row : RowProof → List RowProof → RowProof
first-row other [] = other
first-row other (row ∷ rows) = row

pub row-once : (a b : RowProof) → IsRowProof a → IsRowProof b → row_text a ≡ row_text b → a ≡ b
row-once a b first second same =
    let texts : proof_text (alone a) ≡ proof_text (alone b) = proof-parts (alone a) ∙ ap parts_around same ∙ sym (proof-parts (alone b)) in
    ap (λ (p : Proof). first-row a p.rows) (text-once (alone a) (alone b) (alone-plain a first) (alone-plain b second) texts)
  where
    parts_around : List ℕ → List ℕ
    parts_around text =
        version_text 1 ++ (line_text (limits_words 0 0 0) ++ (verdicts_text [] ++ (table_text false []
        ++ ((line_text (codes "records" ∷ decimal 1 ∷ []) ++ (text ++ [])) ++ (claims_text [] ++ codes "end\n")))))
