use Rattle.std.proofs.Common.{◌≡◌, ◌≢◌, ℕ, suc, ◌+◌, List, [], ◌∷◌, Ok, Err, length, sym, ap, ◌∙◌, subst, arith}
use Rattle.proof_grammar.specs.Cuts.{lines_in}
use Rattle.proof_grammar.specs.inner.FileReading.{file_reading}
use Rattle.proof_grammar.specs.FirstFaults.{IsFirstFaultyLine}
use Rattle.proof_grammar.specs.Limits.{IsPlain}
use Rattle.proof_grammar.specs.ProofLines.{Line, proof_text}
use Rattle.proof_grammar.specs.LinesLeft.{IsEnd, LinesLeft, begun}
use Rattle.proof_grammar.specs.inner.Readings.{Reading, Reads}
use Rattle.proof_grammar.specs.declared.fault.ProofFault.{ProofFault}
use Rattle.proof_grammar.specs.declared.fault.ProofFault.TheVariants as fault
use Rattle.proof_grammar.specs.declared.proof.Proof.{Proof}
use Rattle.proof_grammar.proofs.GrammarReads.{proof-reads}
use Rattle.proof_grammar.proofs.Productions.{whole_of}
use Rattle.proof_grammar.proofs.ProofWords.{proof_of_bytes, text-found}
use Rattle.proof_grammar.proofs.TextFaults.{text-stops}

-- What the reading of a whole file tells of its bytes.

of_bytes : (bytes : List ℕ) (r : Reading Line Proof) → file_reading (lines_in bytes) ≡ r → proof_of_bytes bytes ≡ whole_of r
of_bytes bytes r is = ap (λ (q : Reading Line Proof). whole_of q) (proof-reads (lines_in bytes) ∙ is)

-- where all lines are read, they are the proof's
pub file-found : (bytes : List ℕ) (old now : LinesLeft) (p : Proof) → old ≡ begun bytes → Reads (Ok p) old now (file_reading old.left) → now.left ≡ []
    → IsPlain p × (bytes ≡ proof_text p)
file-found bytes old now p start (is, all) none =
    text-found bytes p (of_bytes bytes (Ok (p, [])) (ap (λ (l : LinesLeft). file_reading l.left) (sym start) ∙ is ∙ ap (λ (ls : List Line). Ok (p, ls)) none))

-- the line of this number is the one at which reading stops
numbered : (bytes : List ℕ) (left : List Line) (line : ℕ) → proof_of_bytes bytes ≡ Err left → line + length left ≡ suc (length (lines_in bytes))
    → IsFirstFaultyLine bytes line
numbered bytes left line is number =
    let (stop, there, fault) = text-stops bytes left is in
    let same : stop ≡ line = omega (arith, there, number) in subst (λ (n : ℕ). IsFirstFaultyLine bytes n) same fault

-- a line that can't be read
pub file-fault : (bytes : List ℕ) (old now : LinesLeft) (f : ProofFault) (line : ℕ) → old ≡ begun bytes
    → Reads {X = Proof} (Err f) old now (file_reading old.left) → f ≡ fault.At line → IsFirstFaultyLine bytes line
file-fault bytes old now f line start reads same =
    let (left, is, number) = subst (λ (g : ProofFault). Reads {X = Proof} (Err g) old now (file_reading old.left)) same reads in
    numbered bytes left line (of_bytes bytes (Err left) (ap (λ (l : LinesLeft). file_reading l.left) (sym start) ∙ is))
    (omega (arith, number, ap (λ (l : LinesLeft). l.all) start))

-- a line behind the last
pub end-fault : (bytes : List ℕ) (old now : LinesLeft) (p : Proof) (f : ProofFault) (line : ℕ) → old ≡ begun bytes
    → Reads (Ok p) old now (file_reading old.left) → IsEnd {X = Unit {0}} (Err f) now → f ≡ fault.At line → IsFirstFaultyLine bytes line
end-fault bytes old now p f line start (is, all) ends same =
    let (some, number) = subst (λ (g : ProofFault). IsEnd {X = Unit {0}} (Err g) now) same ends in
    numbered bytes now.left line (of_bytes bytes (Ok (p, now.left)) (ap (λ (l : LinesLeft). file_reading l.left) (sym start) ∙ is) ∙ over now.left some)
    (omega (arith, number, all, ap (λ (l : LinesLeft). l.all) start))
  where
    over : (left : List Line) → left ≢ [] → whole_of {L = Line} {X = Proof} (Ok (p, left)) ≡ Err left
    over [] some = absurd (some (λ i. []))
    over (l ∷ left) some = λ i. Err (l ∷ left)
