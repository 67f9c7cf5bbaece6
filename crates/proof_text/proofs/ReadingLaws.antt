use Rattle.std.proofs.Common.{◌≡◌, ℕ, suc, inl, inr, List, [], ◌∷◌, ◌++◌, Option, Some, None, Result, Ok, Err, refl, sym, ap, ◌∙◌, subst, append_assoc, arith}
use Rattle.proof_grammar.specs.ProofLines.{Line}
use Rattle.proof_grammar.specs.declared.fault.ProofFault.{ProofFault}
use Rattle.proof_grammar.specs.declared.fault.ProofFault.TheVariants as fault
use Rattle.proof_grammar.specs.declared.words.Stop.{Stop}
use Rattle.proof_grammar.specs.declared.words.Stop.TheVariants as stop
use Rattle.proof_grammar.specs.LinesLeft.{EndsAt, LinesLeft, Settles}
use Rattle.proof_grammar.specs.inner.Readings.{Reading, Reads, line_read, read_line, read_many, seen, then_read}
use Rattle.proof_grammar.specs.Words.{ReadsAs}

-- What readers of lines answer.

-- the values that were read before, and those that are read
abbrev pub onto : {L X : Type 0} → List X → Reading L (List X) → Reading L (List X)
onto xs (Err left) = Err left
onto xs (Ok (ys, rest)) = Ok (xs ++ ys, rest)

-- the words that were read before, and those that are read
abbrev pub appended : {X : Type 0} → List X → Option (List X) → Option (List X)
appended xs None = None
appended xs (Some ys) = Some (xs ++ ys)

-- a line that was taken, and what was read of it
pub line-reads : {X : Type 0} (said : Line → Option X) (old new : LinesLeft) (ws : Line) (read : Result X Stop) (result : Result X ProofFault)
    → old.left ≡ ws ∷ new.left → new.all ≡ old.all → ReadsAs read (said ws) → Settles read new result
    → Reads result old new (read_line said old.left)
line-reads said old new ws (Ok x) result front all is settled =
    subst (λ r. Reads r old new (read_line said old.left)) (sym settled) (ap (read_line said) front ∙ ap (line_read ws new.left) is, all)
line-reads said old new ws (Err stop.Form) (Ok x) front all is settled = absurd settled
line-reads said old new ws (Err stop.Form) (Err (fault.At line)) front all is settled =
    (ws ∷ new.left, ap (read_line said) front ∙ ap (line_read ws new.left) is, omega (arith, settled, all))
line-reads said old new ws (Err stop.Form) (Err fault.OutOfMemory) front all is settled = absurd settled
line-reads said old new ws (Err stop.OutOfMemory) (Ok x) front all is settled = absurd settled
line-reads said old new ws (Err stop.OutOfMemory) (Err (fault.At line)) front all is settled = absurd settled
line-reads said old new ws (Err stop.OutOfMemory) (Err fault.OutOfMemory) front all is settled = tt

-- no line that ends
pub none-reads : {X : Type 0} (said : Line → Option X) (old new : LinesLeft) (f : ProofFault) → said [] ≡ None → EndsAt old f
    → Reads (Err f) old new (read_line said old.left)
none-reads said old new (fault.At line) none (inl left, number) = (old.left, ap (read_line said) left ∙ ap (λ ls. Err ls) (sym left), number)
none-reads said old new (fault.At line) none (inr left, number) =
    (old.left, ap (read_line said) left ∙ ap (line_read [] []) none ∙ ap (λ ls. Err ls) (sym left), number)
none-reads said old new fault.OutOfMemory none ends = absurd ends

-- one more value, and those behind it
pub many-more : {L X : Type 0} (read : List L → Reading L X) (n : ℕ) (xs : List X) (x : X) (ls rest : List L) → read ls ≡ Ok (x, rest)
    → onto xs (read_many read (suc n) ls) ≡ onto (xs ++ x ∷ []) (read_many read n rest)
many-more {L} {X} read n xs x ls rest is = ap (λ r. onto xs (then_read r (λ y later. seen (λ ys. y ∷ ys) (read_many read n later)))) is
    ∙ by (read_many read n rest)
  where
    by : (r : Reading L (List X)) → onto xs (seen (λ ys. x ∷ ys) r) ≡ onto (xs ++ x ∷ []) r
    by (Err left) = refl
    by (Ok (ys, later)) = ap (λ zs. Ok (zs, later)) (sym (append_assoc xs (x ∷ []) ys))

-- where the reading of one value stops, that of all does
pub many-stops : {L X : Type 0} (read : List L → Reading L X) (n : ℕ) (xs : List X) (ls left : List L) → read ls ≡ Err left
    → onto xs (read_many read (suc n) ls) ≡ Err left
many-stops read n xs ls left is = ap (λ r. onto xs (then_read r (λ y later. seen (λ ys. y ∷ ys) (read_many read n later)))) is

-- a turn of the loop that reads one value after another
pub many-kept : {X : Type 0} (read : List Line → Reading Line X) (n m : ℕ) (xs ys : List X) (x : X) (ls rest : List Line) (whole : Reading Line (List X))
    → suc m ≡ n → ys ≡ xs ++ x ∷ [] → onto xs (read_many read n ls) ≡ whole → read ls ≡ Ok (x, rest)
    → onto ys (read_many read m rest) ≡ whole
many-kept read n m xs ys x ls rest whole count more kept is =
    ap (λ zs. onto zs (read_many read m rest)) more ∙ sym (many-more read m xs x ls rest is) ∙ ap (λ (k : ℕ). onto xs (read_many read k ls)) count ∙ kept

pub many-fails : {X : Type 0} (read : List Line → Reading Line X) (n m : ℕ) (xs : List X) (old now new last : LinesLeft) (whole : Reading Line (List X))
    (f : ProofFault) → suc m ≡ n → onto xs (read_many read n now.left) ≡ whole → now.all ≡ old.all
    → Reads {X = X} (Err f) now new (read now.left) → Reads {X = List X} (Err f) old last whole
many-fails read n m xs old now new last whole (fault.At line) count kept all (left, is, number) =
    (left, sym kept ∙ ap (λ (k : ℕ). onto xs (read_many read k now.left)) (sym count) ∙ many-stops read m xs now.left left is, omega (arith, number, all))
many-fails read n m xs old now new last whole fault.OutOfMemory count kept all reads = tt
