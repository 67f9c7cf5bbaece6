use Rattle.std.proofs.Common.{◌≡◌, ◌<◌, ◌^◌, ℕ, zero, suc, Bool, true, false, Ok, Err, List, [], ◌∷◌, ◌++◌, Option, Some, None, IfSome, length, map, codes}
use Rattle.std.proofs.Common.{refl, sym, ap, ◌∙◌, subst, arith}
use Rattle.std.specs.Fmt.{decimal}
use Rattle.std.specs.List.{AllByRecursion, flat_map}
use Rattle.derivation.specs.declared.step.Step.{Step}
use Rattle.bound_cert.specs.declared.cert.Cert.{Cert}
use Rattle.bound_cert.specs.declared.cert.Leaf.{Leaf}
use Rattle.bound_cert.specs.declared.cert.LeafWhy.{LeafWhy}
use Rattle.bound_cert.specs.declared.cert.LeafWhy.TheVariants as why
use Rattle.donor_book.specs.declared.claim.Entry.{Entry}
use Rattle.bound_cert.specs.declared.outcome.GiftFault.{GiftFault}
use Rattle.bound_cert.specs.declared.outcome.Outcome.{Outcome}
use Rattle.bound_cert.specs.declared.outcome.Outcome.TheVariants as outcome
use Rattle.proof_grammar.specs.declared.proof.Proof.{Proof}
use Rattle.bound_cert.specs.declared.outcome.RowProof.{RowProof}
use Rattle.proof_grammar.specs.declared.heads.LeafHead.{LeafHead}
use Rattle.proof_grammar.specs.declared.heads.LeafHead.TheVariants.{BadAt, BoundAt, BoxAt, LineAt}
use Rattle.proof_grammar.specs.declared.heads.RowHead.{RowHead}
use Rattle.proof_grammar.specs.declared.heads.RowHead.TheVariants.{BudgetAt, ChangeAt, CleanAt, ContradictoryAt, EventAt, GiftAt}
use Rattle.proof_grammar.specs.declared.heads.RunLimits.{RunLimits}
use Rattle.proof_grammar.proofs.HeadLines.{AreLimits, IsLeafHead, IsRowHead, IsVerdictHead, leaf_head, leaves_behind, limits_line, row_head, steps_behind}
use Rattle.proof_grammar.proofs.HeadLines.{verdict_head}
use Rattle.proof_grammar.specs.Limits.{AreFit, IsChange, IsEntry, IsLeaf, IsLong, IsOutcome, IsPlain, IsRowProof, IsStep, IsTable, IsTableStep, clean_leaves}
use Rattle.proof_grammar.specs.ProofLines.{Line, claim_line, count_line, end_line, has_table, leaf_lines_in, step_line_in, proof_lines, row_lines_in}
use Rattle.proof_grammar.specs.ProofLines.{shared_from, step_line, table_lines, verdict_lines, version_line}
use Rattle.proof_grammar.specs.inner.Readings.{Reading}
use Rattle.proof_grammar.proofs.FileForms.{IsVersion, claim_form, count_form, end_form, limits_form, verdict_form, version_form}
use Rattle.proof_grammar.proofs.LeafForms.{leaf_form}
use Rattle.proof_grammar.proofs.MoreWordForms.{Always}
use Rattle.proof_grammar.proofs.Productions.{AreMany, LineForm, Production, View, as_seen, follow, line, many}
use Rattle.proof_grammar.proofs.RowForms.{row_form}
use Rattle.proof_grammar.proofs.StepForms.{leaf_step_form, step_form, table_step_form}

-- The grammar of a proof file, joined from the forms of its lines.

-- ---- lists

pub many-fit : {X : Type 0} (Good : X → Type 0) (n : ℕ) (xs : List X) → AreMany Good n xs → (length xs ≡ n) × AllByRecursion Good xs
many-fit Good zero [] are = (refl, tt)
many-fit Good zero (x ∷ xs) are = absurd are
many-fit Good (suc n) [] are = absurd are
many-fit Good (suc n) (x ∷ xs) are = let (count, all) = many-fit Good n xs are.1 in (omega (arith, count), (are.0, all))

pub fit-many : {X : Type 0} (Good : X → Type 0) (xs : List X) → AllByRecursion Good xs → AreMany Good (length xs) xs
fit-many Good [] all = tt
fit-many Good (x ∷ xs) all = (all.0, fit-many Good xs all.1)

-- good values fit where their number does
pub are-fit : {X : Type 0} (Good : X → Type 0) (n : ℕ) (xs : List X) → IsLong n → AreMany Good n xs → (length xs ≡ n) × AreFit Good xs
are-fit Good n xs long are = let (count, all) = many-fit Good n xs are in (count, (subst (λ (k : ℕ). k < 2 ^ 64) (sym count) long, all))

pub flat-single : {X L : Type 0} (f : X → L) (xs : List X) → flat_map (λ x. f x ∷ []) xs ≡ map f xs
flat-single f [] = refl
flat-single f (x ∷ xs) = ap (λ ls. f x ∷ ls) (flat-single f xs)

-- none behind a head
pub no-more : {X : Type 0} (Good : X → Type 0) (xs : List X) → AreMany Good 0 xs → xs ≡ []
no-more Good [] are = refl
no-more Good (x ∷ xs) are = absurd are

unfoldable pub steps : (n : ℕ) → Production (AreMany IsStep n) (flat_map (λ (s : Step). step_line s ∷ []))
steps n = many IsStep (λ s. step_line s ∷ []) (line IsStep step_line step_form) n

-- ---- leaves

abbrev pub leaf_of : LeafHead → List Step → Leaf
leaf_of (BoundAt path) ss = record { path = path; why = why.Bound }
leaf_of (BadAt path) ss = record { path = path; why = why.BadKept }
leaf_of (LineAt path n) ss = record { path = path; why = why.Line ss }
leaf_of (BoxAt path n) ss = record { path = path; why = why.Box ss }

abbrev pub leaf_parts : List Bool → LeafWhy → LeafHead × List Step
leaf_parts path why.Bound = (BoundAt path, [])
leaf_parts path why.BadKept = (BadAt path, [])
leaf_parts path (why.Line ss) = (LineAt path (length ss), ss)
leaf_parts path (why.Box ss) = (BoxAt path (length ss), ss)

abbrev pub step_lines : List Step → List Line
step_lines ss = flat_map (λ (s : Step). step_line s ∷ []) ss

-- the steps of a leaf, where given lines are named so
abbrev pub step_line_ins : Option ℕ → List Step → List Line
step_line_ins shared ss = flat_map (λ (s : Step). step_line_in shared s ∷ []) ss

unfoldable pub leaf_steps : (shared : Option ℕ) (n : ℕ) → Production (AreMany IsStep n) (step_line_ins shared)
leaf_steps shared n = many IsStep (λ s. step_line_in shared s ∷ []) (line IsStep (step_line_in shared) (leaf_step_form shared)) n

unfoldable pub leaf_view : (shared : Option ℕ) → View (λ (pair : LeafHead × List Step). IsLeafHead pair.0 × AreMany IsStep (steps_behind pair.0) pair.1)
    (λ pair. leaf_head pair.0 ∷ [] ++ step_line_ins shared pair.1) IsLeaf (leaf_lines_in shared)
leaf_view shared = record {
  to = λ pair. leaf_of pair.0 pair.1;
  from = λ leaf. leaf_parts leaf.path leaf.why;
  there =
      λ pair good. there pair.0 pair.1 good;
  back = λ leaf fine. back leaf.path leaf.why fine;
}
  where
    there : (head : LeafHead) (ss : List Step) → IsLeafHead head × AreMany IsStep (steps_behind head) ss → IsLeaf (leaf_of head ss)
        × (leaf_parts (leaf_of head ss).path (leaf_of head ss).why ≡ (head, ss))
    there (BoundAt path) ss good = (tt, ap (λ (ts : List Step). (BoundAt path, ts)) (sym (no-more IsStep ss good.1)))
    there (BadAt path) ss good = (tt, ap (λ (ts : List Step). (BadAt path, ts)) (sym (no-more IsStep ss good.1)))
    there (LineAt path n) ss good = let (count, fit) = are-fit IsStep n ss good.0 good.1 in (fit, ap (λ (k : ℕ). (LineAt path k, ss)) count)
    there (BoxAt path n) ss good = let (count, fit) = are-fit IsStep n ss good.0 good.1 in (fit, ap (λ (k : ℕ). (BoxAt path k, ss)) count)

    back : (path : List Bool) (reason : LeafWhy) → IsLeaf (record { path = path; why = reason })
        → (IsLeafHead (leaf_parts path reason).0 × AreMany IsStep (steps_behind (leaf_parts path reason).0) (leaf_parts path reason).1)
        × (leaf_of (leaf_parts path reason).0 (leaf_parts path reason).1 ≡ record { path = path; why = reason })
        × (leaf_lines_in shared (record { path = path; why = reason }) ≡ leaf_head (leaf_parts path reason).0 ∷ []
        ++ step_line_ins shared (leaf_parts path reason).1)
    back path why.Bound fine = ((omega arith, tt), refl, refl)
    back path why.BadKept fine = ((omega arith, tt), refl, refl)
    back path (why.Line ss) fine = (
      (fine.0, fit-many IsStep ss fine.1),
      refl,
      ap (λ (ls : List Line). leaf_head (LineAt path (length ss)) ∷ ls)
          (sym (flat-single (step_line_in shared) ss)),
    )
    back path (why.Box ss) fine = (
      (fine.0, fit-many IsStep ss fine.1),
      refl,
      ap (λ (ls : List Line). leaf_head (BoxAt path (length ss)) ∷ ls)
          (sym (flat-single (step_line_in shared) ss)),
    )

unfoldable pub leaf : (shared : Option ℕ) → Production IsLeaf (leaf_lines_in shared)
leaf shared = as_seen _ _ _ _ (leaf_view shared)
    (follow IsLeafHead (λ head. leaf_head head ∷ []) (λ head. AreMany IsStep (steps_behind head)) (λ head. step_line_ins shared)
    (line IsLeafHead leaf_head leaf_form) (λ head. leaf_steps shared (steps_behind head)))

-- ---- verdicts

abbrev pub verdict_of : Option ℕ → List Step → Option (List Step)
verdict_of None ss = None
verdict_of (Some n) ss = Some ss

abbrev pub verdict_parts : Option (List Step) → Option ℕ × List Step
verdict_parts None = (None, [])
verdict_parts (Some ss) = (Some (length ss), ss)

abbrev pub steps_of_verdict : Option ℕ → ℕ
steps_of_verdict None = 0
steps_of_verdict (Some n) = n

abbrev pub IsVerdict : Option (List Step) → Type 0
IsVerdict v = IfSome v (AreFit IsStep)

unfoldable pub verdict_view : View (λ (pair : Option ℕ × List Step). IsVerdictHead pair.0 × AreMany IsStep (steps_of_verdict pair.0) pair.1)
    (λ pair. verdict_head pair.0 ∷ [] ++ step_lines pair.1) IsVerdict verdict_lines
verdict_view = record { to = λ pair. verdict_of pair.0 pair.1; from = verdict_parts; there = λ pair good. there pair.0 pair.1 good; back = back }
  where
    there : (head : Option ℕ) (ss : List Step) → IsVerdictHead head × AreMany IsStep (steps_of_verdict head) ss → IsVerdict (verdict_of head ss)
        × (verdict_parts (verdict_of head ss) ≡ (head, ss))
    there None ss good = (tt, ap (λ (ts : List Step). (None, ts)) (sym (no-more IsStep ss good.1)))
    there (Some n) ss good = let (count, fit) = are-fit IsStep n ss good.0 good.1 in (fit, ap (λ (k : ℕ). (Some k, ss)) count)

    back : (v : Option (List Step)) → IsVerdict v
        → (IsVerdictHead (verdict_parts v).0 × AreMany IsStep (steps_of_verdict (verdict_parts v).0) (verdict_parts v).1)
        × (verdict_of (verdict_parts v).0 (verdict_parts v).1 ≡ v)
        × (verdict_lines v ≡ verdict_head (verdict_parts v).0 ∷ [] ++ step_lines (verdict_parts v).1)
    back None fine = ((tt, tt), refl, refl)
    back (Some ss) fine = (
      (fine.0, fit-many IsStep ss fine.1),
      refl,
      ap (λ (ls : List Line). verdict_head (Some (length ss)) ∷ ls)
          (sym (flat-single step_line ss)),
    )

unfoldable pub verdict : Production IsVerdict verdict_lines
verdict = as_seen _ _ _ _ verdict_view (follow IsVerdictHead (λ head. verdict_head head ∷ []) (λ head. AreMany IsStep (steps_of_verdict head))
    (λ head. step_lines) (line IsVerdictHead verdict_head verdict_form) (λ head. steps (steps_of_verdict head)))

-- ---- rows

abbrev pub cert_of : List Leaf → Cert
cert_of leaves = record { leaves = leaves }

abbrev pub row_of : RowHead → List Leaf → RowProof
row_of CleanAt leaves = record { outcome = outcome.Change [] 0 (cert_of clean_leaves); gift = None }
row_of (ChangeAt w path n) leaves = record { outcome = outcome.Change path (suc w) (cert_of leaves); gift = None }
row_of (GiftAt weight path fault n) leaves = record { outcome = outcome.Change path weight (cert_of leaves); gift = Some fault }
row_of (BudgetAt path work) leaves = record { outcome = outcome.Budget path work; gift = None }
row_of (EventAt path event) leaves = record { outcome = outcome.Overflow path event; gift = None }
row_of (ContradictoryAt n) leaves = record { outcome = outcome.Contradictory (cert_of leaves); gift = None }

abbrev pub change_parts : List Bool → ℕ → List Leaf → RowHead × List Leaf
change_parts path zero leaves = (CleanAt, [])
change_parts path (suc w) leaves = (ChangeAt w path (length leaves), leaves)

abbrev pub row_parts : Outcome → Option GiftFault → RowHead × List Leaf
row_parts (outcome.Change path weight cert) None = change_parts path weight cert.leaves
row_parts (outcome.Change path weight cert) (Some fault) = (GiftAt weight path fault (length cert.leaves), cert.leaves)
row_parts (outcome.Budget path work) fault = (BudgetAt path work, [])
row_parts (outcome.Overflow path event) fault = (EventAt path event, [])
row_parts (outcome.Contradictory cert) fault = (ContradictoryAt (length cert.leaves), cert.leaves)

abbrev pub leaves_lines : Option ℕ → List Leaf → List Line
leaves_lines shared leaves = flat_map (leaf_lines_in shared) leaves

-- what its parts give back
abbrev pub Back : Option ℕ → Outcome → Option GiftFault → RowHead × List Leaf → Type 0
Back shared o fault parts =
    (IsRowHead parts.0 × AreMany IsLeaf (leaves_behind parts.0) parts.1) × (row_of parts.0 parts.1 ≡ record { outcome = o; gift = fault })
    × (row_lines_in shared (record { outcome = o; gift = fault }) ≡ row_head parts.0 ∷ [] ++ leaves_lines shared parts.1)

unfoldable pub row_view : (shared : Option ℕ) → View (λ (pair : RowHead × List Leaf). IsRowHead pair.0 × AreMany IsLeaf (leaves_behind pair.0) pair.1)
    (λ pair. row_head pair.0 ∷ [] ++ leaves_lines shared pair.1) IsRowProof (row_lines_in shared)
row_view shared = record {
  to = λ pair. row_of pair.0 pair.1;
  from = λ row. row_parts row.outcome row.gift;
  there =
      λ pair good. there pair.0 pair.1 good;
  back = λ row fine. back row.outcome row.gift fine;
}
  where
    there : (head : RowHead) (leaves : List Leaf) → IsRowHead head × AreMany IsLeaf (leaves_behind head) leaves
        → IsRowProof (row_of head leaves) × (row_parts (row_of head leaves).outcome (row_of head leaves).gift ≡ (head, leaves))
    there CleanAt leaves good = ((refl, refl), ap (λ (ls : List Leaf). (CleanAt, ls)) (sym (no-more IsLeaf leaves good.1)))
    there (ChangeAt w path n) leaves good = let (count, fit) = are-fit IsLeaf n leaves good.0.1 good.1 in
        ((good.0.0, fit), ap (λ (k : ℕ). (ChangeAt w path k, leaves)) count)
    there (GiftAt weight path fault n) leaves good =
        let (count, fit) = are-fit IsLeaf n leaves good.0.2 good.1 in ((good.0.0, good.0.1, fit), ap (λ (k : ℕ). (GiftAt weight path fault k, leaves)) count)
    there (BudgetAt path work) leaves good = (good.0, ap (λ (ls : List Leaf). (BudgetAt path work, ls)) (sym (no-more IsLeaf leaves good.1)))
    there (EventAt path event) leaves good = (good.0, ap (λ (ls : List Leaf). (EventAt path event, ls)) (sym (no-more IsLeaf leaves good.1)))
    there (ContradictoryAt n) leaves good = let (count, fit) = are-fit IsLeaf n leaves good.0 good.1 in (fit, ap (λ (k : ℕ). (ContradictoryAt k, leaves)) count)

    changed : (path : List Bool) (weight : ℕ) (cert : Cert) → IsChange path weight cert.leaves
        → Back shared (outcome.Change path weight cert) None (change_parts path weight cert.leaves)
    changed path zero cert fine = (
      (tt, tt),
      ap (λ (q : List Bool). record { outcome = outcome.Change q 0 (cert_of clean_leaves); gift = None }) (sym fine.0)
          ∙ ap (λ (ls : List Leaf). record { outcome = outcome.Change path 0 (cert_of ls); gift = None }) (sym fine.1),
      refl,
    )
    changed path (suc w) cert fine = (((fine.0, fine.1.0), fit-many IsLeaf cert.leaves fine.1.1), refl, refl)

    back : (o : Outcome) (fault : Option GiftFault) → IsOutcome o fault → Back shared o fault (row_parts o fault)
    back (outcome.Change path weight cert) None fine = changed path weight cert fine
    back (outcome.Change path weight cert) (Some fault) fine = (((fine.0, fine.1, fine.2.0), fit-many IsLeaf cert.leaves fine.2.1), refl, refl)
    back (outcome.Budget path work) None fine = ((fine, tt), refl, refl)
    back (outcome.Budget path work) (Some fault) fine = absurd fine
    back (outcome.Overflow path event) None fine = ((fine, tt), refl, refl)
    back (outcome.Overflow path event) (Some fault) fine = absurd fine
    back (outcome.Contradictory cert) None fine = ((fine.0, fit-many IsLeaf cert.leaves fine.1), refl, refl)
    back (outcome.Contradictory cert) (Some fault) fine = absurd fine

unfoldable pub row : (shared : Option ℕ) → Production IsRowProof (row_lines_in shared)
row shared = as_seen _ _ _ _ (row_view shared)
    (follow IsRowHead (λ head. row_head head ∷ []) (λ head. AreMany IsLeaf (leaves_behind head)) (λ head. leaves_lines shared)
    (line IsRowHead row_head row_form) (λ head. many IsLeaf (leaf_lines_in shared) (leaf shared) (leaves_behind head)))

-- ---- the file

abbrev pub lines_count : ℕ → Line
lines_count n = codes "lines" ∷ decimal n ∷ []

abbrev pub records_count : ℕ → Line
records_count n = codes "records" ∷ decimal n ∷ []

abbrev pub claims_count : ℕ → Line
claims_count n = codes "claims" ∷ decimal n ∷ []

-- a count, and as many values as it says
unfoldable pub counted_view : {X : Type 0} (Good : X → Type 0) (print : X → List Line) (head : ℕ → Line)
    → View (λ (pair : ℕ × List X). IsLong pair.0 × AreMany Good pair.0 pair.1) (λ pair. head pair.0 ∷ [] ++ flat_map print pair.1) (AreFit Good)
    (λ xs. head (length xs) ∷ flat_map print xs)
counted_view {X} Good print head = record {
  to = λ pair. pair.1;
  from = λ xs. (length xs, xs);
  there = λ pair good. let (count, fit) = are-fit Good pair.0 pair.1 good.0 good.1 in (fit, ap (λ (k : ℕ). (k, pair.1)) count);
  back = λ xs fine. ((fine.0, fit-many Good xs fine.1), refl, refl);
}

unfoldable pub counted : {X : Type 0} (Good : X → Type 0) (print : X → List Line) (head : ℕ → Line) → LineForm IsLong head → Production Good print
    → Production (AreFit Good) (λ xs. head (length xs) ∷ flat_map print xs)
counted {X} Good print head form one =
    as_seen _ _ _ _ (counted_view Good print head) (follow IsLong (λ n. head n ∷ []) (λ n. AreMany Good n) (λ n. flat_map print) (line IsLong head form)
    (λ n. many Good print one n))

unfoldable pub plain_entry : Production IsEntry (λ entry. claim_line entry ∷ [])
plain_entry = line IsEntry claim_line claim_form

abbrev pub entry_lines : List Entry → List Line
entry_lines entries = flat_map (λ (entry : Entry). claim_line entry ∷ []) entries

abbrev pub verdicts_text : List (Option (List Step)) → List Line
verdicts_text vs = lines_count (length vs) ∷ flat_map verdict_lines vs

abbrev pub rows_text : Option ℕ → List RowProof → List Line
rows_text shared rows = records_count (length rows) ∷ flat_map (row_lines_in shared) rows

abbrev pub claims_text : List Entry → List Line
claims_text entries = claims_count (length entries) ∷ entry_lines entries

-- ---- the table

abbrev pub table_count : ℕ → Line
table_count n = codes "table" ∷ decimal n ∷ []

unfoldable pub table_step : Production IsTableStep (λ s. step_line s ∷ [])
table_step = line IsTableStep step_line table_step_form

unfoldable pub table_view : View (AreFit IsTableStep) (λ table. table_count (length table) ∷ step_lines table) (IsTable true) (table_lines true)
table_view = record {
  to = λ table. table;
  from = λ table. table;
  there = λ table good. (good, refl);
  back = λ table fine. (fine, refl, ap (λ (ls : List Line). table_count (length table) ∷ ls) (sym (flat-single step_line table)));
}

-- no table
abbrev read_nothing : List Line → Reading Line (List Step)
read_nothing ls = Ok ([], ls)

unfoldable pub no_table : Production (IsTable false) (table_lines false)
no_table = record { read = read_nothing; sample = []; sound_sample = refl; again = again; found = found; stops = λ ls left e. absurd (cc) }
  where
    table_in : Reading Line (List Step) → List Step
    table_in (Err left) = []
    table_in (Ok (x, left)) = x

    left_in : Reading Line (List Step) → List Line
    left_in (Err left) = left
    left_in (Ok (x, left)) = left

    again : (none : List Step) (rest : List Line) → none ≡ [] → read_nothing (table_lines false none ++ rest) ≡ Ok (none, rest)
    again none rest good = ap (λ (xs : List Step). Ok (xs, rest)) (sym good)

    found : (ls : List Line) (none : List Step) (rest : List Line) → read_nothing ls ≡ Ok (none, rest) → (none ≡ []) × (ls ≡ table_lines false none ++ rest)
    found ls none rest e = (sym (ap table_in e), ap left_in e)

-- the table, where there is one
unfoldable pub table : (b : Bool) → Production (IsTable b) (table_lines b)
table true = as_seen _ _ _ _ table_view (counted IsTableStep (λ s. step_line s ∷ []) table_count (count_form (codes "table")) table_step)
table false = no_table

-- ---- all of it

-- the parts of a proof behind its limits
abbrev pub Lists : Type 0
Lists = List (Option (List Step)) × (List Step × (List RowProof × (List Entry × Unit {0})))

-- the parts behind its table
abbrev pub Rows : Type 0
Rows = List RowProof × (List Entry × Unit {0})

abbrev pub AreRows : Rows → Type 0
AreRows parts = AreFit IsRowProof parts.0 × (AreFit IsEntry parts.1.0 × Always parts.1.1)

abbrev pub rows_and_claims : Option ℕ → Rows → List Line
rows_and_claims shared parts = rows_text shared parts.0 ++ (claims_text parts.1.0 ++ end_line ∷ [])

abbrev pub AreLists : Bool → Lists → Type 0
AreLists b parts = AreFit IsVerdict parts.0 × (IsTable b parts.1.0 × AreRows parts.1.1)

abbrev pub lists_text : Bool → Lists → List Line
lists_text b parts = verdicts_text parts.0 ++ (table_lines b parts.1.0 ++ rows_and_claims (shared_from b (length parts.0)) parts.1.1)

unfoldable pub ending : Production Always (λ u. end_line ∷ [])
ending = line Always (λ u. end_line) end_form

unfoldable pub behind_rows : Production (λ (pair : List Entry × Unit {0}). AreFit IsEntry pair.0 × Always pair.1) (λ pair. claims_text pair.0 ++ end_line ∷ [])
behind_rows = follow (AreFit IsEntry) claims_text (λ xs. Always) (λ xs u. end_line ∷ []) (counted IsEntry (λ entry. claim_line entry ∷ []) claims_count
    (count_form (codes "claims")) plain_entry) (λ xs. ending)

unfoldable pub behind_table : (shared : Option ℕ) → Production AreRows (rows_and_claims shared)
behind_table shared = follow (AreFit IsRowProof) (rows_text shared) (λ xs pair. AreFit IsEntry pair.0 × Always pair.1)
    (λ xs pair. claims_text pair.0 ++ end_line ∷ [])
    (counted IsRowProof (row_lines_in shared) records_count (count_form (codes "records")) (row shared)) (λ xs. behind_rows)

unfoldable pub behind_verdicts : (b : Bool) (shared : Option ℕ) → Production (λ (pair : List Step × Rows). IsTable b pair.0 × AreRows pair.1)
    (λ pair. table_lines b pair.0 ++ rows_and_claims shared pair.1)
behind_verdicts b shared = follow (IsTable b) (table_lines b) (λ xs. AreRows) (λ xs. rows_and_claims shared) (table b) (λ xs. behind_table shared)

unfoldable pub lists : (b : Bool) → Production (AreLists b) (lists_text b)
lists b = follow (AreFit IsVerdict) verdicts_text (λ xs pair. IsTable b pair.0 × AreRows pair.1)
    (λ xs pair. table_lines b pair.0 ++ rows_and_claims (shared_from b (length xs)) pair.1)
    (counted IsVerdict verdict_lines lines_count (count_form (codes "lines")) verdict) (λ xs. behind_verdicts b (shared_from b (length xs)))

unfoldable pub behind_version : (b : Bool) → Production (λ (pair : RunLimits × Lists). AreLimits pair.0 × AreLists b pair.1)
    (λ pair. limits_line pair.0 ∷ [] ++ lists_text b pair.1)
behind_version b = follow AreLimits (λ l. limits_line l ∷ []) (λ l. AreLists b) (λ l. lists_text b) (line AreLimits limits_line limits_form) (λ l. lists b)

abbrev pub proof_of : ℕ → RunLimits → Lists → Proof
proof_of version l parts = record {
  version = version;
  limit = l.limit;
  near = l.near;
  budget = l.budget;
  verdicts = parts.0;
  table = parts.1.0;
  rows = parts.1.1.0;
  claims = parts.1.1.1.0;
}

abbrev pub limits_of : Proof → RunLimits
limits_of p = record { limit = p.limit; near = p.near; budget = p.budget }

abbrev pub lists_of : Proof → Lists
lists_of p = (p.verdicts, (p.table, (p.rows, (p.claims, tt))))

unfoldable pub proof_view : View (λ (pair : ℕ × (RunLimits × Lists)). IsVersion pair.0 × (AreLimits pair.1.0 × AreLists (has_table pair.0) pair.1.1))
    (λ pair. version_line pair.0 ∷ [] ++ (limits_line pair.1.0 ∷ [] ++ lists_text (has_table pair.0) pair.1.1)) IsPlain proof_lines
proof_view = record {
  to = λ pair. proof_of pair.0 pair.1.0 pair.1.1;
  from = λ p. (p.version, (limits_of p, lists_of p));
  there = λ pair good. (
    record {
      version = good.0;
      limit = good.1.0.0;
      near = good.1.0.1;
      budget = good.1.0.2;
      verdicts = good.1.1.0;
      table =
          good.1.1.1.0;
      rows = good.1.1.1.1.0;
      claims = good.1.1.1.1.1.0;
    },
    refl,
  );
  back = λ p plain. (
    (plain.version, ((plain.limit, plain.near, plain.budget), (plain.verdicts, (plain.table, (plain.rows, (plain.claims, tt)))))),
    refl,
    text p,
  );
}
  where
    text : (p : Proof) → proof_lines p ≡ version_line p.version ∷ [] ++ (limits_line (limits_of p) ∷ [] ++ lists_text (has_table p.version) (lists_of p))
    text p =
        ap (λ (ls : List Line). version_line p.version ∷ limits_line (limits_of p) ∷ count_line (codes "lines") p.verdicts ∷ (flat_map verdict_lines p.verdicts
        ++ (table_lines (has_table p.version) p.table ++ count_line (codes "records") p.rows
        ∷ (flat_map (row_lines_in (shared_from (has_table p.version) (length p.verdicts))) p.rows
        ++ count_line (codes "claims") p.claims ∷ (ls ++ end_line ∷ []))))) (sym (flat-single claim_line p.claims))

-- the lines of a plain proof, and of nothing else
unfoldable pub proof : Production IsPlain proof_lines
proof = as_seen _ _ _ _ proof_view (follow IsVersion (λ v. version_line v ∷ []) (λ v pair. AreLimits pair.0 × AreLists (has_table v) pair.1)
    (λ v pair. limits_line pair.0 ∷ [] ++ lists_text (has_table v) pair.1)
    (line IsVersion version_line version_form) (λ v. behind_version (has_table v)))
