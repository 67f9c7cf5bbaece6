use Rattle.std.proofs.Common.{◌≡◌, ℕ, zero, suc, ◌++◌, Bool, if◌then◌else◌, List, [], ◌∷◌, Option, Some, None, Ok, length, refl, sym, ap, ◌∙◌, subst}
use Rattle.std.proofs.Common.{append_assoc, append-nil}
use Rattle.std.specs.List.{AllByRecursion}
use Rattle.edit_model.specs.declared.value.Value.{Value}
use Rattle.edit_line.specs.Lines.{LineParts}
use Rattle.derivation.specs.declared.step.Step.{Step}
use Rattle.bound_cert.specs.SharedTrees.{leaves_in, shared_leaves, shared_outcome, shared_row, shared_rows, table_with_leaves, table_with_rows}
use Rattle.bound_cert.specs.declared.cert.Leaf.{Leaf}
use Rattle.bound_cert.specs.declared.outcome.GiftFault.{GiftFault}
use Rattle.bound_cert.specs.declared.outcome.Outcome.{Outcome}
use Rattle.bound_cert.specs.declared.outcome.Outcome.TheVariants.{Budget, Change, Contradictory, Overflow}
use Rattle.bound_cert.specs.declared.outcome.RowProof.{RowProof}
use Rattle.bound_cert.proofs.SharedTreeLaws.{tree-grows, tree-shared}
use Rattle.proof_grammar.specs.Limits.{IsOutcome, IsRowProof, clean_leaves}
use Rattle.cert_check.specs.Releases.{AreValidRows, behind, files_of, is_released, next_texts}
use Rattle.cert_check.specs.RowChecks.{IsCertified, IsValidSaid, RowFiles, RowRules, rules_with, tree_of}
use Rattle.cert_check.specs.SharedRows.{AreTableLines, SharedRowsLaw}

-- What is said of records stays right where their trees share lines.

-- ---- where the table grows

module _ (r : RowRules) (lines more : List LineParts) where
  certified-grows : (f : RowFiles) (path : List Bool) (weight : ℕ) (leaves : List Leaf) → IsCertified (rules_with r lines) f path weight leaves
      → IsCertified (rules_with r (lines ++ more)) f path weight leaves
  certified-grows f path weight leaves (fits, valid) = (fits, tree-grows (tree_of r f (Some weight)) lines more leaves valid)

  said-grows : (f : RowFiles) (outcome : Outcome) (gift : Option GiftFault) → IsValidSaid (rules_with r lines) f outcome gift
      → IsValidSaid (rules_with r (lines ++ more)) f outcome gift
  said-grows f (Change path zero cert) None valid = valid
  said-grows f (Change path (suc w) cert) None (certified, released) = (certified-grows f path (suc w) cert.leaves certified, released)
  said-grows f (Change path weight cert) (Some fault) (certified, exists) = (certified-grows f path weight cert.leaves certified, exists)
  said-grows f (Budget path work) gift valid = valid
  said-grows f (Overflow path event) gift valid = valid
  said-grows f (Contradictory cert) gift valid = tree-grows (tree_of r f None) lines more cert.leaves valid

-- ---- a clean record

-- a change that weighs nothing, and was given values, has the one leaf of a clean record
abbrev pub HasCleanLeaf : Outcome → Option GiftFault → Type 0
HasCleanLeaf (Change path zero cert) None = cert.leaves ≡ clean_leaves
HasCleanLeaf outcome gift = Unit {0}

abbrev pub AreCleanLeaves : List RowProof → Type 0
AreCleanLeaves saids = AllByRecursion (λ (said : RowProof). HasCleanLeaf said.outcome said.gift) saids

-- a plain proof says no more of a clean record
plain-leaf : (outcome : Outcome) (gift : Option GiftFault) → IsOutcome outcome gift → HasCleanLeaf outcome gift
plain-leaf (Change path zero cert) None (none, clean) = clean
plain-leaf (Change path zero cert) (Some fault) plain = tt
plain-leaf (Change path (suc w) cert) None plain = tt
plain-leaf (Change path (suc w) cert) (Some fault) plain = tt
plain-leaf (Budget path work) gift plain = tt
plain-leaf (Overflow path event) gift plain = tt
plain-leaf (Contradictory cert) gift plain = tt

pub plain-leaves : (saids : List RowProof) → AllByRecursion IsRowProof saids → AreCleanLeaves saids
plain-leaves [] plain = tt
plain-leaves (said ∷ saids) (first, plain) = (plain-leaf said.outcome said.gift first, plain-leaves saids plain)

-- ---- one record

module _ (r : RowRules) (even : length r.given ≡ length r.usable) (f : RowFiles) (table : List Step) (lines : List LineParts)
    (are : AreTableLines r table lines) where
  -- nothing is put into the table
  as-before : AreTableLines r table (lines ++ [])
  as-before = are ∙ ap (λ (ls : List LineParts). Ok ls) (sym (append-nil lines))

  certified-shared : (path : List Bool) (weight : ℕ) (leaves : List Leaf) → IsCertified r f path weight leaves
      → (more : List LineParts) × AreTableLines r (table_with_leaves table leaves) (lines ++ more)
      × IsCertified (rules_with r (lines ++ more)) f path weight (shared_leaves (length r.given) table leaves)
  certified-shared path weight leaves (fits, valid) =
      let (more, more_are, shared) = tree-shared (tree_of r f (Some weight)) table lines leaves even are valid in
      (more, more_are, (fits, shared))

  said-shared : (outcome : Outcome) (gift : Option GiftFault) → HasCleanLeaf outcome gift → IsValidSaid r f outcome gift
      → (more : List LineParts) × AreTableLines r (table_with_leaves table (leaves_in outcome)) (lines ++ more)
      × IsValidSaid (rules_with r (lines ++ more)) f (shared_outcome (length r.given) table outcome) gift
  said-shared (Change path zero cert) None clean valid =
      ([], subst (λ (leaves : List Leaf). AreTableLines r (table_with_leaves table leaves) (lines ++ [])) (sym clean) as-before, valid)
  said-shared (Change path (suc w) cert) None clean (certified, released) =
      let (more, more_are, shared) = certified-shared path (suc w) cert.leaves certified in (more, more_are, (shared, released))
  said-shared (Change path weight cert) (Some fault) clean (certified, exists) =
      let (more, more_are, shared) = certified-shared path weight cert.leaves certified in (more, more_are, (shared, exists))
  said-shared (Budget path work) gift clean valid = ([], as-before, valid)
  said-shared (Overflow path event) gift clean valid = ([], as-before, valid)
  said-shared (Contradictory cert) gift clean valid = tree-shared (tree_of r f None) table lines cert.leaves even are valid

-- ---- all records

pub released-same : (given : ℕ) (table : List Step) (outcome : Outcome) (gift : Option GiftFault)
    → is_released (shared_row given table (record { outcome = outcome; gift = gift })) ≡ is_released (record { outcome = outcome; gift = gift })
released-same given table (Change path weight cert) gift = refl
released-same given table (Budget path work) gift = refl
released-same given table (Overflow path event) gift = refl
released-same given table (Contradictory cert) gift = refl

next-same : (one other : RowProof) → is_released one ≡ is_released other → (released : List (List (List ℕ))) → next_texts one released
    ≡ next_texts other released
next-same one other same [] = refl
next-same one other same (texts ∷ released) = ap (λ b. if b then Some texts else None) same

behind-same : (one other : RowProof) → is_released one ≡ is_released other → (released : List (List (List ℕ))) → behind one released ≡ behind other released
behind-same one other same [] = refl
behind-same one other same (texts ∷ released) = ap (λ b. if b then released else texts ∷ released) same

-- what is said of all records stays right
pub all-shared : (r : RowRules) (table : List Step) (lines : List LineParts) (saids : List RowProof) (row_texts : List (List (List ℕ)))
    (rows : List (List Value)) (released : List (List (List ℕ)))
    → length r.given ≡ length r.usable → AreTableLines r table lines → AreCleanLeaves saids → AreValidRows r saids row_texts rows released
    → (more : List LineParts) × AreTableLines r (table_with_rows table saids) (lines ++ more)
    × AreValidRows (rules_with r (lines ++ more)) (shared_rows (length r.given) table saids) row_texts rows released
all-shared r table lines [] [] [] released even are clean valid = ([], are ∙ ap (λ (ls : List LineParts). Ok ls) (sym (append-nil lines)), tt)
all-shared r table lines (said ∷ saids) (reads ∷ row_texts) (row ∷ rows) released even are (first_clean, clean) (first, valid) =
    let same = released-same (length r.given) table said.outcome said.gift in
    let (more, more_are, shared) = said-shared r even (files_of said reads row released) table lines are said.outcome said.gift first_clean first in
    let (rest, rest_are, later) = all-shared r (table_with_leaves table (leaves_in said.outcome)) (lines ++ more) saids row_texts rows (behind said released)
    even more_are clean valid in
    let joined : (lines ++ more) ++ rest ≡ lines ++ (more ++ rest) = rw append_assoc refl in
    let one = shared_row (length r.given) table said in
    let grown = said-grows r (lines ++ more) rest (files_of said reads row released) one.outcome one.gift shared in
    let texts : next_texts said released ≡ next_texts one released = sym (next-same one said same released) in
    let others : behind said released ≡ behind one released = sym (behind-same one said same released) in (
      more ++ rest,
      subst (λ (ls : List LineParts). AreTableLines r (table_with_rows table (said ∷ saids)) ls) joined rest_are,
      subst (λ (ls : List LineParts). AreValidRows (rules_with r ls) (shared_rows (length r.given) table (said ∷ saids)) (reads ∷ row_texts) (row ∷ rows)
          released) joined (
            subst (λ (t : Option (List (List ℕ))). IsValidSaid (rules_with r ((lines ++ more) ++ rest))
                (record { reads = reads; row = row; texts = t }) one.outcome one.gift) texts grown,
            subst (λ (ts : List (List (List ℕ))). AreValidRows (rules_with r ((lines ++ more) ++ rest))
                (shared_rows (length r.given) (table_with_leaves table (leaves_in said.outcome)) saids) row_texts rows ts) others later,
          ),
    )
all-shared r table lines [] [] (row ∷ rows) released even are clean valid = absurd valid
all-shared r table lines [] (reads ∷ row_texts) rows released even are clean valid = absurd valid
all-shared r table lines (said ∷ saids) [] rows released even are clean valid = absurd valid
all-shared r table lines (said ∷ saids) (reads ∷ row_texts) [] released even are clean valid = absurd valid

pub rows-shared : SharedRowsLaw
rows-shared r table lines saids row_texts rows released even are plain valid = all-shared r table lines saids row_texts rows released even are
    (plain-leaves saids plain) valid
