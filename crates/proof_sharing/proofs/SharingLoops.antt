use Rattle.std.proofs.Common.{◌≡◌, ℕ, zero, suc, ◌+◌, ◌<◌, Bool, List, [], ◌∷◌, ◌++◌, Some, drop, get_or, length, slice_get, slice_index_or, sym, ap, ◌∙◌}
use Rattle.std.proofs.Common.{add-one, append_assoc, arith}
use Rattle.std.proofs.Math.Seq.{drop-cons}
use Rattle.derivation.specs.SharedLines.{Tabled, and_kept, as_tabled, kept_from, kept_step, last_of, tabled_from, with_tabled}
use Rattle.derivation.specs.declared.step.Step.{Step}
use Rattle.bound_cert.specs.SharedTrees.{leaves_in, shared_leaf, shared_leaves, shared_row, shared_rows, table_with_leaf, table_with_leaves, table_with_rows}
use Rattle.bound_cert.specs.declared.cert.Leaf.{Leaf}
use Rattle.bound_cert.specs.declared.outcome.RowProof.{RowProof}

-- The loops over steps, leaves and rows.

-- the last of numbers
pub last-is : (numbers : List ℕ) (i n : ℕ) → suc i ≡ length numbers → slice_get numbers i ≡ Some n → n ≡ last_of numbers
last-is [] i n same e = absurd (cc)
last-is (m ∷ []) zero n same e = cc
last-is (m ∷ []) (suc i) n same e = absurd (cc)
last-is (m ∷ k ∷ numbers) zero n same e = absurd (omega arith)
last-is (m ∷ k ∷ numbers) (suc i) n same e = last-is (k ∷ numbers) i n (omega arith) e

-- a step more is put into the table
pub tabled-more : (t next : Tabled) (steps : List Step) (i : ℕ) (one : Step) (whole : Tabled) → i < length steps → one ≡ get_or steps i one → next
    ≡ with_tabled t (as_tabled t.places one)
    → tabled_from t (drop i steps) ≡ whole → tabled_from next (drop (i + 1) steps) ≡ whole
tabled-more t next steps i one whole below is made before =
    rw add-one (ap (λ (s : Tabled). tabled_from s (drop (suc i) steps)) (made ∙ ap (λ (s : Step). with_tabled t (as_tabled t.places s)) is)
    ∙ sym (ap (λ (ss : List Step). tabled_from t ss) (drop-cons steps i one below)) ∙ before)

-- a step more is looked at
pub kept-more : (given : ℕ) (failed : ℕ → Bool) (places new : List ℕ) (kept : List Step) (steps : List Step) (i : ℕ) (one : Step) (whole : List Step)
    → i < length steps → one ≡ get_or steps i one
    → kept_from given failed places new kept (drop i steps) ≡ whole
    → kept_from given failed places (new ++ length kept ∷ [])
    (and_kept kept (kept_step given (failed (length new)) (slice_index_or places (length new) 0) new one)) (drop (i + 1) steps) ≡ whole
kept-more given failed places new kept steps i one whole below is before =
    rw add-one (ap (λ (s : Step). kept_from given failed places (new ++ length kept ∷ [])
    (and_kept kept (kept_step given (failed (length new)) (slice_index_or places (length new) 0) new s)) (drop (suc i) steps)) is
    ∙ sym (ap (λ (ss : List Step). kept_from given failed places new kept ss) (drop-cons steps i one below)) ∙ before)

-- a leaf more is shared
module _ (given : ℕ) (table next : List Step) (leaves : List Leaf) (i : ℕ) (leaf : Leaf) (below : i < length leaves) (is : leaf ≡ get_or leaves i leaf)
    (then : next ≡ table_with_leaf table leaf) where
  pub leaves-more : (done more whole : List Leaf) → more ≡ done ++ shared_leaf given table leaf ∷ [] → done ++ shared_leaves given table (drop i leaves) ≡ whole
      → more ++ shared_leaves given next (drop (i + 1) leaves) ≡ whole
  leaves-more done more whole made before =
      rw add-one (ap (λ (ls : List Leaf). ls ++ shared_leaves given next (drop (suc i) leaves)) made
      ∙ append_assoc done (shared_leaf given table leaf ∷ []) (shared_leaves given next (drop (suc i) leaves))
      ∙ ap (λ (t : List Step). done ++ shared_leaf given table leaf ∷ shared_leaves given t (drop (suc i) leaves)) then
      ∙ ap (λ (l : Leaf). done ++ shared_leaves given table (l ∷ drop (suc i) leaves)) is
      ∙ sym (ap (λ (ls : List Leaf). done ++ shared_leaves given table ls) (drop-cons leaves i leaf below)) ∙ before)

  pub table-more : (whole : List Step) → table_with_leaves table (drop i leaves) ≡ whole → table_with_leaves next (drop (i + 1) leaves) ≡ whole
  table-more whole before =
      rw add-one (ap (λ (t : List Step). table_with_leaves t (drop (suc i) leaves)) then
      ∙ ap (λ (l : Leaf). table_with_leaves table (l ∷ drop (suc i) leaves)) is
      ∙ sym (ap (λ (ls : List Leaf). table_with_leaves table ls) (drop-cons leaves i leaf below)) ∙ before)

-- a row more is shared
module _ (given : ℕ) (table next : List Step) (rows : List RowProof) (i : ℕ) (row : RowProof) (below : i < length rows) (is : row ≡ get_or rows i row)
    (then : next ≡ table_with_leaves table (leaves_in row.outcome)) where
  pub rows-more : (done more whole : List RowProof) → more ≡ done ++ shared_row given table row ∷ [] → done ++ shared_rows given table (drop i rows) ≡ whole
      → more ++ shared_rows given next (drop (i + 1) rows) ≡ whole
  rows-more done more whole made before =
      rw add-one (ap (λ (rs : List RowProof). rs ++ shared_rows given next (drop (suc i) rows)) made
      ∙ append_assoc done (shared_row given table row ∷ []) (shared_rows given next (drop (suc i) rows))
      ∙ ap (λ (t : List Step). done ++ shared_row given table row ∷ shared_rows given t (drop (suc i) rows)) then
      ∙ ap (λ (r : RowProof). done ++ shared_rows given table (r ∷ drop (suc i) rows)) is
      ∙ sym (ap (λ (rs : List RowProof). done ++ shared_rows given table rs) (drop-cons rows i row below)) ∙ before)

  pub rows-table-more : (whole : List Step) → table_with_rows table (drop i rows) ≡ whole → table_with_rows next (drop (i + 1) rows) ≡ whole
  rows-table-more whole before =
      rw add-one (ap (λ (t : List Step). table_with_rows t (drop (suc i) rows)) then
      ∙ ap (λ (r : RowProof). table_with_rows table (r ∷ drop (suc i) rows)) is
      ∙ sym (ap (λ (rs : List RowProof). table_with_rows table rs) (drop-cons rows i row below)) ∙ before)
