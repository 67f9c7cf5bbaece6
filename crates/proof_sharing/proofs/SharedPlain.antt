use Rattle.std.proofs.Common.{◌≡◌, ℕ, zero, suc, ◌+◌, ◌<◌, ◌≤◌, ◌^◌, inr, not, Bool, true, false, if◌then◌else◌, List, [], ◌∷◌, ◌++◌, Option, Some, None}
use Rattle.std.proofs.Common.{IfSome, pos, ◌≤ℤ◌, length, length-append, map, slice_index_or, refl, sym, ap, subst, arith}
use Rattle.std.specs.List.{AllByRecursion, list_any}
use Rattle.std.proofs.lemmas.List.Sums.{prefix_len-le-length}
use Rattle.fraction128.specs.Range.{InRange}
use Rattle.derivation.specs.SharedLines.{Tabled, and_kept, as_tabled, is_failed, is_same, kept_from, kept_step, last_of, place_in, tabled, tabled_from}
use Rattle.derivation.specs.SharedLines.{tabled_of, with_step, with_tabled}
use Rattle.derivation.specs.declared.step.Step.{Step}
use Rattle.derivation.specs.declared.step.Step.TheVariants as step
use Rattle.bound_cert.specs.SharedTrees.{leaves_in, shared_leaf, shared_leaves, shared_outcome, shared_rows, table_with_leaf, table_with_leaves}
use Rattle.bound_cert.specs.SharedTrees.{table_with_rows}
use Rattle.bound_cert.specs.ValidTrees.{steps_in}
use Rattle.bound_cert.specs.declared.cert.Leaf.{Leaf}
use Rattle.bound_cert.specs.declared.cert.LeafWhy.{LeafWhy}
use Rattle.bound_cert.specs.declared.cert.LeafWhy.TheVariants as why
use Rattle.bound_cert.specs.declared.outcome.GiftFault.{GiftFault}
use Rattle.bound_cert.specs.declared.outcome.Outcome.{Outcome}
use Rattle.bound_cert.specs.declared.outcome.Outcome.TheVariants as outcome
use Rattle.bound_cert.specs.declared.outcome.RowProof.{RowProof}
use Rattle.proof_grammar.specs.Limits.{AreFit, IsLeaf, IsLong, IsOutcome, IsRowProof, IsStep, IsTableStep}
use Rattle.proof_sharing.specs.SharedProofs.{PlainSharingLaw}

-- A proof whose lines are shared is plain where the proof is, and 64 bits count its lines.

-- ---- steps whose parts are at most a number

abbrev pub IsStepUpTo : ℕ → Step → Type 0
IsStepUpTo most (step.Given i) = IsLong i
IsStepUpTo most (step.Combine a m b n g) = (a ≤ most) × InRange m × (b ≤ most) × InRange n × InRange g × (pos 0 ≤ℤ g)
IsStepUpTo most (step.Fail a) = ⊥
IsStepUpTo most (step.Cover field parts) = ⊥
IsStepUpTo most (step.Fix field part) = ⊥

one-more : (few most : ℕ) → few ≤ most → (s : Step) → IsStepUpTo few s → IsStepUpTo most s
one-more few most up (step.Given i) is = is
one-more few most up (step.Combine a m b n g) (a_fits, m_fits, b_fits, n_fits, g_fits, above) = (omega arith, m_fits, omega arith, n_fits, g_fits, above)
one-more few most up (step.Fail a) is = absurd is
one-more few most up (step.Cover field parts) is = absurd is
one-more few most up (step.Fix field part) is = absurd is

all-more : {X : Type 0} (P Q : X → Type 0) → ((x : X) → P x → Q x) → (xs : List X) → AllByRecursion P xs → AllByRecursion Q xs
all-more P Q goes [] all = tt
all-more P Q goes (x ∷ xs) (first, all) = (goes x first, all-more P Q goes xs all)

all-end : {X : Type 0} (P : X → Type 0) (xs : List X) (x : X) → AllByRecursion P xs → P x → AllByRecursion P (xs ++ x ∷ [])
all-end P [] x all is = (is, tt)
all-end P (y ∷ xs) x (first, all) is = (first, all-end P xs x all is)

at-most : (most : ℕ) (numbers : List ℕ) (i : ℕ) → AllByRecursion (λ k. k ≤ most) numbers → slice_index_or numbers i 0 ≤ most
at-most most [] i all = omega arith
at-most most (n ∷ numbers) zero (first, all) = first
at-most most (n ∷ numbers) (suc i) (first, all) = at-most most numbers i all

last-most : (most : ℕ) (numbers : List ℕ) → AllByRecursion (λ k. k ≤ most) numbers → last_of numbers ≤ most
last-most most [] all = omega arith
last-most most (n ∷ []) (first, all) = first
last-most most (n ∷ next ∷ later) (first, all) = last-most most (next ∷ later) all

-- ---- the table

abbrev pub IsGood : List Step → Type 0
IsGood table = AllByRecursion (IsStepUpTo (length table)) table

put-good : (table : List Step) (one : Step) → IsGood table → IsStepUpTo (length table) one → IsGood (with_step table one)
    × (length table ≤ length (with_step table one)) × (place_in table one ≤ length (with_step table one))
put-good table one good is = by (list_any (is_same one) table)
  where
    place : place_in table one ≤ length table
    place = prefix_len-le-length (λ x. not (is_same one x)) table

    by : (b : Bool) → IsGood (if b then table else table ++ one ∷ []) × (length table ≤ length (if b then table else table ++ one ∷ []))
        × (place_in table one ≤ length (if b then table else table ++ one ∷ []))
    by true = (good, omega arith, place)
    by false =
        let longer : length (table ++ one ∷ []) ≡ length table + 1 = length-append table (one ∷ []) in
        let up : length table ≤ length (table ++ one ∷ []) = omega (arith, longer) in (
          all-end (IsStepUpTo (length (table ++ one ∷ []))) table one (all-more (IsStepUpTo (length table)) (IsStepUpTo (length (table ++ one ∷ [])))
              (one-more (length table) (length (table ++ one ∷ [])) up) table good) (one-more (length table) (length (table ++ one ∷ [])) up one is),
          up,
          omega (arith, place, up),
        )

pub record AreGood (t : Tabled) : Type 0 where
  pub table : IsGood t.table
  pub places : AllByRecursion (λ k. k ≤ length t.table) t.places

with-good : (t : Tabled) (one : Step) → AreGood t → IsStepUpTo (length t.table) one → AreGood (with_tabled t (Some one))
    × (length t.table ≤ length (with_tabled t (Some one)).table)
with-good t one good is =
    let (table, up, place) = put-good t.table one good.table is in (
      record {
        table = table;
        places = all-end (λ k. k ≤ length (with_step t.table one)) t.places (place_in t.table one)
            (all-more (λ k. k ≤ length t.table) (λ k. k ≤ length (with_step t.table one)) (λ k small. omega (arith, small, up)) t.places good.places) place;
      },
      up,
    )

none-good : (t : Tabled) → AreGood t → AreGood (with_tabled t None) × (length t.table ≤ length t.table)
none-good t good = (record { table = good.table; places = all-end (λ k. k ≤ length t.table) t.places 0 good.places (omega arith) }, omega arith)

step-good : (t : Tabled) (one : Step) → AreGood t → IsStep one → AreGood (with_tabled t (as_tabled t.places one))
    × (length t.table ≤ length (with_tabled t (as_tabled t.places one)).table)
step-good t (step.Given i) good fits = with-good t (step.Given i) good fits
step-good t (step.Combine a m b n g) good (a_fits, m_fits, b_fits, n_fits, g_fits, above) =
    with-good t (step.Combine (slice_index_or t.places a 0) m (slice_index_or t.places b 0) n g) good
    (at-most (length t.table) t.places a good.places, m_fits, at-most (length t.table) t.places b good.places, n_fits, g_fits, above)
step-good t (step.Fail a) good fits = none-good t good
step-good t (step.Cover field parts) good fits = none-good t good
step-good t (step.Fix field part) good fits = none-good t good

steps-good : (t : Tabled) (steps : List Step) → AreGood t → AllByRecursion IsStep steps → AreGood (tabled_from t steps)
    × (length t.table ≤ length (tabled_from t steps).table)
steps-good t [] good all = (good, omega arith)
steps-good t (one ∷ steps) good (first, all) =
    let (next, up) = step-good t one good first in
    let (last, later) = steps-good (with_tabled t (as_tabled t.places one)) steps next all in
    (last, omega (arith, up, later))

tabled-good : (table : List Step) (steps : List Step) → IsGood table → AllByRecursion IsStep steps → AreGood (tabled table steps)
    × (length table ≤ length (tabled table steps).table)
tabled-good table steps good all = steps-good (tabled_of table []) steps (record { table = good; places = tt }) all

-- ---- the leaves

one-kept : (new : List ℕ) (kept : List Step) (o : Option Step) → AllByRecursion IsStep kept → AllByRecursion (λ k. k ≤ length kept) new → IfSome o IsStep
    → AllByRecursion IsStep (and_kept kept o) × AllByRecursion (λ k. k ≤ length (and_kept kept o)) (new ++ length kept ∷ [])
    × (length (and_kept kept o) ≤ length kept + 1)
one-kept new kept None done news is = (done, all-end (λ k. k ≤ length kept) new (length kept) news (omega arith), omega arith)
one-kept new kept (Some one) done news is =
    let longer : length (kept ++ one ∷ []) ≡ length kept + 1 = length-append kept (one ∷ []) in (
      all-end IsStep kept one done is,
      all-end (λ k. k ≤ length (kept ++ one ∷ [])) new (length kept) (all-more (λ k. k ≤ length kept) (λ k. k ≤ length (kept ++ one ∷ []))
          (λ k small. omega (arith, small, longer)) new news) (omega (arith, longer)),
      omega (arith, longer),
    )

parts-long : (most : ℕ) (new parts : List ℕ) → most < 2 ^ 64 → AllByRecursion (λ k. k ≤ most) new
    → AllByRecursion IsLong (map (λ part. slice_index_or new part 0) parts)
parts-long most new [] fits news = tt
parts-long most new (part ∷ parts) fits news = (omega (arith, fits, at-most most new part news), parts-long most new parts fits news)

one-plain : (given place most : ℕ) (b : Bool) (new : List ℕ) (s : Step) → given + place < 2 ^ 64 → most < 2 ^ 64 → AllByRecursion (λ k. k ≤ most) new → IsStep s
    → IfSome (kept_step given b place new s) IsStep
one-plain given place most true new (step.Given i) long fits news is = long
one-plain given place most false new (step.Given i) long fits news is = tt
one-plain given place most true new (step.Combine a m b n g) long fits news is = long
one-plain given place most false new (step.Combine a m b n g) long fits news is = tt
one-plain given place most b new (step.Fail a) long fits news is = omega (arith, fits, at-most most new a news)
one-plain given place most b new (step.Cover field parts) long fits news is = (is.0, parts-long most new parts fits news)
one-plain given place most b new (step.Fix field part) long fits news is = (is.0, omega (arith, fits, at-most most new part news))

kept-plain : (given : ℕ) (failed : ℕ → Bool) (places : List ℕ) (most : ℕ) → AllByRecursion (λ k. k ≤ most) places → given + most < 2 ^ 64
    → (new : List ℕ) (kept steps : List Step) → AllByRecursion IsStep kept → AllByRecursion (λ k. k ≤ length kept) new → AllByRecursion IsStep steps
    → length kept + length steps < 2 ^ 64 → AreFit IsStep (kept_from given failed places new kept steps)
kept-plain given failed places most small long new kept [] done news all fits = (omega (arith, fits), done)
kept-plain given failed places most small long new kept (one ∷ steps) done news (first, all) fits =
    let place = slice_index_or places (length new) 0 in
    let there : given + place < 2 ^ 64 = omega (arith, long, at-most most places (length new) small) in
    let few : length kept < 2 ^ 64 = omega (arith, fits) in
    let o = kept_step given (failed (length new)) place new one in
    let (more, next, count) = one-kept new kept o done news (one-plain given place (length kept) (failed (length new)) new one there few news first) in
    kept-plain given failed places most small long (new ++ length kept ∷ []) (and_kept kept o) steps more next all (omega (arith, fits, count))

leaf-good : (table : List Step) (leaf : Leaf) → IsGood table → IsLeaf leaf → AreGood (tabled table (steps_in leaf.why))
    × (length table ≤ length (table_with_leaf table leaf))
leaf-good table leaf good fits = tabled-good table (steps_in leaf.why) good (by leaf.why fits)
  where
    by : (reason : LeafWhy) → IsLeaf (record { path = leaf.path; why = reason }) → AllByRecursion IsStep (steps_in reason)
    by why.Bound fits = tt
    by why.BadKept fits = tt
    by (why.Line steps) fits = fits.1
    by (why.Box steps) fits = fits.1

leaves-good : (table : List Step) (leaves : List Leaf) → IsGood table → AllByRecursion IsLeaf leaves → IsGood (table_with_leaves table leaves)
    × (length table ≤ length (table_with_leaves table leaves))
leaves-good table [] good all = (good, omega arith)
leaves-good table (leaf ∷ leaves) good (first, all) =
    let (next, up) = leaf-good table leaf good first in
    let (last, later) = leaves-good (table_with_leaf table leaf) leaves next.table all in
    (last, omega (arith, up, later))

module _ (given : ℕ) where
  leaf-plain : (table : List Step) (path : List Bool) (reason : LeafWhy) → IsGood table → IsLeaf (record { path = path; why = reason })
      → given + length (table_with_leaf table (record { path = path; why = reason })) < 2 ^ 64
      → IsLeaf (shared_leaf given table (record { path = path; why = reason }))
  leaf-plain table path why.Bound good fits long = tt
  leaf-plain table path why.BadKept good fits long = tt
  leaf-plain table path (why.Line steps) good fits long =
      let (next, up) = tabled-good table steps good fits.1 in
      (omega arith, (omega (arith, long, last-most (length (tabled table steps).table) (tabled table steps).places next.places), tt))
  leaf-plain table path (why.Box steps) good fits long =
      let (next, up) = tabled-good table steps good fits.1 in
      kept-plain given (is_failed steps) (tabled table steps).places (length (tabled table steps).table) next.places long [] [] steps tt tt fits.1
      (omega (arith, fits.0))

  leaves-plain : (table : List Step) (leaves : List Leaf) → IsGood table → AllByRecursion IsLeaf leaves
      → given + length (table_with_leaves table leaves) < 2 ^ 64 → AllByRecursion IsLeaf (shared_leaves given table leaves)
  leaves-plain table [] good all long = tt
  leaves-plain table (leaf ∷ leaves) good (first, all) long =
      let (next, up) = leaf-good table leaf good first in
      let (last, later) = leaves-good (table_with_leaf table leaf) leaves next.table all in
      (leaf-plain table leaf.path leaf.why good first (omega (arith, long, later)), leaves-plain (table_with_leaf table leaf) leaves next.table all long)

  length-leaves : (table : List Step) (leaves : List Leaf) → length (shared_leaves given table leaves) ≡ length leaves
  length-leaves table [] = refl
  length-leaves table (leaf ∷ leaves) = omega (arith, length-leaves (table_with_leaf table leaf) leaves)

  fit-plain : (table : List Step) (leaves : List Leaf) → IsGood table → AreFit IsLeaf leaves → given + length (table_with_leaves table leaves) < 2 ^ 64
      → AreFit IsLeaf (shared_leaves given table leaves)
  fit-plain table leaves good (count, all) long = (omega (arith, count, length-leaves table leaves), leaves-plain table leaves good all long)

  -- ---- the rows

  outcome-good : (table : List Step) (o : Outcome) (gift : Option GiftFault) → IsGood table → IsOutcome o gift → IsGood (table_with_leaves table (leaves_in o))
      × (length table ≤ length (table_with_leaves table (leaves_in o)))
  outcome-good table (outcome.Change path zero cert) None good (none, clean) = subst (λ (ls : List Leaf). IsGood (table_with_leaves table ls)
      × (length table ≤ length (table_with_leaves table ls))) (sym clean) (good, omega arith)
  outcome-good table (outcome.Change path (suc w) cert) None good fits = leaves-good table cert.leaves good fits.1.1
  outcome-good table (outcome.Change path weight cert) (Some fault) good fits = leaves-good table cert.leaves good fits.2.1
  outcome-good table (outcome.Budget path work) None good fits = (good, omega arith)
  outcome-good table (outcome.Budget path work) (Some fault) good fits = absurd fits
  outcome-good table (outcome.Overflow path event) None good fits = (good, omega arith)
  outcome-good table (outcome.Overflow path event) (Some fault) good fits = absurd fits
  outcome-good table (outcome.Contradictory cert) None good fits = leaves-good table cert.leaves good fits.1
  outcome-good table (outcome.Contradictory cert) (Some fault) good fits = absurd fits

  outcome-plain : (table : List Step) (o : Outcome) (gift : Option GiftFault) → IsGood table → IsOutcome o gift
      → given + length (table_with_leaves table (leaves_in o)) < 2 ^ 64 → IsOutcome (shared_outcome given table o) gift
  outcome-plain table (outcome.Change path zero cert) None good (none, clean) long = (none, ap (λ (ls : List Leaf). shared_leaves given table ls) clean)
  outcome-plain table (outcome.Change path (suc w) cert) None good fits long = (fits.0, fit-plain table cert.leaves good fits.1 long)
  outcome-plain table (outcome.Change path weight cert) (Some fault) good fits long = (fits.0, fits.1, fit-plain table cert.leaves good fits.2 long)
  outcome-plain table (outcome.Budget path work) None good fits long = fits
  outcome-plain table (outcome.Budget path work) (Some fault) good fits long = absurd fits
  outcome-plain table (outcome.Overflow path event) None good fits long = fits
  outcome-plain table (outcome.Overflow path event) (Some fault) good fits long = absurd fits
  outcome-plain table (outcome.Contradictory cert) None good fits long = fit-plain table cert.leaves good fits long
  outcome-plain table (outcome.Contradictory cert) (Some fault) good fits long = absurd fits

  rows-good : (table : List Step) (rows : List RowProof) → IsGood table → AllByRecursion IsRowProof rows → IsGood (table_with_rows table rows)
      × (length table ≤ length (table_with_rows table rows))
  rows-good table [] good all = (good, omega arith)
  rows-good table (row ∷ rows) good (first, all) =
      let (next, up) = outcome-good table row.outcome row.gift good first in
      let (last, later) = rows-good (table_with_leaves table (leaves_in row.outcome)) rows next all in
      (last, omega (arith, up, later))

  rows-plain : (table : List Step) (rows : List RowProof) → IsGood table → AllByRecursion IsRowProof rows → given + length (table_with_rows table rows) < 2 ^ 64
      → AllByRecursion IsRowProof (shared_rows given table rows)
  rows-plain table [] good all long = tt
  rows-plain table (row ∷ rows) good (first, all) long =
      let (next, up) = outcome-good table row.outcome row.gift good first in
      let (last, later) = rows-good (table_with_leaves table (leaves_in row.outcome)) rows next all in (
        outcome-plain table row.outcome row.gift good first (omega (arith, long, later)),
        rows-plain (table_with_leaves table (leaves_in row.outcome)) rows next
            all long,
      )

  length-rows : (table : List Step) (rows : List RowProof) → length (shared_rows given table rows) ≡ length rows
  length-rows table [] = refl
  length-rows table (row ∷ rows) = omega (arith, length-rows (table_with_leaves table (leaves_in row.outcome)) rows)

-- a step of a good table is one of a plain proof
table-plain : (most : ℕ) → most < 2 ^ 64 → (s : Step) → IsStepUpTo most s → IsTableStep s
table-plain most fits (step.Given i) is = is
table-plain most fits (step.Combine a m b n g) (a_fits, m_fits, b_fits, n_fits, g_fits, above) = (omega arith, m_fits, omega arith, n_fits, g_fits, above)
table-plain most fits (step.Fail a) is = absurd is
table-plain most fits (step.Cover field parts) is = absurd is
table-plain most fits (step.Fix field part) is = absurd is

pub plain-shared : PlainSharingLaw
plain-shared p plain long =
    let given = length p.verdicts in
    let table = table_with_rows [] p.rows in
    let (good, up) = rows-good given [] p.rows tt plain.rows.1 in
    let count : length table < 2 ^ 64 = omega (arith, long) in
    record {
      version = inr refl;
      limit = plain.limit;
      near = plain.near;
      budget = plain.budget;
      verdicts = plain.verdicts;
      table = (count, all-more (IsStepUpTo (length table)) IsTableStep (table-plain (length table) count) table good);
      rows = (omega (arith, plain.rows.0, length-rows given [] p.rows), rows-plain given [] p.rows tt plain.rows.1 long);
      claims = plain.claims;
    }
