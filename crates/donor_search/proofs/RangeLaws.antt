use Rattle.std.proofs.Common.{◌≡◌, ◌∙◌, ◌⊎◌, inl, inr, ℕ, suc, ◌+◌, ◌-◌, ◌*◌, ◌<◌, ◌≤◌, List, [], ◌∷◌, drop, get_or, length, take, max, min, ap, sym, subst}
use Rattle.std.proofs.Common.{arith}
use Rattle.std.specs.Int.{abs_diff}
use Rattle.std.specs.List.{flat_map}
use Rattle.std.proofs.lemmas.Bool.{cases_lt}
use Rattle.std.proofs.lemmas.List.{get_or-drop, get_or-take, length-drop, length-take}
use Rattle.donor_search.specs.Decks.{AreWithin, IsWithin, block_size, mark_at, range_at, slot_at}
use Rattle.donor_search.specs.declared.profile.Weighed.{Weighed}
use Rattle.donor_search.specs.declared.ranges.MarkRange.{MarkRange}
use Rattle.donor_search.specs.declared.slot.Slot.{Slot}
use Rattle.donor_search.specs.inner.Profiles.{told, told_by, told_by_range, told_by_ranges}
use Rattle.donor_search.proofs.TableLaws.{row_within, table_at, table_long}

-- Ranges of marks, and what they tell of each donor of a block.

-- ---- what ranges tell

range_tells : (own : Weighed) (range : MarkRange) (mark : ℕ) → IsWithin range mark → told_by_range own range ≤ told_by own mark
range_tells own range mark is = times own.weight _ _ (fewer range.low range.high own.mark mark is.0 is.1)
  where
    times : (w m n : ℕ) → m ≤ n → w * m ≤ w * n
    times w m n le = grind (arith, le)

    fewer : (l h o m : ℕ) → l ≤ m → m ≤ h → min 1000 (max (l - o) (o - h) - 1) ≤ min 1000 (abs_diff o m - 1)
    fewer l h o m low high = omega (arith, low, high)

-- no more than the marks within them
pub ranges_tell : (owns : List Weighed) (ranges : List MarkRange) (marks : List ℕ) → AreWithin ranges marks → told_by_ranges owns ranges ≤ told owns marks
ranges_tell [] ranges marks are = omega arith
ranges_tell (own ∷ owns) [] marks are = omega arith
ranges_tell (own ∷ owns) (range ∷ ranges) [] are = absurd are
ranges_tell (own ∷ owns) (range ∷ ranges) (mark ∷ marks) are =
    let here = range_tells own range mark are.0 in
    let rest = ranges_tell owns ranges marks are.1 in
    omega (arith, here, rest)

-- ---- the ranges of a block

within_each : (ranges : List MarkRange) (marks : List ℕ) → length ranges ≡ length marks
    → ((f : ℕ) → f < length marks → IsWithin (range_at ranges f) (get_or marks f 0)) → AreWithin ranges marks
within_each [] marks same each = tt
within_each (range ∷ ranges) [] same each = absurd (omega (arith, same))
within_each (range ∷ ranges) (mark ∷ marks) same each =
    (each 0 (omega arith), within_each ranges marks (omega (arith, same)) (λ f below. each (suc f) (omega (arith, below))))

pub block_within : (count : ℕ) (ranges : List MarkRange) (marks : List ℕ) (start at : ℕ) → start + count ≤ length ranges → at + count ≤ length marks
    → ((f : ℕ) → f < count → IsWithin (range_at ranges (start + f)) (get_or marks (at + f) 0))
    → AreWithin (take count (drop start ranges)) (take count (drop at marks))
block_within count ranges marks start at ranges_end marks_end each = within_each (take count (drop start ranges)) (take count (drop at marks)) same at_field
  where
    none : MarkRange
    none = record { low = 0; high = 0 }

    ranges_long : length (take count (drop start ranges)) ≡ count
    ranges_long = let t = length-take count (drop start ranges) in let d = length-drop start ranges in omega (arith, t, d, ranges_end)

    marks_long : length (take count (drop at marks)) ≡ count
    marks_long = let t = length-take count (drop at marks) in let d = length-drop at marks in omega (arith, t, d, marks_end)

    same : length (take count (drop start ranges)) ≡ length (take count (drop at marks))
    same = ranges_long ∙ sym marks_long

    at_field : (f : ℕ) → f < length (take count (drop at marks))
        → IsWithin (range_at (take count (drop start ranges)) f) (get_or (take count (drop at marks)) f 0)
    at_field f below =
        let less : f < count = omega (arith, below, marks_long) in
        let r : range_at (take count (drop start ranges)) f ≡ range_at ranges (start + f) = get_or-take count (drop start ranges) f none less
        ∙ get_or-drop start ranges f none in
        let m : get_or (take count (drop at marks)) f 0 ≡ get_or marks (at + f) 0 = get_or-take count (drop at marks) f 0 less ∙ get_or-drop at marks f 0 in
        subst (λ (x : MarkRange). IsWithin x (get_or (take count (drop at marks)) f 0)) (sym r)
        (subst (λ n. IsWithin (range_at ranges (start + f)) n) (sym m) (each f less))

pub part_long : (count start : ℕ) (ranges : List MarkRange) → start + count ≤ length ranges → length (take count (drop start ranges)) ≡ count
part_long count start ranges within = let t = length-take count (drop start ranges) in let d = length-drop start ranges in omega (arith, t, d, within)

-- ---- ranges are made

-- one block more
pub blocks_step : (mark : ℕ → ℕ → ℕ → ℕ) (count block : ℕ) (olds news : List MarkRange) → length olds ≡ block * count
    → ((i : ℕ) → i < length olds → range_at news i ≡ range_at olds i)
    → ((b j f : ℕ) → b < block → j < block_size → f < count → IsWithin (range_at olds (b * count + f)) (mark b j f))
    → ((j f : ℕ) → j < block_size → f < count → IsWithin (range_at news (length olds + f)) (mark block j f))
    → (b j f : ℕ) → b < block + 1 → j < block_size → f < count → IsWithin (range_at news (b * count + f)) (mark b j f)
blocks_step mark count block olds news long kept each here b j f below less field = by (cases_lt b block)
  where
    by : (b < block) ⊎ (block ≤ b) → IsWithin (range_at news (b * count + f)) (mark b j f)
    by (inl under) =
        let m = row_within b block count under in
        subst (λ (r : MarkRange). IsWithin r (mark b j f)) (sym (kept (b * count + f) (omega (arith, m, long, field)))) (each b j f under less field)
    by (inr more) =
        subst (λ k. IsWithin (range_at news (k * count + f)) (mark k j f)) (same more)
        (subst (λ n. IsWithin (range_at news (n + f)) (mark block j f)) long (here j f less field))
      where
        same : block ≤ b → block ≡ b
        same more = omega (arith, below, more)

-- ---- the ranges of a deck

module _ (marks_at : Slot → List ℕ) (m count : ℕ) (slots there : List Slot) (marks lent : List ℕ) (ranges : List MarkRange) (count_is : count ≡ m)
    (there_is : there ≡ slots) (lent_is : lent ≡ marks)
    (size : (block : ℕ) → block * block_size + block_size ≤ length there → block * count + count ≤ length ranges) where
  pub blocks_long : (block : ℕ) → block * block_size + block_size ≤ length slots → block * m + m ≤ length ranges
  blocks_long block whole = subst (λ n. block * n + n ≤ length ranges) count_is
      (size block (subst (λ (ss : List Slot). block * block_size + block_size ≤ length ss) (sym there_is) whole))

  pub blocks_within : ((x : Slot) → length (marks_at x) ≡ m) → marks ≡ flat_map marks_at slots
      → ((block j field : ℕ) → block * block_size + block_size ≤ length there → j < block_size → field < count
      → IsWithin (range_at ranges (block * count + field)) (mark_at lent count (block * block_size + j) field))
      → (block j : ℕ) → block * block_size + block_size ≤ length slots → j < block_size
      → AreWithin (take m (drop (block * m) ranges)) (marks_at (slot_at slots (block * block_size + j)))
  blocks_within long marks_is within block j whole less =
      let place : ℕ = block * block_size + j in
      let below : place < length slots = omega (arith, whole, less) in
      let marks_end : place * m + m ≤ length marks =
      (let l = ap (λ (ms : List ℕ). length ms) marks_is in let t = table_long marks_at m long slots in let r = row_within place (length slots) m below in
      omega (arith, l, t, r)) in
      let table : take m (drop (place * m) marks) ≡ marks_at (slot_at slots place) =
      ap (λ (ms : List ℕ). take m (drop (place * m) ms)) marks_is ∙ table_at marks_at m long slots place (record { bucket = 0; donor = 0 }) below in
      subst (λ (ms : List ℕ). AreWithin (take m (drop (block * m) ranges)) ms) table
      (block_within m ranges marks (block * m) (place * m) (blocks_long block whole) marks_end each)
    where
      each : (f : ℕ) → f < m → IsWithin (range_at ranges (block * m + f)) (mark_at marks m (block * block_size + j) f)
      each f below =
          subst (λ (ms : List ℕ). IsWithin (range_at ranges (block * m + f)) (mark_at ms m (block * block_size + j) f)) lent_is
          (subst (λ n. IsWithin (range_at ranges (block * n + f)) (mark_at lent n (block * block_size + j) f)) count_is
          (within block j f (subst (λ (ss : List Slot). block * block_size + block_size ≤ length ss) (sym there_is) whole) less
          (subst (λ n. f < n) (sym count_is) below)))
