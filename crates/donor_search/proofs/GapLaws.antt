use Rattle.std.proofs.Common.{◌≡◌, ℕ, zero, suc, ◌+◌, ◌-◌, ◌*◌, ◌<◌, ◌≤◌, true, All, Option, Some, None, List, [], ◌∷◌, get_or, length, map, min, refl, sym}
use Rattle.std.proofs.Common.{ap, ◌∙◌, subst, arith, if◌then◌else◌}
use Rattle.std.specs.Borrow.{Bor}
use Rattle.std.specs.Fn.{Shared}
use Rattle.std.specs.Int.{abs_diff}
use Rattle.std.specs.List.{sum_by}
use Rattle.std.proofs.lemmas.List.Elements.{All-map}
use Rattle.std.proofs.lemmas.List.Sorted.{All-permutation, IsPermutation-map, sum_by-IsPermutation}
use Rattle.edit_model.specs.FieldSets.{has_number}
use Rattle.edit_model.specs.PlainNumbers.{IsPlainValue}
use Rattle.edit_model.specs.Rows.{value_of}
use Rattle.edit_model.specs.declared.value.Value.{Value}
use Rattle.edit_model.specs.declared.value.Value.TheVariants.{Bad, Code, Number}
use Rattle.donor_measure.specs.Buckets.{bucket_no}
use Rattle.donor_measure.specs.Distances.{distance, distance_at, distance_from, field_distance, value_distance}
use Rattle.donor_measure.specs.Measures.{HasMeasurable, IsMeasurable}
use Rattle.donor_measure.specs.Yardsticks.{IsYardstick, yardstick_at}
use Rattle.donor_measure.specs.declared.yardstick.Yardstick.{Yardstick}
use Rattle.donor_measure.proofs.BucketLaws.{gap_few}
use Rattle.donor_measure.proofs.MarkLaws.{gap_by_buckets}
use Rattle.donor_search.specs.Asked.{gap_to}
use Rattle.donor_search.specs.CleanRows.{IsRankable, row_at}
use Rattle.donor_search.specs.Decks.{AreSlots, slot_of, slots_at}
use Rattle.donor_search.specs.Rankings.{distance_to}
use Rattle.donor_search.specs.declared.axis.Axis.{Axis}
use Rattle.donor_search.specs.declared.search.Search.{Search}
use Rattle.donor_search.specs.declared.slot.Slot.{Slot}
use Rattle.donor_search.specs.inner.Searches.{IsAxis, IsSearch, far_in, gap_in, yardsticks_in}
use Rattle.donor_search.specs.inner.Spans.{bucket_at, bucket_gap_at}
use Rattle.donor_search.proofs.SameLaws.{HaveSame}

-- The slots of a field, and the gaps that their buckets tell.

-- ---- a gap is no more than the distance

module _ (kept : ℕ) (a b : List Value) where
  -- the distance at a field is a part of the distance
  part_at : (i : ℕ) (ys : List Yardstick) (k : ℕ) → k < length ys → distance_at (yardstick_at ys k) (i + k) kept a b ≤ distance_from i ys kept a b
  part_at i [] k below = absurd (omega (arith, below))
  part_at i (y ∷ ys) zero below = subst (λ n. distance_at y n kept a b ≤ distance_from i (y ∷ ys) kept a b) (sym none) (omega arith)
    where
      none : i + 0 ≡ i
      none = omega arith
  part_at i (y ∷ ys) (suc k) below =
      let rest = part_at (suc i) ys k (omega (arith, below)) in
      subst (λ n. distance_at (yardstick_at ys k) n kept a b ≤ distance_from i (y ∷ ys) kept a b) (sym next) (omega (arith, rest))
    where
      next : i + suc k ≡ suc i + k
      next = omega arith

  kept_part : (ys : List Yardstick) (k : ℕ) → k < length ys → has_number kept k ≡ true
      → field_distance (yardstick_at ys k) (value_of a k) (value_of b k) ≤ distance ys kept a b
  kept_part ys k below has =
      let here = ap (λ c. if c then field_distance (yardstick_at ys k) (value_of a k) (value_of b k) else 0) has in
      let part = subst (λ n. distance_at (yardstick_at ys k) n kept a b ≤ distance ys kept a b) plain (part_at 0 ys k below) in
      omega (arith, here, part)
    where
      plain : 0 + k ≡ k
      plain = omega arith

pub gap_short : (ys : List Yardstick) (rows : List (List Value)) (row : List Value) (kept field donor : ℕ) → All IsYardstick ys → field < length ys
    → has_number kept field ≡ true
    → gap_to ys rows row field donor ≤ distance_to ys rows row kept donor
gap_short ys rows row kept field donor fit below has =
    let y = yardstick_at ys field in
    let v = value_of row field in
    let w = value_of (row_at rows donor) field in
    let few = gap_few y v w y.weight (value_distance y.scale v w) (fit field (record { weight = 0; scale = None }) below).scale refl refl in
    let part = kept_part kept row (row_at rows donor) ys field below has in
    omega (arith, few, part)

-- ---- the slots

names_of : (scale : ℕ) (rows : List (List Value)) (field : ℕ) (donors : List ℕ) → map (λ (s : Slot). s.donor) (map (slot_of scale rows field) donors) ≡ donors
names_of scale rows field [] = refl
names_of scale rows field (d ∷ ds) = ap (λ xs. d ∷ xs) (names_of scale rows field ds)

pub get_mapped : (slots : List Slot) (i : ℕ) (d : Slot) → i < length slots → get_or (map (λ (s : Slot). s.donor) slots) i 0 ≡ (get_or slots i d).donor
get_mapped [] i d below = absurd (omega (arith, below))
get_mapped (s ∷ slots) zero d below = refl
get_mapped (s ∷ slots) (suc i) d below = get_mapped slots i d (omega (arith, below))

module _ (scale : ℕ) (rows : List (List Value)) (field : ℕ) (donors : List ℕ) (slots : List Slot) (are : AreSlots (Some scale) rows field donors slots) where
  pub slots_same : HaveSame donors (map (λ (s : Slot). s.donor) slots)
  slots_same f =
      ap (sum_by f) (sym (names_of scale rows field donors))
      ∙ sym (sum_by-IsPermutation f (map (λ (s : Slot). s.donor) (map (slot_of scale rows field) donors)) (map (λ (s : Slot). s.donor) slots)
      (IsPermutation-map (λ (s : Slot). s.donor) (map (slot_of scale rows field) donors) slots are.0))

  -- what holds of the slot of each donor holds of each slot
  pub slots_all : (P : Slot → Type 0) → All (λ d. P (slot_of scale rows field d)) donors → All P slots
  slots_all P each = All-permutation P (map (slot_of scale rows field) donors) slots are.0 (All-map P (slot_of scale rows field) donors each)

  pub slot_bucket : (i : ℕ) → i < length slots
      → bucket_at slots i ≡ bucket_no scale (value_of (row_at rows (get_or (map (λ (s : Slot). s.donor) slots) i 0)) field)
  slot_bucket i below =
      let none : Slot = record { bucket = 0; donor = 0 } in
      slots_all (λ (s : Slot). s.bucket ≡ bucket_no scale (value_of (row_at rows s.donor) field)) (λ k d within. refl) i none below
      ∙ ap (λ d. bucket_no scale (value_of (row_at rows d) field)) (sym (get_mapped slots i none below))

  pub slot_donor : (P : ℕ → Type 0) → All P donors → (i : ℕ) → i < length slots → P (get_or (map (λ (s : Slot). s.donor) slots) i 0)
  slot_donor P each i below =
      let none : Slot = record { bucket = 0; donor = 0 } in
      subst P (sym (get_mapped slots i none below)) (slots_all (λ (s : Slot). P s.donor) each i none below)

-- ---- the gap of a slot

pub gap_at : (ys : List Yardstick) (rows : List (List Value)) (row : List Value) (kept : ℕ) (axis : Axis) (donors : List ℕ) (slots : List Slot)
    → IsAxis ys kept axis → HasMeasurable ys kept row → All (IsRankable ys rows kept) donors
    → AreSlots (Some axis.scale) rows axis.field donors slots
    → (i : ℕ) → i < length slots → gap_to ys rows row axis.field (get_or (map (λ (s : Slot). s.donor) slots) i 0) ≡ bucket_gap_at axis
    (bucket_no axis.scale (value_of row axis.field)) (bucket_at slots i)
gap_at ys rows row kept axis donors slots is measurable rankable are i below =
    let donor = get_or (map (λ (s : Slot). s.donor) slots) i 0 in
    let can = slot_donor axis.scale rows axis.field donors slots are (IsRankable ys rows kept) rankable i below in
    let scale_is : (yardstick_at ys axis.field).scale ≡ Some axis.scale = ap (λ (y : Yardstick). y.scale) is.yardstick in
    let first = subst (λ (o : Option ℕ). IsMeasurable o (value_of row axis.field)) scale_is (measurable axis.field is.field is.has) in
    let second = subst (λ (o : Option ℕ). IsMeasurable o (value_of (row_at rows donor) axis.field)) scale_is (can.1 axis.field is.field is.has) in
    gap_by_buckets (yardstick_at ys axis.field) axis.scale (value_of row axis.field) (value_of (row_at rows donor) axis.field) scale_is is.scale.0 first second
    ∙ ap (λ w. w * min 1000 (abs_diff (bucket_no axis.scale (value_of row axis.field)) (bucket_no axis.scale (value_of (row_at rows donor) axis.field)) - 1))
    (ap (λ (y : Yardstick). y.weight) is.yardstick)
    ∙ ap (λ b. bucket_gap_at axis (bucket_no axis.scale (value_of row axis.field)) b) (sym (slot_bucket axis.scale rows axis.field donors slots are i below))

-- a bucket that is as near has no greater gap
pub gap_rises : (axis : Axis) (a b c : ℕ) → abs_diff a b ≤ abs_diff a c → bucket_gap_at axis a b ≤ bucket_gap_at axis a c
gap_rises axis a b c near = times axis.weight _ _ (less (abs_diff a b) (abs_diff a c) near)
  where
    times : (w m n : ℕ) → m ≤ n → w * m ≤ w * n
    times w m n le = grind (arith, le)

    less : (m n : ℕ) → m ≤ n → min 1000 (m - 1) ≤ min 1000 (n - 1)
    less m n le = omega (arith, le)

-- ---- what the walk knows of the slots

measurable_plain : (scale : ℕ) (v : Value) → IsMeasurable (Some scale) v → IsPlainValue v
measurable_plain scale (Code c) is = absurd is
measurable_plain scale (Number x) is = is
measurable_plain scale Bad is = absurd is

-- the slots are those of all donors; their buckets tell the gaps, and no gap is more than the distance
pub record AreWalked (far gap : ℕ → ℕ) (axis : Axis) (bucket : ℕ) (donors : List ℕ) (slots : List Slot) : Type 0 where
  pub gaps : (i : ℕ) → i < length slots → gap (get_or (map (λ (s : Slot). s.donor) slots) i 0) ≡ bucket_gap_at axis bucket (bucket_at slots i)
  pub short : (d : ℕ) → gap d ≤ far d
  pub same : HaveSame donors (map (λ (s : Slot). s.donor) slots)

pub slots_walked : {F : Type 0} (calls : Shared F (ℕ × (Bor Value × (Bor Value × Unit {0}))) ℕ) (s : Search F) (axis : Axis) (slots : List Slot) (bucket : ℕ)
    (value : Value)
    → IsSearch calls s → All IsYardstick (yardsticks_in s) → IsAxis (yardsticks_in s) s.kept axis → slots ≡ slots_at s.deck.now.index axis.field
    → value ≡ value_of s.row.now axis.field → (IsPlainValue value → bucket ≡ bucket_no axis.scale value)
    → AreWalked (far_in s) (gap_in s axis.field) axis bucket s.deck.now.donors slots
slots_walked calls s axis slots bucket value search fit is there value_is bucket_is =
    let ys = yardsticks_in s in
    let rows = s.sheet.now.rows in
    let donors = s.deck.now.donors in
    let scale_is : (yardstick_at ys axis.field).scale ≡ Some axis.scale = ap (λ (y : Yardstick). y.scale) is.yardstick in
    let are : AreSlots (Some axis.scale) rows axis.field donors slots =
    subst (λ (ss : List Slot). AreSlots (Some axis.scale) rows axis.field donors ss) (sym there)
    (subst (λ (o : Option ℕ). AreSlots o rows axis.field donors (slots_at s.deck.now.index axis.field)) scale_is (search.deck.slots axis.field is.field)) in
    let plain : IsPlainValue value = subst IsPlainValue (sym value_is) (measurable_plain axis.scale (value_of s.row.now axis.field)
    (subst (λ (o : Option ℕ). IsMeasurable o (value_of s.row.now axis.field)) scale_is (search.row axis.field is.field is.has))) in
    let own : bucket ≡ bucket_no axis.scale (value_of s.row.now axis.field) = bucket_is plain ∙ ap (bucket_no axis.scale) value_is in
    record {
      gaps = λ i below. gap_at ys rows s.row.now s.kept axis donors slots is search.row search.donors are i below
          ∙ ap (λ b. bucket_gap_at axis b (bucket_at slots i)) (sym own);
      short = λ d. gap_short ys rows s.row.now s.kept axis.field d fit is.field is.has;
      same = slots_same axis.scale rows axis.field donors slots are;
    }

-- each slot has a donor that can be measured
pub slots_rankable : {F : Type 0} (calls : Shared F (ℕ × (Bor Value × (Bor Value × Unit {0}))) ℕ) (s : Search F) (axis : Axis) (slots : List Slot)
    → IsSearch calls s → IsAxis (yardsticks_in s) s.kept axis → slots ≡ slots_at s.deck.now.index axis.field
    → All (λ (x : Slot). IsRankable (yardsticks_in s) s.sheet.now.rows s.kept x.donor) slots
slots_rankable calls s axis slots search is there =
    let rows = s.sheet.now.rows in
    let donors = s.deck.now.donors in
    let scale_is : (yardstick_at (yardsticks_in s) axis.field).scale ≡ Some axis.scale = ap (λ (y : Yardstick). y.scale) is.yardstick in
    let are : AreSlots (Some axis.scale) rows axis.field donors slots =
    subst (λ (ss : List Slot). AreSlots (Some axis.scale) rows axis.field donors ss) (sym there)
    (subst (λ (o : Option ℕ). AreSlots o rows axis.field donors (slots_at s.deck.now.index axis.field)) scale_is (search.deck.slots axis.field is.field)) in
    slots_all axis.scale rows axis.field donors slots are (λ (x : Slot). IsRankable (yardsticks_in s) rows s.kept x.donor) search.donors
