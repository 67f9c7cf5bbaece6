use Rattle.std.proofs.Common.{◌≡◌, ◌≢◌, ℕ, suc, ◌+◌, ◌<◌, ◌≤◌, ◌||◌, ◌==◌, if◌then◌else◌, Bool, true, false, List, [], ◌∷◌, ◌++◌, filter, length}
use Rattle.std.proofs.Common.{nat_lt, IsTrue, Option, Some, None, IfNone, IfSome, Result, Ok, Err, refl, sym, ap, ◌∙◌, subst, arith}
use Rattle.std.specs.Prelude.{option_map}
use Rattle.std.proofs.lemmas.Bool.Decides.{Decides-eqb}
use Rattle.foundation.specs.Results.{◌>>=◌, fault_as}
use Rattle.edit_model.specs.FieldSets.{has_number, with_number, without_number}
use Rattle.edit_model.proofs.FieldSetLaws.{has-none, has-with_other, has-with_same, has-without_other, has-without_same, same_set, with-is}
use Rattle.edit_line.specs.EditSets.{EditsParts, base_lines}
use Rattle.edit_line.specs.Reductions.{AreOwn, lines_of, reduce_derived}
use Rattle.edit_line.specs.Shapes.{Categorical, Domain, IsNumerical, Numerical, has_field, numbers_from}
use Rattle.edit_line.specs.declared.derived.Derived.{Derived}
use Rattle.linear_elim.specs.LastFields.{IsFirstOf, IsLast, IsPast}
use Rattle.linear_elim.specs.Steps.{StepOverflow, pairs_count, step_result}
use Rattle.linear_elim.specs.Systems.{AreNumerical, SystemOverflow, chosen_fields, count_after, fold_count, fold_result, overflow_at, pairs_at, system_at}
use Rattle.linear_elim.proofs.ChosenFields.{HasOneMore, chosen-more, none-chosen}
use Rattle.linear_elim.proofs.FoldLaws.{fold-fault, system-next}
use Rattle.linear_elim.proofs.OwnLoops.{own-folded, own-start}
use Rattle.linear_elim.proofs.SystemLoops.{count-joined, count-part}

-- A derived system with one field more, which is past all others, is one step from the system.

-- ---- the set of fields

-- a set with a field more that is past all of its own
pub one-more : (set last : ℕ) → IsPast set last → HasOneMore set (with_number set last) last
one-more set last past = record { own = has-with_same set last; others = λ f apart. has-with_other set last f apart; later = past }

-- the numerical fields of a shape are below its length
pub numerical-from : (i f : ℕ) (shape : List Domain) → has_field (numbers_from i shape) f ≡ true → f < i + length shape
numerical-from i f [] there = absurd (cc)
numerical-from i f (Categorical k ∷ shape) there = let rest = numerical-from (suc i) f shape there in omega (arith, rest)
numerical-from i f (Numerical ∷ shape) there = by (i == f) (Decides-eqb i f).0 there (numerical-from (suc i) f shape)
  where
    by : (b : Bool) → (b ≡ true → i ≡ f) → (b || has_field (numbers_from (suc i) shape) f) ≡ true
        → (has_field (numbers_from (suc i) shape) f ≡ true → f < suc i + length shape) → f < i + suc (length shape)
    by true same h rest = let e = same refl in omega (arith, e)
    by false same h rest = let below = rest h in omega (arith, below)

-- a set of numerical fields has none from the shape's end on
pub none-past : (shape : List Domain) (set : ℕ) → AreNumerical shape set → (f : ℕ) → length shape ≤ f → has_number set f ≡ false
none-past shape set all f past = by (has_number set f) (all f)
  where
    by : (b : Bool) → (IsTrue b → IsNumerical shape f) → b ≡ false
    by true numerical = let below = numerical-from 0 f shape (numerical refl) in absurd (omega (arith, below, past))
    by false numerical = refl

-- ---- the last field, of those below an end that is not before the shape's

module _ (shape : List Domain) (set end : ℕ) (all : AreNumerical shape set) (whole : length shape ≤ end) where
  by_end : (P : ℕ → Type 0) → ((f : ℕ) → f < end → P f → has_number set f ≡ false) → (f : ℕ) → P f → has_number set f ≡ false
  by_end P below f here = by (nat_lt f end) refl
    where
      by : (b : Bool) → nat_lt f end ≡ b → has_number set f ≡ false
      by true is = below f (grind (arith, is)) here
      by false is = let past : end ≤ f = grind (arith, is) in none-past shape set all f (omega (arith, past, whole))

  -- a field of the set, behind which none is below the end, is the last
  pub last-found : (last : Option ℕ) → IfSome last (λ f. (has_number set f ≡ true) × ((g : ℕ) → f < g → g < end → has_number set g ≡ false))
      → IfSome last (λ f. IsLast set f)
  last-found None found = tt
  last-found (Some f) found = record { own = found.0; past = λ g behind. by_end (λ h. f < h) (λ h below later. found.1 h later below) g behind }

  -- and a set that has none below the end is empty
  pub none-found : (last : Option ℕ) → IfNone last ((g : ℕ) → g < end → has_number set g ≡ false) → IfNone last (set ≡ 0)
  none-found None none = same_set set 0 (λ f. by_end (λ g. Unit {0}) (λ g below here. none g below) f tt ∙ sym (has-none f))
  none-found (Some f) none = tt

-- ---- the last field, and the others

module _ (set last : ℕ) (is : IsLast set last) where
  -- the others are before it
  pub last-past : IsPast (without_number set last) last
  last-past f after = by (f == last) (Decides-eqb f last).0 (Decides-eqb f last).1
    where
      by : (b : Bool) → (b ≡ true → f ≡ last) → (f ≡ last → b ≡ true) → has_number (without_number set last) f ≡ false
      by true same told = ap (has_number (without_number set last)) (same refl) ∙ has-without_same set last
      by false same told = let apart : f ≢ last = (λ e. cc (told e)) in has-without_other set last f apart ∙ is.past f (omega (arith, after, apart))

  -- and with it they are the set
  pub last-with : with_number (without_number set last) last ≡ set
  last-with = sym (with-is (without_number set last) last set is.own (λ f apart. sym (has-without_other set last f apart)))

-- they are chosen before it
pub last-chosen : (shape : List Domain) (set last : ℕ) → IsLast set last → IsNumerical shape last
    → chosen_fields shape set ≡ chosen_fields shape (without_number set last) ++ last ∷ []
last-chosen shape set last is number = chosen-more shape (without_number set last) set last number (record {
  own = is.own;
  others = λ f apart. sym (has-without_other set last f apart);
  later = last-past set last is;
})

-- the others are numerical where all are
pub numerical-less : (shape : List Domain) (set last : ℕ) → AreNumerical shape set → AreNumerical shape (without_number set last)
numerical-less shape set last all f there = by (f == last) (Decides-eqb f last).0 (Decides-eqb f last).1
  where
    by : (b : Bool) → (b ≡ true → f ≡ last) → (f ≡ last → b ≡ true) → IsNumerical shape f
    by true same told = absurd (cc (sym (has-without_same set last) ∙ ap (has_number (without_number set last)) (sym (same refl)) ∙ there))
    by false same told = all f (subst (λ (b : Bool). IsTrue b) (has-without_other set last f (λ e. cc (told e))) there)

-- ---- the first fields of a set

module _ (first set : ℕ) (is : IsFirstOf first set) where
  -- they are chosen first
  first-from : (i : ℕ) (shape : List Domain) → (rest : List ℕ)
      × (filter (has_number set) (numbers_from i shape) ≡ filter (has_number first) (numbers_from i shape) ++ rest)
  first-from i [] = ([], refl)
  first-from i (Categorical k ∷ shape) = first-from (suc i) shape
  first-from i (Numerical ∷ shape) = by (nat_lt i is.bound) refl (first-from (suc i) shape)
    where
      chosen : List ℕ
      chosen = filter (has_number set) (numbers_from i (Numerical ∷ shape))

      by : (b : Bool) → nat_lt i is.bound ≡ b → (rest : List ℕ)
          × (filter (has_number set) (numbers_from (suc i) shape) ≡ filter (has_number first) (numbers_from (suc i) shape) ++ rest)
          → (rest : List ℕ) × (chosen ≡ filter (has_number first) (numbers_from i (Numerical ∷ shape)) ++ rest)
      by false past later =
          let none : filter (has_number first) (numbers_from i (Numerical ∷ shape))
          ≡ [] = none-chosen first i (Numerical ∷ shape) (λ g after. is.none g (let b : is.bound ≤ i = grind (arith, past) in omega (arith, b, after))) in
          (chosen, ap (λ fs. fs ++ chosen) (sym none))
      by true here later =
          let (rest, same) = later in
          (rest, rw (is.below i (grind (arith, here))) (either (has_number set i) rest same))
        where
          either : (b : Bool) (rest : List ℕ) → filter (has_number set) (numbers_from (suc i) shape)
              ≡ filter (has_number first) (numbers_from (suc i) shape) ++ rest
              → (if b then i ∷ filter (has_number set) (numbers_from (suc i) shape) else filter (has_number set) (numbers_from (suc i) shape))
              ≡ (if b then i ∷ filter (has_number first) (numbers_from (suc i) shape) else filter (has_number first) (numbers_from (suc i) shape)) ++ rest
          either true rest same = ap (λ fs. i ∷ fs) same
          either false rest same = same

  -- the fold over them combines no more pairs than the one over the set
  pub pairs-first : (edits : EditsParts) → pairs_at edits first ≤ pairs_at edits set
  pairs-first edits =
      let (rest, same) = first-from 0 edits.shape in
      let base = reduce_derived (base_lines edits.lines) in
      subst (λ (fs : List ℕ). pairs_at edits first ≤ fold_count base fs) (sym same) (count-part base (chosen_fields edits.shape first) rest)

  -- where they are not all, they are first of the fields without the last one
  pub first-less : (last : ℕ) → IsLast set last → first ≢ set → IsFirstOf first (without_number set last)
  first-less last is_last other = by (nat_lt last is.bound) refl
    where
      whole : last < is.bound → first ≡ set
      whole within = same_set first set (λ f. either f (nat_lt f is.bound) refl)
        where
          either : (f : ℕ) (b : Bool) → nat_lt f is.bound ≡ b → has_number first f ≡ has_number set f
          either f true here = is.below f (grind (arith, here))
          either f false past =
              let after : is.bound ≤ f = grind (arith, past) in
              is.none f after ∙ sym (is_last.past f (omega (arith, after, within)))

      by : (b : Bool) → nat_lt last is.bound ≡ b → IsFirstOf first (without_number set last)
      by true within = absurd (other (whole (grind (arith, within))))
      by false past = record {
        bound = is.bound;
        below = λ f under. is.below f under ∙ sym (has-without_other set last f
            (λ same. let b : is.bound ≤ last = grind (arith, past) in absurd (omega (arith, b, under, same))));
        none = is.none;
      }

-- a set without fields has no other first fields
pub first-none : (first : ℕ) → IsFirstOf first 0 → first ≡ 0
first-none first is = same_set first 0 (λ f. by f (nat_lt f is.bound) refl)
  where
    by : (f : ℕ) (b : Bool) → nat_lt f is.bound ≡ b → has_number first f ≡ has_number 0 f
    by f true here = is.below f (grind (arith, here))
    by f false past = is.none f (grind (arith, past)) ∙ sym (has-none f)

-- ---- one field more

-- the fields of the set and one numerical field more are numerical
pub numerical-more : (shape : List Domain) (set last : ℕ) → AreNumerical shape set → IsNumerical shape last → AreNumerical shape (with_number set last)
numerical-more shape set last all one f there = by (f == last) (Decides-eqb f last).0 (Decides-eqb f last).1
  where
    by : (b : Bool) → (b ≡ true → f ≡ last) → (f ≡ last → b ≡ true) → IsNumerical shape f
    by true same told = subst (λ (g : ℕ). IsNumerical shape g) (sym (same refl)) one
    by false same told = all f (subst (λ (b : Bool). IsTrue b) (has-with_other set last f (λ e. cc (told e))) there)

-- ---- the fold

module _ (edits : EditsParts) (set last : ℕ) (number : IsNumerical edits.shape last) (past : IsPast set last) where
  abbrev base : List Derived
  base = reduce_derived (base_lines edits.lines)

  chosen : chosen_fields edits.shape (with_number set last) ≡ chosen_fields edits.shape set ++ last ∷ []
  chosen = chosen-more edits.shape set (with_number set last) last number (one-more set last past)

  -- where the fold over the set stops, it stops there with one field more
  pub fault-stays : (fault : SystemOverflow) → system_at edits set ≡ Err fault → system_at edits (with_number set last) ≡ Err fault
  fault-stays fault is = ap (λ (fs : List ℕ). fold_result base fs) chosen ∙ fold-fault base (chosen_fields edits.shape set) (last ∷ []) fault is

  -- and combines no more pairs than with one field more
  pub pairs-part : pairs_at edits set ≤ pairs_at edits (with_number set last)
  pairs-part =
      subst (λ (n : ℕ). pairs_at edits set ≤ n) (sym (ap (λ (fs : List ℕ). fold_count base fs) chosen))
      (count-part base (chosen_fields edits.shape set) (last ∷ []))

  module _ (lines : List Derived) (is : system_at edits set ≡ Ok lines) where
    after : system_at edits (with_number set last) ≡ (fault_as (overflow_at last) (step_result lines last) >>= (λ next. Ok next))
    after = system-next edits set (with_number set last) last lines number (one-more set last past) is

    -- the step's lines are the system's with one field more
    pub step-extends : (next : List Derived) → step_result lines last ≡ Ok next → system_at edits (with_number set last) ≡ Ok next
    step-extends next stepped = after ∙ ap (λ r. (fault_as (overflow_at last) r >>= (λ ls. Ok ls))) stepped

    -- and where it overflows, so does the fold
    pub step-stops : (fault : StepOverflow) → step_result lines last ≡ Err fault → system_at edits (with_number set last) ≡ Err (overflow_at last fault)
    step-stops fault stopped = after ∙ ap (λ r. (fault_as (overflow_at last) r >>= (λ ls. Ok ls))) stopped

    -- the pairs of the fold are those of the system and those of the step
    pub pairs-next : pairs_at edits (with_number set last) ≡ pairs_at edits set + pairs_count lines last
    pairs-next =
        ap (λ (fs : List ℕ). fold_count base fs) chosen ∙ count-joined base (chosen_fields edits.shape set) (last ∷ []) lines is
        ∙ ap (λ (n : ℕ). pairs_at edits set + n) (one_step (step_result lines last))
      where
        one_step : (r : Result (List Derived) StepOverflow) → pairs_count lines last + count_after r (λ next. fold_count next []) ≡ pairs_count lines last
        one_step (Ok next) = omega arith
        one_step (Err fault) = omega arith

    -- the lines are reduced
    pub system-own : AreOwn (lines_of lines)
    system-own = own-folded base (chosen_fields edits.shape set) lines is (own-start (base_lines edits.lines) base refl)

-- ---- what a fault tells

-- what follows from a fault that is told in another way
pub if_mapped : {F G : Type 0} (P : F → Type 0) (Q : G → Type 0) (tell : F → G) (fault : Option F) → ((f : F) → P f → Q (tell f)) → IfSome fault P
    → IfSome (option_map tell fault) Q
if_mapped P Q tell None follows told = tt
if_mapped P Q tell (Some f) follows told = follows f told
