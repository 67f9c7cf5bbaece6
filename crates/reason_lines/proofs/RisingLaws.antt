-- The changes that lines say stand in the order of their records.
use Rattle.std.proofs.Common.{◌≡◌, refl, ℕ, zero, suc, ◌≤◌, ◌<◌, ◌==◌, ◌&&◌, ◌||◌, nat_lt, Bool, true, false, if◌then◌else◌, arith}
use Rattle.std.proofs.Common.{List, [], ◌∷◌, ◌++◌, length, get_or, Option, None, Some, Result, Ok, Err}
use Rattle.std.specs.List.Sorted.{IsNonDecreasingBy}
use Rattle.std.specs.Result.{IfOk}
use Rattle.std.proofs.lemmas.Bool.Decides.{nat_tests}
use Rattle.std.proofs.lemmas.List.Concat.{flat_map-cons}
use Rattle.edit_model.specs.declared.field.Field.{Field}
use Rattle.reason_lines.specs.ReasonFiles.{AreReasons, change_in, changes_in, first_fault, lines_fault, said}
use Rattle.reason_lines.specs.ReasonLines.{entry_of, line_fault, may_follow, place_of, record_of}
use Rattle.reason_lines.specs.declared.entry.Change.{Change}
use Rattle.reason_lines.specs.declared.entry.Entry.{Entry}
use Rattle.reason_lines.specs.declared.entry.Entry.TheVariants.{Changed, LeftOut}
use Rattle.reason_lines.specs.declared.fault.LineFault.{LineFault}
use Rattle.reason_lines.specs.declared.fault.LineFault.TheVariants as wrong
use Rattle.reason_lines.specs.declared.fault.ReasonFault.{ReasonFault}
use Rattle.reason_lines.specs.declared.reading.Reasons.{Reasons}

-- ---- changes that rise from a record on

abbrev pub RiseFrom : ℕ → List Change → Type 0
RiseFrom n [] = Unit {0}
RiseFrom n (c ∷ changes) = (n ≤ c.«record») × RiseFrom c.«record» changes

rise_lower : (m n : ℕ) (changes : List Change) → m ≤ n → RiseFrom n changes → RiseFrom m changes
rise_lower m n [] lower rises = tt
rise_lower m n (c ∷ changes) lower rises = (omega (arith, rises.0), rises.1)

rise_at : (n : ℕ) (changes : List Change) (j : ℕ) (d : Change) → RiseFrom n changes → j < length changes → n ≤ (get_or changes j d).«record»
rise_at n [] j d rises below = absurd (omega (arith, below))
rise_at n (c ∷ changes) zero d rises below = rises.0
rise_at n (c ∷ changes) (suc j) d rises below =
    let later = rise_at c.«record» changes j d rises.1 (omega (arith, below)) in
    omega (arith, rises.0, later)

non_decreasing : (n : ℕ) (changes : List Change) → RiseFrom n changes → IsNonDecreasingBy (λ (c : Change). c.«record») changes
non_decreasing n [] rises i j d order below = absurd (omega (arith, below))
non_decreasing n (c ∷ changes) rises zero zero d order below = omega arith
non_decreasing n (c ∷ changes) rises zero (suc j) d order below = rise_at c.«record» changes j d rises.1 (omega (arith, below))
non_decreasing n (c ∷ changes) rises (suc i) zero d order below = absurd (omega (arith, order))
non_decreasing n (c ∷ changes) rises (suc i) (suc j) d order below =
    non_decreasing c.«record» changes rises.1 i j d (omega (arith, order)) (omega (arith, below))

-- ---- lines with which nothing is wrong

-- the record of what stands before, from which on the next may be
abbrev pub least_of : Option Entry → ℕ
least_of None = 0
least_of (Some before) = record_of before

follows_by : (a b p q : ℕ) → (nat_lt a b || ((a == b) && nat_lt p q)) ≡ true → a ≤ b
follows_by a b p q is = grind (arith, nat_tests)

follows_record : (fields : List Field) (first second : Entry) → may_follow fields first second ≡ true → record_of first ≤ record_of second
follows_record fields (Changed first) (Changed second) is =
    follows_by first.«record» second.«record» (place_of fields first.field) (place_of fields second.field) is
follows_record fields (Changed first) (LeftOut second) is = grind (arith, nat_tests)
follows_record fields (LeftOut first) (Changed second) is = grind (arith, nat_tests)
follows_record fields (LeftOut first) (LeftOut second) is = grind (arith, nat_tests)

ordered : (b : Bool) → (if b then None else Some wrong.Order) ≡ None → b ≡ true
ordered true is = refl
ordered false is = absurd (cc is)

record_behind : (fields : List Field) (before : Option Entry) (entry : Entry) → line_fault fields before (Ok entry) ≡ None → least_of before ≤ record_of entry
record_behind fields None entry is = omega arith
record_behind fields (Some before) entry is = follows_record fields before entry (ordered (may_follow fields before entry) is)

faultless_first : (i : ℕ) (fault : Option LineFault) (later : Option ReasonFault) → first_fault i fault later ≡ None → (fault ≡ None) × (later ≡ None)
faultless_first i (Some fault) later is = absurd (cc is)
faultless_first i None later is = (refl, is)

module _ (fields : List Field) (rows : ℕ) where
  -- a line in front of lines whose changes rise
  rise_more : (before : Option Entry) (says : Result Entry LineFault) (later : List Change) → line_fault fields before says ≡ None
      → RiseFrom (least_of (said says)) later → RiseFrom (least_of before) (change_in says ++ later)
  rise_more before (Ok (Changed change)) later is rises = (record_behind fields before (Changed change) is, rises)
  rise_more before (Ok (LeftOut left_out)) later is rises =
      rise_lower (least_of before) left_out.«record» later (record_behind fields before (LeftOut left_out) is) rises
  rise_more before (Err fault) later is rises = absurd (cc is)

  changes_rise : (i : ℕ) (before : Option Entry) (lines : List (List (List ℕ))) → lines_fault fields rows i before lines ≡ None
      → RiseFrom (least_of before) (changes_in fields rows lines)
  changes_rise i before [] is = tt
  changes_rise i before (texts ∷ lines) is =
      let says = entry_of fields rows texts in
      let parts = faultless_first i (line_fault fields before says) (lines_fault fields rows (suc i) (said says) lines) is in
      rw (flat_map-cons (λ (t : List (List ℕ)). change_in (entry_of fields rows t)) texts lines)
      (rise_more before says (changes_in fields rows lines) parts.0 (changes_rise (suc i) (said says) lines parts.1))

  pub rising_by_reasons : (bytes : List ℕ) (r : Result Reasons ReasonFault) → IfOk r (λ reasons. AreReasons fields rows bytes reasons)
      → IfOk r (λ reasons. IsNonDecreasingBy (λ (c : Change). c.«record») reasons.changes)
  rising_by_reasons bytes (Ok reasons) is = rw is.changes (non_decreasing 0 (changes_in fields rows is.table.rows)
      (changes_rise 0 None is.table.rows is.faultless))
  rising_by_reasons bytes (Err e) is = tt
