use Rattle.std.proofs.Common.{◌≡◌, ℕ, ◌+◌, Bool, true, false, if◌then◌else◌, nat_lt, List, ◌∷◌, Option, Some, None, Result, Ok, Err, refl, ap}
use Rattle.edit_model.specs.declared.value.Value.{Value}
use Rattle.edit_line.specs.Shapes.{Domain, whole_sets}
use Rattle.edit_line.specs.declared.derived.Derived.{Derived}
use Rattle.linear_elim.specs.Steps.{StepOverflow, pairs_count, step_result}
use Rattle.categ_combine.specs.BoxLists.{sets_of}
use Rattle.categ_combine.specs.Covers.{cover_count, covered_from}
use Rattle.categ_combine.specs.declared.box_from.BoxFrom.{BoxFrom}
use Rattle.edit_paths.specs.Histories.{History, with_boxes, with_lines}
use Rattle.redundancy.specs.inner.Turns.{closing_box, closing_line, code_end, code_walk, dropped_by, ended_by, number_end, number_walk, or_overflow, overflowed}
use Rattle.redundancy.specs.declared.verdict.Verdict.{Verdict}
use Rattle.redundancy.specs.declared.verdict.Verdict.TheVariants.{Kept}
use Rattle.redundancy.specs.declared.verdict.Why.TheVariants.{Budget}

-- One turn of the walk: where it ends, that is the verdict, and else the walk goes on.

-- ---- the numerical fields

module _ (shape : List Domain) (row : List Value) (budget spent : ℕ) (history : History) (lines : List Derived) (f : ℕ) (fields : List ℕ) where
  abbrev after : List Derived → Verdict
  after next = number_walk shape row budget (spent + (1 + pairs_count lines f)) (with_lines history next) next fields

  pub number-ends : (v : Verdict) → number_end (whole_sets shape) budget spent history lines f ≡ Some v
      → number_walk shape row budget spent history lines (f ∷ fields) ≡ v
  number-ends v e = by (closing_line (whole_sets shape) lines) (nat_lt budget (spent + (1 + pairs_count lines f))) (step_result lines f) e
    where
      by : (o : Option ℕ) (b : Bool) (r : Result (List Derived) StepOverflow) → ended_by history o (if b then Some (Kept Budget) else overflowed r) ≡ Some v
          → dropped_by history o (if b then Kept Budget else or_overflow r after) ≡ v
      by (Some place) b r e = cc
      by None true r e = cc
      by None false (Ok next) e = absurd (cc)
      by None false (Err o) e = cc

  pub number-goes : (next : List Derived) → number_end (whole_sets shape) budget spent history lines f ≡ None → step_result lines f ≡ Ok next
      → number_walk shape row budget spent history lines (f ∷ fields) ≡ number_walk shape row budget (spent + (1 + pairs_count lines f))
      (with_lines history next) next fields
  number-goes next e made = by (closing_line (whole_sets shape) lines) (nat_lt budget (spent + (1 + pairs_count lines f))) (step_result lines f) e made
    where
      by : (o : Option ℕ) (b : Bool) (r : Result (List Derived) StepOverflow) → ended_by history o (if b then Some (Kept Budget) else overflowed r) ≡ None → r
          ≡ Ok next
          → dropped_by history o (if b then Kept Budget else or_overflow r after) ≡ after next
      by (Some place) b r e made = absurd (cc)
      by None true r e made = absurd (cc)
      by None false (Ok more) e made = let same : more ≡ next = cc in ap (λ (ls : List Derived). after ls) same
      by None false (Err o) e made = absurd (cc)

-- ---- the categorical fields

module _ (shape : List Domain) (budget spent : ℕ) (history : History) (boxes : List BoxFrom) (f : ℕ) (fields : List ℕ) where
  abbrev rest : Verdict
  rest = code_walk shape budget (spent + (1 + cover_count shape (sets_of boxes) f)) (with_boxes history f (covered_from shape boxes f))
      (covered_from shape boxes f) fields

  pub code-ends : (v : Verdict) → code_end shape budget spent history boxes f ≡ Some v → code_walk shape budget spent history boxes (f ∷ fields) ≡ v
  code-ends v e = by (closing_box (whole_sets shape) (covered_from shape boxes f)) (nat_lt budget (spent + (1 + cover_count shape (sets_of boxes) f))) e
    where
      by : (o : Option ℕ) (b : Bool) → (if b then Some (Kept Budget) else ended_by (with_boxes history f (covered_from shape boxes f)) o None) ≡ Some v
          → (if b then Kept Budget else dropped_by (with_boxes history f (covered_from shape boxes f)) o rest) ≡ v
      by o true e = cc
      by (Some place) false e = cc
      by None false e = absurd (cc)

  pub code-goes : code_end shape budget spent history boxes f ≡ None
      → code_walk shape budget spent history boxes (f ∷ fields) ≡ code_walk shape budget (spent + (1 + cover_count shape (sets_of boxes) f))
      (with_boxes history f (covered_from shape boxes f)) (covered_from shape boxes f) fields
  code-goes e = by (closing_box (whole_sets shape) (covered_from shape boxes f)) (nat_lt budget (spent + (1 + cover_count shape (sets_of boxes) f))) e
    where
      by : (o : Option ℕ) (b : Bool) → (if b then Some (Kept Budget) else ended_by (with_boxes history f (covered_from shape boxes f)) o None) ≡ None
          → (if b then Kept Budget else dropped_by (with_boxes history f (covered_from shape boxes f)) o rest) ≡ rest
      by o true e = absurd (cc)
      by (Some place) false e = absurd (cc)
      by None false e = refl
