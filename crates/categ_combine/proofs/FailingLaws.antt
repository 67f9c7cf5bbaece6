use Rattle.std.proofs.Common.{◌≡◌, ℕ, suc, ◌+◌, ◌<◌, ◌≤◌, Bool, true, false, if◌then◌else◌, List, [], ◌∷◌, Result, Ok, Err, drop, get_or, length}
use Rattle.std.proofs.Common.{refl, sym, ap, ◌∙◌, arith}
use Rattle.std.proofs.Math.Seq.{drop-cons}
use Rattle.std.proofs.lemmas.List.{drop_all}
use Rattle.foundation.specs.Results.{◌>>=◌, fault_as}
use Rattle.edit_model.specs.declared.value.Value.{Value}
use Rattle.edit_line.specs.Lines.{LineParts}
use Rattle.edit_line.specs.Reductions.{lines_of}
use Rattle.edit_line.specs.Sums.{fails_at}
use Rattle.edit_line.specs.declared.derived.Derived.{Derived}
use Rattle.categ_combine.specs.BoxLists.{sets_of, with_box}
use Rattle.categ_combine.specs.Covers.{from_of}
use Rattle.categ_combine.specs.FailingBoxes.{LineFault, boxes_from, failing_boxes, failing_from, line_fault, taken}
use Rattle.categ_combine.specs.declared.box_from.BoxFrom.{BoxFrom}
use Rattle.categ_combine.specs.declared.box_from.BoxOrigin.TheVariants.{Failing}
use Rattle.categ_combine.proofs.ReducedBoxes.{sets-with_from}

-- The boxes of a record's failing lines.

-- one line more
pub failing-next : (lines : List Derived) (row : List Value) (kept : List BoxFrom) (i : ℕ) (d : Derived) (fails : Bool) → i < length lines
    → d ≡ get_or lines i d → fails_at d.line row ≡ Ok fails
    → failing_from (i + 1) (drop (i + 1) lines) row (taken kept i d.line fails) ≡ failing_from i (drop i lines) row kept
failing-next lines row kept i d fails below here told =
    ap (λ n. failing_from n (drop n lines) row (taken kept i d.line fails)) next
    ∙ ap (λ t. (fault_as (line_fault i) t >>= (λ fails. failing_from (suc i) (drop (suc i) lines) row (taken kept i d.line fails)))) (sym told)
    ∙ ap (λ (e : Derived). failing_from i (e ∷ drop (suc i) lines) row kept) here
    ∙ ap (λ ds. failing_from i ds row kept) (sym (drop-cons lines i d below))
  where
    next : i + 1 ≡ suc i
    next = omega arith

-- the first line whose sum leaves the range
pub failing-fault : (lines : List Derived) (row : List Value) (kept : List BoxFrom) (i f : ℕ) (d : Derived) → i < length lines → d ≡ get_or lines i d
    → fails_at d.line row ≡ Err f
    → failing_from i (drop i lines) row kept ≡ Err (record { line = i; field = f })
failing-fault lines row kept i f d below here told =
    ap (λ ds. failing_from i ds row kept) (drop-cons lines i d below)
    ∙ ap (λ (e : Derived). failing_from i (e ∷ drop (suc i) lines) row kept) (sym here)
    ∙ ap (λ t. (fault_as (line_fault i) t >>= (λ fails. failing_from (suc i) (drop (suc i) lines) row (taken kept i d.line fails)))) told

-- after the last line
pub failing-end : (lines : List Derived) (row : List Value) (kept : List BoxFrom) (i : ℕ) → length lines ≤ i → failing_from i (drop i lines) row kept ≡ Ok kept
failing-end lines row kept i past = ap (λ ds. failing_from i ds row kept) (drop_all i lines past)

-- ---- without the origins

abbrev sets_told : Result (List BoxFrom) LineFault → Result (List (List ℕ)) LineFault
sets_told (Ok boxes) = Ok (sets_of boxes)
sets_told (Err fault) = Err fault

sets-taken : (kept : List BoxFrom) (i : ℕ) (line : LineParts) (fails : Bool)
    → sets_of (taken kept i line fails) ≡ (if fails then with_box (sets_of kept) line.sets else sets_of kept)
sets-taken kept i line true = sets-with_from kept (from_of line.shape line.sets (Failing i))
sets-taken kept i line false = refl

sets-failing : (i : ℕ) (lines : List Derived) (row : List Value) (kept : List BoxFrom)
    → sets_told (failing_from i lines row kept) ≡ boxes_from i (lines_of lines) row (sets_of kept)
sets-failing i [] row kept = refl
sets-failing i (d ∷ lines) row kept = by (fails_at d.line row) (λ fails. sets-failing (suc i) lines row (taken kept i d.line fails))
  where
    by : (t : Result Bool ℕ) → ((fails : Bool) → sets_told (failing_from (suc i) lines row (taken kept i d.line fails))
        ≡ boxes_from (suc i) (lines_of lines) row (sets_of (taken kept i d.line fails)))
        → sets_told ((fault_as (line_fault i) t >>= (λ fails. failing_from (suc i) lines row (taken kept i d.line fails))))
        ≡ (fault_as (line_fault i) t >>= (λ fails. boxes_from (suc i) (lines_of lines) row
        (if fails then with_box (sets_of kept) d.line.sets else sets_of kept)))
    by (Ok fails) rest = rest fails ∙ ap (λ bs. boxes_from (suc i) (lines_of lines) row bs) (sets-taken kept i d.line fails)
    by (Err f) rest = refl

pub failing-sets : (lines : List Derived) (row : List Value) (boxes : List BoxFrom) → failing_from 0 lines row [] ≡ Ok boxes
    → failing_boxes (lines_of lines) row ≡ Ok (sets_of boxes)
failing-sets lines row boxes e = sym (sets-failing 0 lines row []) ∙ ap (λ t. sets_told t) e

pub failing-faults : (lines : List Derived) (row : List Value) (fault : LineFault) → failing_from 0 lines row [] ≡ Err fault
    → failing_boxes (lines_of lines) row ≡ Err fault
failing-faults lines row fault e = sym (sets-failing 0 lines row []) ∙ ap (λ t. sets_told t) e
