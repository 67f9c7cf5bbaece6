use Rattle.std.proofs.Common.{◌≡◌, ℕ, zero, suc, ◌+◌, ◌-◌, ◌<◌, ◌≤◌, Bool, true, false, if◌then◌else◌, List, [], ◌∷◌, ◌++◌, All, Result, Ok, Err, IfSome}
use Rattle.std.proofs.Common.{length, refl, sym, ap, ◌∙◌, subst, add-one, append_assoc, append-nil, arith}
use Rattle.std.specs.Prelude.{String}
use Rattle.std.specs.List.{filter, range_with_len}
use Rattle.std.specs.Result.{IsErrAnd}
use Rattle.std.specs.declared.alloc.Global.{Global}
use Rattle.std.proofs.lemmas.List.FromFn.{length-map-range_with_len}
use Rattle.std.proofs.lemmas.List.Elements.{All-map}
use Rattle.edit_model.specs.FieldSets.{has_number}
use Rattle.edit_line.specs.EditSets.{EditsParts, base_lines, edits_of}
use Rattle.edit_line.specs.Lines.{AreOver, HaveShape, IsLine, LineParts}
use Rattle.edit_line.specs.Reductions.{lines_of, reduce_derived}
use Rattle.edit_line.specs.Shapes.{numbers_from}
use Rattle.edit_line.specs.declared.derived.Derived.{Derived}
use Rattle.edit_line.proofs.ReductionLaws.{all-reduced}
use Rattle.linear_elim.specs.Steps.{StepOverflow, pairs_count, step_result, with_more}
use Rattle.linear_elim.specs.Systems.{SystemOverflow, chosen_fields, system_at, system_of}
use Rattle.linear_elim.specs.Told.{told_system}
use Rattle.linear_elim.specs.declared.fault.SystemFault.{SystemFault}
use Rattle.linear_elim.specs.declared.fault.SystemFault.TheVariants as system
use Rattle.linear_elim.proofs.ResultLaws.{base-plain}
use Rattle.linear_elim.proofs.ShapeLaws.{HaveShape-lines}
use Rattle.elimination_bench.specs.inner.Differences.{count_of, differences, numbered_line, numbers_of, shape_with}
use Rattle.elimination_bench.specs.inner.Folds.{answer_of, fold_answer, pairs_answer, steps_answer}
use Rattle.elimination_bench.specs.inner.Texts.{IsTold, fold_text, step_text, system_fault_of}
use Rattle.elimination_bench.specs.declared.differences.Differences.{Differences}
use Rattle.bench_frame.specs.declared.fault.Fault.{Fault}
use Rattle.bench_frame.specs.declared.fault.Fault.TheVariants.{FileUnread, OutOfMemory, Overflow, Records, Rules, Unread, Usage}
use Rattle.elimination_bench.proofs.DifferenceLaws.{are-edits}

-- ---- the fields

-- of numerical fields from i on, a set that has the first so many and no others chooses these
chosen-from : (bits i n count : ℕ) → count ≤ n → ((f : ℕ) → i ≤ f → f < i + count → has_number bits f ≡ true)
    → ((f : ℕ) → has_number bits f ≡ true → f < i + count) → filter (has_number bits) (numbers_from i (shape_with n)) ≡ range_with_len i count
chosen-from bits i zero zero few all only = refl
chosen-from bits i zero (suc count) few all only = absurd (omega (arith, few))
chosen-from bits i (suc n) zero few all only =
    by (has_number bits i) refl (chosen-from bits (suc i) n zero (omega arith) (λ f from below. absurd (omega (arith, from, below)))
    (λ f has. omega (arith, only f has)))
  where
    by : (b : Bool) → has_number bits i ≡ b → filter (has_number bits) (numbers_from (suc i) (shape_with n)) ≡ []
        → (if b then i ∷ filter (has_number bits) (numbers_from (suc i) (shape_with n)) else filter (has_number bits) (numbers_from (suc i) (shape_with n)))
        ≡ []
    by true has rest = absurd (omega (arith, only i has))
    by false has rest = rest
chosen-from bits i (suc n) (suc count) few all only =
    by (has_number bits i) (all i (omega arith) (omega arith)) (chosen-from bits (suc i) n count (omega (arith, few))
    (λ f from below. all f (omega (arith, from)) (omega (arith, below))) (λ f has. omega (arith, only f has)))
  where
    by : (b : Bool) → b ≡ true → filter (has_number bits) (numbers_from (suc i) (shape_with n)) ≡ range_with_len (suc i) count
        → (if b then i ∷ filter (has_number bits) (numbers_from (suc i) (shape_with n)) else filter (has_number bits) (numbers_from (suc i) (shape_with n))) ≡ i
        ∷ range_with_len (i + 1) count
    by true has rest = rw add-one (ap (λ fs. i ∷ fs) rest)
    by false has rest = absurd (cc)

-- the set of the first fields chooses these
pub chosen-first : (bits n count : ℕ) → count ≤ n → ((f : ℕ) → has_number bits f ≡ true → f < count) → ((f : ℕ) → f < count → has_number bits f ≡ true)
    → chosen_fields (shape_with n) bits ≡ range_with_len 0 count
chosen-first bits n count few only all = chosen-from bits 0 n count few (λ f from below. all f (omega (arith, below))) (λ f has. omega (arith, only f has))

-- the next field, and those after it
pub range-next : (i count : ℕ) → i < count → range_with_len i (count - i) ≡ i ∷ range_with_len (i + 1) (count - (i + 1))
range-next i count below = let long : count - i ≡ suc (count - (i + 1)) = omega (arith, below) in ap (λ n. range_with_len i n) long

pub range-end : (i count : ℕ) → count ≤ i → range_with_len i (count - i) ≡ []
range-end i count past = let none : count - i ≡ 0 = omega (arith, past) in ap (λ n. range_with_len i n) none

-- ---- the fold's text

-- what the system of the first fields is
pub system-first : (system : Differences) (count bits : ℕ) (edits : EditsParts) → edits ≡ edits_of (shape_with (numbers_of system))
    (differences system (count_of system)) → count ≤ numbers_of system
    → ((f : ℕ) → has_number bits f ≡ true → f < count) → ((f : ℕ) → f < count → has_number bits f ≡ true) → system_at edits bits
    ≡ system_of (differences system (count_of system)) (range_with_len 0 count)
system-first system count bits edits is few only all =
    ap (λ (e : EditsParts). system_at e bits) is ∙ ap (λ fs. system_of (differences system (count_of system)) fs)
    (chosen-first bits (numbers_of system) count few only all)

-- the generated edits are as many as they are to be
pub given-count : (system : Differences) (edits : EditsParts) → edits ≡ edits_of (shape_with (numbers_of system)) (differences system (count_of system))
    → length edits.lines ≡ count_of system
given-count system edits is = ap (λ (e : EditsParts). length e.lines) is ∙ length-map-range_with_len (λ place. numbered_line system place) 0 (count_of system)

-- the text of a system that was made is the answer
pub fold-made : (system : Differences) (count given left : ℕ) (lines : List Derived) (text : List ℕ)
    → system_of (differences system (count_of system)) (range_with_len 0 count) ≡ Ok lines → given ≡ count_of system → left ≡ length lines → text
    ≡ fold_text count given left
    → fold_answer system count ≡ Ok text
fold-made system count given left lines text made given_is left_is text_is =
    ap (λ (r : Result (List Derived) SystemOverflow). answer_of r (λ lines. Ok (fold_text count (count_of system) (length lines)))) made
    ∙ ap (λ (t : List ℕ). Ok t) (sym (text_is ∙ ap (λ n. fold_text count n left) given_is ∙ ap (λ n. fold_text count (count_of system) n) left_is))

-- a fault that is handed on is the answer's, or want of memory
pub told-handed : {Q : Fault → Type 0} (result : Result (String Global) Fault) (answer : Result (List ℕ) Fault) → IsErrAnd result Q
    → ((fault : Fault) → Q fault → IsTold (Err fault) answer) → IsTold result answer
told-handed (Ok text) answer handed told = absurd handed
told-handed (Err fault) answer handed told = told fault handed

-- the fault of a system that was not made is the answer's, or want of memory
pub fold-refused : (refused : SystemFault) (fault : Fault) (made computed : Result (List Derived) SystemOverflow)
    (answer : List Derived → Result (List ℕ) Fault) → fault ≡ system_fault_of refused → made ≡ computed
    → IfSome (told_system refused) (λ o. made ≡ Err o) → IsTold (Err fault) (answer_of computed answer)
fold-refused refused fault made computed answer is same told =
    subst (λ (f : Fault). IsTold (Err f) (answer_of computed answer)) (sym is)
    (subst (λ (r : Result (List Derived) SystemOverflow). IsTold (Err (system_fault_of refused)) (answer_of r answer)) same (by refused told))
  where
    by : (e : SystemFault) → IfSome (told_system e) (λ o. made ≡ Err o) → IsTold (Err (system_fault_of e)) (answer_of made answer)
    by (system.Overflow field first second place) overflow = ap (λ (r : Result (List Derived) SystemOverflow). answer_of r answer) overflow
    by system.OutOfMemory overflow = tt

-- ---- the steps' text

-- elements before others before the answer's
more-twice : (before text : List ℕ) (rest : Result (List ℕ) Fault) → with_more (before ++ text) rest ≡ with_more before (with_more text rest)
more-twice before text (Ok more) = ap (λ (t : List ℕ). Ok t) (append_assoc before text more)
more-twice before text (Err fault) = refl

-- a step more: its text is added, and the steps that are left go on from its lines
pub steps-more : (lines next : List Derived) (field count : ℕ) (before after : List ℕ) (whole : Result (List ℕ) Fault) → field < count
    → with_more before (steps_answer lines (range_with_len field (count - field))) ≡ whole
    → step_result lines field ≡ Ok next → after ≡ before ++ step_text field (pairs_count lines field) (length next)
    → with_more after (steps_answer next (range_with_len (field + 1) (count - (field + 1)))) ≡ whole
steps-more lines next field count before after whole below so_far made added =
    let left = range_with_len (field + 1) (count - (field + 1)) in
    let text = step_text field (pairs_count lines field) (length next) in
    ap (λ (t : List ℕ). with_more t (steps_answer next left)) added
    ∙ more-twice before text (steps_answer next left)
    ∙ sym (ap (λ (r : Result (List Derived) StepOverflow). with_more before
    (answer_of r (λ next. with_more (step_text field (pairs_count lines field) (length next)) (steps_answer next left)))) made)
    ∙ sym (ap (λ fs. with_more before (steps_answer lines fs)) (range-next field count below))
    ∙ so_far

-- past the last step the text is the answer
pub steps-end : (lines : List Derived) (field count : ℕ) (text : List ℕ) (whole : Result (List ℕ) Fault) → count ≤ field
    → with_more text (steps_answer lines (range_with_len field (count - field))) ≡ whole → whole ≡ Ok text
steps-end lines field count text whole past so_far =
    sym so_far ∙ ap (λ fs. with_more text (steps_answer lines fs)) (range-end field count past) ∙ ap (λ (t : List ℕ). Ok t) (append-nil text)

-- the fault of one step is that of the steps that begin with it
pub steps-stop : (fault : Fault) (lines : List Derived) (field count : ℕ) (before : List ℕ) (whole : Result (List ℕ) Fault) → field < count
    → with_more before (steps_answer lines (range_with_len field (count - field))) ≡ whole
    → IsTold (Err fault) (steps_answer lines (field ∷ [])) → IsTold (Err fault) whole
steps-stop fault lines field count before whole below so_far told =
    subst (λ (r : Result (List ℕ) Fault). IsTold (Err fault) r) (sym (ap (λ fs. with_more before (steps_answer lines fs)) (range-next field count below))
    ∙ so_far) (by fault (step_result lines field) told)
  where
    by : (e : Fault) (r : Result (List Derived) StepOverflow)
        → IsTold (Err e) (answer_of r (λ next. with_more (step_text field (pairs_count lines field) (length next)) (Ok [])))
        → IsTold (Err e) (with_more before
        (answer_of r (λ next. with_more (step_text field (pairs_count lines field) (length next))
        (steps_answer next (range_with_len (field + 1) (count - (field + 1)))))))
    by Usage (Ok next) is = absurd (cc)
    by Usage (Err overflow) is = absurd (cc)
    by Overflow (Ok next) is = absurd (cc)
    by Overflow (Err overflow) is = refl
    by OutOfMemory r is = tt
    by Rules r is = absurd is
    by Records r is = absurd is
    by FileUnread r is = absurd is
    by Unread r is = absurd is

-- the steps begin with all fields and no text
pub steps-start : (system : Differences) (count : ℕ) (lines : List Derived) (edits : EditsParts) → edits
    ≡ edits_of (shape_with (numbers_of system)) (differences system (count_of system)) → lines ≡ reduce_derived (base_lines edits.lines)
    → with_more [] (steps_answer lines (range_with_len 0 (count - 0))) ≡ pairs_answer system count
steps-start system count lines edits is lines_are = same ∙ by (pairs_answer system count)
  where
    all : count - 0 ≡ count
    all = omega arith

    same : with_more [] (steps_answer lines (range_with_len 0 (count - 0))) ≡ with_more [] (pairs_answer system count)
    same =
        ap (λ n. with_more [] (steps_answer lines (range_with_len 0 n))) all
        ∙ ap (λ (ls : List Derived). with_more [] (steps_answer ls (range_with_len 0 count)))
        (lines_are ∙ ap (λ (e : EditsParts). reduce_derived (base_lines e.lines)) is)

    by : (r : Result (List ℕ) Fault) → with_more [] r ≡ r
    by (Ok text) = refl
    by (Err fault) = refl

-- the lines that the steps begin with are over the generated fields
pub start-over : (system : Differences) (lines : List Derived) (edits : EditsParts) → edits
    ≡ edits_of (shape_with (numbers_of system)) (differences system (count_of system)) → lines ≡ reduce_derived (base_lines edits.lines)
    → All IsLine (lines_of lines)
    → HaveShape (shape_with (numbers_of system)) (lines_of lines)
start-over system lines edits is lines_are are =
    let shape = shape_with (numbers_of system) in
    let given = differences system (count_of system) in
    let fit = are-edits system (count_of system) shape given refl refl in
    let over = All-map (λ (line : LineParts). line.shape ≡ shape) (λ (e : ℕ × LineParts). e.1) given fit.over in
    HaveShape-lines shape (lines_of lines) are
    (all-reduced (λ (line : LineParts). line.shape ≡ shape) (base_lines given) lines (lines_are
    ∙ ap (λ (e : EditsParts). reduce_derived (base_lines e.lines)) is) (subst (λ (ls : List LineParts). AreOver shape ls) (sym (base-plain given)) over))
