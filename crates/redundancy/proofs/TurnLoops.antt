use Rattle.std.proofs.Common.{◌≡◌, inl, inr, ℕ, zero, suc, ◌+◌, ◌<◌, ◌≤◌, true, if◌then◌else◌, nat_lt, false, List, [], ◌∷◌, All, IfNone, IfOk, Option, Some}
use Rattle.std.proofs.Common.{None, Result, Ok, Err, drop, get_or, length, refl, sym, ap, ◌∙◌, subst, arith}
use Rattle.std.proofs.lemmas.List.{at_drop_all, at_drop_more}
use Rattle.edit_model.specs.Surveys.{IsField}
use Rattle.edit_model.specs.declared.field.Field.{Field}
use Rattle.edit_model.specs.declared.value.Value.{Value}
use Rattle.edit_line.specs.CodeFields.{TakesCodes}
use Rattle.edit_line.specs.Lines.{HasShape, HaveShape, LineParts}
use Rattle.edit_line.specs.Reductions.{AreOwn, IsIn, lines_of, reduce_derived}
use Rattle.edit_line.specs.Shapes.{Domain, code_fields, has_field, number_fields, shape_of, whole_sets}
use Rattle.edit_line.specs.declared.derived.Derived.{Derived}
use Rattle.edit_line.proofs.FieldLists.{there-has}
use Rattle.edit_line.proofs.PointCodes.{takes-codes}
use Rattle.edit_line.proofs.ReductionLaws.{all-reduced}
use Rattle.linear_elim.specs.Steps.{pairs_count, step_result}
use Rattle.linear_elim.proofs.OwnLoops.{own-step}
use Rattle.linear_elim.proofs.ResultLaws.{HaveShape-result}
use Rattle.categ_combine.specs.BoxLists.{AreBoxesOver, sets_of}
use Rattle.categ_combine.specs.Covers.{cover_count, covered_from}
use Rattle.categ_combine.specs.FailingBoxes.{LineFault, failing_from}
use Rattle.categ_combine.specs.declared.box_from.BoxFrom.{BoxFrom}
use Rattle.categ_combine.proofs.OverLaws.{over-covered}
use Rattle.edit_paths.specs.Histories.{History, with_boxes, with_lines}
use Rattle.redundancy.specs.Verdicts.{within}
use Rattle.redundancy.specs.declared.verdict.Verdict.{Verdict}
use Rattle.redundancy.specs.declared.verdict.Verdict.TheVariants.{Kept}
use Rattle.redundancy.specs.declared.verdict.Why.TheVariants.{Budget, Needed, Overflow}
use Rattle.redundancy.specs.inner.Turns.{box_walk, code_end, code_walk, lines_verdict, number_end, number_walk}
use Rattle.redundancy.proofs.TurnLaws.{code-ends, code-goes, number-ends, number-goes}

-- The loops of the walk.

within-budget : (budget work : ℕ) (v : Verdict) → work ≤ budget → within budget work v ≡ v
within-budget budget work v few = ap (λ b. if b then Kept Budget else v) low
  where
    low : nat_lt budget work ≡ false
    low = grind (arith, few)

-- ---- the numerical fields

-- before the field at place i is eliminated
pub record IsWalking (shape : List Domain) (row : List Value) (budget : ℕ) (start : List Derived) (numbers : List ℕ) (i : ℕ) (spent : ℕ) (history : History)
    (lines : List Derived) : Type 0 where
  pub over : HaveShape shape (lines_of lines)
  pub own : AreOwn (lines_of lines)
  pub rest : number_walk shape row budget spent history lines (drop i numbers) ≡ number_walk shape row budget 1 (with_lines [] start) start numbers
  pub few : spent ≤ budget

module _ (shape : List Domain) (row : List Value) (budget : ℕ) (start : List Derived) where
  pub walking-start : (spent : ℕ) (history : History) (lines : List Derived) (numbers : List ℕ) → 1 ≤ budget → HaveShape shape (lines_of start)
      → AreOwn (lines_of start) → lines ≡ start → history ≡ with_lines [] start → spent ≡ 1 → IsWalking shape row budget start numbers 0 spent history lines
  walking-start spent history lines numbers some over own same made one = record {
    over = subst (λ (ls : List Derived). HaveShape shape (lines_of ls)) (sym same) over;
    own = subst (λ (ls : List Derived). AreOwn (lines_of ls)) (sym same) own;
    rest =
        ap (λ (ls : List Derived). number_walk shape row budget spent history ls numbers) same
        ∙ ap (λ (h : History). number_walk shape row budget spent h start numbers) made
        ∙ ap (λ n. number_walk shape row budget n (with_lines [] start) start numbers) one;
    few = omega (arith, some, one);
  }

  -- the verdict of the walk, where these are its numerical fields
  all-walk : (numbers : List ℕ) → 1 ≤ budget → numbers ≡ number_fields shape → number_walk shape row budget 1 (with_lines [] start) start numbers
      ≡ lines_verdict shape row budget start
  all-walk numbers some are =
      ap (λ (fs : List ℕ). number_walk shape row budget 1 (with_lines [] start) start fs) are
      ∙ sym (within-budget budget 1 (number_walk shape row budget 1 (with_lines [] start) start (number_fields shape)) some)

  module _ (numbers : List ℕ) (i spent : ℕ) (history : History) (lines : List Derived) (before : IsWalking shape row budget start numbers i spent history lines)
      (below : i < length numbers) where
    here : number_walk shape row budget spent history lines (get_or numbers i 0 ∷ drop (i + 1) numbers)
        ≡ number_walk shape row budget 1 (with_lines [] start) start numbers
    here = sym (at_drop_more (λ (fs : List ℕ). number_walk shape row budget spent history lines fs) numbers i 0 below) ∙ before.rest

    pub walking-ends : (v : Verdict) → number_end (whole_sets shape) budget spent history lines (get_or numbers i 0) ≡ Some v → 1 ≤ budget → numbers
        ≡ number_fields shape → v ≡ lines_verdict shape row budget start
    walking-ends v e some are = sym (number-ends shape row budget spent history lines (get_or numbers i 0) (drop (i + 1) numbers) v e) ∙ here
        ∙ all-walk numbers some are

    pub walking-turn : (more : ℕ) (later : History) (next : List Derived) → number_end (whole_sets shape) budget spent history lines (get_or numbers i 0) ≡ None
        → step_result lines (get_or numbers i 0) ≡ Ok next
        → later ≡ with_lines history next → more ≡ spent + (1 + pairs_count lines (get_or numbers i 0)) → more ≤ budget
        → IsWalking shape row budget start numbers (i + 1) more later next
    walking-turn more later next none stepped later_is more_is few = record {
      over = HaveShape-result shape lines (get_or numbers i 0) next stepped before.over;
      own = own-step lines (get_or numbers i 0) next stepped;
      rest =
          ap (λ n. number_walk shape row budget n later next (drop (i + 1) numbers)) more_is
          ∙ ap (λ (h : History). number_walk shape row budget (spent + (1 + pairs_count lines (get_or numbers i 0))) h next (drop (i + 1) numbers)) later_is
          ∙ sym (number-goes shape row budget spent history lines (get_or numbers i 0) (drop (i + 1) numbers) next none stepped) ∙ here;
      few = few;
    }

  pub walking-over : (numbers : List ℕ) (i spent : ℕ) (history : History) (lines : List Derived)
      → IsWalking shape row budget start numbers i spent history lines → length numbers ≤ i → numbers ≡ number_fields shape → 1 ≤ budget
      → box_walk shape budget spent history lines (failing_from 0 lines row []) ≡ lines_verdict shape row budget start
  walking-over numbers i spent history lines before all are some =
      sym (at_drop_all (λ (fs : List ℕ). number_walk shape row budget spent history lines fs) numbers i all) ∙ before.rest ∙ all-walk numbers some are

-- ---- the categorical fields

-- before the field at place i is eliminated
pub record IsCoding (fields : List Field) (budget : ℕ) (verdict : Verdict) (codes : List ℕ) (i : ℕ) (spent : ℕ) (history : History) (boxes : List BoxFrom) :
    Type 0 where
  pub over : AreBoxesOver (shape_of fields) boxes
  pub rest : code_walk (shape_of fields) budget spent history boxes (drop i codes) ≡ verdict
  pub few : spent ≤ budget

module _ (fields : List Field) (are_fields : All IsField fields) (budget : ℕ) (verdict : Verdict) (codes : List ℕ) (are : codes ≡ code_fields (shape_of fields))
    (i spent : ℕ) (history : History) (boxes : List BoxFrom) (before : IsCoding fields budget verdict codes i spent history boxes) where
  module _ (below : i < length codes) where
    categorical : has_field (code_fields (shape_of fields)) (get_or codes i 0) ≡ true
    categorical = there-has (get_or codes i 0) (code_fields (shape_of fields)) (subst (λ (fs : List ℕ). IsIn (get_or codes i 0) fs) are (stands codes i below))
      where
        stands : (fs : List ℕ) (k : ℕ) → k < length fs → IsIn (get_or fs k 0) fs
        stands [] k below = absurd (omega arith)
        stands (g ∷ fs) zero below = inl refl
        stands (g ∷ fs) (suc k) below = inr (stands fs k (omega arith))

    pub coding-takes : TakesCodes (shape_of fields) (get_or codes i 0)
    coding-takes = takes-codes fields (get_or codes i 0) are_fields categorical

    here_code : code_walk (shape_of fields) budget spent history boxes (get_or codes i 0 ∷ drop (i + 1) codes) ≡ verdict
    here_code = sym (at_drop_more (λ (fs : List ℕ). code_walk (shape_of fields) budget spent history boxes fs) codes i 0 below) ∙ before.rest

    pub coding-ends : (v : Verdict) → code_end (shape_of fields) budget spent history boxes (get_or codes i 0) ≡ Some v → v ≡ verdict
    coding-ends v e = sym (code-ends (shape_of fields) budget spent history boxes (get_or codes i 0) (drop (i + 1) codes) v e) ∙ here_code

    pub coding-turn : (more : ℕ) (later : History) (next : List BoxFrom) → code_end (shape_of fields) budget spent history boxes (get_or codes i 0) ≡ None
        → next ≡ covered_from (shape_of fields) boxes (get_or codes i 0)
        → later ≡ with_boxes history (get_or codes i 0) next → more ≡ spent + (1 + cover_count (shape_of fields) (sets_of boxes) (get_or codes i 0))
        → more ≤ budget → IsCoding fields budget verdict codes (i + 1) more later next
    coding-turn more later next none next_is later_is more_is few = record {
      over = subst (λ (bs : List BoxFrom). AreBoxesOver (shape_of fields) bs) (sym next_is)
          (over-covered (shape_of fields) boxes (get_or codes i 0) before.over);
      rest =
          ap (λ n. code_walk (shape_of fields) budget n later next (drop (i + 1) codes)) more_is
          ∙ ap (λ (h : History). code_walk (shape_of fields) budget (spent + (1 + cover_count (shape_of fields) (sets_of boxes) (get_or codes i 0))) h next
          (drop (i + 1) codes)) later_is
          ∙ ap (λ (bs : List BoxFrom). code_walk (shape_of fields) budget (spent + (1 + cover_count (shape_of fields) (sets_of boxes) (get_or codes i 0)))
          (with_boxes history (get_or codes i 0) bs) bs (drop (i + 1) codes)) next_is
          ∙ sym (code-goes (shape_of fields) budget spent history boxes (get_or codes i 0) (drop (i + 1) codes) none) ∙ here_code;
      few = few;
    }

  pub coding-over : length codes ≤ i → Kept Needed ≡ verdict
  coding-over all = sym (at_drop_all (λ (fs : List ℕ). code_walk (shape_of fields) budget spent history boxes fs) codes i all) ∙ before.rest

-- ---- what the calls tell

pub if_none : {X : Type 0} (P : Type 0) (o : Option X) → o ≡ None → IfNone o P → P
if_none P None is h = h
if_none P (Some x) is h = absurd (cc)

-- where a sum leaves the range, the line is kept
pub box-overflow : (shape : List Domain) (budget spent : ℕ) (history : History) (lines : List Derived) (told : Result (List BoxFrom) LineFault)
    (fault : LineFault) → told ≡ Err fault → Kept Overflow ≡ box_walk shape budget spent history lines told
box-overflow shape budget spent history lines told fault e = sym (ap (λ r. box_walk shape budget spent history lines r) e)

pub told-same : {E : Type 0} (r : Result Verdict E) (v w : Verdict) → v ≡ w → IfOk r (λ told. told ≡ v) → IfOk r (λ told. told ≡ w)
told-same (Ok told) v w same is = is ∙ same
told-same (Err e) v w same is = tt

-- reduced lines are over the fields of all
pub have-reduced : (shape : List Domain) (lines : List Derived) → HaveShape shape (lines_of lines) → HaveShape shape (lines_of (reduce_derived lines))
have-reduced shape lines over = all-reduced (λ (l : LineParts). HasShape shape l) lines (reduce_derived lines) refl over
