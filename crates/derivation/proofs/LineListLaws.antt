use Rattle.std.proofs.Common.{◌≡◌, ℕ, suc, ◌+◌, ◌<◌, ◌⊎◌, inl, inr, List, [], ◌∷◌, ◌++◌, Option, Some, None, Result, Ok, Err, drop, get_or, length, slice_get}
use Rattle.std.proofs.Common.{ap, sym, subst, ◌∙◌, add-one}
use Rattle.std.proofs.Math.Seq.{drop-cons}
use Rattle.std.specs.Option.{ok_or}
use Rattle.foundation.specs.Results.{◌>>=◌}
use Rattle.edit_line.specs.Lines.{AreOver, LineParts}
use Rattle.edit_line.specs.Reductions.{IsIn}
use Rattle.edit_line.proofs.Members.{all-in, in-either, in-get}
use Rattle.derivation.specs.LineLists.{AllFollowFrom, line_by, lines_from}
use Rattle.derivation.specs.Premises.{Premises}
use Rattle.derivation.specs.SharedLines.{FollowLaw}
use Rattle.derivation.specs.ValidSteps.{combined_line, given_line}
use Rattle.derivation.specs.declared.proved.Proved.TheVariants as proved
use Rattle.derivation.specs.declared.step.Step.{Step}
use Rattle.derivation.specs.declared.step.Step.TheVariants as step
use Rattle.derivation.proofs.CoverLaws.{was-some}
use Rattle.derivation.proofs.TableLaws.{first-line}
use Rattle.derivation.proofs.Soundness.{IsKnown, combine-known, given-known, was-line}

-- The lines of steps each of which proves one.

-- all these lines are shown, and over the fields
abbrev pub AllLinesKnown : Premises → List LineParts → Type 0
AllLinesKnown p lines = (line : LineParts) → IsIn line lines → IsKnown p (proved.Line line)

module _ (p : Premises) (over : AreOver p.shape p.given) where
  -- the line of a step is known where those before it are
  line-known : (lines : List LineParts) (one : Step) (line : LineParts) → AllLinesKnown p lines → line_by p lines one ≡ Some line → IsKnown p (proved.Line line)
  line-known lines (step.Given place) line known e = given-known p over place (proved.Line line) (was-line (given_line p place) line e)
  line-known lines (step.Combine a m b n g) line known e =
      let (s, first, later) = was-some (slice_get lines a) _ line e in
      let (t, second, last) = was-some (slice_get lines b) _ line later in
      combine-known p m n g s t (proved.Line line) (known s (in-get s lines a first)) (known t (in-get t lines b second))
      (was-line (combined_line m n g s t) line last)
  line-known lines (step.Fail a) line known e = absurd (cc)
  line-known lines (step.Cover field parts) line known e = absurd (cc)
  line-known lines (step.Fix field part) line known e = absurd (cc)

  -- and stands behind them
  pub more-lines-known : (lines : List LineParts) (one : Step) (line : LineParts) → AllLinesKnown p lines → line_by p lines one ≡ Some line
      → AllLinesKnown p (lines ++ line ∷ [])
  more-lines-known lines one line known e other there = either (in-either other lines (line ∷ []) there)
    where
      either : IsIn other lines ⊎ IsIn other (line ∷ []) → IsKnown p (proved.Line other)
      either (inl before) = known other before
      either (inr (inl same)) = subst (λ (l : LineParts). IsKnown p (proved.Line l)) (sym same) (line-known lines one line known e)
      either (inr (inr none)) = absurd none

-- what is known of lines
pub known-follow : (p : Premises) (lines : List LineParts) → AllLinesKnown p lines → AllFollowFrom p lines
known-follow p lines known line there = (known line there).0

pub known-over : (p : Premises) (lines : List LineParts) → AllLinesKnown p lines → AreOver p.shape lines
known-over p lines known = all-in (λ (line : LineParts). line.shape ≡ p.shape) lines (λ line there. (known line there).1)

-- the loop over the steps
module _ (p : Premises) (steps : List Step) (lines : List LineParts) (i : ℕ) (whole : Result (List LineParts) ℕ)
    (before : lines_from p lines (drop i steps) ≡ whole) where
  -- the step at the place is the next one
  pub line-next : (one : Step) → i < length steps → one ≡ get_or steps i one
      → (ok_or (line_by p lines one) (length lines) >>= (λ x. lines_from p (lines ++ x ∷ []) (drop (suc i) steps))) ≡ whole
  line-next one below is = ap (λ (s : Step). (ok_or (line_by p lines s) (length lines) >>= (λ x. lines_from p (lines ++ x ∷ []) (drop (suc i) steps)))) is
      ∙ sym (ap (λ (ss : List Step). lines_from p lines ss) (drop-cons steps i one below)) ∙ before

  -- a valid one goes on with its line
  pub line-more : (one : Step) (line : LineParts) → i < length steps → one ≡ get_or steps i one → Some line ≡ line_by p lines one
      → lines_from p (lines ++ line ∷ []) (drop (i + 1) steps) ≡ whole
  line-more one line below is some =
      rw (add-one) (ap (λ (o : Option LineParts). (ok_or o (length lines) >>= (λ x. lines_from p (lines ++ x ∷ []) (drop (suc i) steps)))) some
      ∙ line-next one below is)

  -- one that gives no line ends in the fault that names it
  pub line-missing : (one : Step) → i < length steps → one ≡ get_or steps i one → None ≡ line_by p lines one → whole ≡ Err (length lines)
  line-missing one below is none =
      sym (ap (λ (o : Option LineParts). (ok_or o (length lines) >>= (λ x. lines_from p (lines ++ x ∷ []) (drop (suc i) steps)))) none
      ∙ line-next one below is)

-- all lines of a table are known
all-lines-known : (p : Premises) → AreOver p.shape p.given → (lines : List LineParts) (steps : List Step) (all : List LineParts) → AllLinesKnown p lines
    → lines_from p lines steps ≡ Ok all → AllLinesKnown p all
all-lines-known p over lines [] all known e = let same : lines ≡ all = cc in subst (λ (ls : List LineParts). AllLinesKnown p ls) same known
all-lines-known p over lines (one ∷ steps) all known e =
    let (line, gives, later) = first-line p lines one steps all e in
    all-lines-known p over (lines ++ line ∷ []) steps all (more-lines-known p over lines one line known gives) later

pub table-follows : FollowLaw
table-follows p steps lines over are =
    let known = all-lines-known p over [] steps lines (λ line none. absurd none) are in
    (known-follow p lines known, known-over p lines known)
