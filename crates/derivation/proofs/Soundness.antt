use Rattle.std.proofs.Common.{◌≡◌, ℕ, zero, suc, ◌⊎◌, inl, inr, ◌<◌, ◌==◌, ◌&&◌, not, Bool, true, false, if◌then◌else◌, List, [], ◌∷◌, ◌++◌, Option, Some, None}
use Rattle.std.proofs.Common.{Result, Ok, Err, length, ℤ, slice_get, slice_index_or, slice_set, refl, sym, ap, ◌∙◌, subst, arith}
use Rattle.std.proofs.lemmas.Bool.Decides.{Decides-eqb}
use Rattle.std.specs.Option.{ok_or}
use Rattle.foundation.specs.Results.{◌>>=◌}
use Rattle.foundation.specs.Options.{◌>>?◌}
use Rattle.edit_model.specs.Corrections.{differs_from}
use Rattle.edit_model.specs.FieldSets.{has_number}
use Rattle.edit_model.specs.Points.{Point, has_code}
use Rattle.edit_model.specs.Rows.{IsRow, value_of}
use Rattle.edit_model.specs.declared.field.Field.{Field}
use Rattle.edit_model.specs.declared.value.Value.{Value}
use Rattle.edit_model.specs.declared.value.Value.TheVariants.{Bad, Code, Number}
use Rattle.edit_line.specs.Boxes.{BoxParts}
use Rattle.edit_line.specs.CodeFields.{place_of, size_of, whole_of}
use Rattle.edit_line.specs.Combinations.{may_combine, sum_of}
use Rattle.edit_line.specs.Divisors.{divided_by}
use Rattle.edit_line.specs.Lines.{AllHold, AreOver, LineHolds, LineParts}
use Rattle.edit_line.specs.Reductions.{IsIn}
use Rattle.edit_line.specs.Sets.{AreCodesIn, none_is_empty, are_codes_in}
use Rattle.edit_line.specs.Shapes.{Domain, HasCodes, code_fields, codes_at, has_field, number_fields, shape_of, whole_sets}
use Rattle.edit_line.specs.Sums.{stands_only}
use Rattle.edit_line.proofs.Members.{in-all, in-either, in-get}
use Rattle.edit_line.proofs.OtherFields.{inside_but}
use Rattle.edit_line.proofs.BoolLaws.{both_true}
use Rattle.edit_line.proofs.SetLaws.{is_inside-Decides}
use Rattle.edit_line.proofs.TakenCombinations.{combined-holds}
use Rattle.derivation.specs.Premises.{AgreesAt, HasKept, Premises, usable_lines}
use Rattle.derivation.specs.Shown.{IsOver, IsShown}
use Rattle.derivation.specs.ValidSteps.{as_box, as_line, combined_line, common_from, covered_box, failed_box, fails_at_kept, fixed_box, given_line, has_value}
use Rattle.derivation.specs.ValidSteps.{last_from, last_proved, only_if, proved_by, proved_from, steps_result, whole_box}
use Rattle.derivation.specs.declared.proved.Proved.{Proved}
use Rattle.derivation.specs.declared.proved.Proved.TheVariants as proved
use Rattle.derivation.specs.declared.step.Step.{Step}
use Rattle.derivation.specs.declared.step.Step.TheVariants as step
use Rattle.derivation.proofs.CoverLaws.{code-at, code-below, cover-part, inside-put_back, was-some, was-true}
use Rattle.derivation.proofs.FailLaws.{failed-outside}

-- What valid steps prove is shown.

-- ---- lists

-- a given line that is usable
usable-in : (given : List LineParts) (usable : List Bool) (place : ℕ) (line : LineParts) → slice_index_or usable place false ≡ true → slice_get given place
    ≡ Some line → IsIn line (usable_lines given usable)
usable-in [] usable place line is e = absurd (cc)
usable-in (g ∷ given) [] place line is e = absurd (cc)
usable-in (g ∷ given) (true ∷ usable) zero line is e = inl (cc)
usable-in (g ∷ given) (false ∷ usable) zero line is e = absurd (cc)
usable-in (g ∷ given) (true ∷ usable) (suc place) line is e = inr (usable-in given usable place line is e)
usable-in (g ∷ given) (false ∷ usable) (suc place) line is e = usable-in given usable place line is e

-- the last of what was proved is one of it
last-in : (before : Option Proved) (all : List Proved) (last : Proved) → last_from before all ≡ Ok last → (before ≡ Some last) ⊎ IsIn last all
last-in None [] last e = absurd (cc)
last-in (Some x) [] last e = inl (cc)
last-in before (y ∷ all) last e = by (last-in (Some y) all last e)
  where
    by : (Some y ≡ Some last) ⊎ IsIn last all → (before ≡ Some last) ⊎ IsIn last (y ∷ all)
    by (inl same) = inr (inl (cc))
    by (inr there) = inr (inr there)

-- ---- what was proved

pub was-line : (o : Option Proved) (line : LineParts) → as_line o ≡ Some line → o ≡ Some (proved.Line line)
was-line None line e = absurd (cc)
was-line (Some (proved.Box code_box)) line e = absurd (cc)
was-line (Some (proved.Line s)) line e = let same : s ≡ line = cc in ap (λ (l : LineParts). Some (proved.Line l)) same

pub was-box : (o : Option Proved) (sets : List ℕ) → as_box o ≡ Some sets → (code_box : BoxParts) × (o ≡ Some (proved.Box code_box)) × (code_box.sets ≡ sets)
was-box None sets e = absurd (cc)
was-box (Some (proved.Line line)) sets e = absurd (cc)
was-box (Some (proved.Box code_box)) sets e = (code_box, refl, cc)

-- a set that has the record's code has the code of a point that agrees with it
value-code : (set : ℕ) (v : Value) (point : Point) (f : ℕ) → has_value set v ≡ true → differs_from v point f ≡ false → has_code set (point.code f) ≡ true
value-code set Bad point f there agrees = absurd (cc)
value-code set (Number x) point f there agrees = absurd (cc)
value-code set (Code code) point f there agrees = by (code == point.code f) refl agrees
  where
    by : (b : Bool) → (code == point.code f) ≡ b → not b ≡ false → has_code set (point.code f) ≡ true
    by true e h = ap (λ c. has_code set c) (sym ((Decides-eqb code (point.code f)).0 e)) ∙ there
    by false e h = absurd (cc)

-- the line, or the box, is shown, and is over the fields
abbrev pub IsKnown : Premises → Proved → Type 0
IsKnown p x = IsShown p x × IsOver p.shape x

-- all that was proved is
abbrev pub AllKnown : Premises → List Proved → Type 0
AllKnown p earlier = (x : Proved) → IsIn x earlier → IsKnown p x

module _ (p : Premises) where
  line-known : (earlier : List Proved) (place : ℕ) (line : LineParts) → AllKnown p earlier → as_line (slice_get earlier place) ≡ Some line
      → IsKnown p (proved.Line line)
  line-known earlier place line known e = known (proved.Line line) (in-get (proved.Line line) earlier place (was-line (slice_get earlier place) line e))

  -- codes in an earlier box are forbidden
  box-known : (earlier : List Proved) (place : ℕ) (sets : List ℕ) → AllKnown p earlier → as_box (slice_get earlier place) ≡ Some sets
      → (point : Point) → HasCodes 0 p.shape point → AgreesAt p.row p.kept point → AllHold (usable_lines p.given p.usable) point
      → are_codes_in sets (codes_at p.shape point) ≡ true → ⊥
  box-known earlier place sets known e point held agrees hold inside =
      let (code_box, found, same) = was-box (slice_get earlier place) sets e in
      let (shown, is_over) = known (proved.Box code_box) (in-get (proved.Box code_box) earlier place found) in
      shown point held agrees hold ((is_inside-Decides code_box.sets (codes_at p.shape point)).0
      (ap (λ (s : List ℕ). are_codes_in s (codes_at p.shape point)) same ∙ inside))

  -- a box that is made whole at a field is shown where no such point has its codes in it
  whole-known : (field : ℕ) (sets : List ℕ)
      → ((point : Point) → HasCodes 0 p.shape point → AgreesAt p.row p.kept point → AllHold (usable_lines p.given p.usable) point
      → inside_but (place_of p.shape field) (whole_of p.shape field) (codes_at p.shape point) sets ≡ true → ⊥) → IsKnown p (whole_box p.shape field sets)
  whole-known field sets none = (
    λ point held agrees hold inside. none point held agrees hold
        ((is_inside-Decides (slice_set sets (place_of p.shape field) (whole_of p.shape field)) (codes_at p.shape point)).1 inside),
    refl,
  )

  -- ---- the kinds of steps

  pub given-known : AreOver p.shape p.given → (place : ℕ) (x : Proved) → given_line p place ≡ Some x → IsKnown p x
  given-known over place x e = by (slice_index_or p.usable place false) refl e
    where
      by : (b : Bool) → slice_index_or p.usable place false ≡ b → (if b then (slice_get p.given place >>? (λ line. Some (proved.Line line))) else None) ≡ Some x
          → IsKnown p x
      by false is h = absurd (cc)
      by true is h =
          let (line, found, made) = was-some (slice_get p.given place) (λ line. Some (proved.Line line)) x h in
          let same : proved.Line line ≡ x = cc in
          subst (λ (y : Proved). IsKnown p y) same (
            λ point hold. in-all (λ (l : LineParts). LineHolds l point) line (usable_lines p.given p.usable) hold
                (usable-in p.given p.usable place line is found),
            in-all (λ (l : LineParts). l.shape ≡ p.shape) line p.given over (in-get line p.given place found),
          )

  pub combine-known : (m n g : ℤ) (s t : LineParts) (x : Proved) → IsKnown p (proved.Line s) → IsKnown p (proved.Line t) → combined_line m n g s t ≡ Some x
      → IsKnown p x
  combine-known m n g s t x (s_shown, s_over) (t_shown, t_over) e =
      let (may, same) = was-true (may_combine m n g s t) (proved.Line (divided_by g (sum_of m n s t))) x e in
      subst (λ (y : Proved). IsKnown p y) same (
        λ point hold. combined-holds m n g s t (t_over ∙ sym s_over) may point (s_shown point hold)
            (t_shown point hold),
        s_over,
      )

  fail-known : (fields : List Field) → p.shape ≡ shape_of fields → IsRow fields p.row → HasKept p.row p.kept → (line : LineParts) (x : Proved)
      → IsKnown p (proved.Line line) → failed_box p line ≡ Some x → IsKnown p x
  fail-known fields shape are has line x (shown, is_over) e =
      let (fails, same) = was-true (fails_at_kept p.row p.kept line) _ x e in
      let (all, failed) = both_true (stands_only (has_number p.kept) (number_fields line.shape) line.factors) _ fails in
      subst (λ (y : Proved). IsKnown p y) same (
        λ point held agrees hold inside.
            failed-outside fields p.row p.kept line are has (is_over ∙ shape) all failed point agrees (shown point hold)
            (subst (λ (s : List Domain). AreCodesIn line.sets (codes_at s point)) (sym is_over) inside),
        refl,
      )

  cover-known : (earlier : List Proved) (field : ℕ) (parts : List ℕ) (x : Proved) → AllKnown p earlier → covered_box p earlier field parts ≡ Some x
      → IsKnown p x
  cover-known earlier field parts x known e = by (has_field (code_fields p.shape) field && (length parts == size_of p.shape field)) refl e
    where
      by : (b : Bool) → (has_field (code_fields p.shape) field && (length parts == size_of p.shape field)) ≡ b
          → (if b
          then (common_from earlier (place_of p.shape field) 0 parts (whole_sets p.shape) >>?
          (λ common. only_if (none_is_empty (slice_set common (place_of p.shape field) (whole_of p.shape field))) (whole_box p.shape field common)))
          else None)
          ≡ Some x
          → IsKnown p x
      by false is h = absurd (cc)
      by true is h =
          let (there, sized) = both_true (has_field (code_fields p.shape) field) _ is in
          let (common, made, rest) = was-some (common_from earlier (place_of p.shape field) 0 parts (whole_sets p.shape)) _ x h in
          let (full, same) = was-true (none_is_empty (slice_set common (place_of p.shape field) (whole_of p.shape field))) (whole_box p.shape field common) x
          rest in
          subst (λ (y : Proved). IsKnown p y) same (whole-known field common (λ point held agrees hold inside.
          let below : slice_index_or (codes_at p.shape point) (place_of p.shape field) 0 < length parts =
          omega (
            arith,
            code-at p.shape point field there,
            code-below p.shape point field there held,
            (Decides-eqb (length parts) (size_of p.shape field)).0
                sized,
          ) in
          let (part, sets, found, in_part) = cover-part earlier (place_of p.shape field) (whole_of p.shape field) (codes_at p.shape point) parts
          (whole_sets p.shape) common below made inside in
          box-known earlier part sets known found point held agrees hold in_part))

  fix-known : (earlier : List Proved) (field part : ℕ) (x : Proved) → AllKnown p earlier → fixed_box p earlier field part ≡ Some x → IsKnown p x
  fix-known earlier field part x known e = by (has_field (code_fields p.shape) field && has_number p.kept field) refl e
    where
      by : (b : Bool) → (has_field (code_fields p.shape) field && has_number p.kept field) ≡ b
          → (if b
          then (as_box (slice_get earlier part) >>? (λ sets. only_if (has_value (slice_index_or sets (place_of p.shape field) 0) (value_of p.row field))
          (whole_box p.shape field sets)))
          else None)
          ≡ Some x
          → IsKnown p x
      by false is h = absurd (cc)
      by true is h =
          let (there, keeps) = both_true (has_field (code_fields p.shape) field) _ is in
          let (sets, found, rest) = was-some (as_box (slice_get earlier part)) _ x h in
          let (has_it, same) = was-true (has_value (slice_index_or sets (place_of p.shape field) 0) (value_of p.row field)) (whole_box p.shape field sets) x
          rest in
          subst (λ (y : Proved). IsKnown p y) same (whole-known field sets (λ point held agrees hold inside.
          let own = value-code (slice_index_or sets (place_of p.shape field) 0) (value_of p.row field) point field has_it (agrees field keeps) in
          let at_place = ap (λ c. has_code (slice_index_or sets (place_of p.shape field) 0) c) (code-at p.shape point field there) ∙ own in
          box-known earlier part sets known found point held agrees hold (inside-put_back (place_of p.shape field) (whole_of p.shape field) sets
          (codes_at p.shape point) at_place inside)))

-- ---- lists of steps

module _ (p : Premises) (fields : List Field) (shape : p.shape ≡ shape_of fields) (are : IsRow fields p.row) (has : HasKept p.row p.kept)
    (over : AreOver p.shape p.given) where
  step-known : (earlier : List Proved) (one : Step) (x : Proved) → AllKnown p earlier → proved_by p earlier one ≡ Some x → IsKnown p x
  step-known earlier (step.Given place) x known e = given-known p over place x e
  step-known earlier (step.Combine a m b n g) x known e =
      let (s, first, later) = was-some (as_line (slice_get earlier a)) _ x e in
      let (t, second, last) = was-some (as_line (slice_get earlier b)) _ x later in
      combine-known p m n g s t x (line-known p earlier a s known first) (line-known p earlier b t known second) last
  step-known earlier (step.Fail a) x known e =
      let (line, found, rest) = was-some (as_line (slice_get earlier a)) _ x e in fail-known p fields shape are has line x
      (line-known p earlier a line known found) rest
  step-known earlier (step.Cover field parts) x known e = cover-known p earlier field parts x known e
  step-known earlier (step.Fix field part) x known e = fix-known p earlier field part x known e

  -- what a step proves is known beside what was
  pub more-known : (earlier : List Proved) (one : Step) (x : Proved) → AllKnown p earlier → proved_by p earlier one ≡ Some x → AllKnown p (earlier ++ x ∷ [])
  more-known earlier one x known is y there = either (in-either y earlier (x ∷ []) there)
    where
      either : IsIn y earlier ⊎ IsIn y (x ∷ []) → IsKnown p y
      either (inl before) = known y before
      either (inr (inl same)) = subst (λ (z : Proved). IsKnown p z) (sym same) (step-known earlier one x known is)
      either (inr (inr none)) = absurd none

  all-known : (earlier : List Proved) (steps : List Step) (all : List Proved) → AllKnown p earlier → proved_from p earlier steps ≡ Ok all → AllKnown p all
  all-known earlier [] all known e = let same : earlier ≡ all = cc in subst (λ (xs : List Proved). AllKnown p xs) same known
  all-known earlier (one ∷ steps) all known e = by (proved_by p earlier one) refl (λ x more h. all-known (earlier ++ x ∷ []) steps all more h) e
    where
      by : (made : Option Proved) → proved_by p earlier one ≡ made → ((x : Proved) → AllKnown p (earlier ++ x ∷ []) → proved_from p (earlier ++ x ∷ []) steps
          ≡ Ok all → AllKnown p all)
          → (ok_or made (length earlier) >>= (λ x. proved_from p (earlier ++ x ∷ []) steps)) ≡ Ok all → AllKnown p all
      by None is later h = absurd (cc)
      by (Some x) is later h = later x (more-known earlier one x known is) h

  known-result : (steps : List Step) (last : Proved) → steps_result p steps ≡ Ok last → IsKnown p last
  known-result steps last e = by (proved_from p [] steps) (λ all h. all-known [] steps all (λ x none. absurd none) h) e
    where
      by : (r : Result (List Proved) ℕ) → ((all : List Proved) → r ≡ Ok all → AllKnown p all) → last_proved r ≡ Ok last → IsKnown p last
      by (Err place) known h = absurd (cc)
      by (Ok all) known h = at_end (last-in None all last h)
        where
          at_end : (None ≡ Some last) ⊎ IsIn last all → IsKnown p last
          at_end (inl none) = absurd (cc)
          at_end (inr there) = known all refl last there

-- what the last of valid steps proves is shown: a line follows from the usable lines, and codes in a box are forbidden
-- at the points that have the record's values at the kept fields
pub steps-shown : (p : Premises) (fields : List Field) (steps : List Step) (proved : Proved) → p.shape ≡ shape_of fields → IsRow fields p.row
    → HasKept p.row p.kept → AreOver p.shape p.given
    → steps_result p steps ≡ Ok proved → IsShown p proved × IsOver p.shape proved
steps-shown p fields steps last shape are has over e = known-result p fields shape are has over steps last e
