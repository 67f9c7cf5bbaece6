use Rattle.std.proofs.Common.{◌≡◌, ℕ, zero, suc, ◌+◌, ◌==◌, ◌&&◌, ◌⊎◌, inl, inr, Bool, true, false, if◌then◌else◌, List, [], ◌∷◌, ◌++◌, Option, Some, None}
use Rattle.std.proofs.Common.{Result, Ok, Err, length, length-append, map, slice_get, slice_index_or, refl, sym, ap, ◌∙◌, subst, append_assoc, append-nil}
use Rattle.std.proofs.Common.{arith}
use Rattle.std.proofs.lemmas.List.{length-map, get_or_append_left, map-append}
use Rattle.std.proofs.lemmas.Option.{get_or_from_slice_get, slice_get_within}
use Rattle.std.proofs.lemmas.Bool.Decides.{Decides-eqb}
use Rattle.std.specs.Option.{ok_or}
use Rattle.foundation.specs.Results.{◌>>=◌}
use Rattle.foundation.specs.Options.{◌>>?◌}
use Rattle.edit_model.specs.FieldSets.{has_number}
use Rattle.edit_model.specs.Rows.{value_of}
use Rattle.edit_line.specs.Boxes.{BoxParts}
use Rattle.edit_line.specs.CodeFields.{has_code_at, place_of, size_of}
use Rattle.edit_line.specs.Combinations.{in_both}
use Rattle.edit_line.specs.Lines.{LineParts}
use Rattle.edit_line.specs.Reductions.{IsIn}
use Rattle.edit_line.specs.Shapes.{code_fields, has_field, whole_sets}
use Rattle.edit_line.proofs.Members.{any-in}
use Rattle.edit_line.proofs.ListPlaces.{get-map}
use Rattle.derivation.specs.Premises.{Premises}
use Rattle.derivation.specs.SharedLines.{and_kept, fails_at, is_failed, kept_from, kept_step, shared_box, shared_line, shared_step, shared_steps, last_of}
use Rattle.derivation.specs.SharedLines.{tabled, with_lines, GrowingLaw, SharingLaw}
use Rattle.derivation.specs.ValidSteps.{AreValidSteps, as_box, as_line, common_from, covered_sets, failed_box, fixed_sets, given_line, last_from, last_proved}
use Rattle.derivation.specs.ValidSteps.{only_if, part_with, proved_by, proved_from}
use Rattle.derivation.specs.declared.proved.Proved.{Proved}
use Rattle.derivation.specs.declared.proved.Proved.TheVariants as proved
use Rattle.derivation.specs.declared.step.Step.{Step}
use Rattle.derivation.specs.declared.step.Step.TheVariants as step
use Rattle.derivation.proofs.CoverLaws.{was-some}
use Rattle.derivation.proofs.Soundness.{was-box, was-line}
use Rattle.derivation.proofs.SharedLineLaws.{ArePlaced, IsPlaced, combine-gives, first-proved, given-gives, list-tabled, placed-get, placed-last}
use Rattle.derivation.proofs.Places.{length-proved_from}
use Rattle.derivation.proofs.StepLoop.{last-push}
use Rattle.derivation.proofs.TableLaws.{get-behind, get-end, get-more}

-- What is kept of valid steps proves the same box, where the lines of the table may be named.

-- ---- given lines, and behind them those of a table

flag-more : (flags more : List Bool) (i : ℕ) → slice_index_or flags i false ≡ true → slice_index_or (flags ++ more) i false ≡ true
flag-more [] more i e = absurd (cc)
flag-more (flag ∷ flags) more zero e = e
flag-more (flag ∷ flags) more (suc i) e = flag-more flags more i e

-- all of one flag
flag-of : (lines : List LineParts) (k : ℕ) (line : LineParts) → slice_get lines k ≡ Some line → slice_get (map (λ l. true) lines) k ≡ Some true
flag-of lines k line e = get-map (λ l. true) lines k line e

module _ (p : Premises) where
  -- a given line is what it was
  given-more : (lines : List LineParts) (place : ℕ) (x : Proved) → given_line p place ≡ Some x → given_line (with_lines p lines) place ≡ Some x
  given-more lines place x e = by (slice_index_or p.usable place false) refl e
    where
      by : (b : Bool) → slice_index_or p.usable place false ≡ b → (if b then (slice_get p.given place >>? (λ line. Some (proved.Line line))) else None) ≡ Some x
          → given_line (with_lines p lines) place ≡ Some x
      by false is h = absurd (cc)
      by true is h =
          let (line, there, made) = was-some (slice_get p.given place) _ x h in
          ap (λ b. if b then (slice_get (p.given ++ lines) place >>? (λ line. Some (proved.Line line))) else None)
          (flag-more p.usable (map (λ l. true) lines) place is)
          ∙ ap (λ (o : Option LineParts). o >>? (λ line. Some (proved.Line line))) (get-more p.given lines place line there)
          ∙ made

  -- a line of the table, by its name
  pub shared-given : (lines : List LineParts) (place : ℕ) (line : LineParts) → length p.given ≡ length p.usable → slice_get lines place ≡ Some line
      → given_line (with_lines p lines) (length p.given + place) ≡ Some (proved.Line line)
  shared-given lines place line same e =
      let flag : slice_index_or (p.usable ++ map (λ (l : LineParts). true) lines) (length p.given + place) false ≡ true =
      get_or_from_slice_get (p.usable ++ map (λ (l : LineParts). true) lines) (length p.given + place) true false
      (get-behind p.usable (map (λ (l : LineParts). true) lines) (length p.given + place) place (omega arith) ∙ flag-of lines place line e) in
      ap (λ b. if b then (slice_get (p.given ++ lines) (length p.given + place) >>? (λ l. Some (proved.Line l))) else None) flag
      ∙ ap (λ (o : Option LineParts). o >>? (λ l. Some (proved.Line l))) (get-behind p.given lines (length p.given + place) place refl ∙ e)

-- and it stays where the table grows
given-grows : (p : Premises) (lines more : List LineParts) (place : ℕ) (x : Proved) → given_line (with_lines p lines) place ≡ Some x
    → given_line (with_lines p (lines ++ more)) place ≡ Some x
given-grows p lines more place x e =
    let given : (p.given ++ lines) ++ more ≡ p.given ++ (lines ++ more) = rw append_assoc refl in
    let usable : (p.usable ++ map (λ (l : LineParts). true) lines) ++ map (λ (l : LineParts). true) more ≡ p.usable
    ++ map (λ (l : LineParts). true) (lines ++ more) =
    rw append_assoc (ap (λ (bs : List Bool). p.usable ++ bs) (sym (map-append (λ (l : LineParts). true) lines more))) in
    (λ i. if slice_index_or (sym usable i) place false then (slice_get (sym given i) place >>? (λ line. Some (proved.Line line))) else None)
    ∙ given-more (with_lines p lines) more place x e

-- all that steps prove
steps-grow : (p : Premises) (lines more : List LineParts) (all : List Proved) (steps : List Step) (whole : List Proved)
    → proved_from (with_lines p lines) all steps ≡ Ok whole → proved_from (with_lines p (lines ++ more)) all steps ≡ Ok whole
steps-grow p lines more all [] whole e = e
steps-grow p lines more all (one ∷ steps) whole e =
    let (x, is, later) = first-proved (with_lines p lines) all one steps whole e in
    ap (λ (o : Option Proved). ok_or o (length all) >>= (λ y. proved_from (with_lines p (lines ++ more)) (all ++ y ∷ []) steps)) (grows one x is)
    ∙ steps-grow p lines more (all ++ x ∷ []) steps whole later
  where
    grows : (s : Step) (y : Proved) → proved_by (with_lines p lines) all s ≡ Some y → proved_by (with_lines p (lines ++ more)) all s ≡ Some y
    grows (step.Given place) y h = given-grows p lines more place y h
    grows (step.Combine a m b n g) y h = h
    grows (step.Fail a) y h = h
    grows (step.Cover field parts) y h = h
    grows (step.Fix field part) y h = h

-- ---- what is kept of the steps that prove a box

-- what is kept where the steps whose lines become boxes are these
abbrev pub Stays : (ℕ → Bool) → ℕ → Proved → Type 0
Stays failed i (proved.Line line) = failed i ≡ true
Stays failed i (proved.Box code_box) = Unit {0}

-- of all that was proved, what stays was proved by what is kept, at its new place
pub record IsRenewed (failed : ℕ → Bool) (all : List Proved) (new : List ℕ) (kept : List Proved) : Type 0 where
  pub long : length new ≡ length all
  pub there : (i : ℕ) (x : Proved) → slice_get all i ≡ Some x → Stays failed i x → slice_get kept (slice_index_or new i 0) ≡ Some x
  pub last : (code_box : BoxParts) → last_from None all ≡ Ok (proved.Box code_box) → last_from None kept ≡ Ok (proved.Box code_box)

-- a place of a longer list
get-either : {X : Type 0} (xs : List X) (y : X) (i : ℕ) (x : X) → slice_get (xs ++ y ∷ []) i ≡ Some x → (slice_get xs i ≡ Some x) ⊎ ((i ≡ length xs) × (y ≡ x))
get-either [] y zero x e = inr (refl, cc)
get-either [] y (suc i) x e = absurd (cc)
get-either (z ∷ xs) y zero x e = inl e
get-either {X} (z ∷ xs) y (suc i) x e = by (get-either xs y i x e)
  where
    by : (slice_get xs i ≡ Some x) ⊎ ((i ≡ length xs) × (y ≡ x)) → (slice_get (z ∷ xs) (suc i) ≡ Some x) ⊎ ((suc i ≡ length (z ∷ xs)) × (y ≡ x))
    by (inl h) = inl h
    by (inr (same, is)) = inr (omega arith, is)

module _ (failed : ℕ → Bool) (all : List Proved) (new : List ℕ) (kept : List Proved) (are : IsRenewed failed all new kept) (x : Proved) (n : ℕ) where
  -- the new places of earlier ones stay
  old-place : (i : ℕ) (y : Proved) → slice_get all i ≡ Some y → slice_index_or (new ++ n ∷ []) i 0 ≡ slice_index_or new i 0
  old-place i y e = get_or_append_left new (n ∷ []) 0 i (omega (arith, slice_get_within all i y e, are.long))

  longer : length (new ++ n ∷ []) ≡ length (all ++ x ∷ [])
  longer = omega (arith, length-append new (n ∷ []), length-append all (x ∷ []), are.long)

  -- one more that is kept
  pub renewed-kept : n ≡ length kept → IsRenewed failed (all ++ x ∷ []) (new ++ n ∷ []) (kept ++ x ∷ [])
  renewed-kept is = record {
    long = longer;
    there = λ i y e stays. there-by i y stays (get-either all x i y e);
    last = λ code_box e. last-push None kept x ∙ sym (last-push None all x) ∙ e;
  }
    where
      there-by : (i : ℕ) (y : Proved) → Stays failed i y → (slice_get all i ≡ Some y) ⊎ ((i ≡ length all) × (x ≡ y))
          → slice_get (kept ++ x ∷ []) (slice_index_or (new ++ n ∷ []) i 0) ≡ Some y
      there-by i y stays (inl e) = ap (slice_get (kept ++ x ∷ [])) (old-place i y e) ∙ get-more kept (x ∷ []) (slice_index_or new i 0) y (are.there i y e stays)
      there-by i y stays (inr (at_end, same)) =
          let here : slice_index_or (new ++ n ∷ []) i 0 ≡ n = get_or_from_slice_get (new ++ n ∷ []) i n 0
          (ap (slice_get (new ++ n ∷ [])) (at_end ∙ sym are.long) ∙ get-end new n) in
          ap (slice_get (kept ++ x ∷ [])) (here ∙ is) ∙ get-end kept x ∙ ap (λ (z : Proved). Some z) same

  -- one more that is left out
  pub renewed-left : (Stays failed (length all) x → ⊥) → IsRenewed failed (all ++ x ∷ []) (new ++ n ∷ []) kept
  renewed-left out = record {
    long = longer;
    there = λ i y e stays. there-by i y stays (get-either all x i y e);
    last = λ code_box e. absurd (out (subst (λ (y : Proved). Stays failed (length all) y) (last-is code_box e) tt));
  }
    where
      there-by : (i : ℕ) (y : Proved) → Stays failed i y → (slice_get all i ≡ Some y) ⊎ ((i ≡ length all) × (x ≡ y))
          → slice_get kept (slice_index_or (new ++ n ∷ []) i 0) ≡ Some y
      there-by i y stays (inl e) = ap (slice_get kept) (old-place i y e) ∙ are.there i y e stays
      there-by i y stays (inr (at_end, same)) =
          absurd (out (subst (λ (z : Proved). Stays failed (length all) z) (sym same) (subst (λ (k : ℕ). Stays failed k y) at_end stays)))

      last-is : (code_box : BoxParts) → last_from None (all ++ x ∷ []) ≡ Ok (proved.Box code_box) → proved.Box code_box ≡ x
      last-is code_box e = let same : Ok (proved.Box code_box) ≡ Ok x = sym e ∙ last-push None all x in cc

module _ (p : Premises) (lines : List LineParts) (failed : ℕ → Bool) (all : List Proved) (new : List ℕ) (kept : List Proved)
    (are : IsRenewed failed all new kept) where
  -- a box that was proved stands at its new place
  box-there : (part : ℕ) (sets : List ℕ) → as_box (slice_get all part) ≡ Some sets → as_box (slice_get kept (slice_index_or new part 0)) ≡ Some sets
  box-there part sets e =
      let (code_box, found, same) = was-box (slice_get all part) sets e in
      ap as_box (are.there part (proved.Box code_box) found tt) ∙ ap (λ (s : List ℕ). Some s) same

  -- and so do the parts of a cover
  common-there : (at code : ℕ) (parts : List ℕ) (common last : List ℕ) → common_from all at code parts common ≡ Some last
      → common_from kept at code (map (λ part. slice_index_or new part 0) parts) common ≡ Some last
  common-there at code [] common last e = e
  common-there at code (part ∷ parts) common last e =
      let (sets, taken, rest) = was-some (part_with all at code part) (λ sets. common_from all at (suc code) parts (in_both common sets)) last e in
      let (found, box, only) = was-some (as_box (slice_get all part)) (λ sets. only_if (has_code_at at code sets) sets) sets taken in
      ap (λ (o : Option (List ℕ)). (o >>? (λ sets. only_if (has_code_at at code sets) sets)) >>?
      (λ sets. common_from kept at (suc code) (map (λ part. slice_index_or new part 0) parts) (in_both common sets))) (box-there part found box)
      ∙ ap (λ (o : Option (List ℕ)). o >>? (λ sets. common_from kept at (suc code) (map (λ part. slice_index_or new part 0) parts) (in_both common sets))) only
      ∙ common-there at (suc code) parts (in_both common sets) last rest

  fail-kept : (a : ℕ) (x : Proved) → failed a ≡ true → proved_by p all (step.Fail a) ≡ Some x
      → proved_by (with_lines p lines) kept (step.Fail (slice_index_or new a 0)) ≡ Some x
  fail-kept a x fails e =
      let (line, found, rest) = was-some (as_line (slice_get all a)) _ x e in
      ap (λ (o : Option Proved). as_line o >>? (λ l. failed_box (with_lines p lines) l)) (are.there a (proved.Line line) (was-line (slice_get all a) line found)
      fails) ∙ rest

  cover-kept : (field : ℕ) (parts : List ℕ) (x : Proved) → proved_by p all (step.Cover field parts) ≡ Some x
      → proved_by (with_lines p lines) kept (step.Cover field (map (λ part. slice_index_or new part 0) parts)) ≡ Some x
  cover-kept field parts x e =
      ap (λ (k : ℕ). if has_field (code_fields p.shape) field && (k == size_of p.shape field) then
      (common_from kept (place_of p.shape field) 0 (map (λ part. slice_index_or new part 0) parts) (whole_sets p.shape) >>?
      (λ common. covered_sets p.shape field common)) else None) (length-map parts (λ part. slice_index_or new part 0))
      ∙ by (has_field (code_fields p.shape) field && (length parts == size_of p.shape field)) e
    where
      by : (b : Bool) → (if b then (common_from all (place_of p.shape field) 0 parts (whole_sets p.shape) >>? (λ common. covered_sets p.shape field common))
          else None) ≡ Some x
          → (if b then (common_from kept (place_of p.shape field) 0 (map (λ part. slice_index_or new part 0) parts) (whole_sets p.shape) >>?
          (λ common. covered_sets p.shape field common)) else None) ≡ Some x
      by false h = absurd (cc)
      by true h =
          let (common, made, rest) = was-some (common_from all (place_of p.shape field) 0 parts (whole_sets p.shape))
          (λ common. covered_sets p.shape field common) x h in
          ap (λ (o : Option (List ℕ)). o >>? (λ common. covered_sets p.shape field common))
          (common-there (place_of p.shape field) 0 parts (whole_sets p.shape) common made) ∙ rest

  fix-kept : (field part : ℕ) (x : Proved) → proved_by p all (step.Fix field part) ≡ Some x
      → proved_by (with_lines p lines) kept (step.Fix field (slice_index_or new part 0)) ≡ Some x
  fix-kept field part x e = by (has_field (code_fields p.shape) field && has_number p.kept field) e
    where
      by : (b : Bool) → (if b then (as_box (slice_get all part) >>? (λ sets. fixed_sets p.shape field (value_of p.row field) sets)) else None) ≡ Some x
          → (if b then (as_box (slice_get kept (slice_index_or new part 0)) >>? (λ sets. fixed_sets p.shape field (value_of p.row field) sets)) else None)
          ≡ Some x
      by false h = absurd (cc)
      by true h =
          let (sets, found, rest) = was-some (as_box (slice_get all part)) (λ sets. fixed_sets p.shape field (value_of p.row field) sets) x h in
          ap (λ (o : Option (List ℕ)). o >>? (λ sets. fixed_sets p.shape field (value_of p.row field) sets)) (box-there part sets found) ∙ rest

-- ---- one step after the other

module _ (p : Premises) where
  -- one step more at the end
  proved-at-end : (all : List Proved) (steps : List Step) (whole : List Proved) (one : Step) (x : Proved) → proved_from p all steps ≡ Ok whole
      → proved_by p whole one ≡ Some x → proved_from p all (steps ++ one ∷ []) ≡ Ok (whole ++ x ∷ [])
  proved-at-end all [] whole one x e is =
      let same : all ≡ whole = cc in
      subst (λ (xs : List Proved). proved_from p xs (one ∷ []) ≡ Ok (whole ++ x ∷ [])) (sym same)
      (ap (λ (o : Option Proved). ok_or o (length whole) >>= (λ y. proved_from p (whole ++ y ∷ []) [])) is)
  proved-at-end all (first ∷ steps) whole one x e is =
      let (own, made, later) = first-proved p all first steps whole e in
      ap (λ (o : Option Proved). ok_or o (length all) >>= (λ y. proved_from p (all ++ y ∷ []) (steps ++ one ∷ []))) made
      ∙ proved-at-end (all ++ own ∷ []) steps whole one x later is

  -- what was proved stays in front
  proved-behind : (all : List Proved) (steps : List Step) (whole : List Proved) → proved_from p all steps ≡ Ok whole → (more : List Proved)
      × (whole ≡ all ++ more)
  proved-behind all [] whole e = let same : all ≡ whole = cc in ([], sym same ∙ sym (append-nil all))
  proved-behind all (one ∷ steps) whole e =
      let (x, made, later) = first-proved p all one steps whole e in
      let (more, is) = proved-behind (all ++ x ∷ []) steps whole later in
      (x ∷ more, is ∙ rw append_assoc refl)

  proved-there : (all : List Proved) (x : Proved) (steps : List Step) (whole : List Proved) → proved_from p (all ++ x ∷ []) steps ≡ Ok whole
      → slice_get whole (length all) ≡ Some x
  proved-there all x steps whole e =
      let (more, is) = proved-behind (all ++ x ∷ []) steps whole e in
      ap (λ (xs : List Proved). slice_get xs (length all)) is ∙ get-more (all ++ x ∷ []) more (length all) x (get-end all x)

-- it is left out, or it is kept and proves the same
abbrev pub IsKeptRight : Premises → List Proved → (Type 0) → Proved → Option Step → Type 0
IsKeptRight q kept stays x None = stays → ⊥
IsKeptRight q kept stays x (Some one) = proved_by q kept one ≡ Some x

module _ (p : Premises) (lines : List LineParts) (failed : ℕ → Bool) (same : length p.given ≡ length p.usable) where
  module _ (all : List Proved) (new : List ℕ) (kept : List Proved) (are : IsRenewed failed all new kept) where
    -- the name of a line, where it becomes a box
    name-kept : (place : ℕ) (x : Proved) (line : LineParts) → x ≡ proved.Line line → IsPlaced lines x place
        → IsKeptRight (with_lines p lines) kept (Stays failed (length all) x) x (if failed (length new) then Some (shared_step (length p.given) place) else
        None)
    name-kept place x line is placed = by (failed (length new)) refl
      where
        here : slice_get lines place ≡ Some line
        here = subst (λ (y : Proved). IsPlaced lines y place) is placed

        by : (b : Bool) → failed (length new) ≡ b → IsKeptRight (with_lines p lines) kept (Stays failed (length all) x) x
            (if b then Some (shared_step (length p.given) place) else None)
        by true e = shared-given p lines place line same here ∙ ap (λ (y : Proved). Some y) (sym is)
        by false e = λ stays.
            let stays_line : failed (length all) ≡ true = subst (λ (y : Proved). Stays failed (length all) y) is stays in
            let not_so : failed (length all) ≡ false = ap failed (sym are.long) ∙ e in
            cc (stays_line, not_so)

    -- each kind of step
    step-kept : (one : Step) (place : ℕ) (x : Proved) → ((a : ℕ) → one ≡ step.Fail a → failed a ≡ true) → IsPlaced lines x place → proved_by p all one ≡ Some x
        → IsKeptRight (with_lines p lines) kept (Stays failed (length all) x) x (kept_step (length p.given) (failed (length new)) place new one)
    step-kept (step.Given k) place x fails placed e = let (line, is) = given-gives p k x e in name-kept place x line is placed
    step-kept (step.Combine a m b n g) place x fails placed e = let (line, is) = combine-gives p all a b m n g x e in name-kept place x line is placed
    step-kept (step.Fail a) place x fails placed e = fail-kept p lines failed all new kept are a x (fails a refl) e
    step-kept (step.Cover field parts) place x fails placed e = cover-kept p lines failed all new kept are field parts x e
    step-kept (step.Fix field part) place x fails placed e = fix-kept p lines failed all new kept are field part x e

    -- with it, what is kept proves what stays
    one-kept : (kept_steps : List Step) (x : Proved) (o : Option Step) → proved_from (with_lines p lines) [] kept_steps ≡ Ok kept
        → IsKeptRight (with_lines p lines) kept (Stays failed (length all) x) x o
        → (more : List Proved) × (proved_from (with_lines p lines) [] (and_kept kept_steps o) ≡ Ok more)
        × IsRenewed failed (all ++ x ∷ []) (new ++ length kept_steps ∷ []) more
    one-kept kept_steps x None made right = (kept, made, renewed-left failed all new kept are x (length kept_steps) right)
    one-kept kept_steps x (Some one) made right =
        let many : length kept_steps ≡ length kept = omega (arith, length-proved_from (with_lines p lines) [] kept_steps kept made) in (
          kept ++ x ∷ [],
          proved-at-end (with_lines p lines) [] kept_steps kept one x made right,
          renewed-kept failed all new kept are x (length kept_steps)
              many,
        )

  -- all of them
  steps-kept : (places : List ℕ) (all : List Proved) (new : List ℕ) (kept : List Proved) (kept_steps steps : List Step) (whole : List Proved)
      → IsRenewed failed all new kept → proved_from (with_lines p lines) [] kept_steps ≡ Ok kept → ((a : ℕ) → IsIn (step.Fail a) steps → failed a ≡ true)
      → ArePlaced lines whole places → proved_from p all steps ≡ Ok whole
      → (result : List Proved) × (proved_from (with_lines p lines) [] (kept_from (length p.given) failed places new kept_steps steps) ≡ Ok result)
      × ((code_box : BoxParts) → last_from None whole ≡ Ok (proved.Box code_box) → last_from None result ≡ Ok (proved.Box code_box))
  steps-kept places all new kept kept_steps [] whole are made fails placed e =
      let same_all : all ≡ whole = cc in
      (kept, made, λ code_box last. are.last code_box (ap (λ (xs : List Proved). last_from None xs) same_all ∙ last))
  steps-kept places all new kept kept_steps (one ∷ steps) whole are made fails placed e =
      let (x, is, later) = first-proved p all one steps whole e in
      let place = slice_index_or places (length new) 0 in
      let x_placed : IsPlaced lines x place = placed-get lines whole places (length new) x placed
      (ap (slice_get whole) are.long ∙ proved-there p all x steps whole later) in
      let right = step-kept all new kept are one place x (λ a named. fails a (inl (sym named))) x_placed is in
      let (more, more_made, more_are) = one-kept all new kept are kept_steps x (kept_step (length p.given) (failed (length new)) place new one) made right in
      steps-kept places (all ++ x ∷ []) (new ++ length kept_steps ∷ []) more
      (and_kept kept_steps (kept_step (length p.given) (failed (length new)) place new one)) steps whole
      more_are more_made (λ a there. fails a (inr there)) placed later

-- ---- the steps of a leaf

-- a step of the list makes a box of that line
pub failed-there : (steps : List Step) (a : ℕ) → IsIn (step.Fail a) steps → is_failed steps a ≡ true
failed-there steps a there = any-in (fails_at a) (step.Fail a) steps there ((Decides-eqb a a).1 refl)

module _ (p : Premises) (lines : List LineParts) (same : length p.given ≡ length p.usable) (steps : List Step) (whole : List Proved) (places : List ℕ)
    (made : proved_from p [] steps ≡ Ok whole) (placed : ArePlaced lines whole places) where
  -- the name of the last line proves it
  shared-line-valid : (line : LineParts) → last_from None whole ≡ Ok (proved.Line line) → AreValidSteps (with_lines p lines)
      (shared_line (length p.given) places) (proved.Line line)
  shared-line-valid line last =
      ap (λ (o : Option Proved). last_proved (ok_or o 0 >>= (λ x. Ok (x ∷ [])))) (shared-given p lines (last_of places) line same
      (placed-last lines whole places (proved.Line line) placed last))

  -- what is kept proves the last box
  shared-box-valid : (code_box : BoxParts) → last_from None whole ≡ Ok (proved.Box code_box)
      → AreValidSteps (with_lines p lines) (shared_box (length p.given) places steps) (proved.Box code_box)
  shared-box-valid code_box last =
      let none : IsRenewed (is_failed steps) [] [] [] = record { long = refl; there = λ i x e stays. absurd (cc e); last = λ b e. absurd (cc e) } in
      let (result, is, ends) = steps-kept p lines (is_failed steps) same places [] [] [] [] steps whole none refl (failed-there steps) placed made in
      ap last_proved is ∙ ends code_box last

-- valid steps prove all that they prove
valid-all : (p : Premises) (steps : List Step) (last : Proved) → AreValidSteps p steps last → (whole : List Proved) × (proved_from p [] steps ≡ Ok whole)
    × (last_from None whole ≡ Ok last)
valid-all p steps last e = by (proved_from p [] steps) refl e
  where
    by : (r : Result (List Proved) ℕ) → proved_from p [] steps ≡ r → last_proved r ≡ Ok last → (whole : List Proved) × (proved_from p [] steps ≡ Ok whole)
        × (last_from None whole ≡ Ok last)
    by (Ok whole) is h = (whole, is, h)
    by (Err place) is h = absurd (cc)

kept-valid : (p : Premises) (lines : List LineParts) (even : length p.given ≡ length p.usable) (steps : List Step) (whole : List Proved) (places : List ℕ)
    → proved_from p [] steps ≡ Ok whole → ArePlaced lines whole places
    → (last : Proved) → last_from None whole ≡ Ok last → AreValidSteps (with_lines p lines) (shared_steps (length p.given) places steps last) last
kept-valid p lines even steps whole places made placed (proved.Line line) ends = shared-line-valid p lines even steps whole places made placed line ends
kept-valid p lines even steps whole places made placed (proved.Box code_box) ends = shared-box-valid p lines even steps whole places made placed code_box ends

pub steps-shared : SharingLaw
steps-shared p table lines steps last even are valid =
    let (whole, made, ends) = valid-all p steps last valid in
    let (more, more_are, placed) = list-tabled p table lines steps whole are made in
    (more, more_are, kept-valid p (lines ++ more) even steps whole (tabled table steps).places made placed last ends)

pub valid-grows : GrowingLaw
valid-grows p lines more steps last e =
    let (whole, made, ends) = valid-all (with_lines p lines) steps last e in
    ap last_proved (steps-grow p lines more [] steps whole made) ∙ ends
