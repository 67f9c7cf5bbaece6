use Rattle.std.proofs.Common.{◌≡◌, ℕ, zero, suc, ◌+◌, ◌<◌, ◌==◌, ◌&&◌, ◌||◌, Bool, true, false, if◌then◌else◌, List, [], ◌∷◌, Option, Some, None, length, map}
use Rattle.std.proofs.Common.{drop, slice_get, slice_index, slice_index_or, refl, sym, ap, ◌∙◌, subst, add-one, arith}
use Rattle.std.proofs.Math.Seq.{drop-cons}
use Rattle.std.proofs.lemmas.Bool.Decides.{Decides-eqb}
use Rattle.foundation.specs.Options.{◌>>?◌}
use Rattle.edit_model.specs.Points.{Point, has_code}
use Rattle.edit_line.specs.CodeFields.{place_of, size_from, size_of}
use Rattle.edit_line.specs.Combinations.{in_both}
use Rattle.edit_line.specs.Sets.{are_codes_in}
use Rattle.edit_line.specs.Shapes.{Categorical, Domain, HasCodes, Numerical, code_fields, codes_at, codes_from, has_field, place_in}
use Rattle.edit_line.proofs.OtherFields.{inside_but, inside_but-meets}
use Rattle.edit_line.proofs.BoolLaws.{both_true}
use Rattle.derivation.specs.ValidSteps.{as_box, common_from, only_if, part_with}
use Rattle.derivation.specs.declared.proved.Proved.{Proved}

-- Boxes that are made whole at a field, and the parts of a cover.

-- ---- values that may not be there

-- what was made of a value was made of one that is there
pub was-some : {A B : Type 0} (o : Option A) (make : A → Option B) (b : B) → (o >>? make) ≡ Some b → (a : A) × (o ≡ Some a) × (make a ≡ Some b)
was-some None make b e = absurd (cc)
was-some (Some a) make b e = (a, refl, e)

-- what is there only if a test is true
pub was-true : {A : Type 0} (test : Bool) (a b : A) → only_if test a ≡ Some b → (test ≡ true) × (a ≡ b)
was-true true a b e = (refl, cc)
was-true false a b e = absurd (cc)

-- ---- the point's code at a field

code-beside : (code : ℕ → ℕ) (fields : List ℕ) (f : ℕ) → has_field fields f ≡ true → slice_index_or (map code fields) (place_in fields f) 0 ≡ code f
code-beside code [] f there = absurd (cc)
code-beside code (i ∷ fields) f there = by (i == f) refl (code-beside code fields f) there
  where
    by : (b : Bool) → (i == f) ≡ b → (has_field fields f ≡ true → slice_index_or (map code fields) (place_in fields f) 0 ≡ code f) → (b || has_field fields f)
        ≡ true
        → slice_index_or (code i ∷ map code fields) (if b then 0 else suc (place_in fields f)) 0 ≡ code f
    by true e later h = ap code ((Decides-eqb i f).0 e)
    by false e later h = later h

-- it stands at the field's place
pub code-at : (shape : List Domain) (point : Point) (f : ℕ) → has_field (code_fields shape) f ≡ true
    → slice_index_or (codes_at shape point) (place_of shape f) 0 ≡ point.code f
code-at shape point f there = code-beside point.code (code_fields shape) f there

below-from : (i : ℕ) (shape : List Domain) (point : Point) (f : ℕ) → has_field (codes_from i shape) f ≡ true → HasCodes i shape point
    → point.code f < size_from i shape f
below-from i [] point f there held = absurd (cc)
below-from i (Numerical ∷ shape) point f there held = below-from (suc i) shape point f there held
below-from i (Categorical k ∷ shape) point f there held = by (i == f) refl (λ rest. below-from (suc i) shape point f rest held.1) there
  where
    by : (b : Bool) → (i == f) ≡ b → (has_field (codes_from (suc i) shape) f ≡ true → point.code f < size_from (suc i) shape f)
        → (b || has_field (codes_from (suc i) shape) f) ≡ true
        → point.code f < (if b then k else size_from (suc i) shape f)
    by true e later h = subst (λ (j : ℕ). point.code j < k) ((Decides-eqb i f).0 e) held.0
    by false e later h = later h

-- and is one of the field's
pub code-below : (shape : List Domain) (point : Point) (f : ℕ) → has_field (code_fields shape) f ≡ true → HasCodes 0 shape point
    → point.code f < size_of shape f
code-below shape point f there held = below-from 0 shape point f there held

-- ---- boxes

-- codes that are in a box on the other fields, and in its set at the place
pub inside-put_back : (place whole : ℕ) (sets codes : List ℕ) → has_code (slice_index_or sets place 0) (slice_index_or codes place 0) ≡ true
    → inside_but place whole codes sets ≡ true → are_codes_in sets codes ≡ true
inside-put_back place whole [] codes at but = refl
inside-put_back place whole (s ∷ sets) [] at but = refl
inside-put_back zero whole (s ∷ sets) (code ∷ codes) at but = ap (λ b. b && are_codes_in sets codes) at ∙ (both_true (has_code whole code) _ but).1
inside-put_back (suc place) whole (s ∷ sets) (code ∷ codes) at but =
    let (here, rest) = both_true (has_code s code) _ but in ap (λ b. b && are_codes_in sets codes) here ∙ inside-put_back place whole sets codes at rest

-- what the parts from one place on have in common, one part on
pub common-more : (earlier : List Proved) (at code : ℕ) (parts common sets next : List ℕ) (whole : Option (List ℕ)) → code < length parts → Some sets
    ≡ part_with earlier at code (slice_index parts code) → next ≡ in_both common sets
    → common_from earlier at code (drop code parts) common ≡ whole → common_from earlier at (code + 1) (drop (code + 1) parts) next ≡ whole
common-more earlier at code parts common sets next whole below here next_is before = rw (add-one) (
    ap (λ (ns : List ℕ). common_from earlier at (suc code) (drop (suc code) parts) ns) next_is
    ∙ ap (λ (o : Option (List ℕ)). (o >>? (λ ns. common_from earlier at (suc code) (drop (suc code) parts) (in_both common ns)))) here
    ∙ ap (λ (ps : List ℕ). common_from earlier at code ps common) (sym (drop-cons parts code 0 below))
    ∙ before
    )

-- nothing, where the next part has not the code
pub common-missing : (earlier : List Proved) (at code : ℕ) (parts common : List ℕ) (whole : Option (List ℕ)) → code < length parts
    → None ≡ part_with earlier at code (slice_index parts code) → common_from earlier at code (drop code parts) common ≡ whole → None ≡ whole
common-missing earlier at code parts common whole below none before =
    ap (λ (o : Option (List ℕ)). (o >>? (λ ns. common_from earlier at (suc code) (drop (suc code) parts) (in_both common ns)))) none
    ∙ ap (λ (ps : List ℕ). common_from earlier at code ps common) (sym (drop-cons parts code 0 below))
    ∙ before

module _ (earlier : List Proved) (at whole : ℕ) (codes : List ℕ) where
  -- codes in what the parts and the sets so far have in common are in the sets so far
  common-before : (code : ℕ) (parts common last : List ℕ) → common_from earlier at code parts common ≡ Some last → inside_but at whole codes last ≡ true
      → inside_but at whole codes common ≡ true
  common-before code [] common last e inside = let same : last ≡ common = cc in ap (λ (sets : List ℕ). inside_but at whole codes sets) (sym same) ∙ inside
  common-before code (part ∷ parts) common last e inside =
      let (sets, taken, rest) = was-some (part_with earlier at code part) (λ sets. common_from earlier at (suc code) parts (in_both common sets)) last e in
      let both = common-before (suc code) parts (in_both common sets) last rest inside in
      (both_true (inside_but at whole codes common) _ (sym (inside_but-meets at whole common sets codes) ∙ both)).0

  -- and, on the other fields, in the sets of the part for each code
  common-part : (code j k : ℕ) (parts common last : List ℕ) → j ≡ code + k → k < length parts → common_from earlier at code parts common ≡ Some last
      → inside_but at whole codes last ≡ true
      → (part : ℕ) × (sets : List ℕ) × (as_box (slice_get earlier part) ≡ Some sets) × (has_code (slice_index_or sets at 0) j ≡ true)
      × (inside_but at whole codes sets ≡ true)
  common-part code j k [] common last is below e inside = absurd (omega arith)
  common-part code j zero (part ∷ parts) common last is below e inside =
      let (sets, taken, rest) = was-some (part_with earlier at code part) (λ sets. common_from earlier at (suc code) parts (in_both common sets)) last e in
      let (found, box, only) = was-some (as_box (slice_get earlier part)) (λ sets. only_if (has_code (slice_index_or sets at 0) code) sets) sets taken in
      let (here, same) = was-true (has_code (slice_index_or found at 0) code) found sets only in
      let both = common-before (suc code) parts (in_both common sets) last rest inside in
      let first : j ≡ code = omega arith in
      let apart = (both_true (inside_but at whole codes common) _ (sym (inside_but-meets at whole common sets codes) ∙ both)).1 in
      (part, found, box, ap (λ c. has_code (slice_index_or found at 0) c) first ∙ here, ap (λ (s : List ℕ). inside_but at whole codes s) same ∙ apart)
  common-part code j (suc k) (part ∷ parts) common last is below e inside =
      let (sets, taken, rest) = was-some (part_with earlier at code part) (λ sets. common_from earlier at (suc code) parts (in_both common sets)) last e in
      common-part (suc code) j k parts (in_both common sets) last (omega arith) (omega arith) rest inside

  -- codes that are in the cover are in the part for the code at the place
  pub cover-part : (parts wholes common : List ℕ) → slice_index_or codes at 0 < length parts → common_from earlier at 0 parts wholes ≡ Some common
      → inside_but at whole codes common ≡ true
      → (part : ℕ) × (sets : List ℕ) × (as_box (slice_get earlier part) ≡ Some sets) × (are_codes_in sets codes ≡ true)
  cover-part parts wholes common below e inside =
      let (part, sets, box, has_it, but) = common-part 0 (slice_index_or codes at 0) (slice_index_or codes at 0) parts wholes common (omega arith) below e
      inside in
      (part, sets, box, inside-put_back at whole sets codes has_it but)
