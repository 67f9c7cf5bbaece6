use Rattle.std.proofs.Common.{◌≡◌, ℕ, zero, suc, ◌+◌, ◌<◌, ◌^◌, Bool, true, false, List, [], ◌∷◌, ◌++◌, Result, length, map, replicate, ap, refl, sym, subst}
use Rattle.std.proofs.Common.{◌∙◌, arith}
use Rattle.std.specs.List.{range_with_len}
use Rattle.std.specs.Int.{bit_at}
use Rattle.std.proofs.lemmas.Bool.{eqb-false}
use Rattle.std.proofs.lemmas.List.{length-map}
use Rattle.std.proofs.lemmas.List.FromFn.{length-map-range_with_len, map-range_with_len_more}
use Rattle.std.proofs.lemmas.Nat.Bits.{bit_at-lt, bit_at-zero, same_from_bits_below}
use Rattle.edit_model.specs.FieldSets.{has_number}
use Rattle.edit_model.specs.Rows.{IsOfKind, IsRow}
use Rattle.edit_model.specs.declared.field.Field.{Field}
use Rattle.edit_model.specs.declared.field.Kind.{Kind}
use Rattle.edit_model.specs.declared.value.Value.{Value}
use Rattle.edit_model.specs.declared.value.Value.TheVariants.{Bad}
use Rattle.edit_line.specs.EditSets.{EditsParts, edits_of}
use Rattle.edit_line.specs.Lines.{AreOver, LineParts}
use Rattle.edit_line.specs.Shapes.{Domain, domain_of, shape_of}
use Rattle.derivation.specs.Premises.{Premises, premises_of}
use Rattle.derivation.specs.ValidSteps.{steps_result}
use Rattle.derivation.specs.declared.proved.Proved.{Proved}
use Rattle.derivation.specs.declared.step.Step.{Step}
use Rattle.elimination_bench.specs.inner.Differences.{count_of, differences, numbered_line, numbers_of, shape_with}
use Rattle.elimination_bench.specs.inner.Listings.{first_refused, generated_lines, generated_premises, refused_at, step_at, steps_of}
use Rattle.elimination_bench.specs.declared.differences.Differences.TheVariants.{Plain}
use Rattle.elimination_bench.specs.declared.listing.Listing.{Listing}

all-unknown : (fields : List Field) → IsRow fields (replicate (length fields) Bad)
all-unknown [] = tt
all-unknown (f ∷ fields) = (any f.kind, all-unknown fields)
  where
    any : (k : Kind) → IsOfKind k Bad
    any k = tt

-- a record of which nothing is known
pub unknown-row : (fields seen : List Field) (values row : List Value) → seen ≡ fields → values ≡ replicate (length seen) Bad → row ≡ values → IsRow fields row
unknown-row fields seen values row seen_is values_are row_is =
    subst (λ (vs : List Value). IsRow fields vs) (sym (row_is ∙ values_are ∙ ap (λ (fs : List Field). replicate (length fs) Bad) seen_is)) (all-unknown fields)

-- a step more
pub steps-more : (listing : Listing) (place : ℕ) (before after : List Step) (step : Step) → after ≡ before ++ step ∷ [] → before ≡ steps_of listing place → step
    ≡ step_at listing place → after ≡ steps_of listing (place + 1)
steps-more listing place before after step items steps is =
    items ∙ ap (λ (ss : List Step). ss ++ step ∷ []) steps ∙ ap (λ (s : Step). steps_of listing place ++ s ∷ []) is
    ∙ sym (map-range_with_len_more (λ p. step_at listing p) 0 place place (omega arith))

-- ---- what the check of the steps is given

-- the lines of the generated edits
pub lines-given : (shape : List Domain) (edits : EditsParts) → edits ≡ edits_of shape (differences Plain (count_of Plain))
    → map (λ (e : ℕ × LineParts). e.1) edits.lines ≡ generated_lines
lines-given shape edits is = ap (λ (e : EditsParts). map (λ (l : ℕ × LineParts). l.1) e.lines) is

all-over : (from count : ℕ) → AreOver (shape_with (numbers_of Plain))
    (map (λ (e : ℕ × LineParts). e.1) (map (λ p. numbered_line Plain p) (range_with_len from count)))
all-over from zero k d below = absurd (omega arith)
all-over from (suc n) zero d below = refl
all-over from (suc n) (suc k) d below = all-over (from + 1) n k d (omega arith)

-- they are over the fields
pub lines-over : (fields : List Field) (given : List LineParts) → shape_of fields ≡ shape_with (numbers_of Plain) → given ≡ generated_lines
    → AreOver (shape_of fields) given
lines-over fields given shape is = subst (λ (s : List Domain). AreOver s given) (sym shape)
    (subst (λ (ls : List LineParts). AreOver (shape_with (numbers_of Plain)) ls) (sym is) (all-over 0 (count_of Plain)))

-- there is one for each ordered pair of two fields
lines-counted : length generated_lines ≡ count_of Plain
lines-counted = length-map (differences Plain (count_of Plain)) (λ (e : ℕ × LineParts). e.1)
    ∙ length-map-range_with_len (λ p. numbered_line Plain p) 0 (count_of Plain)

fields-counted : (fields : List Field) → shape_of fields ≡ shape_with (numbers_of Plain) → length fields ≡ numbers_of Plain + 1
fields-counted fields shape = sym (length-map fields (λ (f : Field). domain_of f.kind)) ∙ ap (λ (s : List Domain). length s) shape

below-power : (n : ℕ) → n < 2 ^ n
below-power zero = omega arith
below-power (suc n) = omega (arith, below-power n)

-- a set without fields
no-fields : (kept : ℕ) → ((f : ℕ) → has_number kept f ≡ false) → kept ≡ 0
no-fields kept none = same_from_bits_below kept kept 0 (below-power kept) (omega (arith, below-power kept)) (λ f _. unset f ∙ sym (bit_at-zero f))
  where
    unset : (f : ℕ) → bit_at kept f ≡ 0
    unset f = omega (arith, bit_at-lt kept f, eqb-false (bit_at kept f) 1 (none f))

-- a list of steps over the fields, lines, record and set that were made for it
pub record IsListed (fields : List Field) (given : List LineParts) (usable : List Bool) (row : List Value) (kept : ℕ) (steps : List Step) (listing : Listing)
    (count : ℕ) : Type 0 where
  pub shape : shape_of fields ≡ shape_with (numbers_of Plain)
  pub lines : given ≡ generated_lines
  pub usable_all : usable ≡ replicate (length given) true
  pub unknown : row ≡ replicate (length fields) Bad
  pub none : (f : ℕ) → has_number kept f ≡ false
  pub listed : steps ≡ steps_of listing count

-- what its check tells is what is told of the generated edits
pub refused-generated : (fields : List Field) (given : List LineParts) (usable : List Bool) (row : List Value) (kept : ℕ) (steps : List Step)
    (listing : Listing) (count : ℕ) (result : Result Proved ℕ) → IsListed fields given usable row kept steps listing count
    → steps_result (premises_of (shape_of fields) given usable row kept) steps ≡ result → refused_at result ≡ first_refused listing count
refused-generated fields given usable row kept steps listing count result l is =
    ap refused_at (sym is) ∙ ap (λ (ss : List Step). refused_at (steps_result (premises_of (shape_of fields) given usable row kept) ss)) l.listed
    ∙ ap (λ (p : Premises). refused_at (steps_result p (steps_of listing count))) premises
  where
    premises : premises_of (shape_of fields) given usable row kept ≡ generated_premises
    premises =
        ap (λ (s : List Domain). premises_of s given usable row kept) l.shape
        ∙ ap (λ (us : List Bool). premises_of (shape_with (numbers_of Plain)) given us row kept)
        (l.usable_all ∙ ap (λ (ls : List LineParts). replicate (length ls) true) l.lines ∙ ap (λ n. replicate n true) lines-counted)
        ∙ ap (λ (ls : List LineParts). premises_of (shape_with (numbers_of Plain)) ls (replicate (count_of Plain) true) row kept) l.lines
        ∙ ap (λ (vs : List Value). premises_of (shape_with (numbers_of Plain)) generated_lines (replicate (count_of Plain) true) vs kept)
        (l.unknown ∙ ap (λ n. replicate n Bad) (fields-counted fields l.shape))
        ∙ ap (λ k. premises_of (shape_with (numbers_of Plain)) generated_lines (replicate (count_of Plain) true) (replicate (numbers_of Plain + 1) Bad) k)
        (no-fields kept l.none)
