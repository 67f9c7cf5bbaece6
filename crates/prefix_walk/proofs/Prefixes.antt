use Rattle.std.proofs.Common.{◌≡◌, inl, inr, ℕ, zero, suc, ◌&&◌, Bool, true, not, List, [], ◌∷◌, slice_index_or, take, refl, sym, ap, ◌∙◌}
use Rattle.edit_line.specs.Reductions.{IsIn}
use Rattle.edit_line.proofs.Members.{any-in, in-any, in-map, in-map-out}
use Rattle.edit_line.proofs.SetLaws.{both_true}
use Rattle.edit_model.specs.Corrections.{path_order}
use Rattle.edit_model.specs.Points.{Point}
use Rattle.edit_model.specs.Rows.{is_bad, value_of}
use Rattle.edit_model.specs.declared.field.Field.{Field}
use Rattle.edit_model.specs.declared.value.Value.{Value}
use Rattle.bound_cert.specs.Paths.{keeps, keeps_bad, path_place}
use Rattle.edit_paths.specs.Cases.{SearchCase}
use Rattle.edit_paths.specs.Paths.{AgreesAlong}
use Rattle.prefix_walk.specs.PathWalks.{prefixes}

-- The paths that a path extends.

-- each prefix keeps what the path keeps
pub kept-on : (path q : List Bool) → IsIn q (prefixes path) → (i : ℕ) → not (slice_index_or q i true) ≡ true → not (slice_index_or path i true) ≡ true
kept-on [] q (inl same) i h = absurd (cc (sym (ap (λ (p : List Bool). not (slice_index_or p i true)) same) ∙ h))
kept-on [] q (inr there) i h = absurd there
kept-on (letter ∷ path) q (inl same) i h = absurd (cc (sym (ap (λ (p : List Bool). not (slice_index_or p i true)) same) ∙ h))
kept-on (letter ∷ path) q (inr there) i h =
    let (rest, rest_in, same) = in-map-out (λ (p : List Bool). letter ∷ p) q (prefixes path) there in
    by rest (kept-on path rest rest_in) i (sym (ap (λ (p : List Bool). not (slice_index_or p i true)) same) ∙ h)
  where
    by : (rest : List Bool) → ((i : ℕ) → not (slice_index_or rest i true) ≡ true → not (slice_index_or path i true) ≡ true)
        → (i : ℕ) → not (slice_index_or (letter ∷ rest) i true) ≡ true → not (slice_index_or (letter ∷ path) i true) ≡ true
    by rest on zero h = h
    by rest on (suc i) h = on i h

pub keeps-on : (fields : List Field) (path q : List Bool) → IsIn q (prefixes path) → (f : ℕ) → keeps fields q f ≡ true → keeps fields path f ≡ true
keeps-on fields path q there f h = kept-on path q there (path_place fields f) h

-- a point that keeps what the path keeps keeps what a prefix does
pub agrees-on : (c : SearchCase) (path q : List Bool) → IsIn q (prefixes path) → (p : Point) → AgreesAlong c path p → AgreesAlong c q p
agrees-on c path q there p agrees f field kept = agrees f field (keeps-on c.survey.fields path q there f kept)

-- a prefix keeps no field without a value, where the path keeps none
pub bad-on : (fields : List Field) (row : List Value) (path q : List Bool) → IsIn q (prefixes path) → keeps_bad fields row q ≡ true
    → keeps_bad fields row path ≡ true
bad-on fields row path q there h =
    let (f, among, both) = in-any (λ f. keeps fields q f && is_bad (value_of row f)) (path_order fields) h in
    let (kept, bad) = both_true (keeps fields q f) (is_bad (value_of row f)) both in
    any-in (λ f. keeps fields path f && is_bad (value_of row f)) f (path_order fields) among
    (ap (λ k. k && is_bad (value_of row f)) (keeps-on fields path q there f kept) ∙ bad)

-- the first letters of a path are one of its prefixes
pub take-in : (path : List Bool) (k : ℕ) → IsIn (take k path) (prefixes path)
take-in [] zero = inl refl
take-in [] (suc k) = inl refl
take-in (letter ∷ path) zero = inl refl
take-in (letter ∷ path) (suc k) = inr (in-map (λ (p : List Bool). letter ∷ p) (take k path) (prefixes path) (take-in path k))

-- the path is the last of them
pub path-in : (path : List Bool) → IsIn path (prefixes path)
path-in [] = inl refl
path-in (letter ∷ path) = inr (in-map (λ (p : List Bool). letter ∷ p) path (prefixes path) (path-in path))
