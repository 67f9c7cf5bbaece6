-- Sums of terms, one term more.
use Rattle.std.proofs.Common.{◌≡◌, ℕ, ℤ, ◌+◌, ◌*◌, ◌^◌, ◌<◌, ◌≤◌, Bool, true, false, if◌then◌else◌, Option, pos, ◌+ℤ◌, FitsSigned, arith}
use Rattle.std.proofs.Common.{List, [], ◌∷◌, ◌++◌, drop, get_or, length, refl, sym, ap, ◌∙◌, add-one, append_assoc}
use Rattle.std.specs.Prelude.{unsigned_abs}
use Rattle.std.specs.Ordering.{int_eq}
use Rattle.std.proofs.lemmas.Int.{fits_signed_from_abs, ints}
use Rattle.std.proofs.lemmas.List.{at_drop_more}
use mir.Syntax.{w128}
use Rattle.edit_model.specs.declared.field.Field.{Field}
use Rattle.edit_model.specs.declared.rule.Term.{Term}
use Rattle.rule_grammar.specs.declared.statement.SignedTerm.{SignedTerm}
use Rattle.rule_grammar.specs.declared.statement.SumText.{SumText}
use Rattle.edit_language.specs.Meaning.{moved_factor, moved_terms, signed}
use Rattle.edit_language.specs.inner.Sums.{part_in, parts_added, with_term}

-- ---- what the terms add up to

-- a total and a part are a total with the part taken in
taken_in : (whole total part rest more : ℤ) → whole ≡ total +ℤ rest → rest ≡ part +ℤ more → whole ≡ (total +ℤ part) +ℤ more
taken_in whole total part rest more e f = omega (arith, ints)

pub parts_more : (name : Option (List ℕ)) (terms : List SignedTerm) (i : ℕ) (t : SignedTerm) (whole total part : ℤ) → i < length terms
    → t ≡ get_or terms i t → part ≡ signed t.sign (part_in name t.term) → whole ≡ total +ℤ parts_added name (drop i terms)
    → whole ≡ (total +ℤ part) +ℤ parts_added name (drop (i + 1) terms)
parts_more name terms i t whole total part within here is e =
    let next : parts_added name (drop i terms) ≡ parts_added name (t ∷ drop (i + 1) terms) =
    at_drop_more (parts_added name) terms i t within ∙ ap (λ (u : SignedTerm). parts_added name (u ∷ drop (i + 1) terms)) (sym here) in
    rw is (taken_in whole total _ _ _ e next)

-- the size of what i + 1 terms add up to
pub size_more : (i : ℕ) (total part : ℤ) (n : ℕ) → unsigned_abs total ≤ 10 ^ 15 * i → unsigned_abs part ≡ n → n ≤ 10 ^ 15
    → unsigned_abs (total +ℤ part) ≤ 10 ^ 15 * (i + 1)
size_more i total part n size is small = omega (arith, ints)

-- what fewer than 2^64 terms add up to fits 128 bits
pub sum_fits : (sum : ℤ) (i n : ℕ) → unsigned_abs sum ≤ 10 ^ 15 * (i + 1) → i < n → n < 2 ^ 64 → FitsSigned w128 sum
sum_fits sum i n size within few = fits_signed_from_abs w128 sum (omega arith)

-- ---- the terms of the fields

-- the term is put in front of those behind it
put_in : (none : Bool) (terms rest : List Term) (t : Term) → (if none then terms else terms ++ t ∷ []) ++ rest ≡ terms ++ (if none then rest else t ∷ rest)
put_in true terms rest t = refl
put_in false terms rest t = append_assoc terms (t ∷ []) rest

pub moved_more : (left right : SumText) (fields : List Field) (i : ℕ) (f : Field) (factor : ℤ) (terms next : List Term) → i < length fields
    → f ≡ get_or fields i f → factor ≡ moved_factor left right f.name → next ≡ with_term terms i factor
    → next ++ moved_terms left right (i + 1) (drop (i + 1) fields) ≡ terms ++ moved_terms left right i (drop i fields)
moved_more left right fields i f factor terms next within here is e =
    let now : moved_terms left right i (drop i fields) ≡ moved_terms left right i (f ∷ drop (i + 1) fields) =
    at_drop_more (moved_terms left right i) fields i f within ∙ ap (λ (g : Field). moved_terms left right i (g ∷ drop (i + 1) fields)) (sym here) in
    rw (now, e, is, add-one) (put_in (int_eq (moved_factor left right f.name) (pos 0)) terms _ _)
