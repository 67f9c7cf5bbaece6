use Rattle.std.proofs.Common.{◌≡◌, ℕ, zero, suc, ◌&&◌, nat_eq, true, List, [], ◌∷◌, map, refl, sym, ap, ◌∙◌, arith}
use Rattle.std.specs.Bool.{Decides}
use Rattle.std.specs.Cmp.Derive.Mapped.{pointwise-map}
use Rattle.std.specs.Cmp.Lexicographic.{pointwise}
use Rattle.std.proofs.lemmas.Bool.Decides.{Decides-eqb, Decides-int_eq}
use Rattle.std.proofs.lemmas.Slice.Eq.{slice_eq-Decides}
use Rattle.edit_line.specs.EditSets.{EditsParts, edits_of}
use Rattle.edit_line.specs.Equality.{same_domain, same_edits, same_line, same_numbered, same_shape}
use Rattle.edit_line.specs.Lines.{LineParts, parts_of}
use Rattle.edit_line.specs.Shapes.{Categorical, Domain, Numerical, domain_with}
use Rattle.edit_line.proofs.BoolLaws.{true-both}
use Rattle.edit_line.proofs.RelationLaws.{same_relation-Decides}
use Rattle.edit_line.proofs.SetLaws.{both_true}
use Rattle.edit_line.proofs.SubsumptionLaws.{same_all-Decides}

-- The tests of equality are true of equal values alone.

number_codes : (n : ℕ) → Numerical ≡ Categorical n → ⊥
number_codes n same = absurd (cc)

pub same_domain-Decides : (a b : Domain) → Decides (same_domain a b) (a ≡ b)
same_domain-Decides Numerical Numerical = (λ _. refl, λ _. refl)
same_domain-Decides Numerical (Categorical n) = (λ h. absurd (cc), λ same. absurd (number_codes n same))
same_domain-Decides (Categorical m) Numerical = (λ h. absurd (cc), λ same. absurd (number_codes m (sym same)))
same_domain-Decides (Categorical m) (Categorical n) = (λ h. ap (λ k. Categorical k) ((Decides-eqb m n).0 h), λ same. (Decides-eqb m n).1 (cc))

pub same_shape-Decides : (a b : List Domain) → Decides (same_shape a b) (a ≡ b)
same_shape-Decides a b = slice_eq-Decides {E = same_domain} same_domain-Decides a b (same_shape a b) refl

pub same_sets-Decides : (a b : List ℕ) → Decides (pointwise nat_eq a b) (a ≡ b)
same_sets-Decides a b = slice_eq-Decides {E = nat_eq} Decides-eqb a b (pointwise nat_eq a b) refl

pub same_line-Decides : (a b : LineParts) → Decides (same_line a b) (a ≡ b)
same_line-Decides a b = (there, back)
  where
    there : same_line a b ≡ true → a ≡ b
    there h =
        let (shape, after) = both_true _ _ h in
        let (sets, later) = both_true _ _ after in
        let (factors, rest) = both_true _ _ later in
        let (constant, relation) = both_true _ _ rest in
        let shape_is = (same_shape-Decides a.shape b.shape).0 shape in
        let sets_are = (same_sets-Decides a.sets b.sets).0 sets in
        let factors_are = (same_all-Decides a.factors b.factors).0 factors in
        let constant_is = (Decides-int_eq a.constant b.constant).0 constant in
        let relation_is = (same_relation-Decides a.relation b.relation).0 relation in
        λ i. parts_of (shape_is i) (sets_are i) (factors_are i) (constant_is i) (relation_is i)

    back : a ≡ b → same_line a b ≡ true
    back same =
        true-both _ _ ((same_shape-Decides a.shape b.shape).1 (ap (λ (l : LineParts). l.shape) same)) (
        true-both _ _ ((same_sets-Decides a.sets b.sets).1 (ap (λ (l : LineParts). l.sets) same)) (
        true-both _ _ ((same_all-Decides a.factors b.factors).1 (ap (λ (l : LineParts). l.factors) same)) (
        true-both _ _ ((Decides-int_eq a.constant b.constant).1 (ap (λ (l : LineParts). l.constant) same))
        ((same_relation-Decides a.relation b.relation).1 (ap (λ (l : LineParts). l.relation) same)))))

same_numbered-Decides : (a b : ℕ × LineParts) → Decides (same_numbered a b) (a ≡ b)
same_numbered-Decides a b = (there, back)
  where
    there : same_numbered a b ≡ true → a ≡ b
    there h =
        let (number, line) = both_true _ _ h in
        let number_is = (Decides-eqb a.0 b.0).0 number in
        let line_is = (same_line-Decides a.1 b.1).0 line in
        λ i. (number_is i, line_is i)

    back : a ≡ b → same_numbered a b ≡ true
    back same = true-both _ _ ((Decides-eqb a.0 b.0).1 (ap (λ (e : ℕ × LineParts). e.0) same))
        ((same_line-Decides a.1 b.1).1 (ap (λ (e : ℕ × LineParts). e.1) same))

pub same_edits-Decides : (a b : EditsParts) → Decides (same_edits a b) (a ≡ b)
same_edits-Decides a b = (there, back)
  where
    there : same_edits a b ≡ true → a ≡ b
    there h =
        let (shape, lines) = both_true _ _ h in
        let shape_is = (same_shape-Decides a.shape b.shape).0 shape in
        let lines_are = (slice_eq-Decides {E = same_numbered} same_numbered-Decides a.lines b.lines (pointwise same_numbered a.lines b.lines) refl).0 lines in
        λ i. edits_of (shape_is i) (lines_are i)

    back : a ≡ b → same_edits a b ≡ true
    back same =
        true-both _ _ ((same_shape-Decides a.shape b.shape).1 (ap (λ (e : EditsParts). e.shape) same))
        ((slice_eq-Decides {E = same_numbered} same_numbered-Decides a.lines b.lines (pointwise same_numbered a.lines b.lines) refl).1
        (ap (λ (e : EditsParts). e.lines) same))

-- ---- shapes by their numbers of codes

same_counts : (m n : ℕ) → same_domain (domain_with m) (domain_with n) ≡ nat_eq m n
same_counts zero zero = refl
same_counts zero (suc n) = grind arith
same_counts (suc m) zero = grind arith
same_counts (suc m) (suc n) = refl

pub counts-same : (first second : List ℕ) → pointwise nat_eq first second ≡ same_shape (map domain_with first) (map domain_with second)
counts-same first second = by first second ∙ sym (pointwise-map domain_with same_domain first second)
  where
    by : (xs ys : List ℕ) → pointwise nat_eq xs ys ≡ pointwise (λ m n. same_domain (domain_with m) (domain_with n)) xs ys
    by [] [] = refl
    by [] (y ∷ ys) = refl
    by (x ∷ xs) [] = refl
    by (x ∷ xs) (y ∷ ys) = ap (λ b. b && pointwise nat_eq xs ys) (sym (same_counts x y)) ∙ ap (λ b. same_domain (domain_with x) (domain_with y) && b) (by xs ys)
