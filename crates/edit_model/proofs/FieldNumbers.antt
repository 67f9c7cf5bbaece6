use Rattle.std.proofs.Common.{◌≡◌, ℕ, suc, ◌+◌, ◌<◌, ◌≤◌, Bool, true, false, not, if◌then◌else◌, List, [], ◌∷◌, ◌++◌, get_or, length, drop, refl, sym, ap, ◌∙◌}
use Rattle.std.proofs.Common.{add-one, append_assoc, append-nil}
use Rattle.std.specs.Bool.{beq}
use Rattle.std.proofs.Math.Seq.{drop-cons}
use Rattle.std.proofs.lemmas.List.{drop_all}
use Rattle.edit_model.specs.Corrections.{numbers_from}
use Rattle.edit_model.specs.inner.Indexes.{is_of_sort}
use Rattle.edit_model.specs.declared.field.Field.{Field}
use Rattle.edit_model.specs.Corrections.{is_numerical}

-- a comparison of two answers
same_answer : (a b : Bool) → beq a b ≡ (if b then a else not a)
same_answer true true = refl
same_answer true false = refl
same_answer false true = refl
same_answer false false = refl

-- one number more, or none, and then those of the later fields
kept_or_not : (b : Bool) (i : ℕ) (rest done : List ℕ) → (if b then done ++ i ∷ [] else done) ++ rest ≡ done ++ (if b then i ∷ rest else rest)
kept_or_not true i rest done = append_assoc done (i ∷ []) rest
kept_or_not false i rest done = refl

-- the numbers up to a place, and so with the field there
pub numbers_more : (numerical wanted : Bool) (fields : List Field) (i : ℕ) (field : Field) (done more whole : List ℕ) → i < length fields → field
    ≡ get_or fields i field
    → wanted ≡ is_numerical field.kind → more ≡ (if beq wanted numerical then done ++ i ∷ [] else done)
    → done ++ numbers_from (is_of_sort numerical) i (drop i fields) ≡ whole
    → more ++ numbers_from (is_of_sort numerical) (i + 1) (drop (i + 1) fields) ≡ whole
numbers_more numerical wanted fields i field done more whole below here is pushed before =
    let rest = numbers_from (is_of_sort numerical) (suc i) (drop (suc i) fields) in
    let split : drop i fields ≡ field ∷ drop (suc i) fields = drop-cons fields i field below ∙ ap (λ (f : Field). f ∷ drop (suc i) fields) (sym here) in
    let opened : numbers_from (is_of_sort numerical) i (drop i fields) ≡ (if is_of_sort numerical field.kind then i ∷ rest else rest) =
    ap (λ (fs : List Field). numbers_from (is_of_sort numerical) i fs) split in
    let test : beq wanted numerical ≡ is_of_sort numerical field.kind = ap (λ (b : Bool). beq b numerical) is
    ∙ same_answer (is_numerical field.kind) numerical in
    rw (add-one) (ap (λ (ns : List ℕ). ns ++ rest) pushed ∙ kept_or_not (beq wanted numerical) i rest done
    ∙ ap (λ (b : Bool). done ++ (if b then i ∷ rest else rest)) test ∙ ap (λ (ns : List ℕ). done ++ ns) (sym opened) ∙ before)

-- past the last field there is nothing to add
pub numbers_all : (numerical : Bool) (fields : List Field) (i : ℕ) (done whole : List ℕ) → length fields ≤ i
    → done ++ numbers_from (is_of_sort numerical) i (drop i fields) ≡ whole → done ≡ whole
numbers_all numerical fields i done whole past before =
    let none : numbers_from (is_of_sort numerical) i (drop i fields) ≡ [] = ap (λ (fs : List Field). numbers_from (is_of_sort numerical) i fs)
    (drop_all i fields past) in
    sym (append-nil done) ∙ ap (λ (ns : List ℕ). done ++ ns) (sym none) ∙ before
