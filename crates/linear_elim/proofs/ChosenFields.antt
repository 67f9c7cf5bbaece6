use Rattle.std.proofs.Common.{◌≡◌, ◌≢◌, ◌||◌, ◌==◌, Bool, true, false, if◌then◌else◌, ℕ, suc, ◌≤◌, List, [], ◌∷◌, ◌++◌, filter, refl, sym, ap, ◌∙◌, arith}
use Rattle.std.proofs.lemmas.Bool.Decides.{Decides-eqb}
use Rattle.edit_model.specs.FieldSets.{has_number}
use Rattle.edit_line.specs.Shapes.{Categorical, Domain, IsNumerical, Numerical, has_field, number_fields, numbers_from}
use Rattle.edit_line.proofs.FieldLists.{has-there, there-has}
use Rattle.edit_line.proofs.Members.{in-filter}
use Rattle.linear_elim.specs.Systems.{AreNumerical, chosen_fields}

-- The numerical fields of a set, in declared order.

-- the fields of a set of numerical fields are all chosen
pub chosen-has : (shape : List Domain) (bits f : ℕ) → AreNumerical shape bits → has_number bits f ≡ true → has_field (chosen_fields shape bits) f ≡ true
chosen-has shape bits f numerical there =
    there-has f (chosen_fields shape bits) (in-filter (has_number bits) f (number_fields shape) there (has-there f (number_fields shape) (numerical f there)))

-- ---- a set with a later field more

-- of a set that has no field from number i on, none is chosen there
pub none-chosen : (bits i : ℕ) (shape : List Domain) → ((g : ℕ) → i ≤ g → has_number bits g ≡ false) → filter (has_number bits) (numbers_from i shape) ≡ []
none-chosen bits i [] none = refl
none-chosen bits i (Numerical ∷ shape) none =
    ap (λ b. if b then i ∷ filter (has_number bits) (numbers_from (suc i) shape) else filter (has_number bits) (numbers_from (suc i) shape))
    (none i (omega arith))
    ∙ none-chosen bits (suc i) shape (λ g above. none g (omega arith))
none-chosen bits i (Categorical k ∷ shape) none = none-chosen bits (suc i) shape (λ g above. none g (omega arith))

-- one set has the field, and is else as the other, which has no field from it on
pub record HasOneMore (bits more last : ℕ) : Type 0 where
  pub own : has_number more last ≡ true
  pub others : (g : ℕ) → g ≢ last → has_number more g ≡ has_number bits g
  pub later : (g : ℕ) → last ≤ g → has_number bits g ≡ false

more-from : (bits more last i : ℕ) (shape : List Domain) → HasOneMore bits more last → has_field (numbers_from i shape) last ≡ true
    → filter (has_number more) (numbers_from i shape) ≡ filter (has_number bits) (numbers_from i shape) ++ last ∷ []
more-from bits more last i [] one there = absurd (cc)
more-from bits more last i (Categorical k ∷ shape) one there = more-from bits more last (suc i) shape one there
more-from bits more last i (Numerical ∷ shape) one there = by (i == last) refl there (more-from bits more last (suc i) shape one)
  where
    with_rest : Bool → List ℕ → List ℕ
    with_rest b rest = if b then i ∷ rest else rest

    by : (b : Bool) → (i == last) ≡ b → (b || has_field (numbers_from (suc i) shape) last) ≡ true
        → (has_field (numbers_from (suc i) shape) last ≡ true
        → filter (has_number more) (numbers_from (suc i) shape) ≡ filter (has_number bits) (numbers_from (suc i) shape) ++ last ∷ [])
        → (if has_number more i then i ∷ filter (has_number more) (numbers_from (suc i) shape) else filter (has_number more) (numbers_from (suc i) shape))
        ≡ (if has_number bits i then i ∷ filter (has_number bits) (numbers_from (suc i) shape) else filter (has_number bits) (numbers_from (suc i) shape))
        ++ last ∷ []
    by true e h rest =
        let same : i ≡ last = (Decides-eqb i last).0 e in
        rw (ap (λ j. has_number more j) same ∙ one.own, one.later i (omega arith))
        (rw (
          none-chosen more (suc i) shape (λ g above. one.others g (λ at. absurd (omega arith)) ∙ one.later g (omega arith)),
          none-chosen bits (suc i)
              shape (λ g above. one.later g (omega arith)),
        )
        (ap (λ j. j ∷ []) same))
    by false e h rest =
        let apart : i ≢ last = λ at. cc (sym e ∙ (Decides-eqb i last).1 at) in
        rw (one.others i apart) (either (has_number bits i) (rest h))
      where
        either : (b : Bool) → filter (has_number more) (numbers_from (suc i) shape) ≡ filter (has_number bits) (numbers_from (suc i) shape) ++ last ∷ []
            → (if b then i ∷ filter (has_number more) (numbers_from (suc i) shape) else filter (has_number more) (numbers_from (suc i) shape))
            ≡ (if b then i ∷ filter (has_number bits) (numbers_from (suc i) shape) else filter (has_number bits) (numbers_from (suc i) shape)) ++ last ∷ []
        either true e = ap (λ fs. i ∷ fs) e
        either false e = e

-- one numerical field more, later than all of the set, is chosen last
pub chosen-more : (shape : List Domain) (bits more last : ℕ) → IsNumerical shape last → HasOneMore bits more last
    → chosen_fields shape more ≡ chosen_fields shape bits ++ last ∷ []
chosen-more shape bits more last number one = more-from bits more last 0 shape one number
