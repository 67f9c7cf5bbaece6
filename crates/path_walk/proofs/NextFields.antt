use Rattle.std.proofs.Common.{◌≡◌, ◌&&◌, ◌||◌, ◌==◌, ℕ, suc, ◌-◌, ◌<◌, ◌≤◌, Bool, true, false, if◌then◌else◌, List, [], ◌∷◌, ◌++◌, length}
use Rattle.std.proofs.Common.{slice_index_or, filter, refl, sym, ap, ◌∙◌, arith}
use Rattle.std.proofs.lemmas.Bool.Decides.{Decides-eqb}
use Rattle.edit_model.specs.Corrections.{path_order}
use Rattle.edit_model.specs.FieldSets.{has_number, set_of, with_number}
use Rattle.edit_model.proofs.FieldSetLaws.{has-set_of, same_set, set_of-push}
use Rattle.edit_line.specs.Shapes.{Categorical, Domain, IsNumerical, Numerical, code_fields, has_field, number_fields, numbers_from, shape_of}
use Rattle.edit_line.proofs.FieldLists.{has-filter, has-right, has-there, there-has}
use Rattle.edit_line.proofs.Members.{in-filter-out}
use Rattle.linear_elim.specs.LastFields.{IsPast}
use Rattle.linear_elim.specs.Systems.{chosen_fields}
use Rattle.bound_cert.specs.Paths.{changes}
use Rattle.edit_paths.specs.Cases.{SearchCase}
use Rattle.edit_paths.specs.Paths.{before_last, changed_numbers, last_letter, number_count}
use Rattle.edit_paths.proofs.ChildLaws.{child-numbers, chosen-changed}
use Rattle.edit_paths.proofs.LetterLaws.{count-kinds, longer, order-shape}
use Rattle.path_walk.proofs.LastLetters.{split-last}
use Rattle.path_walk.proofs.NumberPathLaws.{first-of, in-index}

-- The numerical fields of a path that changes one more are those before, and a later one.

-- ---- fields in declared order

-- the numerical fields from number i on are not before it
from-first : (i f : ℕ) (test : ℕ → Bool) (shape : List Domain) → has_field (filter test (numbers_from i shape)) f ≡ true → i ≤ f
from-first i f test [] there = absurd (cc)
from-first i f test (Categorical k ∷ shape) there = let later = from-first (suc i) f test shape there in omega (arith, later)
from-first i f test (Numerical ∷ shape) there = by (test i) there (from-first (suc i) f test shape)
  where
    by : (b : Bool) → has_field (if b then i ∷ filter test (numbers_from (suc i) shape) else filter test (numbers_from (suc i) shape)) f ≡ true
        → (has_field (filter test (numbers_from (suc i) shape)) f ≡ true → suc i ≤ f) → i ≤ f
    by false there later = let after = later there in omega (arith, after)
    by true there later = here (i == f) (Decides-eqb i f).0 there
      where
        here : (b : Bool) → (b ≡ true → i ≡ f) → (b || has_field (filter test (numbers_from (suc i) shape)) f) ≡ true → i ≤ f
        here true same there = let e = same refl in omega (arith, e)
        here false same there = let after = later there in omega (arith, after)

-- those before another are lower
before-lower : (i g : ℕ) (test : ℕ → Bool) (shape : List Domain) (before : List ℕ) (last : ℕ) → filter test (numbers_from i shape) ≡ before ++ last ∷ []
    → has_field before g ≡ true → g < last
before-lower i g test [] [] last is there = absurd (cc)
before-lower i g test [] (f ∷ before) last is there = absurd (cc)
before-lower i g test (Categorical k ∷ shape) before last is there = before-lower (suc i) g test shape before last is there
before-lower i g test (Numerical ∷ shape) before last is there =
    by (test i) before is there (λ bs e h. before-lower (suc i) g test shape bs last e h) (λ f h. from-first (suc i) f test shape h)
  where
    rest : List ℕ
    rest = filter test (numbers_from (suc i) shape)

    by : (b : Bool) (before : List ℕ) → (if b then i ∷ rest else rest) ≡ before ++ last ∷ [] → has_field before g ≡ true
        → ((bs : List ℕ) → rest ≡ bs ++ last ∷ [] → has_field bs g ≡ true → g < last) → ((f : ℕ) → has_field rest f ≡ true → suc i ≤ f) → g < last
    by false before is there later after = later before is there
    by true [] is there later after = absurd (cc)
    by true (f ∷ bs) is there later after = here (f == g) (Decides-eqb f g).0 there
      where
        first : i ≡ f
        first = cc

        others : rest ≡ bs ++ last ∷ []
        others = cc

        here : (b : Bool) → (b ≡ true → f ≡ g) → (b || has_field bs g) ≡ true → g < last
        here true same h =
            let last_there = ap (λ fs. has_field fs last) others ∙ has-right last bs (last ∷ []) (ap (λ b. b || false) ((Decides-eqb last last).1 refl)) in
            let past = after last last_there in
            let e = same refl in omega (arith, past, e, first)
        here false same h = later bs others h

module _ (c : SearchCase) (path : List Bool) where
  -- the set of the changed numerical fields chooses exactly these
  pub set-chosen : chosen_fields (shape_of c.survey.fields) (set_of (changed_numbers c path)) ≡ changed_numbers c path
  set-chosen =
      chosen-changed c path (set_of (changed_numbers c path))
      (λ f there. has-set_of (changed_numbers c path) f ∙ has-filter (changes c.survey.fields path) f (number_fields (shape_of c.survey.fields)) there)

  -- a set of these fields is that set
  pub changed-set : (set : ℕ) → ((f : ℕ) → has_number set f ≡ (has_field (number_fields (shape_of c.survey.fields)) f && changes c.survey.fields path f))
      → set ≡ set_of (changed_numbers c path)
  changed-set set all =
      same_set set (set_of (changed_numbers c path)) (λ f. all f
      ∙ sym (has-set_of (changed_numbers c path) f ∙ filtered f (number_fields (shape_of c.survey.fields))))
    where
      filtered : (f : ℕ) (fields : List ℕ) → has_field (filter (changes c.survey.fields path) fields) f ≡ (has_field fields f && changes c.survey.fields path f)
      filtered f fields = by (has_field fields f) refl (has_field (filter (changes c.survey.fields path) fields) f) refl
        where
          by : (h : Bool) → has_field fields f ≡ h → (k : Bool) → has_field (filter (changes c.survey.fields path) fields) f ≡ k
              → k ≡ (h && changes c.survey.fields path f)
          by true there k is = sym is ∙ has-filter (changes c.survey.fields path) f fields there
          by false none true is = absurd (cc (sym none ∙ there-has f fields
              (in-filter-out (changes c.survey.fields path) f fields (has-there f (filter (changes c.survey.fields path) fields) is)).0))
          by false none false is = refl

  -- ---- where the path changes its last field, which is numerical
  module _ (some : 0 < length path) (fit : length path ≤ number_count c) (changed : last_letter path ≡ true) (f : ℕ)
      (is : f ≡ slice_index_or (path_order c.survey.fields) (length path - 1) 0) where
    low : length path - 1 < number_count c
    low = omega (arith, some, fit)

    here : f ≡ slice_index_or (number_fields (shape_of c.survey.fields)) (length path - 1) 0
    here =
        is ∙ ap (λ (fs : List ℕ). slice_index_or fs (length path - 1) 0) (order-shape c.survey.fields)
        ∙ first-of (number_fields (shape_of c.survey.fields)) (code_fields (shape_of c.survey.fields)) (length path - 1) low

    pub next-numerical : IsNumerical (shape_of c.survey.fields) f
    next-numerical =
        ap (λ g. has_field (number_fields (shape_of c.survey.fields)) g) here
        ∙ there-has (slice_index_or (number_fields (shape_of c.survey.fields)) (length path - 1) 0) (number_fields (shape_of c.survey.fields))
        (in-index (number_fields (shape_of c.survey.fields)) (length path - 1) 0 low)

    -- it is changed besides those of the path before
    next-numbers : changed_numbers c path ≡ changed_numbers c (before_last path) ++ f ∷ []
    next-numbers =
        let split = split-last path false some in
        let counted = ap (λ (q : List Bool). length q) split ∙ longer (before_last path) (last_letter path) in
        let few : length (before_last path) < number_count c = omega (arith, counted, fit) in
        ap (λ (q : List Bool). changed_numbers c q) split
        ∙ child-numbers c (before_last path) (last_letter path) (omega (arith, few, count-kinds c)) few
        ∙ ap (λ (b : Bool). changed_numbers c (before_last path)
        ++ (if b then slice_index_or (number_fields (shape_of c.survey.fields)) (length (before_last path)) 0 ∷ [] else [])) changed
        ∙ ap (λ (g : ℕ). changed_numbers c (before_last path) ++ g ∷ [])
        (ap (λ (n : ℕ). slice_index_or (number_fields (shape_of c.survey.fields)) n 0) (omega (arith, counted)) ∙ sym here)

    -- and past them
    pub next-past : IsPast (set_of (changed_numbers c (before_last path))) f
    next-past g after = has-set_of (changed_numbers c (before_last path)) g ∙ by (has_field (changed_numbers c (before_last path)) g) refl
      where
        by : (b : Bool) → has_field (changed_numbers c (before_last path)) g ≡ b → b ≡ false
        by true there = let lower = before-lower 0 g (changes c.survey.fields path) (shape_of c.survey.fields) (changed_numbers c (before_last path)) f
            next-numbers there in absurd (omega (arith, lower, after))
        by false there = refl

    -- so the set of the path has one more
    pub next-set : with_number (set_of (changed_numbers c (before_last path))) f ≡ set_of (changed_numbers c path)
    next-set = sym (ap (λ (fs : List ℕ). set_of fs) next-numbers ∙ set_of-push (changed_numbers c (before_last path)) f)
