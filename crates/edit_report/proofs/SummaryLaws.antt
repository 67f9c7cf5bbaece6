-- What the changes of records weigh together.
use Rattle.std.proofs.Common.{◌≡◌, ℕ, ◌+◌, ◌<◌, ◌≤◌, Bool, true, false, if◌then◌else◌, List, [], ◌∷◌, ◌++◌, get_or, length, take, refl, sym, ap, ◌∙◌, arith}
use Rattle.std.specs.List.{filter, sum_by}
use Rattle.std.proofs.lemmas.List.{take_all, take_more}
use Rattle.std.proofs.lemmas.List.Elements.{filter-append}
use Rattle.std.proofs.lemmas.List.Sums.{sum_by-append, sum_by-cons}
use Rattle.edit_model.proofs.ChangedWords.{changed_in}
use Rattle.edit_model.specs.Corrections.{path_order}
use Rattle.edit_model.specs.Words.{weight_at}
use Rattle.edit_model.specs.declared.field.Field.{Field}
use Rattle.bound_cert.specs.Paths.{path_weight}
use Rattle.bound_cert.proofs.PathLaws.{weight-of_word}

changed-none : (fields : List ℕ) → changed_in fields [] ≡ []
changed-none [] = refl
changed-none (f ∷ fields) = refl

-- the empty path weighs nothing
pub none-weighs : (fields : List Field) → 0 ≡ path_weight fields []
none-weighs fields = sym (weight-of_word fields [] ∙ ap (sum_by (weight_at fields)) (changed-none (path_order fields)))

module _ {X : Type 0} (w : X → ℕ) (test : X → Bool) (xs : List X) where
  -- one element more
  pub weighs-more : (i : ℕ) (x : X) (sum added : ℕ) → i < length xs → x ≡ get_or xs i x → added ≡ (if test x then w x else 0) → sum
      ≡ sum_by w (filter test (take i xs)) → sum + added ≡ sum_by w (filter test (take (i + 1) xs))
  weighs-more i x sum added below is put before = by (test x) refl
    where
      longer : sum_by w (filter test (take (i + 1) xs)) ≡ sum + sum_by w (filter test (x ∷ []))
      longer =
          ap (λ (ys : List X). sum_by w (filter test ys)) (take_more xs i x below ∙ ap (λ (y : X). take i xs ++ y ∷ []) (sym is))
          ∙ ap (sum_by w) (filter-append test (take i xs) (x ∷ []))
          ∙ sum_by-append w (filter test (take i xs)) (filter test (x ∷ []))
          ∙ ap (λ n. n + sum_by w (filter test (x ∷ []))) (sym before)

      by : (b : Bool) → test x ≡ b → sum + added ≡ sum_by w (filter test (take (i + 1) xs))
      by b e = ap (λ n. sum + n) (put ∙ ap (λ c. if c then w x else 0) e ∙ one b ∙ ap (λ c. sum_by w (if c then x ∷ [] else [])) (sym e)) ∙ sym longer
        where
          one : (c : Bool) → (if c then w x else 0) ≡ sum_by w (if c then x ∷ [] else [])
          one true = omega (arith, sum_by-cons w x [])
          one false = refl

  -- and all of them
  pub weighs-all : (i sum : ℕ) → length xs ≤ i → sum ≡ sum_by w (filter test (take i xs)) → sum ≡ sum_by w (filter test xs)
  weighs-all i sum past before = before ∙ ap (λ (ys : List X). sum_by w (filter test ys)) (take_all i xs past)
