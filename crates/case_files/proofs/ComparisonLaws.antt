-- Lists of lines that have not the same number of lines are not the same.
use Rattle.std.proofs.Common.{◌≡◌, ◌≢◌, refl, ap, ℕ, suc, true, false, ◌&&◌, List, [], ◌∷◌, length, map}
use Rattle.std.specs.Str.{bytes_eq}
use Rattle.case_files.specs.Comparison.{are_same}

pub other_lengths : {A B : Type 0} (f : A → List ℕ) (g : B → List ℕ) (xs : List A) (ys : List B) → length xs ≢ length ys → false
    ≡ are_same (map f xs) (map g ys)
other_lengths f g [] [] other = absurd (other refl)
other_lengths f g [] (y ∷ ys) other = refl
other_lengths f g (x ∷ xs) [] other = refl
other_lengths f g (x ∷ xs) (y ∷ ys) other =
    elim (bytes_eq (f x) (g y)) as (λ b. false ≡ (b && are_same (map f xs) (map g ys))) [
      | true ↦ other_lengths f g xs ys (λ e. other (ap suc e))
      | false ↦ refl
    ]
