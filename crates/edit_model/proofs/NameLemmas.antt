use Rattle.std.proofs.Common.{◌≡◌, ◌≢◌, ℕ, Bool, true, false, not, All, List, [], ◌∷◌, ap, arith, get_or, length, refl, sym}
use Rattle.std.specs.Bool.{Decides}
use Rattle.std.specs.List.{list_any}
use Rattle.std.specs.Str.{bytes_eq}
use Rattle.std.proofs.lemmas.List.Folds.{list_any_none, list_any_at}
use Rattle.std.proofs.lemmas.Slice.Eq.{bytes_eq-Decides}

-- a test that is not true is false
pub false_unless : (b : Bool) → (b ≡ true → ⊥) → b ≡ false
false_unless true h = absurd (h refl)
false_unless false h = refl

pub false_from_not : (b : Bool) → not b ≡ true → b ≡ false
false_from_not false h = refl
false_from_not true h = sym h

-- a text is none of the words exactly where the comparisons with them all fail
pub none_of_words : (name : List ℕ) (words : List (List ℕ)) → Decides (not (list_any (λ word. bytes_eq name word) words)) (All (λ word. name ≢ word) words)
none_of_words name words = (differs, none)
  where
    differs : not (list_any (λ word. bytes_eq name word) words) ≡ true → All (λ word. name ≢ word) words
    differs h k d below same =
        let found : list_any (λ word. bytes_eq name word) words ≡ true = list_any_at (λ word. bytes_eq name word) words k d below
        ((bytes_eq-Decides name (get_or words k d)).1 same) in
        let missing : list_any (λ word. bytes_eq name word) words ≡ false = false_from_not _ h in cc

    none : All (λ word. name ≢ word) words → not (list_any (λ word. bytes_eq name word) words) ≡ true
    none h =
        let e : list_any (λ word. bytes_eq name word) words ≡ false = list_any_none (λ word. bytes_eq name word) words
        (λ k d below. false_unless _ (λ same. h k d below ((bytes_eq-Decides name (get_or words k d)).0 same))) in rw e refl

-- a list of one element
pub only-one : {X : Type 0} (xs : List X) (x : X) → length xs ≡ 1 → x ≡ get_or xs 0 x → xs ≡ x ∷ []
only-one [] x one is = absurd (omega (arith, one))
only-one (y ∷ []) x one is = ap (λ z. z ∷ []) (sym is)
only-one (y ∷ z ∷ xs) x one is = absurd (omega (arith, one))
