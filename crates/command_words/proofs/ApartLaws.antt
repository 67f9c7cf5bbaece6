-- Names, each of which is compared with those behind it.
use Rattle.std.proofs.Common.{◌≡◌, ◌∙◌, ◌<◌, ◌+◌, ℕ, List, [], ◌∷◌, ◌-◌, Bor, add-one, ap, arith, drop, get_or, length, length-drop, map, subst, sym, take}
use Rattle.std.proofs.Math.Seq.{drop-cons}
use Rattle.std.proofs.lemmas.List.{take_all}
use Rattle.std.specs.List.{AllByRecursion}
use Rattle.command_words.specs.FileNames.{AreApart, LeadToOne}

-- what the names are
abbrev pub texts : List (Bor (List ℕ)) → List (List ℕ)
texts names = map (λ name. name.now) names

all_texts : (P : List ℕ → Type 0) (names : List (Bor (List ℕ))) → AllByRecursion (λ name. P name.now) names → AllByRecursion P (texts names)
all_texts P [] all = tt
all_texts P (name ∷ names) all = (all.0, all_texts P names all.1)

texts_all : (P : List ℕ → Type 0) (names : List (Bor (List ℕ))) → AllByRecursion P (texts names) → AllByRecursion (λ name. P name.now) names
texts_all P [] all = tt
texts_all P (name ∷ names) all = (all.0, texts_all P names all.1)

module _ (names : List (Bor (List ℕ))) (place : ℕ) (none : Bor (List ℕ)) (below : place < length names) where
  -- those behind it
  abbrev pub behind_it : List (Bor (List ℕ))
  behind_it = take (length names - (place + 1)) (drop (place + 1) names)

  -- the name at a place leads elsewhere than those
  abbrev pub IsApart : Type 0
  IsApart = AllByRecursion (λ other. ¬ LeadToOne (get_or names place none).now other.now) behind_it

  whole : behind_it ≡ drop (place + 1) names
  whole = take_all _ _ (omega (arith, length-drop (place + 1) names))

  here-and-behind : drop place names ≡ get_or names place none ∷ drop (place + 1) names
  here-and-behind =
      drop-cons names place none below ∙ ap (λ (i : ℕ). get_or names place none ∷ drop i names) (sym (add-one place))

  both : AreApart (texts (drop place names)) → AreApart (texts (get_or names place none ∷ drop (place + 1) names))
  both apart = subst (λ (left : List (Bor (List ℕ))). AreApart (texts left)) here-and-behind apart

  -- the names from a place on are apart where that one is, and those behind it are
  pub from_here : IsApart → AreApart (texts (drop (place + 1) names)) → AreApart (texts (drop place names))
  from_here here behind =
      subst (λ (left : List (Bor (List ℕ))). AreApart (texts left)) (sym here-and-behind)
      (all_texts _ _ (rw whole at here), behind)

  -- and the other way round
  pub here_apart : AreApart (texts (drop place names)) → IsApart
  here_apart apart =
      subst (λ (others : List (Bor (List ℕ))). AllByRecursion (λ other. ¬ LeadToOne (get_or names place none).now other.now) others) (sym whole)
      (texts_all _ _ (both apart).0)

  pub behind_apart : AreApart (texts (drop place names)) → AreApart (texts (drop (place + 1) names))
  behind_apart apart = (both apart).1
