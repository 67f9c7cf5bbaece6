use Rattle.std.proofs.Common.{◌≡◌, ◌≢◌, ℕ, ◌+◌, ◌<◌, ◌≤◌, ◌==◌, if◌then◌else◌, List, drop, get_or, length, ap, ◌∙◌, suc, arith}
use Rattle.std.proofs.lemmas.Bool.{false_from_ne_true}
use Rattle.std.proofs.lemmas.Bool.Decides.{Decides-eqb}
use Rattle.std.proofs.lemmas.List.{at_drop_all, at_drop_more}
use Rattle.edit_line.specs.Shapes.{place_in}

-- The place of a field in a list, one step on.

module _ (order : List ℕ) (i f whole : ℕ) (before : i + place_in (drop i order) f ≡ whole) where
  opened : i < length order → place_in (drop i order) f ≡ (if get_or order i 0 == f then 0 else suc (place_in (drop (i + 1) order) f))
  opened below = at_drop_more (λ fs. place_in fs f) order i 0 below

  -- another field stands here
  pub place-more : i < length order → get_or order i 0 ≢ f → i + 1 + place_in (drop (i + 1) order) f ≡ whole
  place-more below other =
      let later : place_in (drop i order) f ≡ suc (place_in (drop (i + 1) order) f) = opened below
      ∙ ap (λ b. if b then 0 else suc (place_in (drop (i + 1) order) f)) (false_from_ne_true (get_or order i 0 == f)
      (λ same. other ((Decides-eqb (get_or order i 0) f).0 same))) in
      omega (arith, later, before)

  -- the list has ended
  pub place-ended : length order ≤ i → i ≡ whole
  place-ended past = let none : place_in (drop i order) f ≡ 0 = at_drop_all (λ fs. place_in fs f) order i past in omega (arith, none, before)
