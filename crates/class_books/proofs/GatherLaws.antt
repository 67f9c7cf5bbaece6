-- The passes of the last class, gathered from one pass of classes after the other.
use Rattle.std.proofs.Common.{◌≡◌, ℕ, ◌+◌, ◌-◌, ◌<◌, List, [], ◌∷◌, ◌++◌, map, length, take, drop, get_or, set, sym, ap, ◌∙◌, subst, arith, length-append}
use Rattle.std.specs.List.{All}
use Rattle.std.proofs.lemmas.List.{drop_more, get_or_at, get_or_default, length-drop, length-map, length-take-le, map_more, map_push}
use Rattle.std.proofs.lemmas.List.Edits.{map_over_more}
use Rattle.donor_book.specs.Passes.{PassState}
use Rattle.class_books.specs.ClassPasses.{ClassPassState, ClassesName, state_in}
use Rattle.class_books.specs.inner.Hands.{IsOfLast, first_classes, last_class}
use Rattle.class_books.specs.inner.Numbers.{state_with}

-- the first i passes have lost their last class, and the others are as they were
pub record IsTakenUpTo (last : ClassPassState) (old now : List ClassPassState) (i : ℕ) : Type 0 where
  pub within : i < length old
  pub others : now ≡ map (first_classes (last_class last)) (take i old) ++ drop i old
  pub same : All (λ (q : ClassPassState). q.classes ≡ last.classes) old

module _ {last : ClassPassState} {old now : List ClassPassState} {i : ℕ} (taken : IsTakenUpTo last old now i) (d : ClassPassState) where
  abbrev shorter : ClassPassState → ClassPassState
  shorter = first_classes (last_class last)

  abbrev class_of : List ℕ
  class_of = last.classes.terms.class_of

  at-now : now ≡ map shorter (take i old) ++ get_or old i d ∷ drop (i + 1) old
  at-now = taken.others ∙ ap (λ (l : List ClassPassState). map shorter (take i old) ++ l) (drop_more old i d taken.within)

  size : length (map shorter (take i old)) ≡ i
  size = length-map (take i old) shorter ∙ length-take-le i old (let lt = taken.within in omega (arith, lt))

  -- the next one is as it was
  here : get_or now i d ≡ get_or old i d
  here = ap (λ (l : List ClassPassState). get_or l i d) at-now
      ∙ get_or_at (map shorter (take i old)) (get_or old i d) (drop (i + 1) old) d i size

  pub classes-are : (get_or now i d).classes ≡ last.classes
  classes-are = ap (λ (q : ClassPassState). q.classes) here ∙ taken.same i d taken.within

  long : i < length now
  long =
      let lt = taken.within in
      let all = ap length taken.others in
      let both = length-append (map shorter (take i old)) (drop i old) in
      let rest = length-drop i old in
      let first = size in
      omega (arith, lt, all, both, rest, first)

  pub others-more : (new : ClassPassState) → new ≡ first_classes (last_class (get_or now i d)) (get_or now i d)
      → set now i new ≡ map shorter (take (i + 1) old) ++ drop (i + 1) old
  others-more new is =
      ap (set now i) (is ∙ ap (λ (n : ClassesName). first_classes (length n.books - 1) (get_or now i d)) classes-are)
      ∙ map_over_more shorter old now i (get_or now i d) taken.within taken.others (get_or_default now i d (get_or now i d) long)

  pub last-more : (hand pass : PassState) → pass ≡ hand → IsOfLast (get_or now i d).classes hand → IsOfLast last.classes pass
  last-more hand pass is of = subst (IsOfLast last.classes) (sym is) (subst (λ (n : ClassesName). IsOfLast n hand) classes-are of)

  pub gathered-more : (room : List PassState) (hand pass : PassState) → pass ≡ hand
      → state_with (get_or now i d).classes.terms.class_of (last_class (get_or now i d)) hand ≡ state_in (last_class (get_or now i d)) (get_or now i d)
      → map (state_with class_of (last_class last)) room ≡ map (state_in (last_class last)) (take i old)
      → map (state_with class_of (last_class last)) (room ++ pass ∷ []) ≡ map (state_in (last_class last)) (take (i + 1) old)
  gathered-more room hand pass is state gathered =
      let of_last : state_with class_of (last_class last) hand ≡ state_in (last_class last) (get_or now i d) =
      subst (λ (n : ClassesName). state_with n.terms.class_of (length n.books - 1) hand ≡ state_in (length n.books - 1) (get_or now i d)) classes-are state in
      let one : state_with class_of (last_class last) pass ≡ state_in (last_class last) (get_or old i d) =
      ap (state_with class_of (last_class last)) is ∙ of_last ∙ ap (state_in (last_class last)) here in
      map_push (state_with class_of (last_class last)) room pass ∙ (λ j. gathered j ++ one j ∷ [])
      ∙ sym (map_more (state_in (last_class last)) old i d taken.within)
