use Rattle.std.proofs.Common.{◌≡◌, ◌≢◌, ◌⊎◌, ℕ, suc, ◌+◌, ◌<◌, ◌==◌, ◌++◌, Bool, true, false, cond, List, [], ◌∷◌, length, inl, inr, refl, sym, ap, ◌∙◌}
use Rattle.std.proofs.Common.{subst, arith}
use Rattle.std.proofs.Common.{append-nil}
use Rattle.std.specs.List.{filter}
use Rattle.std.proofs.lemmas.Bool.Decides.{Decides-eqb, eqb_tells}
use Rattle.std.proofs.lemmas.List.Elements.{filter-append}
use Rattle.edit_line.specs.Reductions.{IsIn}
use Rattle.edit_line.proofs.Members.{in-either}
use Rattle.donor_book.specs.declared.claim.Entry.{Entry}
use Rattle.class_books.specs.Histories.{history_in, joined}
use Rattle.record_pieces.specs.Needs.{AreInRowOrder}

-- Claims class by class: those of one class among all.

-- an element of the joined histories is of one of them
pub in-joined : (e : Entry) (histories : List (List Entry)) → IsIn e (joined histories) → (class : ℕ) × (class < length histories)
    × IsIn e (history_in class histories)
in-joined e [] there = absurd there
in-joined e (h ∷ histories) there = by (in-either e h (joined histories) there) (in-joined e histories)
  where
    by : IsIn e h ⊎ IsIn e (joined histories)
        → (IsIn e (joined histories) → (class : ℕ) × (class < length histories) × IsIn e (history_in class histories))
        → (class : ℕ) × (class < length (h ∷ histories)) × IsIn e (history_in class (h ∷ histories))
    by (inl here) rest = (0, omega arith, here)
    by (inr later) rest = let (class, lt, is) = rest later in (suc class, omega (arith, lt), is)

-- claims of which there is none
pub none-there : (es : List Entry) → ((e : Entry) → IsIn e es → ⊥) → es ≡ []
none-there [] none = refl
none-there (e ∷ es) none = absurd (none e (inl refl))

pub none-in-order : AreInRowOrder []
none-in-order k lt = absurd (omega (arith, lt))

module _ (key : Entry → ℕ) (class : ℕ) where
  abbrev of_class : List Entry → List Entry
  of_class es = filter (λ (e : Entry). key e == class) es

  -- where all claims are of the class, these are all
  all-of : (es : List Entry) → ((e : Entry) → IsIn e es → key e ≡ class) → of_class es ≡ es
  all-of [] each = refl
  all-of (e ∷ es) each = by (key e == class) ((Decides-eqb (key e) class).1 (each e (inl refl))) (all-of es (λ x there. each x (inr there)))
    where
      by : (b : Bool) → b ≡ true → of_class es ≡ es → cond b (e ∷ of_class es) (of_class es) ≡ e ∷ es
      by true is rest = ap (λ (xs : List Entry). e ∷ xs) rest
      by false is rest = absurd (cc)

  -- and where none is, there is none
  none-of : (es : List Entry) → ((e : Entry) → IsIn e es → key e ≢ class) → of_class es ≡ []
  none-of [] each = refl
  none-of (e ∷ es) each =
      by (key e == class) (λ is. each e (inl refl) ((Decides-eqb (key e) class).0 is)) (none-of es (λ x there. each x (inr there)))
    where
      by : (b : Bool) → b ≢ true → of_class es ≡ [] → cond b (e ∷ of_class es) (of_class es) ≡ []
      by true not rest = absurd (not refl)
      by false not rest = rest

  -- those of one class are in row order, where each of the joined histories is of the class of its place, and in row order
  pub class-in-order : (first : ℕ) (histories : List (List Entry))
      → ((c : ℕ) → c < length histories → (e : Entry) → IsIn e (history_in c histories) → key e ≡ first + c)
      → ((c : ℕ) → c < length histories → AreInRowOrder (history_in c histories))
      → AreInRowOrder (of_class (joined histories))
  class-in-order first [] keys order = none-in-order
  class-in-order first (h ∷ histories) keys order =
      subst AreInRowOrder (sym (filter-append (λ (e : Entry). key e == class) h (joined histories))) (by (eqb_tells first class)
      (class-in-order (suc first) histories
      (λ c lt e there. (let at = keys (suc c) (omega (arith, lt)) e there in let next : suc first + c ≡ first + suc c = omega arith in at ∙ sym next))
      (λ c lt. order (suc c) (omega (arith, lt)))))
    where
      own : (e : Entry) → IsIn e h → key e ≡ first
      own e there = let is = keys 0 (omega arith) e there in omega (arith, is)

      later : (e : Entry) → IsIn e (joined histories) → first < key e
      later e there = let (c, lt, is) = in-joined e histories there in
          let at = keys (suc c) (omega (arith, lt)) e is in omega (arith, at)

      by : (((first == class) ≡ true) × (first ≡ class)) ⊎ (((first == class) ≡ false) × (first ≢ class))
          → AreInRowOrder (of_class (joined histories)) → AreInRowOrder (of_class h ++ of_class (joined histories))
      by (inl same) rest =
          let all = all-of h (λ e there. own e there ∙ same.1) in
          let none = none-of (joined histories) (λ e there is. (let more = later e there in absurd (omega (arith, more, is, same.1)))) in
          subst AreInRowOrder (sym ((λ i. all i ++ none i) ∙ append-nil h)) (order 0 (omega arith))
      by (inr other) rest = subst AreInRowOrder
          (sym (ap (λ (es : List Entry). es ++ of_class (joined histories)) (none-of h (λ e there is. other.1 (sym (own e there) ∙ is))))) rest

-- two histories of which the second is empty are the first, in its order
pub first-alone : (histories : List (List Entry)) → length histories ≡ 2 → ((e : Entry) → IsIn e (history_in 1 histories) → ⊥)
    → AreInRowOrder (history_in 0 histories) → AreInRowOrder (joined histories)
first-alone [] many none order = absurd (omega (arith, many))
first-alone (a ∷ []) many none order = absurd (omega (arith, many))
first-alone (a ∷ b ∷ []) many none order =
    let empty : b ≡ [] = none-there b none in
    subst AreInRowOrder (sym (ap (λ (es : List Entry). a ++ (es ++ [])) empty ∙ append-nil a)) order
first-alone (a ∷ b ∷ c ∷ rest) many none order = absurd (omega (arith, many))
