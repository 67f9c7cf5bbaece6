-- Reading as many as begin so: one more, the end, and a fault.
use Rattle.std.proofs.Common.{◌≡◌, refl, sym, ap, subst, ◌∙◌, ℕ, zero, suc, ◌<◌, Bool, true, false, Some, None, List, [], ◌∷◌, ◌++◌, length, if◌then◌else◌}
use Rattle.std.proofs.Common.{arith}
use Rattle.std.specs.List.{flat_map}
use Rattle.std.proofs.lemmas.List.{append_assoc, append-nil}
use Rattle.rule_grammar.proofs.ReadLaws.{Shortens, Spells, shortens_read, spells_after}
use Rattle.rule_grammar.specs.inner.Parsing.{Reading, begins, many_at, many_within, then_read}
use Rattle.rule_grammar.specs.declared.token.Token.{Token}

-- what is read, behind what was read before
abbrev pub prefixed : {X : Type 0} → List X → Reading (List X) → Reading (List X)
prefixed done reading = then_read reading (λ xs left. Some (done ++ xs, left))

pub prefixed_nothing : {X : Type 0} (reading : Reading (List X)) → prefixed [] reading ≡ reading
prefixed_nothing None = refl
prefixed_nothing (Some found) = refl

pub prefixed_first : {X : Type 0} (x : X) (reading : Reading (List X)) → prefixed (x ∷ []) reading ≡ then_read reading (λ xs left. Some (x ∷ xs, left))
prefixed_first x None = refl
prefixed_first x (Some found) = refl

prefixed_twice : {X : Type 0} (done : List X) (x : X) (reading : Reading (List X))
    → prefixed done (then_read reading (λ xs last. Some (x ∷ xs, last))) ≡ prefixed (done ++ x ∷ []) reading
prefixed_twice done x None = refl
prefixed_twice done x (Some found) = rw append_assoc refl

module _ {X : Type 0} (begin : Token → Bool) (one : List Token → Reading X) where
  -- one more, behind what was read before
  pub unfold_true : (n : ℕ) (ts : List Token) → begins begin ts ≡ true
      → many_within begin one (suc n) ts ≡ then_read (one ts) (λ x left. then_read (many_within begin one n left) (λ xs last. Some (x ∷ xs, last)))
  unfold_true n ts begun = rw begun refl

  pub unfold_false : (n : ℕ) (ts : List Token) → begins begin ts ≡ false → many_within begin one (suc n) ts ≡ Some ([], ts)
  unfold_false n ts over = rw over refl

  enough_on : ((ts : List Token) → Shortens ts (one ts)) → (n m : ℕ) (ts : List Token) → length ts < suc n → length ts < suc m
      → ((left : List Token) → length left < n → length left < m → many_within begin one n left ≡ many_within begin one m left)
      → (b : Bool) (reading : Reading X) → one ts ≡ reading
      → (if b then then_read reading (λ x left. then_read (many_within begin one n left) (λ xs last. Some (x ∷ xs, last))) else Some ([], ts)) ≡
      (if b then then_read reading (λ x left. then_read (many_within begin one m left) (λ xs last. Some (x ∷ xs, last))) else Some ([], ts))
  enough_on shortens n m ts below_n below_m same false reading is = refl
  enough_on shortens n m ts below_n below_m same true None is = refl
  enough_on shortens n m ts below_n below_m same true (Some found) is =
      let less = shortens_read ts found.1 found.0 (one ts) (shortens ts) is in
      rw (same found.1 (omega arith) (omega arith)) refl

  -- any number above the length will do
  pub enough : ((ts : List Token) → Shortens ts (one ts)) → (n m : ℕ) (ts : List Token) → length ts < n → length ts < m
      → many_within begin one n ts ≡ many_within begin one m ts
  enough shortens zero m ts below_n below_m = absurd (omega arith)
  enough shortens (suc n) zero ts below_n below_m = absurd (omega arith)
  enough shortens (suc n) (suc m) ts below_n below_m = enough_on shortens n m ts below_n below_m (enough shortens n m) (begins begin ts) (one ts) refl

  pub many_more : ((ts : List Token) → Shortens ts (one ts)) → (done : List X) (x : X) (ts left : List Token) → begins begin ts ≡ true → one ts ≡ Some (x, left)
      → prefixed done (many_at begin one ts) ≡ prefixed (done ++ x ∷ []) (many_at begin one left)
  many_more shortens done x ts left begun is =
      let less = shortens_read ts left x (one ts) (shortens ts) is in
      let same = enough shortens (length ts) (suc (length left)) left (omega arith) (omega arith) in
      ap (prefixed done) (unfold_true (length ts) ts begun ∙ rw (is, same) refl) ∙ prefixed_twice done x (many_at begin one left)

  pub many_ends : (done : List X) (ts : List Token) → begins begin ts ≡ false → prefixed done (many_at begin one ts) ≡ Some (done, ts)
  many_ends done ts over = ap (prefixed done) (unfold_false (length ts) ts over) ∙ rw append-nil refl

  pub many_fails : (done : List X) (ts : List Token) → begins begin ts ≡ true → one ts ≡ None → prefixed done (many_at begin one ts) ≡ None
  many_fails done ts begun is = rw (unfold_true (length ts) ts begun, is) refl

  -- ---- what is read has its tokens

  many_within_spells : (spelling : X → List Token) → ((ts : List Token) → Spells spelling ts (one ts)) → (n : ℕ) (ts : List Token)
      → Spells (flat_map spelling) ts (many_within begin one n ts)
  many_within_spells spelling each zero ts = tt
  many_within_spells spelling each (suc n) ts = elim (begins begin ts) as
      (λ b. Spells (flat_map spelling) ts (if b then then_read (one ts)
      (λ x left. then_read (many_within begin one n left) (λ xs last. Some (x ∷ xs, last))) else Some ([], ts))) [
        | true ↦ spells_after spelling (flat_map spelling) ts (one ts) (λ x left. then_read (many_within begin one n left) (λ xs last. Some (x ∷ xs, last)))
            (each ts) (λ x left. more x left (many_within begin one n left) (many_within_spells spelling each n left))
        | false ↦ refl
      ]
    where
      more : (x : X) (left : List Token) (reading : Reading (List X)) → Spells (flat_map spelling) left reading
          → Spells (flat_map spelling) (spelling x ++ left) (then_read reading (λ xs last. Some (x ∷ xs, last)))
      more x left None one = tt
      more x left (Some found) one = ap (λ l. spelling x ++ l) one ∙ sym (append_assoc (spelling x) (flat_map spelling found.0) found.1)

  pub many_spells : (spelling : X → List Token) → ((ts : List Token) → Spells spelling ts (one ts)) → (ts : List Token)
      → Spells (flat_map spelling) ts (many_at begin one ts)
  many_spells spelling each ts = many_within_spells spelling each (suc (length ts)) ts

  -- ---- its tokens are read as it

  -- each is read where nothing behind it goes on with it, begins as it must, and does not go on with the one before
  pub many_within_back : (extends : Token → Bool) (spelling : X → List Token)
      → ((x : X) (left : List Token) → begins extends left ≡ false → one (spelling x ++ left) ≡ Some (x, left))
      → ((x : X) (left : List Token) → begins begin (spelling x ++ left) ≡ true) → ((x : X) (left : List Token) → begins extends (spelling x ++ left) ≡ false)
      → ((ts : List Token) → Shortens ts (one ts)) → (left : List Token) → begins begin left ≡ false → begins extends left ≡ false → (xs : List X) (n : ℕ)
      → length (flat_map spelling xs ++ left) < n → many_within begin one n (flat_map spelling xs ++ left) ≡ Some (xs, left)
  many_within_back extends spelling each begun apart shorter left over clear xs zero below = absurd (omega arith)
  many_within_back extends spelling each begun apart shorter left over clear [] (suc n) below = rw over refl
  many_within_back extends spelling each begun apart shorter left over clear (x ∷ xs) (suc n) below =
      let rest : List Token = flat_map spelling xs ++ left in
      let joined : (spelling x ++ flat_map spelling xs) ++ left ≡ spelling x ++ rest = append_assoc (spelling x) (flat_map spelling xs) left in
      let is : one (spelling x ++ rest) ≡ Some (x, rest) = each x rest (follows xs) in
      let less = shortens_read (spelling x ++ rest) rest x (one (spelling x ++ rest)) (shorter (spelling x ++ rest)) is in
      let room : length (spelling x ++ rest) < suc n = subst (λ l. length l < suc n) joined below in
      let again = many_within_back extends spelling each begun apart shorter left over clear xs n (omega arith) in
      ap (many_within begin one (suc n)) joined ∙ (unfold_true n (spelling x ++ rest) (begun x rest) ∙ rw (is, again) refl)
    where
      follows : (ys : List X) → begins extends (flat_map spelling ys ++ left) ≡ false
      follows [] = clear
      follows (y ∷ ys) = rw append_assoc (apart y (flat_map spelling ys ++ left))

  pub many_back : (extends : Token → Bool) (spelling : X → List Token)
      → ((x : X) (left : List Token) → begins extends left ≡ false → one (spelling x ++ left) ≡ Some (x, left))
      → ((x : X) (left : List Token) → begins begin (spelling x ++ left) ≡ true) → ((x : X) (left : List Token) → begins extends (spelling x ++ left) ≡ false)
      → ((ts : List Token) → Shortens ts (one ts)) → (left : List Token) → begins begin left ≡ false → begins extends left ≡ false → (xs : List X)
      → many_at begin one (flat_map spelling xs ++ left) ≡ Some (xs, left)
  many_back extends spelling each begun apart shorter left over clear xs =
      many_within_back extends spelling each begun apart shorter left over clear xs (suc (length (flat_map spelling xs ++ left))) (omega arith)

-- what a loop that reads one after another needs at each turn and at its end
pub ruleset many_turns = (many_more, many_ends, many_fails, prefixed_nothing, prefixed_first)
