use Rattle.std.proofs.Common.{◌≡◌, ℕ, ◌<◌, ◌==◌, ◌||◌, ◌&&◌, not, Bool, true, false, if◌then◌else◌, List, [], ◌∷◌, refl, sym, ap, ◌∙◌, arith}
use Rattle.std.proofs.lemmas.Bool.Decides.{Decides-eqb}
use Rattle.edit_model.specs.Points.{Point}
use Rattle.edit_model.specs.RowPoints.{code_in}
use Rattle.edit_model.specs.Rows.{value_of}
use Rattle.edit_model.specs.declared.value.Value.{Value}
use Rattle.edit_line.specs.CodeFields.{TakesCodes, size_of, with_code_at}
use Rattle.edit_line.specs.Shapes.{Domain, HasCodes, code_fields, codes_at, has_field}
use Rattle.categ_combine.specs.BoxLists.{Avoids, avoid}
use Rattle.categ_combine.specs.Covers.{covered}
use Rattle.categ_combine.specs.Fixing.{fixed}
use Rattle.categ_combine.proofs.CoverLaws.{HaveSets, covered-holds, covered-lifts, fixed-avoids}
use Rattle.derivation.proofs.CoverLaws.{code-below}
use Rattle.back_subst.specs.inner.Codes.{settled_at, settled_but}
use Rattle.back_subst.specs.inner.UnderWay.{AreDistinct}
use Rattle.categ_combine.proofs.BoxSets.{HaveSets-covered, HaveSets-fixed}
use Rattle.back_subst.proofs.CodeDomains.{HasCodes-with, SameCodes, code-other, codes-same}

-- Which codes avoid the boxes after the fields of a list are settled.

module _ (shape : List Domain) (row : List Value) (left : List ℕ) (g : ℕ) where
  -- whether the field is settled with the list
  abbrev pub is_settled : List ℕ → ℕ → Bool
  is_settled fields j = has_field fields j && not (j == g)

  -- all fields of the list are categorical
  abbrev pub AreCategorical : List ℕ → Type 0
  AreCategorical fields = (i : ℕ) → has_field fields i ≡ true → has_field (code_fields shape) i ≡ true

  swapped : (a b : ℕ) → (a == b) ≡ (b == a)
  swapped a b = by (a == b) refl
    where
      by : (t : Bool) → (a == b) ≡ t → t ≡ (b == a)
      by true e = sym ((Decides-eqb b a).1 (sym ((Decides-eqb a b).0 e)))
      by false e = at (b == a) refl
        where
          at : (u : Bool) → (b == a) ≡ u → false ≡ u
          at false h = refl
          at true h = absurd (cc (sym e ∙ (Decides-eqb a b).1 (sym ((Decides-eqb b a).0 h))))

  tail-categorical : (i : ℕ) (fields : List ℕ) → AreCategorical (i ∷ fields) → AreCategorical fields
  tail-categorical i fields all j there = all j (or_true (i == j) there)
    where
      or_true : (a : Bool) → has_field fields j ≡ true → (a || has_field fields j) ≡ true
      or_true true h = refl
      or_true false h = h

  head-categorical : (i : ℕ) (fields : List ℕ) → AreCategorical (i ∷ fields) → has_field (code_fields shape) i ≡ true
  head-categorical i fields all = all i (ap (λ b. b || has_field fields i) ((Decides-eqb i i).1 refl))

  -- the field g itself is not settled
  own-skipped : (i : ℕ) (fields : List ℕ) (j : ℕ) → (i == g) ≡ true → is_settled (i ∷ fields) j ≡ is_settled fields j
  own-skipped i fields j is = by (i == j) refl
    where
      at_g : (a : Bool) → (j == g) ≡ true → not (j == g) ≡ (a && not (j == g))
      at_g a e = ap not e ∙ sym (ap (λ b. a && not b) e ∙ none a)
        where
          none : (a : Bool) → (a && false) ≡ false
          none true = refl
          none false = refl

      by : (b : Bool) → (i == j) ≡ b → ((b || has_field fields j) && not (j == g)) ≡ (has_field fields j && not (j == g))
      by true e = at_g (has_field fields j) (ap (λ k. k == g) (sym ((Decides-eqb i j).0 e)) ∙ is)
      by false e = refl

  takes : (q : Point) (i : ℕ) → has_field (code_fields shape) i ≡ true → HasCodes 0 shape q → TakesCodes shape i
  takes q i there held = let below = code-below shape q i there held in omega arith

  pub next-sets : (boxes : List (List ℕ)) (i : ℕ) → HaveSets shape boxes → HaveSets shape (settled_at shape row left i boxes)
  next-sets boxes i sets = by (has_field left i)
    where
      by : (b : Bool) → HaveSets shape (if b then covered shape boxes i else fixed shape boxes i (code_in (value_of row i)))
      by true = HaveSets-covered shape boxes i sets
      by false = HaveSets-fixed shape boxes i (code_in (value_of row i)) sets

  avoid-same : (boxes : List (List ℕ)) (p q : Point) → SameCodes shape p q → Avoids shape boxes p → Avoids shape boxes q
  avoid-same boxes p q same avoids = ap (λ cs. avoid boxes cs) (codes-same shape p q same) ∙ avoids

  -- put back
  back : (q : Point) (i code : ℕ) → SameCodes shape q (with_code_at (with_code_at q i code) i (q.code i))
  back q i code j there = by (j == i) refl
    where
      by : (b : Bool) → (j == i) ≡ b → (if b then q.code i else if b then code else q.code j) ≡ q.code j
      by true e = ap (λ k. q.code k) (sym ((Decides-eqb j i).0 e))
      by false e = refl

  -- the points' codes are the record's at the fields of the list that are not left
  abbrev pub HasCodesOf : List ℕ → Point → Type 0
  HasCodesOf fields q = (i : ℕ) → has_field fields i ≡ true → (i == g) ≡ false → has_field left i ≡ false → q.code i ≡ code_in (value_of row i)

  at_one : (boxes : List (List ℕ)) (i : ℕ) (q : Point) (code : ℕ) → HaveSets shape boxes → has_field (code_fields shape) i ≡ true → HasCodes 0 shape q
      → code < size_of shape i
      → (has_field left i ≡ false → q.code i ≡ code_in (value_of row i)) → Avoids shape boxes q
      → Avoids shape (settled_at shape row left i boxes) (with_code_at q i code)
  at_one boxes i q code sets there held below agrees avoids = by (has_field left i) agrees
    where
      q1 : Point
      q1 = with_code_at q i code

      held1 : HasCodes 0 shape q1
      held1 = HasCodes-with shape q i code below held

      by : (b : Bool) → (b ≡ false → q.code i ≡ code_in (value_of row i))
          → Avoids shape (if b then covered shape boxes i else fixed shape boxes i (code_in (value_of row i))) q1
      by true h =
          covered-holds shape boxes i q1 sets (takes q i there held) held1 (q.code i) (code-below shape q i there held)
          (avoid-same boxes q (with_code_at q1 i (q.code i)) (back q i code) avoids)
      by false h =
          fixed-avoids shape boxes i q1 sets (takes q i there held) held1 (code_in (value_of row i))
          ∙ ap (λ c. avoid boxes (codes_at shape (with_code_at q1 i c))) (sym (h refl))
          ∙ avoid-same boxes q (with_code_at q1 i (q.code i)) (back q i code) avoids

  -- ---- from a point that avoids the boxes

  pub settled-holds : (fields : List ℕ) (boxes : List (List ℕ)) (q r : Point) → HaveSets shape boxes → AreCategorical fields → AreDistinct fields
      → HasCodes 0 shape q → HasCodes 0 shape r → HasCodesOf fields q
      → ((j : ℕ) → has_field (code_fields shape) j ≡ true → is_settled fields j ≡ false → r.code j ≡ q.code j) → Avoids shape boxes q
      → Avoids shape (settled_but shape row left g fields boxes) r
  settled-holds [] boxes q r sets categorical distinct q_held r_held agrees same avoids = avoid-same boxes q r (λ j there. same j there refl) avoids
  settled-holds (i ∷ fields) boxes q r sets categorical distinct q_held r_held agrees same avoids =
      by (i == g) refl
      (λ e. settled-holds fields boxes q r sets (tail-categorical i fields categorical) distinct.1 q_held r_held
      (λ k there. agrees k (or_true (i == k) (has_field fields k) there)) (λ j there settled. same j there (own-skipped i fields j e ∙ settled)) avoids)
      (λ e. settled-holds fields (settled_at shape row left i boxes) (with_code_at q i (r.code i)) r (next-sets boxes i sets)
      (tail-categorical i fields categorical) distinct.1
      (HasCodes-with shape q i (r.code i) (code-below shape r i (head-categorical i fields categorical) r_held) q_held) r_held
      (λ k there apart kept. code-other q i (r.code i) k (other k there) ∙ agrees k (or_true (i == k) (has_field fields k) there) apart kept)
      (λ j there settled. same_now j there settled)
      (at_one boxes i q (r.code i) sets (head-categorical i fields categorical) q_held (code-below shape r i (head-categorical i fields categorical) r_held)
      (λ kept. agrees i (ap (λ b. b || has_field fields i) ((Decides-eqb i i).1 refl)) e kept) avoids))
    where
      or_true : (a b : Bool) → b ≡ true → (a || b) ≡ true
      or_true true b h = refl
      or_true false b h = h

      other : (k : ℕ) → has_field fields k ≡ true → (k == i) ≡ false
      other k there = at (k == i) refl
        where
          at : (b : Bool) → (k == i) ≡ b → b ≡ false
          at false e = refl
          at true e = absurd (cc (sym there ∙ ap (λ m. has_field fields m) ((Decides-eqb k i).0 e) ∙ distinct.0))

      same_now : (j : ℕ) → has_field (code_fields shape) j ≡ true → is_settled fields j ≡ false → r.code j ≡ (with_code_at q i (r.code i)).code j
      same_now j there settled = at (j == i) refl
        where
          at : (b : Bool) → (j == i) ≡ b → r.code j ≡ (if b then r.code i else q.code j)
          at true e = ap (λ k. r.code k) ((Decides-eqb j i).0 e)
          at false e = same j there (ap (λ b. (b || has_field fields j) && not (j == g)) (swapped i j ∙ e) ∙ settled)

      by : (b : Bool) → (i == g) ≡ b → ((i == g) ≡ true → Avoids shape (settled_but shape row left g fields boxes) r)
          → ((i == g) ≡ false → Avoids shape (settled_but shape row left g fields (settled_at shape row left i boxes)) r)
          → Avoids shape (settled_but shape row left g fields (if b then boxes else settled_at shape row left i boxes)) r
      by true e own rest = own e
      by false e own rest = rest e

  -- ---- and the other way round

  -- q is r with codes at the settled fields: the record's where they are not left
  pub record IsLifted (fields : List ℕ) (boxes : List (List ℕ)) (r q : Point) : Type 0 where
    pub held : HasCodes 0 shape q
    pub numbers : (j : ℕ) → q.numerator j ≡ r.numerator j
    pub over : q.denominator ≡ r.denominator
    pub others : (j : ℕ) → is_settled fields j ≡ false → q.code j ≡ r.code j
    pub agrees : HasCodesOf fields q
    pub avoids : Avoids shape boxes q

  pub settled-lifts : (fields : List ℕ) (boxes : List (List ℕ)) (r : Point) → HaveSets shape boxes → AreCategorical fields → AreDistinct fields
      → HasCodes 0 shape r
      → ((i : ℕ) → has_field fields i ≡ true → (i == g) ≡ false → has_field left i ≡ false → code_in (value_of row i) < size_of shape i)
      → Avoids shape (settled_but shape row left g fields boxes) r → (q : Point) × IsLifted fields boxes r q
  settled-lifts [] boxes r sets categorical distinct held below avoids =
      (r, record { held = held; numbers = λ j. refl; over = refl; others = λ j _. refl; agrees = λ i there. absurd (cc); avoids = avoids })
  settled-lifts (i ∷ fields) boxes r sets categorical distinct held below avoids =
      by (i == g) refl
      (λ h. settled-lifts fields boxes r sets (tail-categorical i fields categorical) distinct.1 held
      (λ k there. below k (or_true (i == k) (has_field fields k) there)) h)
      (λ h. settled-lifts fields (settled_at shape row left i boxes) r (next-sets boxes i sets) (tail-categorical i fields categorical) distinct.1 held
      (λ k there. below k (or_true (i == k) (has_field fields k) there)) h) avoids
    where
      or_true : (a b : Bool) → b ≡ true → (a || b) ≡ true
      or_true true b h = refl
      or_true false b h = h

      -- the field g is passed by
      passed : (i == g) ≡ true → (q : Point) → IsLifted fields boxes r q → IsLifted (i ∷ fields) boxes r q
      passed e q is = record {
        held = is.held;
        numbers = is.numbers;
        over = is.over;
        others = λ j settled. is.others j (sym (own-skipped i fields j e) ∙ settled);
        agrees = λ k there apart kept. at k (i == k) refl there apart kept;
        avoids = is.avoids;
      }
        where
          at : (k : ℕ) (b : Bool) → (i == k) ≡ b → (b || has_field fields k) ≡ true → (k == g) ≡ false → has_field left k ≡ false
              → q.code k ≡ code_in (value_of row k)
          at k true h there apart kept = absurd (cc (sym apart ∙ ap (λ m. m == g) (sym ((Decides-eqb i k).0 h)) ∙ e))
          at k false h there apart kept = is.agrees k there apart kept

      -- one more code
      more : (i == g) ≡ false → (q : Point) → IsLifted fields (settled_at shape row left i boxes) r q → (code : ℕ) → code < size_of shape i
          → (has_field left i ≡ false → code ≡ code_in (value_of row i)) → Avoids shape boxes (with_code_at q i code)
          → IsLifted (i ∷ fields) boxes r (with_code_at q i code)
      more e q is code fits own avoided = record {
        held = HasCodes-with shape q i code fits is.held;
        numbers = is.numbers;
        over = is.over;
        others = λ j settled. at j (j == i) refl settled;
        agrees = λ k there apart kept. here k (k == i) refl there apart kept;
        avoids = avoided;
      }
        where
          at : (j : ℕ) (b : Bool) → (j == i) ≡ b → is_settled (i ∷ fields) j ≡ false → (if b then code else q.code j) ≡ r.code j
          at j true h settled =
              let same : j ≡ i = (Decides-eqb j i).0 h in
              absurd (cc (sym settled ∙ ap (λ b. (b || has_field fields j) && not (j == g)) (swapped i j ∙ h) ∙ ap (λ k. not (k == g)) same ∙ ap not e))
          at j false h settled = is.others j (sym (ap (λ b. (b || has_field fields j) && not (j == g)) (swapped i j ∙ h)) ∙ settled)

          here : (k : ℕ) (b : Bool) → (k == i) ≡ b → has_field (i ∷ fields) k ≡ true → (k == g) ≡ false → has_field left k ≡ false
              → (if b then code else q.code k) ≡ code_in (value_of row k)
          here k true h there apart kept =
              let same : k ≡ i = (Decides-eqb k i).0 h in
              own (ap (λ m. has_field left m) (sym same) ∙ kept) ∙ ap (λ m. code_in (value_of row m)) (sym same)
          here k false h there apart kept = is.agrees k (sym (ap (λ b. b || has_field fields k) (swapped i k ∙ h)) ∙ there) apart kept

      settle : (i == g) ≡ false → (q : Point) → IsLifted fields (settled_at shape row left i boxes) r q → (q' : Point) × IsLifted (i ∷ fields) boxes r q'
      settle e q is = at (has_field left i) refl is.avoids
        where
          there : has_field (code_fields shape) i ≡ true
          there = head-categorical i fields categorical

          at : (b : Bool) → has_field left i ≡ b → Avoids shape (if b then covered shape boxes i else fixed shape boxes i (code_in (value_of row i))) q
              → (q' : Point) × IsLifted (i ∷ fields) boxes r q'
          at true h avoided =
              let (code, fits, free) = covered-lifts shape boxes i q sets (takes q i there is.held) is.held
              avoided in (with_code_at q i code, more e q is code fits (λ kept. absurd (cc (sym h ∙ kept))) free)
          at false h avoided = (
            with_code_at q i (code_in (value_of row i)),
            more e q is (code_in (value_of row i)) (below i (ap (λ b. b || has_field fields i) ((Decides-eqb i i).1 refl)) e h) (λ kept. refl)
                (sym (fixed-avoids shape boxes i q sets (takes q i there is.held) is.held (code_in (value_of row i))) ∙ avoided),
          )

      by : (b : Bool) → (i == g) ≡ b → (Avoids shape (settled_but shape row left g fields boxes) r → (q : Point) × IsLifted fields boxes r q)
          → (Avoids shape (settled_but shape row left g fields (settled_at shape row left i boxes)) r
          → (q : Point) × IsLifted fields (settled_at shape row left i boxes) r q)
          → Avoids shape (settled_but shape row left g fields (if b then boxes else settled_at shape row left i boxes)) r
          → (q : Point) × IsLifted (i ∷ fields) boxes r q
      by true e own rest h = let (q, is) = own h in (q, passed e q is)
      by false e own rest h = let (q, is) = rest h in settle e q is
