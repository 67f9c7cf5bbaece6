-- Classes that are closed one after the other, from the last one on.
use Rattle.std.proofs.Common.{◌≡◌, ℕ, zero, suc, ◌+◌, ◌-◌, ◌<◌, List, [], ◌∷◌, ◌++◌, map, length, reverse, take, get_or, refl, sym, ap, ◌∙◌, subst, arith}
use mathlib.Core.List.{reverse-cons}
use Rattle.std.specs.List.{All}
use Rattle.std.proofs.lemmas.List.{get_or-take, get_or_append_left, get_or_at, get_or_push, length_push, map-append, map_push, take_at}
use Rattle.std.proofs.lemmas.List.Elements.{All-head, All-map, All-tail}
use Rattle.std.proofs.lemmas.Simd.{map-map}
use Rattle.donor_book.specs.declared.claim.Entry.{Entry}
use Rattle.donor_book.specs.declared.claim.Won.{Won}
use Rattle.donor_book.specs.Passes.{AreCollected, BookName, IsSound, IsWhole, PassState}
use Rattle.class_books.specs.ClassPasses.{ClassPassState, ClassesName, book_in, book_terms, pass_in, pass_of, passes_in, state_in}
use Rattle.class_books.specs.Classes.{IsWonIn}
use Rattle.class_books.specs.Histories.{AreCollectedIn, AreCollectedInClasses, history_in}
use Rattle.class_books.specs.inner.Hands.{AreOfTerms, IsOfLast, RanksOwn, RanksWithin, first_classes, last_class, name_of}
use Rattle.class_books.specs.inner.Numbers.{class_terms, entry_with, rows_in, state_with, won_with}
use Rattle.class_books.proofs.ClosedClasses.{all-of-class, collected-with, sound-with, whole-with}
use Rattle.class_books.proofs.JoinedClasses.{joined-law}
use Rattle.class_books.proofs.Renumbered.{in_file}

-- ---- the history of one class

-- what is said of the history of a class that is closed
pub record IsHistoryOf (name : ClassesName) (passes : List ClassPassState) (class : ℕ) (history : List Won) : Type 0 where
  pub whole : IsWhole name.terms.limit (passes_in class passes) history
  pub sound : IsSound (book_terms name.terms) history
  pub of_class : All (IsWonIn name.terms.class_of class) history
  pub legal : (entries : List Entry) × AreCollectedIn name.terms.class_of class name.terms.limit (passes_in class passes) history entries

map-same : {X Y : Type 0} (f g : X → Y) (xs : List X) → All (λ x. f x ≡ g x) xs → map f xs ≡ map g xs
map-same f g [] all = refl
map-same {X} {Y} f g (x ∷ xs) all =
    let here : f x ≡ g x = All-head (λ (y : X). f y ≡ g y) x xs all in
    let rest = map-same f g xs (All-tail (λ (y : X). f y ≡ g y) x xs all) in
    λ i. here i ∷ rest i

-- these are the passes of the class's book, and have what the passes of the classes have of that class
pub record AreGathered (name : ClassesName) (class : ℕ) (book : BookName) (ps : List PassState) (passes : List ClassPassState) : Type 0 where
  pub own : book.terms ≡ class_terms name.terms class
  pub of_book : All (λ (p : PassState). p.book ≡ book) ps
  pub ranks : All RanksOwn ps
  pub same : All (λ (q : ClassPassState). q.classes ≡ name) passes
  pub states : map (state_with name.terms.class_of class) ps ≡ map (state_in class) passes

module _ {name : ClassesName} {class : ℕ} {book : BookName} {ps : List PassState} {passes : List ClassPassState}
    (are : AreGathered name class book ps passes) where
  abbrev class_of : List ℕ
  class_of = name.terms.class_of

  abbrev limit : ℕ
  limit = name.terms.limit

  abbrev file : BookName
  file = book_in class name

  -- they are the passes of the classes, in the whole file
  passes-are : map (in_file class_of class file) ps ≡ passes_in class passes
  passes-are =
      sym (map-map (pass_of file) (state_with class_of class) ps) ∙ ap (map (pass_of file)) are.states
      ∙ map-map (pass_of file) (state_in class) passes
      ∙ map-same (λ q. pass_of file (state_in class q)) (pass_in class) passes
      (λ k d lt. ap (λ n. pass_of (book_in class n) (state_in class (get_or passes k d))) (sym (are.same k d lt)))

  few : All (λ (p : PassState). All (RanksWithin (length (rows_in class_of class))) p.mine) ps
  few k d lt =
      subst (λ t. All (RanksWithin t.donors) (get_or ps k d).mine) (ap (λ (b : BookName). b.terms) (are.of_book k d lt) ∙ are.own) (are.ranks k d lt)

  -- the history of the class's book, in the whole file
  pub closed-class : (history : List Won) → IsWhole book.terms.limit ps history → IsSound book.terms history
      → (es : List Entry) × AreCollected book.terms.limit ps history es
      → IsHistoryOf name passes class (map (won_with class_of class) history)
  closed-class history whole_in_class sound_in_class legal =
      let sound : IsSound (class_terms name.terms class) history = subst (λ t. IsSound t history) are.own sound_in_class in
      let whole : IsWhole limit ps history = subst (λ t. IsWhole t.limit ps history) are.own whole_in_class in
      let collected : AreCollected limit ps history legal.0 = subst (λ t. AreCollected t.limit ps history legal.0) are.own legal.1 in
      let more = map (won_with class_of class) history in
      let claims = map (entry_with class_of class) legal.0 in
      record {
        whole = subst (λ (qs : List PassState). IsWhole limit qs more) passes-are
            (whole-with class_of class file limit ps history sound.within sound.once few whole);
        sound = sound-with class_of class file limit ps history sound.within sound.once few whole (book_terms name.terms) refl refl;
        of_class = all-of-class class_of class file limit ps history sound.within sound.once few whole;
        legal = (
          claims,
          subst (λ (qs : List PassState). AreCollectedIn class_of class limit qs more claims) passes-are
              (collected-with class_of class file limit ps history sound.within sound.once few whole legal.0 collected),
        );
      }

-- ---- the histories of the classes from one on

abbrev pub AreHistoriesFrom : ClassesName → List ClassPassState → ℕ → List (List Won) → Type 0
AreHistoriesFrom name passes class [] = Unit {0}
AreHistoriesFrom name passes class (history ∷ histories) = IsHistoryOf name passes class history × AreHistoriesFrom name passes (suc class) histories

pub history-at : (name : ClassesName) (passes : List ClassPassState) (class : ℕ) (histories : List (List Won)) → AreHistoriesFrom name passes class histories
    → (j : ℕ) → j < length histories → IsHistoryOf name passes (class + j) (get_or histories j [])
history-at name passes class [] are j lt = absurd (omega (arith, lt))
history-at name passes class (history ∷ histories) are zero lt = let same : class ≡ class + 0 = omega arith in subst
    (λ k. IsHistoryOf name passes k history) same are.0
history-at name passes class (history ∷ histories) are (suc j) lt =
    let same : suc class + j ≡ class + suc j = omega arith in
    subst (λ k. IsHistoryOf name passes k (get_or histories j [])) same (history-at name passes (suc class) histories are.1 j (omega (arith, lt)))

-- the claims of these classes
pub claims-from : (name : ClassesName) (passes : List ClassPassState) (class : ℕ) (histories : List (List Won)) → AreHistoriesFrom name passes class histories
    → (claims : List (List Entry)) × (length claims ≡ length histories)
    × ((j : ℕ) → j < length histories → AreCollectedIn name.terms.class_of (class + j) name.terms.limit (passes_in (class + j) passes) (history_in j histories)
    (history_in j claims))
claims-from name passes class [] are = ([], refl, λ j lt. absurd (omega (arith, lt)))
claims-from name passes class (history ∷ histories) are =
    let rest = claims-from name passes (suc class) histories are.1 in
    (are.0.legal.0 ∷ rest.0, ap suc rest.1, each rest.0 rest.2)
  where
    each : (claims : List (List Entry)) → ((j : ℕ) → j < length histories
        → AreCollectedIn name.terms.class_of (suc class + j) name.terms.limit (passes_in (suc class + j) passes) (history_in j histories) (history_in j claims))
        → (j : ℕ) → j < length (history ∷ histories)
        → AreCollectedIn name.terms.class_of (class + j) name.terms.limit (passes_in (class + j) passes) (history_in j (history ∷ histories))
        (history_in j (are.0.legal.0 ∷ claims))
    each claims later zero lt =
        let same : class ≡ class + 0 = omega arith in
        subst (λ k. AreCollectedIn name.terms.class_of k name.terms.limit (passes_in k passes) history are.0.legal.0) same are.0.legal.1
    each claims later (suc j) lt =
        let same : suc class + j ≡ class + suc j = omega arith in
        subst (λ k. AreCollectedIn name.terms.class_of k name.terms.limit (passes_in k passes) (history_in j histories) (history_in j claims)) same
        (later j (omega (arith, lt)))

-- are one legal history, where the classes are all
pub claims-joined : (name : ClassesName) (passes : List ClassPassState) (histories : List (List Won)) → length histories ≡ name.terms.classes
    → AreHistoriesFrom name passes 0 histories
    → (claims : List (List Entry)) × AreCollectedInClasses name passes histories claims
claims-joined name passes histories many are =
    let from = claims-from name passes 0 histories are in
    let each : (class : ℕ) → class < length histories
    → AreCollectedIn name.terms.class_of class name.terms.limit (passes_in class passes) (history_in class histories) (history_in class from.0) =
    (λ class lt. let same : 0 + class ≡ class = omega arith in
    subst (λ k. AreCollectedIn name.terms.class_of k name.terms.limit (passes_in k passes) (history_in class histories) (history_in class from.0)) same
    (from.2 class lt)) in
    let as_many = from.1 in (
      from.0,
      record {
        as_many = as_many ∙ many;
        each = λ class lt. each class (omega (arith, many, lt));
        legal = joined-law name.terms.class_of name.terms.limit from.0 (record {
          legal = λ class lt. (each class (omega (arith, as_many, lt))).collected.legal;
          of_class = λ class lt. (each class (omega (arith, as_many, lt))).of_class;
        });
      },
    )

-- the changed list from the end on
pub map-reverse : {X Y : Type 0} (f : X → Y) (xs : List X) → map f (reverse xs) ≡ reverse (map f xs)
map-reverse f [] = refl
map-reverse f (x ∷ xs) =
    ap (map f) (reverse-cons x xs) ∙ map-append f (reverse xs) (x ∷ []) ∙ ap (λ l. l ++ f x ∷ []) (map-reverse f xs) ∙ sym (reverse-cons (f x) (map f xs))

-- ---- the passes in the first classes

state-first : (m class : ℕ) (q : ClassPassState) → class < m → state_in class (first_classes m q) ≡ state_in class q
state-first m class q lt = get_or-take m q.states class (record { seen = []; mine = [] }) lt

-- they have in these what they had
pub states-first : (m class : ℕ) (qs : List ClassPassState) → class < m → map (state_in class) (map (first_classes m) qs) ≡ map (state_in class) qs
states-first m class qs lt = map-map (state_in class) (first_classes m) qs ∙ (λ i. map (λ q. state-first m class q lt i) qs)

-- ---- one class more is closed

-- the passes are of some books, of which this is the last
pub record IsTurn (name : ClassesName) (rest books : List BookName) (book : BookName) (others : List ClassPassState) (last : ClassPassState) : Type 0 where
  pub split : books ≡ rest ++ book ∷ []
  pub same : All (λ (q : ClassPassState). q.classes ≡ name_of name.terms books) (others ++ last ∷ [])

module _ {name : ClassesName} {rest books : List BookName} {book : BookName} {others : List ClassPassState} {last : ClassPassState}
    (turn : IsTurn name rest books book others last) where
  pub count : length books ≡ length rest + 1
  count = ap length turn.split ∙ length_push rest book

  at-last : length books - 1 ≡ length rest
  at-last = let n = count in omega (arith, n)

  pub last-same : last.classes ≡ name_of name.terms books
  last-same =
      ap (λ (q : ClassPassState). q.classes) (sym (get_or_push others last last (length others) refl))
      ∙ turn.same (length others) last (let l = length_push others last in omega (arith, l))

  pub others-same : All (λ (q : ClassPassState). q.classes ≡ last.classes) others
  others-same k d lt =
      ap (λ (q : ClassPassState). q.classes) (sym (get_or_append_left others (last ∷ []) d k lt))
      ∙ turn.same k d (let l = length_push others last in omega (arith, l, lt)) ∙ sym last-same

  -- the book has the terms of its class, and so have the others
  pub own : AreOfTerms name.terms books → book.terms ≡ class_terms name.terms (length rest)
  own are =
      ap (λ (b : BookName). b.terms) (sym (ap (λ (l : List BookName). get_or l (length rest) book) turn.split ∙ get_or_push rest book book (length rest) refl))
      ∙ are (length rest) book (let n = count in omega (arith, n))

  pub rest-terms : AreOfTerms name.terms books → AreOfTerms name.terms rest
  rest-terms are k d lt =
      ap (λ (b : BookName). b.terms) (sym (get_or_append_left rest (book ∷ []) d k lt) ∙ ap (λ (l : List BookName). get_or l k d) (sym turn.split))
      ∙ are k d (let n = count in omega (arith, n, lt))

  -- the passes of the last class are those of the book
  pub of-book : (ps : List PassState) → All (IsOfLast last.classes) ps → All (λ (p : PassState). p.book ≡ book) ps
  of-book ps all k d lt =
      let p = get_or ps k d in
      let of_last : IsOfLast (name_of name.terms books) p = subst (λ (n : ClassesName). IsOfLast n p) last-same (all k d lt) in
      of_last.book ∙ ap (λ (bs : List BookName). get_or bs (length books - 1) p.book) turn.split
      ∙ get_or_at rest book [] p.book (length books - 1) (sym at-last)

  -- and have what the passes have of that class
  pub states-left : (ps : List PassState) (passes : List ClassPassState)
      → map (state_with last.classes.terms.class_of (last_class last)) ps ≡ map (state_in (last_class last)) (others ++ last ∷ [])
      → ((class : ℕ) → class < length books → map (state_in class) (others ++ last ∷ []) ≡ map (state_in class) passes)
      → map (state_with name.terms.class_of (length rest)) ps ≡ map (state_in (length rest)) passes
  states-left ps passes gathered states =
      subst (λ n. map (state_with name.terms.class_of n) ps ≡ map (state_in n) (others ++ last ∷ [])) at-last
      (subst (λ (n : ClassesName). map (state_with n.terms.class_of (length n.books - 1)) ps ≡ map (state_in (length n.books - 1))
      (others ++ last ∷ [])) last-same gathered)
      ∙ states (length rest) (let n = count in omega (arith, n))

  -- what is left of the passes
  pub passes-left : (fewer : List ClassPassState) (final : ClassPassState) → fewer ≡ map (first_classes (last_class last)) others
      → final ≡ first_classes (last_class last) last
      → fewer ++ final ∷ [] ≡ map (first_classes (length rest)) (others ++ last ∷ [])
  passes-left fewer final fewer_are final_is =
      (λ i. fewer_are i ++ final_is i ∷ []) ∙ sym (map_push (first_classes (last_class last)) others last)
      ∙ ap (λ n. map (first_classes n) (others ++ last ∷ [])) (ap (λ (n : ClassesName). length n.books - 1) last-same ∙ at-last)

  -- is of the books that are left
  pub classes-left : All (λ (q : ClassPassState). q.classes ≡ name_of name.terms rest) (map (first_classes (length rest)) (others ++ last ∷ []))
  classes-left =
      All-map (λ (q : ClassPassState). q.classes ≡ name_of name.terms rest) (first_classes (length rest)) (others ++ last ∷ [])
      (λ k d lt. ap (λ n. name_of n.terms (take (length rest) n.books)) (turn.same k d lt)
      ∙ ap (name_of name.terms) (ap (take (length rest)) turn.split ∙ take_at rest (book ∷ []) (length rest) refl))
