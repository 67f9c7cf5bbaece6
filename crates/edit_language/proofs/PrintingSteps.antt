-- One element more in a printed text or list.
use Rattle.std.proofs.Common.{◌≡◌, ◌∙◌, refl, sym, ap, ℕ, suc, ◌+◌, ◌<◌, ◌≤◌, Bool, true, false, cond, eqb, arith}
use Rattle.std.proofs.Common.{List, [], ◌∷◌, ◌++◌, length, take, get_or, append_assoc}
use Rattle.std.proofs.lemmas.Bool.{ne_eqb}
use Rattle.std.proofs.lemmas.Bool.Decides.{nat_tests}
use Rattle.std.proofs.lemmas.List.{append-nil, flat_map_more, length-append, take_all, take_more, length-take}
use Rattle.std.proofs.lemmas.List.Concat.{flat_map-append}
use Rattle.std.specs.Prelude.{codes}
use Rattle.std.specs.Int.{bit_at}
use Rattle.std.specs.List.{flat_map}
use Rattle.edit_language.specs.Printing.{codes_of_set, comma_list}

-- what the elements of a list up to a place give, and what the element there gives
pub text_more_at : {X : Type 0} (f : X → List ℕ) (before : List ℕ) (xs : List X) (i : ℕ) (d : X) (now next : List ℕ) → i < length xs
    → now ≡ before ++ flat_map f (take i xs) → next ≡ now ++ f (get_or xs i d) → next ≡ before ++ flat_map f (take (i + 1) xs)
text_more_at f before xs i d now next within e step = rw (step, e, take_more xs i d within) (flat_map_more f before (take i xs) (get_or xs i d))

pub text_more : {X : Type 0} (f : X → List ℕ) (before : List ℕ) (xs : List X) (i : ℕ) (x : X) (now next : List ℕ) → i < length xs → x ≡ get_or xs i x
    → now ≡ before ++ flat_map f (take i xs) → next ≡ now ++ f x → next ≡ before ++ flat_map f (take (i + 1) xs)
text_more f before xs i x now next within here e step = text_more_at f before xs i x now next within e (step ∙ ap (λ (y : _). now ++ f y) here)

-- a line more, with its line feed
pub line_more : {X : Type 0} (f : X → List ℕ) (before : List ℕ) (xs : List X) (i : ℕ) (x : X) (now line next : List ℕ) → i < length xs → x ≡ get_or xs i x
    → now ≡ before ++ flat_map (λ (y : X). f y ++ 10 ∷ []) (take i xs) → line ≡ now ++ f x → next ≡ line ++ 10 ∷ []
    → next ≡ before ++ flat_map (λ (y : X). f y ++ 10 ∷ []) (take (i + 1) xs)
line_more {X} f before xs i x now line next within here e written ended =
    text_more (λ (y : X). f y ++ 10 ∷ []) before xs i x now next within here e
    (ended ∙ ap (λ (t : List ℕ). t ++ 10 ∷ []) written ∙ append_assoc now (f x) (10 ∷ []))

-- what all elements give
pub text_all : {X : Type 0} (f : X → List ℕ) (before : List ℕ) (xs : List X) (i : ℕ) (now : List ℕ) → length xs ≤ i
    → now ≡ before ++ flat_map f (take i xs) → now ≡ before ++ flat_map f xs
text_all f before xs i now past e = e ∙ ap (λ (ys : _). before ++ flat_map f ys) (take_all i xs past)

-- what stands before a code: a comma and a space, but nothing before the first
abbrev pub comma_before : Bool → List ℕ
comma_before first = cond first [] (codes ", ")

-- one text more at the end of a list
pub comma_list-push : (texts : List (List ℕ)) (text : List ℕ)
    → comma_list (texts ++ text ∷ []) ≡ comma_list texts ++ (comma_before (eqb (length texts) 0) ++ text)
comma_list-push [] text = append-nil text
comma_list-push (first ∷ rest) text =
    let later = λ (t : List ℕ). codes ", " ++ t in
    let some : eqb (suc (length rest)) 0 ≡ false = grind (arith, nat_tests) in
    rw (some, flat_map-append later rest (text ∷ []), append-nil (codes ", " ++ text)) (sym (append_assoc first (flat_map later rest) (codes ", " ++ text)))

-- the codes of a set among one code more
pub codes_of_set-push : (set i : ℕ) (list : List (List ℕ)) (code : List ℕ)
    → codes_of_set set i (list ++ code ∷ []) ≡ codes_of_set set i list ++ cond (eqb (bit_at set (i + length list)) 1) (code ∷ []) []
codes_of_set-push set i [] code = rw add-zero refl
  where
    add-zero : i + 0 ≡ i
    add-zero = omega arith
codes_of_set-push set i (c ∷ list) code =
    let next : suc i + length list ≡ i + suc (length list) = omega arith in
    let more = rw next at (codes_of_set-push set (suc i) list code) in
    by_bit _ _ _ (eqb (bit_at set i) 1) more
  where
    by_bit : (x y z : List (List ℕ)) (b : Bool) → x ≡ y ++ z → cond b (c ∷ x) x ≡ cond b (c ∷ y) y ++ z
    by_bit x y z true e = ap (λ (t : List (List ℕ)). c ∷ t) e
    by_bit x y z false e = e

-- a text in braces with one code more
pub list_more : (before : List ℕ) (list : List (List ℕ)) (i : ℕ) (code now next : List ℕ) → i < length list → code ≡ get_or list i code
    → now ≡ before ++ 123 ∷ comma_list (take i list) → next ≡ now ++ comma_before (eqb i 0) ++ code → next ≡ before ++ 123 ∷ comma_list (take (i + 1) list)
list_more before list i code now next below is e f =
    let taken : take (i + 1) list ≡ take i list ++ code ∷ [] = take_more list i code below ∙ ap (λ (c : List ℕ). take i list ++ c ∷ []) (sym is) in
    let size : length (take i list) ≡ i = omega (arith, length-take i list) in
    rw (taken, comma_list-push (take i list) code, size, f, e)
    (append_assoc (before ++ 123 ∷ comma_list (take i list)) (comma_before (eqb i 0)) code
    ∙ append_assoc before (123 ∷ comma_list (take i list)) (comma_before (eqb i 0) ++ code))

-- the codes of a set among the first codes and one more
set_more : (list : List (List ℕ)) (set i : ℕ) (code : List ℕ) → i < length list → code ≡ get_or list i code
    → codes_of_set set 0 (take (i + 1) list) ≡ codes_of_set set 0 (take i list) ++ cond (eqb (bit_at set i) 1) (code ∷ []) []
set_more list set i code below is =
    let taken : take (i + 1) list ≡ take i list ++ code ∷ [] = take_more list i code below ∙ ap (λ (c : List ℕ). take i list ++ c ∷ []) (sym is) in
    let size : 0 + length (take i list) ≡ i = omega (arith, length-take i list) in
    rw (taken, codes_of_set-push set 0 (take i list) code, size) refl

pub set_more_in : (before : List ℕ) (list : List (List ℕ)) (set i : ℕ) (code now next : List ℕ) (first : Bool) → i < length list → code ≡ get_or list i code
    → eqb (bit_at set i) 1 ≡ true
    → now ≡ before ++ 123 ∷ comma_list (codes_of_set set 0 (take i list)) → first ≡ eqb (length (codes_of_set set 0 (take i list))) 0
    → next ≡ now ++ comma_before first ++ code
    → (next ≡ before ++ 123 ∷ comma_list (codes_of_set set 0 (take (i + 1) list))) × (false ≡ eqb (length (codes_of_set set 0 (take (i + 1) list))) 0)
set_more_in before list set i code now next first below is bit e same f =
    let had = codes_of_set set 0 (take i list) in
    let has : codes_of_set set 0 (take (i + 1) list) ≡ had ++ code ∷ [] = set_more list set i code below is ∙ rw bit refl in
    let some : eqb (length (had ++ code ∷ [])) 0 ≡ false = ne_eqb _ _ (λ none. omega (arith, length-append had (code ∷ []))) in (
      rw (has, comma_list-push had code, f, e, same) (append_assoc (before ++ 123 ∷ comma_list had) (comma_before (eqb (length had) 0)) code
          ∙ append_assoc before (123 ∷ comma_list had) (comma_before (eqb (length had) 0) ++ code)),
      rw (has, some) refl,
    )

pub set_more_out : (before : List ℕ) (list : List (List ℕ)) (set i : ℕ) (code now : List ℕ) (first : Bool) → i < length list → code ≡ get_or list i code
    → eqb (bit_at set i) 1 ≡ false
    → now ≡ before ++ 123 ∷ comma_list (codes_of_set set 0 (take i list)) → first ≡ eqb (length (codes_of_set set 0 (take i list))) 0
    → (now ≡ before ++ 123 ∷ comma_list (codes_of_set set 0 (take (i + 1) list))) × (first ≡ eqb (length (codes_of_set set 0 (take (i + 1) list))) 0)
set_more_out before list set i code now first below is bit e same =
    let has : codes_of_set set 0 (take (i + 1) list) ≡ codes_of_set set 0 (take i list) = set_more list set i code below is
    ∙ rw bit (append-nil _) in (rw has e, rw has same)
