use Rattle.std.proofs.Common.{◌≡◌, ℕ, ◌==◌, ◌||◌, Bool, true, false, if◌then◌else◌, List, [], ◌∷◌, Some, None, codes, map, refl, sym, ap, ◌∙◌, subst, arith}
use Rattle.std.specs.Fmt.{decimal}
use Rattle.std.specs.List.{list_all}
use Rattle.std.specs.Str.{bytes_eq}
use Rattle.std.proofs.lemmas.Bool.Decides.{Decides-eqb}
use Rattle.std.proofs.lemmas.Slice.Eq.{bytes_eq-Decides}
use Rattle.edit_line.proofs.BoolLaws.{both_true}
use Rattle.proof_grammar.specs.declared.heads.LeafHead.{LeafHead}
use Rattle.proof_grammar.specs.declared.heads.LeafHead.TheVariants.{BadAt, BoundAt, BoxAt, LineAt}
use Rattle.proof_grammar.proofs.HeadLines.{IsLeafHead, leaf_head}
use Rattle.proof_grammar.specs.Limits.{IsLong}
use Rattle.bound_cert.specs.Paths.{letter, path_text}
use Rattle.proof_grammar.specs.ProofLines.{Line}
use Rattle.proof_grammar.specs.inner.LeafReading.{bad_in, bound_in, box_in, leaf_in, line_in, path_and_number_in, path_in}
use Rattle.proof_grammar.specs.Words.{is_changed, is_path_letter, path_said}
use Rattle.proof_grammar.proofs.Productions.{LineForm}
use Rattle.proof_grammar.proofs.StepForms.{first-found}
use Rattle.proof_grammar.proofs.WordForms.{end-found, long_form, next-again, next-found}

-- The forms of a path and of a leaf's first line.

-- ---- paths

abbrev pub IsPath : List Bool → Type 0
IsPath path = Unit {0}

letters-read : (path : List Bool) → map is_changed (map letter path) ≡ path
letters-read [] = refl
letters-read (true ∷ path) = ap (λ (p : List Bool). true ∷ p) (letters-read path)
letters-read (false ∷ path) = ap (λ (p : List Bool). false ∷ p) (letters-read path)

letters-good : (path : List Bool) → list_all is_path_letter (map letter path) ≡ true
letters-good [] = refl
letters-good (true ∷ path) = letters-good path
letters-good (false ∷ path) = letters-good path

letter-back : (b : ℕ) → is_path_letter b ≡ true → letter (is_changed b) ≡ b
letter-back b good = by (b == 67) refl (b == 75) refl good
  where
    by : (c : Bool) → (b == 67) ≡ c → (k : Bool) → (b == 75) ≡ k → (k || c) ≡ true → letter c ≡ b
    by true is k kept good_ = sym ((Decides-eqb b 67).0 is)
    by false is true kept good_ = sym ((Decides-eqb b 75).0 kept)
    by false is false kept good_ = absurd (cc (good_))

letters-back : (bs : List ℕ) → list_all is_path_letter bs ≡ true → map letter (map is_changed bs) ≡ bs
letters-back [] good = refl
letters-back (b ∷ bs) good =
    let (here, rest) = both_true (is_path_letter b) (list_all is_path_letter bs) good in ap (λ (k : ℕ). k ∷ map letter (map is_changed bs)) (letter-back b here)
    ∙ ap (λ (ks : List ℕ). b ∷ ks) (letters-back bs rest)

pub path-again : (path : List Bool) → IsPath path → path_said (path_text path) ≡ Some path
path-again [] good = refl
path-again (true ∷ path) good = rw (letters-good path) (ap (λ (p : List Bool). Some (true ∷ p)) (letters-read path))
path-again (false ∷ path) good = rw (letters-good path) (ap (λ (p : List Bool). Some (false ∷ p)) (letters-read path))

pub path-found : (w : List ℕ) (path : List Bool) → path_said w ≡ Some path → IsPath path × (w ≡ path_text path)
path-found [] path e = absurd (cc (e))
path-found (b ∷ bs) path e = by (bytes_eq (b ∷ bs) (codes "-")) refl e
  where
    lettered : (c : Bool) → list_all is_path_letter (b ∷ bs) ≡ c → (if c then Some (map is_changed (b ∷ bs)) else None) ≡ Some path → b ∷ bs ≡ path_text path
    lettered false good h = absurd (cc (h))
    lettered true good h = let own : map is_changed (b ∷ bs) ≡ path = cc (h) in sym (letters-back (b ∷ bs) good) ∙ ap path_text own

    by : (c : Bool) → bytes_eq (b ∷ bs) (codes "-") ≡ c
        → (if c then Some [] else if list_all is_path_letter (b ∷ bs) then Some (map is_changed (b ∷ bs)) else None) ≡ Some path → IsPath path
        × (b ∷ bs ≡ path_text path)
    by true is h = let own : [] ≡ path = cc (h) in (tt, (bytes_eq-Decides (b ∷ bs) (codes "-")).0 is ∙ ap path_text own)
    by false is h = (tt, lettered (list_all is_path_letter (b ∷ bs)) refl h)

abbrev pub path_form : LineForm {L = List ℕ} IsPath path_text
path_form = record { read = path_said; sample = []; sound_sample = tt; again = path-again; found = path-found }

-- ---- a path alone, and a path and a number

pub path-alone : {X : Type 0} (to : List Bool → X) (ws : Line) (x : X) → path_in to ws ≡ Some x → (path : List Bool) × (to path ≡ x)
    × (ws ≡ path_text path ∷ [])
path-alone to ws x e =
    let (path, w1, fits, e1, h1) = next-found IsPath path_text path_form ws _ x e in
    let (own, none) = end-found (to path) x w1 h1 in (path, own, e1 ∙ ap (λ (v : Line). path_text path ∷ v) none)

pub path-and-number : {X : Type 0} (to : List Bool → ℕ → X) (ws : Line) (x : X) → path_and_number_in to ws ≡ Some x → (path : List Bool) × (n : ℕ) × IsLong n
    × (to path n ≡ x) × (ws ≡ path_text path ∷ decimal n ∷ [])
path-and-number to ws x e =
    let (path, w1, fits, e1, h1) = next-found IsPath path_text path_form ws _ x e in
    let (n, w2, n_fits, e2, h2) = next-found IsLong decimal long_form w1 _ x h1 in
    let (own, none) = end-found (to path n) x w2 h2 in
    (path, n, n_fits, own, e1 ∙ ap (λ (v : Line). path_text path ∷ v) (e2 ∙ ap (λ (v : Line). decimal n ∷ v) none))

-- ---- heads

abbrev Found : LeafHead → List ℕ → Line → Type 0
Found head word ws = IsLeafHead head × (word ∷ ws ≡ leaf_head head)

bound-found : (ws : Line) (head : LeafHead) → bound_in ws ≡ Some head → Found head (codes "bound") ws
bound-found ws head e = let (path, own, words) = path-alone (λ p. BoundAt p) ws head e in
    (subst IsLeafHead own (omega arith), ap (λ (v : Line). codes "bound" ∷ v) words ∙ ap leaf_head own)

bad-found : (ws : Line) (head : LeafHead) → bad_in ws ≡ Some head → Found head (codes "bad") ws
bad-found ws head e = let (path, own, words) = path-alone (λ p. BadAt p) ws head e in
    (subst IsLeafHead own (omega arith), ap (λ (v : Line). codes "bad" ∷ v) words ∙ ap leaf_head own)

line-found : (ws : Line) (head : LeafHead) → line_in ws ≡ Some head → Found head (codes "line") ws
line-found ws head e = let (path, n, fits, own, words) = path-and-number (λ p m. LineAt p m) ws head e in
    (subst IsLeafHead own fits, ap (λ (v : Line). codes "line" ∷ v) words ∙ ap leaf_head own)

box-found : (ws : Line) (head : LeafHead) → box_in ws ≡ Some head → Found head (codes "box") ws
box-found ws head e = let (path, n, fits, own, words) = path-and-number (λ p m. BoxAt p m) ws head e in
    (subst IsLeafHead own fits, ap (λ (v : Line). codes "box" ∷ v) words ∙ ap leaf_head own)

pub head-found : (l : Line) (head : LeafHead) → leaf_in l ≡ Some head → IsLeafHead head × (l ≡ leaf_head head)
head-found [] head e = absurd (cc (e))
head-found (w ∷ ws) head e =
    first-found IsLeafHead leaf_head ((codes "bound", bound_in) ∷ (codes "bad", bad_in) ∷ (codes "line", line_in) ∷ (codes "box", box_in) ∷ [])
    (bound-found, (bad-found, (line-found, (box-found, tt)))) w ws head e

pub head-again : (head : LeafHead) → IsLeafHead head → leaf_in (leaf_head head) ≡ Some head
head-again (BoundAt path) fits = next-again IsPath path_text path_form path [] _ tt
head-again (BadAt path) fits = next-again IsPath path_text path_form path [] _ tt
head-again (LineAt path n) fits = next-again IsPath path_text path_form path _ _ tt ∙ next-again IsLong decimal long_form n [] _ fits
head-again (BoxAt path n) fits = next-again IsPath path_text path_form path _ _ tt ∙ next-again IsLong decimal long_form n [] _ fits

abbrev pub leaf_form : LineForm IsLeafHead leaf_head
leaf_form = record { read = leaf_in; sample = BoundAt []; sound_sample = omega arith; again = head-again; found = head-found }
