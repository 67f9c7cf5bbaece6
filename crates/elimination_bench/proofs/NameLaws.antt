use Rattle.std.proofs.Common.{◌≡◌, ◌≢◌, ℕ, suc, ◌+◌, ◌<◌, ◌≤◌, ◌&&◌, Bool, true, not, All, AllPairs, List, [], ◌∷◌, ◌++◌, get_or, length, map, take, refl, sym}
use Rattle.std.proofs.Common.{ap, ◌∙◌, subst, arith}
use Rattle.std.specs.Prelude.{IsTrue, codes}
use Rattle.std.specs.List.{list_all}
use Rattle.std.specs.Str.{bytes_eq}
use Rattle.std.proofs.lemmas.Bool.{and_parts}
use Rattle.std.proofs.lemmas.List.{get_or-map, get_or-take, length-append, length-map, length-take-le, map-append, take_more}
use Rattle.std.proofs.lemmas.List.Elements.{All-nil, All-push, All-weaker}
use Rattle.std.proofs.lemmas.List.Kept.{AllPairs-cons}
use Rattle.std.proofs.lemmas.List.Quantifiers.{all_pairs_push}
use Rattle.std.proofs.lemmas.List.Sums.{AllPass-from_list_all}
use Rattle.std.proofs.lemmas.Slice.Eq.{bytes_eq-Decides}
use Rattle.edit_model.specs.Parts.{survey_of}
use Rattle.edit_model.specs.Surveys.{IsField, IsRule, IsWellFormed, is_letter}
use Rattle.edit_model.specs.declared.field.Field.{Field}
use Rattle.edit_model.specs.declared.rule.Rule.{Rule}
use Rattle.elimination_bench.specs.declared.differences.TheConstants.{LETTERS}

-- ---- names that differ

-- whether no name stands twice
abbrev are_apart : List (List ℕ) → Bool
are_apart [] = true
are_apart (name ∷ names) = list_all (λ (n : List ℕ). not (bytes_eq name n)) names && are_apart names

-- then the names differ
all-apart : (names : List (List ℕ)) → are_apart names ≡ true → AllPairs (λ (a : List ℕ) (b : List ℕ). a ≢ b) names
all-apart [] h = λ i j d earlier within. absurd (omega arith)
all-apart (name ∷ names) h =
    let both = and_parts (list_all (λ (n : List ℕ). not (bytes_eq name n)) names) (are_apart names) h in
    AllPairs-cons (λ (a : List ℕ) (b : List ℕ). a ≢ b) name names
    (All-weaker (λ (n : List ℕ). not (bytes_eq name n) ≡ true) (λ (n : List ℕ). name ≢ n) (differs name) names
    (AllPass-from_list_all (λ (n : List ℕ). not (bytes_eq name n)) names both.0))
    (all-apart names both.1)
  where
    differs : (a b : List ℕ) → not (bytes_eq a b) ≡ true → a ≢ b
    differs a b h same = let equal : bytes_eq a b ≡ true = (bytes_eq-Decides a b).1 same in absurd (cc (ap not equal, h))

-- fields differ by name where the names in the list differ
apart-fields : (fields : List Field) → AllPairs (λ (a : List ℕ) (b : List ℕ). a ≢ b) (map (λ (f : Field). f.name) fields)
    → AllPairs (λ (f : Field) (g : Field). f.name ≢ g.name) fields
apart-fields fields differ i j d earlier within same =
    let name : (k : ℕ) → k < length fields → get_or (map (λ (f : Field). f.name) fields) k [] ≡ (get_or fields k d).name =
    λ k below. get_or-map (λ (f : Field). f.name) fields k d [] below in
    differ i j [] earlier (omega (arith, within, length-map fields (λ (f : Field). f.name)))
    (name i (omega (arith, earlier, within)) ∙ same ∙ sym (name j within))

-- ---- the letters

-- the numerical fields' names
abbrev pub letter_names : List (List ℕ)
letter_names = map (λ b. b ∷ []) LETTERS.now

-- what names a field is a letter
pub letter-at : (i : ℕ) → i < 32 → IsTrue (is_letter (get_or LETTERS.now i 0))
letter-at i below = AllPass-from_list_all is_letter LETTERS.now refl i 0 below

-- the names of the field of codes and of the numerical fields differ
names-apart : AllPairs (λ (a : List ℕ) (b : List ℕ). a ≢ b) (codes "G" ∷ letter_names)
names-apart = all-apart (codes "G" ∷ letter_names) refl

-- and so do the first of them, so many, and then that of the field of codes
first-apart : (n : ℕ) → n ≤ 32 → AllPairs (λ (a : List ℕ) (b : List ℕ). a ≢ b) (take n letter_names ++ codes "G" ∷ [])
first-apart n few = all_pairs_push (λ (a : List ℕ) (b : List ℕ). a ≢ b) (take n letter_names) (codes "G") numbers last
  where
    long : length (take n letter_names) ≡ n
    long = length-take-le n letter_names few

    numbers : AllPairs (λ (a : List ℕ) (b : List ℕ). a ≢ b) (take n letter_names)
    numbers i j d earlier within same =
        names-apart (suc i) (suc j) d (omega arith) (omega (arith, within, long, few))
        (sym (get_or-take n letter_names i d (omega (arith, earlier, within, long))) ∙ same ∙ get_or-take n letter_names j d (omega (arith, within, long)))

    last : (k : ℕ) (d : List ℕ) → k < length (take n letter_names) → get_or (take n letter_names) k d ≢ codes "G"
    last k d below same =
        names-apart 0 (suc k) d (omega arith) (omega (arith, below, long, few)) (sym same ∙ get_or-take n letter_names k d (omega (arith, below, long)))

-- ---- the fields

-- a field more has the next letter for its name
pub name-more : (i : ℕ) (before after : List Field) (field : Field) → i < 32 → after ≡ before ++ field ∷ [] → field.name ≡ get_or LETTERS.now i 0 ∷ []
    → map (λ (f : Field). f.name) before ≡ take i letter_names
    → map (λ (f : Field). f.name) after ≡ take (i + 1) letter_names
name-more i before after field below items name names =
    ap (λ (fs : List Field). map (λ (f : Field). f.name) fs) items ∙ map-append (λ (f : Field). f.name) before (field ∷ [])
    ∙ ap (λ (ns : List (List ℕ)). ns ++ field.name ∷ []) names
    ∙ ap (λ (n : List ℕ). take i letter_names ++ n ∷ []) (name ∙ sym (get_or-map (λ n. n ∷ []) LETTERS.now i 0 [] below))
    ∙ sym (take_more letter_names i [] below)

-- a field more is in form
pub form-more : (before after : List Field) (field : Field) → after ≡ before ++ field ∷ [] → IsField field → All IsField before → All IsField after
form-more before after field items form forms = subst (λ (fs : List Field). All IsField fs) (sym items) (All-push IsField before field forms form)

-- numerical fields with the first letters for names, and a field of codes, are well formed
pub fields-well_formed : (n : ℕ) (before after : List Field) (last : Field) (rules : List Rule) → n ≤ 32 → after ≡ before ++ last ∷ [] → rules ≡ []
    → map (λ (f : Field). f.name) before ≡ take n letter_names → All IsField before → last.name ≡ codes "G" → IsField last
    → IsWellFormed (survey_of after rules)
fields-well_formed n before after last rules few items none names forms last_name form =
    subst (λ (fs : List Field). IsWellFormed (survey_of fs rules)) (sym items) (
    subst (λ (rs : List Rule). IsWellFormed (survey_of (before ++ last ∷ []) rs)) (sym none) (record {
      few_fields = omega (arith, few, many, length-append before (last ∷ []));
      few_rules = omega arith;
      names = apart-fields (before ++ last ∷ []) (subst (λ (ns : List (List ℕ)). AllPairs (λ (a : List ℕ) (b : List ℕ). a ≢ b) ns) (sym all_names)
          (first-apart n few));
      fields = All-push IsField before last forms form;
      rules = All-nil (IsRule (before ++ last ∷ []));
    })
    )
  where
    all_names : map (λ (f : Field). f.name) (before ++ last ∷ []) ≡ take n letter_names ++ codes "G" ∷ []
    all_names = map-append (λ (f : Field). f.name) before (last ∷ []) ∙ ap (λ (ns : List (List ℕ)). ns ++ last.name ∷ []) names
        ∙ ap (λ (l : List ℕ). take n letter_names ++ l ∷ []) last_name

    many : length before ≡ n
    many = sym (length-map before (λ (f : Field). f.name)) ∙ ap (λ (ns : List (List ℕ)). length ns) names ∙ length-take-le n letter_names few
