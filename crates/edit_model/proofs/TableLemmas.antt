use Rattle.std.proofs.Common.{◌≡◌, ◌≢◌, ℕ, ◌+◌, Bool, true, false, not, cond, if◌then◌else◌, ◌||◌, All, List, [], ◌∷◌, ◌++◌, get_or, map, position, refl, sym}
use Rattle.std.proofs.Common.{ap, ◌∙◌, MatchBool}
use Rattle.std.specs.List.{list_any, prefix_len}
use Rattle.std.specs.Str.{bytes_eq}
use Rattle.std.proofs.lemmas.List.{length-map, map-append}
use Rattle.std.proofs.lemmas.List.Folds.{list_any_none, list_any_at}
use Rattle.std.proofs.lemmas.Slice.Eq.{bytes_eq-Decides}
use Rattle.indexmap.specs.IndexSet.{insert_key}
use Rattle.edit_model.proofs.NameLemmas.{false_unless}

-- a name that the comparisons find is among the names
pub found_name : (name : List ℕ) (names : List (List ℕ)) → list_any (bytes_eq name) names ≡ true → ¬ All (λ n. n ≢ name) names
found_name name names found all =
    let missing : list_any (bytes_eq name) names ≡ false = list_any_none (bytes_eq name) names
    (λ k d below. false_unless _ (λ same. all k d below (sym ((bytes_eq-Decides name (get_or names k d)).0 same)))) in cc

-- a name that the comparisons do not find is not among them
pub missing_name : (name : List ℕ) (names : List (List ℕ)) → list_any (bytes_eq name) names ≡ false → All (λ n. n ≢ name) names
missing_name name names missing k d below same =
    let found : list_any (bytes_eq name) names ≡ true = list_any_at (bytes_eq name) names k d below ((bytes_eq-Decides name (get_or names k d)).1 (sym same)) in
    cc

module _ {X : Type 0} (items : X → List ℕ) where
  -- how many names stand before the one that is looked for, in the table and in the list of its names
  before_name : (test : List ℕ → Bool) (keys : List X) → prefix_len test (map items keys) ≡ prefix_len (λ k. test (items k)) keys
  before_name test [] = refl
  before_name test (k ∷ keys) = ap (λ (n : ℕ). cond (test (items k)) (1 + n) 0) (before_name test keys)

  -- the place in the table is the place in the list of its names
  pub position_of_name : (test : List ℕ → Bool) (keys : List X) → position (λ k. test (items k)) keys ≡ position test (map items keys)
  position_of_name test keys = rw (before_name (λ n. not (test n)) keys, length-map) refl

  found_in_table : (name : List ℕ) (keys : List X) → list_any (λ k. bytes_eq name (items k)) keys ≡ list_any (bytes_eq name) (map items keys)
  found_in_table name [] = refl
  found_in_table name (k ∷ keys) = ap (λ (b : Bool). bytes_eq name (items k) || b) (found_in_table name keys)

  -- what the table has after a name is put in, and what the answer says
  pub inserted : (key : X) (name : List ℕ) (keys more : List X) (added : Bool) → items key ≡ name
      → more ≡ insert_key (λ a b. bytes_eq (items a) (items b)) keys key → added ≡ not (list_any (λ k. bytes_eq (items key) (items k)) keys)
      → MatchBool added ((map items more ≡ map items keys ++ name ∷ []) × All (λ n. n ≢ name) (map items keys)) (¬ All (λ n. n ≢ name) (map items keys))
  inserted key name keys more added named is answer = by (list_any (λ k. bytes_eq (items key) (items k)) keys) refl
    where
      by : (b : Bool) → list_any (λ k. bytes_eq (items key) (items k)) keys ≡ b → MatchBool added
          ((map items more ≡ map items keys ++ name ∷ []) × All (λ n. n ≢ name) (map items keys)) (¬ All (λ n. n ≢ name) (map items keys))
      by true there =
          let old : added ≡ false = answer ∙ ap not there in
          let found : list_any (bytes_eq name) (map items keys) ≡ true = sym (found_in_table name keys)
          ∙ ap (λ (n : List ℕ). list_any (λ k. bytes_eq n (items k)) keys) (sym named) ∙ there in
          rw old (found_name name (map items keys) found)
      by false absent =
          let new : added ≡ true = answer ∙ ap not absent in
          let missing : list_any (bytes_eq name) (map items keys) ≡ false = sym (found_in_table name keys)
          ∙ ap (λ (n : List ℕ). list_any (λ k. bytes_eq n (items k)) keys) (sym named) ∙ absent in
          let longer : more ≡ keys ++ key ∷ [] = is ∙ ap (λ (b : Bool). if b then keys else keys ++ key ∷ []) absent in
          rw new (
            (ap (map items) longer ∙ map-append items keys (key ∷ []) ∙ ap (λ (n : List ℕ). map items keys ++ n ∷ []) named),
            missing_name name (map items keys) missing,
          )
