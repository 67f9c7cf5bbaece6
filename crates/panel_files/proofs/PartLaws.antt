-- The fields of either file: parts of the survey's, and still well formed.
use Rattle.std.proofs.Common.{◌≡◌, ◌≢◌, ◌+◌, ◌<◌, ◌≤◌, ℕ, suc, Bool, true, false, if◌then◌else◌, All, AllPairs, IsSomeAnd, List, [], ◌∷◌, ◌++◌, codes, drop}
use Rattle.std.proofs.Common.{get_or, length, map, slice_get, refl, sym, ap, ◌∙◌, add-one, append_assoc, append-nil, arith}
use Rattle.std.proofs.Math.Seq.{drop-cons}
use Rattle.std.proofs.lemmas.List.{drop_all, length-map}
use Rattle.std.proofs.lemmas.List.Elements.{All-cons, All-head, All-map, All-nil, All-tail}
use Rattle.std.proofs.lemmas.List.Kept.{AllPairs-cons}
use Rattle.edit_model.specs.FieldSets.{has_number}
use Rattle.edit_model.specs.Parts.{survey_of}
use Rattle.edit_model.specs.Surveys.{IsField, IsWellFormed}
use Rattle.edit_model.specs.declared.field.Field.{Field}
use Rattle.panel_files.specs.LastFields.{AreLastFields, IsLastField, flagged, flags_from, flags_of, last_fields, own_fields, under_last_name, unflagged}

-- ---- one field after the other

-- the own fields among these, which are numbered from n on
abbrev pub own_from : ℕ → ℕ → List Field → List Field
own_from set n fields = unflagged (flags_from set n fields) fields

-- and the last fields
abbrev pub last_from : ℕ → ℕ → List Field → List Field
last_from set n fields = flagged (flags_from set n fields) fields

module _ (set n : ℕ) (fields : List Field) (field : Field) (below : n < length fields) (here : field ≡ get_or fields n field) where
  split-here : drop n fields ≡ field ∷ drop (suc n) fields
  split-here = drop-cons fields n field below ∙ ap (λ (f : Field). f ∷ drop (suc n) fields) (sym here)

  own-step : (b : Bool) (done rest : List Field) → (if b then done else done ++ field ∷ []) ++ rest ≡ done ++ (if b then rest else field ∷ rest)
  own-step true done rest = refl
  own-step false done rest = append_assoc done (field ∷ []) rest

  -- the own fields up to a place, and so with the field there
  pub own-more : (b : Bool) (done more whole : List Field) → b ≡ has_number set n → more ≡ (if b then done else done ++ field ∷ [])
      → done ++ own_from set n (drop n fields) ≡ whole → more ++ own_from set (n + 1) (drop (n + 1) fields) ≡ whole
  own-more b done more whole is pushed before =
      let rest = own_from set (suc n) (drop (suc n) fields) in
      rw (add-one) (ap (λ (fs : List Field). fs ++ rest) pushed ∙ own-step b done rest
      ∙ ap (λ (c : Bool). done ++ (if c then rest else field ∷ rest)) is ∙ ap (λ (fs : List Field). done ++ own_from set n fs) (sym split-here) ∙ before)

  last-step : (b : Bool) (done rest : List Field)
      → (if b then done ++ under_last_name field ∷ [] else done) ++ map under_last_name rest ≡ done ++ map under_last_name (if b then field ∷ rest else rest)
  last-step true done rest = append_assoc done (under_last_name field ∷ []) (map under_last_name rest)
  last-step false done rest = refl

  -- and the last fields
  pub last-more : (b : Bool) (done more whole : List Field) → b ≡ has_number set n → more ≡ (if b then done ++ under_last_name field ∷ [] else done)
      → done ++ map under_last_name (last_from set n (drop n fields)) ≡ whole
      → more ++ map under_last_name (last_from set (n + 1) (drop (n + 1) fields)) ≡ whole
  last-more b done more whole is pushed before =
      let rest = last_from set (suc n) (drop (suc n) fields) in
      rw (add-one) (ap (λ (fs : List Field). fs ++ map under_last_name rest) pushed ∙ last-step b done rest
      ∙ ap (λ (c : Bool). done ++ map under_last_name (if c then field ∷ rest else rest)) is
      ∙ ap (λ (fs : List Field). done ++ map under_last_name (last_from set n fs)) (sym split-here) ∙ before)

-- past the last field there is nothing to add
pub own-all : (set n : ℕ) (fields done whole : List Field) → length fields ≤ n → done ++ own_from set n (drop n fields) ≡ whole → done ≡ whole
own-all set n fields done whole past before =
    let none : own_from set n (drop n fields) ≡ [] = ap (λ (fs : List Field). own_from set n fs) (drop_all n fields past) in
    sym (append-nil done) ∙ ap (λ (fs : List Field). done ++ fs) (sym none) ∙ before

pub last-all : (set n : ℕ) (fields done whole : List Field) → length fields ≤ n
    → done ++ map under_last_name (last_from set n (drop n fields)) ≡ whole → done ≡ whole
last-all set n fields done whole past before =
    let none : map under_last_name (last_from set n (drop n fields)) ≡ [] =
    ap (λ (fs : List Field). map under_last_name (last_from set n fs)) (drop_all n fields past) in
    sym (append-nil done) ∙ ap (λ (fs : List Field). done ++ fs) (sym none) ∙ before

-- ---- what holds of a part

module _ {A : Type 0} where
  pairs-head : (R : A → A → Type 0) (x : A) (xs : List A) → AllPairs R (x ∷ xs) → All (R x) xs
  pairs-head R x xs are k d below = are 0 (suc k) d (omega arith) (omega arith)

  pairs-tail : (R : A → A → Type 0) (x : A) (xs : List A) → AllPairs R (x ∷ xs) → AllPairs R xs
  pairs-tail R x xs are i j d before below = are (suc i) (suc j) d (omega arith) (omega arith)

  -- of each element whose flag is not set
  pub All-unflagged : (P : A → Type 0) (flags : List Bool) (xs : List A) → All P xs → All P (unflagged flags xs)
  All-unflagged P [] xs are = All-nil P
  All-unflagged P (flag ∷ flags) [] are = All-nil P
  All-unflagged P (true ∷ flags) (x ∷ xs) are = All-unflagged P flags xs (All-tail P x xs are)
  All-unflagged P (false ∷ flags) (x ∷ xs) are = All-cons P x (unflagged flags xs) (All-head P x xs are) (All-unflagged P flags xs (All-tail P x xs are))

  -- and of each whose flag is set
  pub All-flagged : (P : A → Type 0) (flags : List Bool) (xs : List A) → All P xs → All P (flagged flags xs)
  All-flagged P [] xs are = All-nil P
  All-flagged P (flag ∷ flags) [] are = All-nil P
  All-flagged P (false ∷ flags) (x ∷ xs) are = All-flagged P flags xs (All-tail P x xs are)
  All-flagged P (true ∷ flags) (x ∷ xs) are = All-cons P x (flagged flags xs) (All-head P x xs are) (All-flagged P flags xs (All-tail P x xs are))

  pairs-none : (R : A → A → Type 0) → AllPairs R []
  pairs-none R i j d before below = absurd (omega arith)

  -- and of each two
  pub pairs-unflagged : (R : A → A → Type 0) (flags : List Bool) (xs : List A) → AllPairs R xs → AllPairs R (unflagged flags xs)
  pairs-unflagged R [] xs are = pairs-none R
  pairs-unflagged R (flag ∷ flags) [] are = pairs-none R
  pairs-unflagged R (true ∷ flags) (x ∷ xs) are = pairs-unflagged R flags xs (pairs-tail R x xs are)
  pairs-unflagged R (false ∷ flags) (x ∷ xs) are =
      AllPairs-cons R x (unflagged flags xs) (All-unflagged (R x) flags xs (pairs-head R x xs are)) (pairs-unflagged R flags xs (pairs-tail R x xs are))

  pub pairs-flagged : (R : A → A → Type 0) (flags : List Bool) (xs : List A) → AllPairs R xs → AllPairs R (flagged flags xs)
  pairs-flagged R [] xs are = pairs-none R
  pairs-flagged R (flag ∷ flags) [] are = pairs-none R
  pairs-flagged R (false ∷ flags) (x ∷ xs) are = pairs-flagged R flags xs (pairs-tail R x xs are)
  pairs-flagged R (true ∷ flags) (x ∷ xs) are =
      AllPairs-cons R x (flagged flags xs) (All-flagged (R x) flags xs (pairs-head R x xs are)) (pairs-flagged R flags xs (pairs-tail R x xs are))

  -- where there is a flag for each element, each is in one of the two parts
  pub part-lengths : (flags : List Bool) (xs : List A) → length flags ≡ length xs → length (unflagged flags xs) + length (flagged flags xs) ≡ length xs
  part-lengths [] [] long = refl
  part-lengths [] (x ∷ xs) long = absurd (omega (arith, long))
  part-lengths (flag ∷ flags) [] long = absurd (omega (arith, long))
  part-lengths (true ∷ flags) (x ∷ xs) long = let rest = part-lengths flags xs (omega (arith, long)) in omega arith
  part-lengths (false ∷ flags) (x ∷ xs) long = let rest = part-lengths flags xs (omega (arith, long)) in omega arith

-- of each two elements that are told in other words
pairs-map : {A B : Type 0} (P : A → Type 0) (R : A → A → Type 0) (S : B → B → Type 0) (f : A → B) → ((x y : A) → P x → P y → R x y → S (f x) (f y))
    → (xs : List A) → All P xs → AllPairs R xs → AllPairs S (map f xs)
pairs-map P R S f told [] all pairs = pairs-none S
pairs-map P R S f told (x ∷ xs) all pairs =
    let first = All-head P x xs all in
    let rest = All-tail P x xs all in
    AllPairs-cons S (f x) (map f xs)
    (All-map (S (f x)) f xs (λ k d below. told x (get_or xs k d) first (rest k d below) (pairs-head R x xs pairs k d below)))
    (pairs-map P R S f told xs rest (pairs-tail R x xs pairs))

-- ---- the fields of either file

-- there is a flag for each field
pub flags-length : (set n : ℕ) (fields : List Field) → length (flags_from set n fields) ≡ length fields
flags-length set n [] = refl
flags-length set n (field ∷ fields) = ap suc (flags-length set (suc n) fields)

module _ (fields : List Field) (set : ℕ) where
  -- each field stands in one of the files
  pub file-lengths : length (own_fields fields set) + length (last_fields fields set) ≡ length fields
  file-lengths =
      let last_long = length-map (flagged (flags_of set fields) fields) under_last_name in
      omega (arith, part-lengths (flags_of set fields) fields (flags-length set 0 fields), last_long)

-- what stands behind `last_`
behind : (whole name : List ℕ) → whole ≡ codes "last_" ++ name → drop 5 whole ≡ name
behind whole name is = ap (drop 5) is

-- a last field is a field under its name in the file of the last period
pub last-field : (field : Field) → IsField field → IsLastField field → IsField (under_last_name field)
last-field field is last = record {
  name = rw (behind field.name last.0 last.1.0) last.1.1;
  weight = is.weight;
  fits = is.fits;
}

-- two last fields with names that differ differ under their names there
pub last-names : (f g : Field) → IsLastField f → IsLastField g → f.name ≢ g.name → (under_last_name f).name ≢ (under_last_name g).name
last-names f g is are differ same =
    differ (is.1.0 ∙ ap (λ (name : List ℕ). codes "last_" ++ name) (sym (behind f.name is.0 is.1.0) ∙ same ∙ behind g.name are.0 are.1.0) ∙ sym are.1.0)

-- what the set has, numbered from n on, are last fields
are-last : (set n : ℕ) (fields : List Field) → ((f : ℕ) → has_number set (n + f) ≡ true → IsSomeAnd (slice_get fields f) IsLastField)
    → All IsLastField (last_from set n fields)
are-last set n [] told = All-nil IsLastField
are-last set n (field ∷ fields) told =
    by (has_number set n) refl (are-last set (suc n) fields (λ f has. told (suc f) (ap (has_number set) (omega arith) ∙ has)))
  where
    by : (b : Bool) → has_number set n ≡ b → All IsLastField (last_from set (suc n) fields)
        → All IsLastField (if b then field ∷ last_from set (suc n) fields else last_from set (suc n) fields)
    by true has rest = All-cons IsLastField field (last_from set (suc n) fields) (told 0 (ap (has_number set) (omega arith) ∙ has)) rest
    by false has rest = rest

module _ (fields : List Field) (set : ℕ) (few : length fields ≤ 64) (names : AllPairs (λ (f : Field) (g : Field). f.name ≢ g.name) fields)
    (all : All IsField fields) where
  -- the fields of the records make a survey
  pub own-well-formed : IsWellFormed (survey_of (own_fields fields set) [])
  own-well-formed = record {
    few_fields = omega (arith, file-lengths fields set, few);
    few_rules = omega arith;
    names = pairs-unflagged (λ (f : Field) (g : Field). f.name ≢ g.name) (flags_of set fields) fields names;
    fields = All-unflagged IsField (flags_of set fields) fields all;
    rules = λ k d below. absurd (omega arith);
  }

  -- and so do those of the last period
  pub last-well-formed : AreLastFields fields set → IsWellFormed (survey_of (last_fields fields set) [])
  last-well-formed are =
      let part = flagged (flags_of set fields) fields in
      let last : All IsLastField part = are-last set 0 fields (λ f has. (are f).0 (ap (has_number set) (omega arith) ∙ has)) in
      let each : All IsField part = All-flagged IsField (flags_of set fields) fields all in
      record {
        few_fields = omega (arith, file-lengths fields set, few);
        few_rules = omega arith;
        names =
            pairs-map IsLastField (λ (f : Field) (g : Field). f.name ≢ g.name) (λ (f : Field) (g : Field). f.name ≢ g.name) under_last_name last-names part last
            (pairs-flagged (λ (f : Field) (g : Field). f.name ≢ g.name) (flags_of set fields) fields names);
        fields = All-map IsField under_last_name part (λ k d below. last-field (get_or part k d) (each k d below) (last k d below));
        rules = λ k d below. absurd (omega arith);
      }
