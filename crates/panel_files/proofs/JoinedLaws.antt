-- Two lists, joined field by field, and records that are joined so.
use Rattle.std.proofs.Common.{◌≡◌, ◌+◌, ◌-◌, ◌<◌, ◌≤◌, ℕ, zero, suc, Bool, true, false, if◌then◌else◌, IfSome, IsTrue, List, [], ◌∷◌, ◌++◌, Option, None, Some}
use Rattle.std.proofs.Common.{drop, get_or, length, map, replicate, refl, sym, ap, ◌∙◌, append_assoc, append-nil, subst, arith}
use Rattle.std.proofs.Math.Seq.{drop-cons}
use Rattle.std.proofs.lemmas.List.{drop_all, length-map}
use Rattle.std.specs.Option.{option_map_or}
use Rattle.edit_model.proofs.RowLaws.{row-length}
use Rattle.edit_model.specs.FieldSets.{has_number}
use Rattle.edit_model.specs.Rows.{IsRow}
use Rattle.edit_model.specs.declared.field.Field.{Field}
use Rattle.edit_model.specs.declared.value.Value.{Value}
use Rattle.edit_model.specs.declared.value.Value.TheVariants.{Bad}
use Rattle.panel_files.proofs.PartLaws.{file-lengths, flags-length, last_from, own_from}
use Rattle.panel_files.specs.Joined.{joined}
use Rattle.panel_files.specs.LastFields.{flagged, flags_from, flags_of, last_fields, own_fields, under_last_name, unflagged}
use Rattle.panel_files.specs.inner.Joining.{AreJoinedTo}

-- ---- field by field

-- the field at a place, and those behind it
field-here : (fields : List Field) (n : ℕ) → n < length fields → (field : Field) × (drop n fields ≡ field ∷ drop (suc n) fields)
field-here [] n below = absurd (omega arith)
field-here (field ∷ fields) zero below = (field, refl)
field-here (field ∷ fields) (suc n) below = field-here fields n (omega arith)

module _ {A : Type 0} (fields : List Field) (set : ℕ) (own last : List A) where
  -- nothing is joined of no field
  pub join-none : length own ≡ length (own_fields fields set) → length last ≡ length (last_fields fields set) → AreJoinedTo fields set own last 0 0 []
  join-none own_long last_long = record {
    fewer = omega arith;
    own_left = omega (arith, own_long);
    last_left = omega (arith, last_long, length-map (flagged (flags_of set fields) fields) under_last_name);
    rest = refl;
  }

  -- all is joined behind the last field
  pub join-all : (n taken : ℕ) (done : List A) → length fields ≤ n → AreJoinedTo fields set own last n taken done → done ≡ joined (flags_of set fields) own last
  join-all n taken done past so_far =
      let none : joined (flags_from set n (drop n fields)) (drop (n - taken) own) (drop taken last) ≡ [] =
      ap (λ (fs : List Field). joined (flags_from set n fs) (drop (n - taken) own) (drop taken last)) (drop_all n fields past) in
      sym (append-nil done) ∙ ap (λ (xs : List A). done ++ xs) (sym none) ∙ so_far.rest

  module _ (n taken : ℕ) (done : List A) (below : n < length fields) (so_far : AreJoinedTo fields set own last n taken done) where
    abbrev fields_behind : List Field
    fields_behind = drop (suc n) fields

    -- how many of either list are left, by what the field is
    own-left : (b : Bool) → b ≡ has_number set n → length own
        ≡ (n - taken) + (if b then length (own_from set (suc n) fields_behind) else suc (length (own_from set (suc n) fields_behind)))
    own-left b is =
        let at = field-here fields n below in
        so_far.own_left ∙ ap (λ (fs : List Field). (n - taken) + length (own_from set n fs)) at.1
        ∙ ap (λ (c : Bool). (n - taken) + length (if c then own_from set (suc n) fields_behind else at.0 ∷ own_from set (suc n) fields_behind)) (sym is)
        ∙ by b at.0
      where
        by : (c : Bool) (field : Field) → (n - taken) + length (if c then own_from set (suc n) fields_behind else field ∷ own_from set (suc n) fields_behind)
            ≡ (n - taken) + (if c then length (own_from set (suc n) fields_behind) else suc (length (own_from set (suc n) fields_behind)))
        by true field = refl
        by false field = refl

    last-left : (b : Bool) → b ≡ has_number set n → length last
        ≡ taken + (if b then suc (length (last_from set (suc n) fields_behind)) else length (last_from set (suc n) fields_behind))
    last-left b is =
        let at = field-here fields n below in
        so_far.last_left ∙ ap (λ (fs : List Field). taken + length (last_from set n fs)) at.1
        ∙ ap (λ (c : Bool). taken + length (if c then at.0 ∷ last_from set (suc n) fields_behind else last_from set (suc n) fields_behind)) (sym is) ∙ by b at.0
      where
        by : (c : Bool) (field : Field) → taken + length (if c then field ∷ last_from set (suc n) fields_behind else last_from set (suc n) fields_behind)
            ≡ taken + (if c then suc (length (last_from set (suc n) fields_behind)) else length (last_from set (suc n) fields_behind))
        by true field = refl
        by false field = refl

    -- there is a next one
    pub next-last : (b : Bool) → b ≡ has_number set n → IsTrue b → taken < length last
    next-last true is told = omega (arith, last-left true is)
    next-last false is told = absurd (cc)

    pub next-own : (b : Bool) → b ≡ has_number set n → b ≡ false → n - taken < length own
    next-own true is told = absurd (cc)
    next-own false is told = omega (arith, own-left false is)

    -- what is left to join, by what the field is
    left-joined : (b : Bool) → b ≡ has_number set n
        → joined (flags_from set n (drop n fields)) (drop (n - taken) own) (drop taken last)
        ≡ joined (b ∷ flags_from set (suc n) fields_behind) (drop (n - taken) own) (drop taken last)
    left-joined b is =
        ap (λ (fs : List Field). joined (flags_from set n fs) (drop (n - taken) own) (drop taken last)) (field-here fields n below).1
        ∙ ap (λ (c : Bool). joined (c ∷ flags_from set (suc n) fields_behind) (drop (n - taken) own) (drop taken last)) (sym is)

    -- with the element of the field
    pub join-more : (b : Bool) (x : A) (count : ℕ) → b ≡ has_number set n → x ≡ (if b then get_or last taken x else get_or own (n - taken) x)
        → (b ≡ true → count ≡ 1) → (b ≡ false → count ≡ 0) → AreJoinedTo fields set own last (n + 1) (taken + count) (done ++ x ∷ [])
    join-more true x count is here one none =
        let at = next-last true is refl in
        let next : suc n ≡ n + 1 = omega arith in
        let counted : suc taken ≡ taken + count = omega (arith, one refl) in
        let place : suc n - suc taken ≡ n - taken = omega arith in
        let split : drop taken last ≡ x ∷ drop (suc taken) last = drop-cons last taken x at ∙ ap (λ (y : A). y ∷ drop (suc taken) last) (sym here) in
        let step : AreJoinedTo fields set own last (suc n) (suc taken) (done ++ x ∷ []) = record {
          fewer = omega (arith, so_far.fewer);
          own_left = omega (arith, own-left true is);
          last_left = omega (arith, last-left true is);
          rest =
              append_assoc done (x ∷ []) (joined (flags_from set (suc n) fields_behind) (drop (suc n - suc taken) own) (drop (suc taken) last))
              ∙ ap (λ (k : ℕ). done ++ x ∷ joined (flags_from set (suc n) fields_behind) (drop k own) (drop (suc taken) last)) place
              ∙ ap (λ (ys : List A). done ++ joined (true ∷ flags_from set (suc n) fields_behind) (drop (n - taken) own) ys) (sym split)
              ∙ ap (λ (ys : List A). done ++ ys) (sym (left-joined true is)) ∙ so_far.rest;
        } in
        subst (λ (m : ℕ). AreJoinedTo fields set own last m (taken + count) (done ++ x ∷ [])) next
        (subst (λ (k : ℕ). AreJoinedTo fields set own last (suc n) k (done ++ x ∷ [])) counted step)
    join-more false x count is here one none =
        let at = next-own false is refl in
        let fewer = so_far.fewer in
        let next : suc n ≡ n + 1 = omega arith in
        let counted : taken ≡ taken + count = omega (arith, none refl) in
        let place : suc n - taken ≡ suc (n - taken) = omega arith in
        let split : drop (n - taken) own ≡ x ∷ drop (suc (n - taken)) own =
        drop-cons own (n - taken) x at ∙ ap (λ (y : A). y ∷ drop (suc (n - taken)) own) (sym here) in
        let step : AreJoinedTo fields set own last (suc n) taken (done ++ x ∷ []) = record {
          fewer = omega arith;
          own_left = omega (arith, own-left false is);
          last_left = omega (arith, last-left false is);
          rest =
              append_assoc done (x ∷ []) (joined (flags_from set (suc n) fields_behind) (drop (suc n - taken) own) (drop taken last))
              ∙ ap (λ (k : ℕ). done ++ x ∷ joined (flags_from set (suc n) fields_behind) (drop k own) (drop taken last)) place
              ∙ ap (λ (ys : List A). done ++ joined (false ∷ flags_from set (suc n) fields_behind) ys (drop taken last)) (sym split)
              ∙ ap (λ (ys : List A). done ++ ys) (sym (left-joined false is)) ∙ so_far.rest;
        } in
        subst (λ (m : ℕ). AreJoinedTo fields set own last m (taken + count) (done ++ x ∷ [])) next
        (subst (λ (k : ℕ). AreJoinedTo fields set own last (suc n) k (done ++ x ∷ [])) counted step)

-- ---- the whole

-- as many are joined as there are fields
pub joined-length : {A B : Type 0} (flags : List Bool) (xs : List B) (own last : List A) → length flags ≡ length xs
    → length own ≡ length (unflagged flags xs) → length last ≡ length (flagged flags xs) → length (joined flags own last) ≡ length xs
joined-length [] [] own last flags_long own_long last_long = refl
joined-length [] (x ∷ xs) own last flags_long own_long last_long = absurd (omega (arith, flags_long))
joined-length (flag ∷ flags) [] own last flags_long own_long last_long = absurd (omega (arith, flags_long))
joined-length (true ∷ flags) (x ∷ xs) own [] flags_long own_long last_long = absurd (omega (arith, last_long))
joined-length (true ∷ flags) (x ∷ xs) own (y ∷ last) flags_long own_long last_long =
    ap suc (joined-length flags xs own last (omega (arith, flags_long)) own_long (omega (arith, last_long)))
joined-length (false ∷ flags) (x ∷ xs) [] last flags_long own_long last_long = absurd (omega (arith, own_long))
joined-length (false ∷ flags) (x ∷ xs) (y ∷ own) last flags_long own_long last_long =
    ap suc (joined-length flags xs own last (omega (arith, flags_long)) (omega (arith, own_long)) last_long)

-- two records are one of all fields
row-of-parts : (flags : List Bool) (fields : List Field) (own last : List Value) → length flags ≡ length fields → IsRow (unflagged flags fields) own
    → IsRow (map under_last_name (flagged flags fields)) last → IsRow fields (joined flags own last)
row-of-parts [] [] own last long own_row last_row = tt
row-of-parts [] (field ∷ fields) own last long own_row last_row = absurd (omega (arith, long))
row-of-parts (flag ∷ flags) [] own last long own_row last_row = absurd (omega (arith, long))
row-of-parts (true ∷ flags) (field ∷ fields) own [] long own_row last_row = absurd last_row
row-of-parts (true ∷ flags) (field ∷ fields) own (v ∷ last) long own_row last_row =
    (last_row.0, row-of-parts flags fields own last (omega (arith, long)) own_row last_row.1)
row-of-parts (false ∷ flags) (field ∷ fields) [] last long own_row last_row = absurd own_row
row-of-parts (false ∷ flags) (field ∷ fields) (v ∷ own) last long own_row last_row =
    (own_row.0, row-of-parts flags fields own last (omega (arith, long)) own_row.1 last_row)

joined-row : (fields : List Field) (set : ℕ) (own last : List Value) → IsRow (own_fields fields set) own → IsRow (last_fields fields set) last
    → IsRow fields (joined (flags_of set fields) own last)
joined-row fields set own last own_row last_row = row-of-parts (flags_of set fields) fields own last (flags-length set 0 fields) own_row last_row

-- Bad values are a record
bad-row : (fields : List Field) → IsRow fields (map (λ (field : Field). Bad) fields)
bad-row [] = tt
bad-row (field ∷ fields) = (tt, bad-row fields)

-- and so are the values that are given, or Bad ones where none are
given-row : {R : Type 0} (read : R → List Value) (fields : List Field) (last : Option R) → IfSome last (λ row. IsRow fields (read row))
    → IsRow fields (option_map_or read last (map (λ (field : Field). Bad) fields))
given-row read fields None is = bad-row fields
given-row read fields (Some row) is = is

-- the same at each of as many fields
same-at-each : {A : Type 0} (fields : List Field) (n : ℕ) (x : A) → n ≡ length fields → replicate n x ≡ map (λ (field : Field). x) fields
same-at-each [] zero x long = refl
same-at-each [] (suc n) x long = absurd (omega (arith, long))
same-at-each (field ∷ fields) zero x long = absurd (omega (arith, long))
same-at-each {A} (field ∷ fields) (suc n) x long = ap (λ (xs : List A). x ∷ xs) (same-at-each fields n x (omega (arith, long)))

module _ {A : Type 0} (fields : List Field) (set : ℕ) (own : List A) (x : A) (long : length own ≡ length (own_fields fields set)) (filled : List A)
    (are : filled ≡ replicate (length fields - length own) x) where
  -- and so at each of the last fields: there are as many as fields that are not own ones
  filled-are : filled ≡ map (λ (field : Field). x) (last_fields fields set)
  filled-are = are ∙ same-at-each (last_fields fields set) (length fields - length own) x (omega (arith, file-lengths fields set, long))

  pub filled-length : length filled ≡ length (last_fields fields set)
  filled-length = ap (λ (xs : List A). length xs) filled-are ∙ length-map (last_fields fields set) (λ (field : Field). x)

  pub filled-joined : joined (flags_of set fields) own filled ≡ joined (flags_of set fields) own (map (λ (field : Field). x) (last_fields fields set))
  filled-joined = ap (joined (flags_of set fields) own) filled-are

module _ {R : Type 0} (read : R → List Value) (fields : List Field) (set : ℕ) (own : List Value) (last : Option R) where
  -- the values of both files are a record
  pub both-row : IsRow (own_fields fields set) own → IfSome last (λ row. IsRow (last_fields fields set) (read row))
      → IsRow fields (joined (flags_of set fields) own (option_map_or read last (map (λ (field : Field). Bad) (last_fields fields set))))
  both-row own_row last_row =
      joined-row fields set own (option_map_or read last (map (λ (field : Field). Bad) (last_fields fields set))) own_row
      (given-row read (last_fields fields set) last last_row)

-- a record that is given is as long as its fields
pub given-long : {R : Type 0} (read : R → List Value) (fields : List Field) (last : Option R) → IfSome last (λ row. IsRow fields (read row))
    → IfSome last (λ row. length (read row) ≡ length fields)
given-long read fields None is = tt
given-long read fields (Some row) is = row-length fields (read row) is
