-- The records of a text: there are some list of them, and only one.
use Rattle.std.proofs.Common.{◌≡◌, ◌∙◌, sym, ap, subst, refl, ℕ, zero, suc, ◌≤◌, Bool, true, false, if◌then◌else◌, List, [], ◌∷◌, ◌++◌, length, Option, Some}
use Rattle.std.proofs.Common.{None, arith, append-nil}
use Rattle.csv.specs.Machine.{Read, ends_at_end, field_after, fields_after, is_end, next_record, step}
use Rattle.csv.specs.Reading.{AreRecords, Reached}
use Rattle.csv.specs.declared.parser.Config.{Config}
use Rattle.csv.specs.declared.parser.State.{State}
use Rattle.csv.specs.declared.parser.State.TheVariants as st

-- ---- there is a list of all records

-- reading a record leaves no more bytes than there were
at_end_left : (b : Bool) (fields : List (List ℕ)) (p : Read) → (if b then Some (fields, st.StartRecord, []) else None) ≡ Some p → length p.2 ≤ 0
at_end_left true fields p e =
    let same : p ≡ (fields, st.StartRecord, []) = cc in
    rw same (omega arith)
at_end_left false fields p e = absurd (cc e)

turn_left : (b : Bool) (fields : List (List ℕ)) (t : State) (rest : List ℕ) (other : Option Read) (p : Read) → (other ≡ Some p → length p.2 ≤ length rest)
    → (if b then Some (fields, t, rest) else other) ≡ Some p → length p.2 ≤ length rest
turn_left true fields t rest other p next e =
    let same : p ≡ (fields, t, rest) = cc in
    rw same (omega arith)
turn_left false fields t rest other p next e = next e

left_after : (cfg : Config) (s : State) (fields : List (List ℕ)) (field xs : List ℕ) (p : Read) → next_record cfg s fields field xs ≡ Some p
    → length p.2 ≤ length xs
unfolding next_record
left_after cfg s fields field [] p e = at_end_left (ends_at_end s) (fields ++ (field ∷ [])) p e
left_after cfg s fields field (c ∷ rest) p e =
    let later = turn_left (is_end (step cfg s c).1) (fields_after (step cfg s c).1 fields field) (step cfg s c).0 rest
    (next_record cfg (step cfg s c).0 (fields_after (step cfg s c).1 fields field) (field_after (step cfg s c).1 c field) rest) p
    (left_after cfg (step cfg s c).0 (fields_after (step cfg s c).1 fields field) (field_after (step cfg s c).1 c field) rest p) e in
    omega arith

-- and at least one byte fewer, where there was one
shorter_after : (cfg : Config) (s : State) (c : ℕ) (rest : List ℕ) (p : Read) → next_record cfg s [] [] (c ∷ rest) ≡ Some p → length p.2 ≤ length rest
unfolding next_record
shorter_after cfg s c rest p e =
    turn_left (is_end (step cfg s c).1) (fields_after (step cfg s c).1 [] []) (step cfg s c).0 rest
    (next_record cfg (step cfg s c).0 (fields_after (step cfg s c).1 [] []) (field_after (step cfg s c).1 c []) rest) p
    (left_after cfg (step cfg s c).0 (fields_after (step cfg s c).1 [] []) (field_after (step cfg s c).1 c []) rest p) e

-- a text has records
abbrev pub HasRecords : Config → State → List ℕ → Type 0
HasRecords cfg s xs = (all : List (List (List ℕ))) × AreRecords cfg s xs all

by_next : (cfg : Config) (s : State) (xs : List ℕ) (o : Option Read) → next_record cfg s [] [] xs ≡ o → ((p : Read) → o ≡ Some p → HasRecords cfg p.1 p.2)
    → HasRecords cfg s xs
unfolding Reached
by_next cfg s xs None e later = ([], (s, xs, (refl, refl), e))
by_next cfg s xs (Some p) e later =
    let (all, (t, ys, reached, ended)) = later p refl in
    (p.0 ∷ all, (t, ys, (p, e, refl, reached), ended))

none_at_end : (cfg : Config) → next_record cfg st.StartRecord [] [] [] ≡ None
unfolding next_record
none_at_end cfg = refl

records_at_end : (cfg : Config) (s : State) (b : Bool) → ends_at_end s ≡ b → HasRecords cfg s []
unfolding next_record
records_at_end cfg s true ends = by_next cfg s [] (Some ([] ∷ [], st.StartRecord, [])) (rw ends refl) (λ p e.
    let same : p ≡ ([] ∷ [], st.StartRecord, []) = cc in
    rw same (by_next cfg st.StartRecord [] None (none_at_end cfg) (λ q none. absurd (cc none))))
records_at_end cfg s false ends = by_next cfg s [] None (rw ends refl) (λ q none. absurd (cc none))

within : (n : ℕ) (cfg : Config) (s : State) (xs : List ℕ) → length xs ≤ n → HasRecords cfg s xs
within n cfg s [] le = records_at_end cfg s (ends_at_end s) refl
within zero cfg s (c ∷ rest) le = absurd (omega arith)
within (suc n) cfg s (c ∷ rest) le = by_next cfg s (c ∷ rest) (next_record cfg s [] [] (c ∷ rest)) refl (λ p e.
    let fewer = shorter_after cfg s c rest p e in
    within n cfg p.1 p.2 (omega arith))

pub has_records : (cfg : Config) (s : State) (xs : List ℕ) → HasRecords cfg s xs
has_records cfg s xs = within (length xs) cfg s xs (omega arith)

-- ---- and only one

-- all records of a text begin with those that were reached in it, and the others are those from there on
pub records_follow : (cfg : Config) (s t : State) (xs ys : List ℕ) (done all : List (List (List ℕ))) → Reached cfg s xs done t ys → AreRecords cfg s xs all
    → (rest : List (List (List ℕ))) × (all ≡ done ++ rest) × AreRecords cfg t ys rest
unfolding Reached
records_follow cfg s t xs ys [] all reached records = (all, refl, rw (reached.0, reached.1) at records)
records_follow cfg s t xs ys (d ∷ done) [] reached records =
    let none : next_record cfg s [] [] xs ≡ None = rw (records.2.0, records.2.1) records.3 in
    cc (none, reached.1)
records_follow cfg s t xs ys (d ∷ done) (a ∷ all) reached records =
    let same : records.2.0 ≡ reached.0 = cc (records.2.1, reached.1) in
    let first : a ≡ d = records.2.2 ∙ ap (λ (p : Read). p.0) same ∙ sym reached.2 in
    let later : AreRecords cfg reached.0.1 reached.0.2 all =
    subst (λ (p : Read). AreRecords cfg p.1 p.2 all) same (records.0, records.1, records.2.3, records.3) in
    let (rest, more, after) = records_follow cfg reached.0.1 t reached.0.2 ys done all reached.3 later in
    (rest, ap (λ (r : List (List ℕ)). r ∷ all) first ∙ ap (λ (rs : List (List (List ℕ))). d ∷ rs) more, after)

-- a text has one list of records
pub same_records : (cfg : Config) (s : State) (xs : List ℕ) (a b : List (List (List ℕ))) → AreRecords cfg s xs a → AreRecords cfg s xs b → b ≡ a
unfolding Reached
same_records cfg s xs a b (t, ys, reached, none) records =
    let (rest, all, after) = records_follow cfg s t xs ys a b reached records in
    none_left rest all after
  where
    none_left : (rest : List (List (List ℕ))) → b ≡ a ++ rest → AreRecords cfg t ys rest → b ≡ a
    none_left [] all after = all ∙ append-nil a
    none_left (r ∷ rest) all after = cc (none, after.2.1)

-- records that were reached, followed by those from there on, are all records
pub records_joined : (cfg : Config) (s t : State) (xs ys : List ℕ) (done rest : List (List (List ℕ))) → Reached cfg s xs done t ys → AreRecords cfg t ys rest
    → AreRecords cfg s xs (done ++ rest)
unfolding Reached
records_joined cfg s t xs ys [] rest reached records = rw (reached.0, reached.1) records
records_joined cfg s t xs ys (d ∷ done) rest (p, next, same, reached) records =
    let (u, zs, all, ended) = records_joined cfg p.1 t p.2 ys done rest reached records in
    (u, zs, (p, next, same, all), ended)
