-- A record has a field.
use Rattle.std.proofs.Common.{◌≡◌, ℕ, ◌≤◌, Bool, true, false, if◌then◌else◌, List, [], ◌∷◌, ◌++◌, length, Option, Some, None, length-append, arith, refl}
use Rattle.csv.specs.Machine.{next_record, step, is_end, ends_at_end, fields_after, field_after, Read}
use Rattle.csv.specs.Reading.{AreRecords, Reached}
use Rattle.csv.specs.declared.parser.Action.{Action}
use Rattle.csv.specs.declared.parser.Config.{Config}
use Rattle.csv.specs.declared.parser.Action.TheVariants as act
use Rattle.csv.specs.declared.parser.State.{State}
use Rattle.csv.specs.declared.parser.State.TheVariants as st

with_last : (fields : List (List ℕ)) (field : List ℕ) → 1 ≤ length (fields ++ field ∷ [])
with_last fields field = simp length-append (omega arith)

at_end : (a : Action) (fields : List (List ℕ)) (field : List ℕ) → is_end a ≡ true → 1 ≤ length (fields_after a fields field)
at_end act.EndRecord fields field e = with_last fields field
at_end act.EndField fields field e = absurd (cc)
at_end act.Skip fields field e = absurd (cc)
at_end act.Copy fields field e = absurd (cc)

last : (b : Bool) (fields : List (List ℕ)) (field : List ℕ) (p : Read) → (if b then Some (fields ++ (field ∷ []), st.StartRecord, []) else None) ≡ Some p
    → 1 ≤ length p.0
last true fields field p e =
    let same : p ≡ (fields ++ (field ∷ []), st.StartRecord, []) = cc in
    rw same (with_last fields field)
last false fields field p e = absurd (cc)

turn : (a : Action) (b : Bool) (fields : List (List ℕ)) (field : List ℕ) (t : State) (rest : List ℕ) (other : Option Read) (p : Read) → is_end a ≡ b
    → (other ≡ Some p → 1 ≤ length p.0) → (if b then Some (fields_after a fields field, t, rest) else other) ≡ Some p → 1 ≤ length p.0
turn a true fields field t rest other p e next h =
    let same : p ≡ (fields_after a fields field, t, rest) = cc in
    rw same (at_end a fields field e)
turn a false fields field t rest other p e next h = next h

has_field : (cfg : Config) (s : State) (fields : List (List ℕ)) (field xs : List ℕ) (p : Read) → next_record cfg s fields field xs ≡ Some p → 1 ≤ length p.0
unfolding next_record
has_field cfg s fields field [] p e = last (ends_at_end s) fields field p e
has_field cfg s fields field (c ∷ rest) p e =
    turn (step cfg s c).1 (is_end (step cfg s c).1) fields field (step cfg s c).0 rest
    (next_record cfg (step cfg s c).0 (fields_after (step cfg s c).1 fields field) (field_after (step cfg s c).1 c field) rest) p refl
    (has_field cfg (step cfg s c).0 (fields_after (step cfg s c).1 fields field) (field_after (step cfg s c).1 c field) rest p) e

-- the first of a text's records has at least one text
pub first_has_field : (cfg : Config) (s : State) (xs : List ℕ) (first : List (List ℕ)) (rest : List (List (List ℕ))) → AreRecords cfg s xs (first ∷ rest)
    → 1 ≤ length first
unfolding Reached
first_has_field cfg s xs first rest (t, ys, (p, found, same, further), ended) = rw same (has_field cfg s [] [] xs p found)
