use Rattle.std.proofs.Common.{Bool, List, None, Ok, Option, Some, [], ap, arith, false, if◌then◌else◌, inl, inr, length, map, refl, slice_get, subst, suc, sym}
use Rattle.std.proofs.Common.{true, ℕ, ◌&&◌, ◌++◌, ◌<◌, ◌==◌, ◌∙◌, ◌∷◌, ◌≡◌, ◌⊎◌}
use Rattle.std.specs.List.{fold, list_any}
use Rattle.std.proofs.lemmas.Bool.Decides.{Decides-eqb}
use Rattle.std.proofs.lemmas.List.{length-map, map-append}
use Rattle.std.specs.Option.{ok_or}
use Rattle.foundation.specs.Results.{◌>>=◌}
use Rattle.foundation.specs.Options.{◌>>?◌}
use Rattle.edit_model.specs.FieldSets.{has_number}
use Rattle.edit_model.specs.Rows.{value_of}
use Rattle.edit_line.specs.CodeFields.{place_of, size_of}
use Rattle.edit_line.specs.Lines.{LineParts}
use Rattle.edit_line.specs.Reductions.{IsIn}
use Rattle.edit_line.specs.Shapes.{code_fields, has_field, whole_sets}
use Rattle.edit_line.proofs.ListPlaces.{get-map-out, index-map}
use Rattle.edit_line.proofs.Members.{in-any, in-get, in-left, in-right}
use Rattle.edit_line.proofs.SetLaws.{both_true}
use Rattle.derivation.proofs.CoverLaws.{was-some}
use Rattle.derivation.specs.Premises.{Premises}
use Rattle.derivation.specs.ValidSteps.{as_box, as_line, common_from, covered_sets, fixed_sets, last_from, last_proved, part_with, proved_by, proved_from}
use Rattle.derivation.specs.ValidSteps.{steps_result}
use Rattle.derivation.specs.declared.proved.Proved.{Proved}
use Rattle.derivation.specs.declared.step.Step.{Step}
use Rattle.derivation.specs.declared.step.Step.TheVariants.{Combine, Cover, Fail, Fix, Given}
use Rattle.edit_paths.specs.Histories.{Element, History, is_element, made_or, maker, making_at, step_number, step_parts, proof_by, with_step_numbers, steps_to}
use Rattle.edit_paths.specs.Histories.{with_proof, with_step}
use Rattle.edit_paths.specs.declared.making.Making.{Making}
use Rattle.edit_paths.specs.declared.making.Making.TheVariants.{By, Same}
use Rattle.edit_paths.specs.declared.making.Written.{Written}

-- The steps that are written for an element of a history are valid, and the last one proves the element.

-- ---- what was proved by steps with other numbers

then_same : {A B : Type 0} (o : Option A) (a : A) (next : A → Option B) (r : Option B) → o ≡ Some a → next a ≡ r → (o >>? next) ≡ r
then_same o a next r e h = ap (λ o. (o >>? next)) e ∙ h

line_there : (o : Option Proved) (line : LineParts) → as_line o ≡ Some line → (u : Proved) × (o ≡ Some u)
line_there None line e = absurd (cc)
line_there (Some u) line e = (u, refl)

box_there : (o : Option Proved) (sets : List ℕ) → as_box o ≡ Some sets → (u : Proved) × (o ≡ Some u)
box_there None sets e = absurd (cc)
box_there (Some u) sets e = (u, refl)

module _ (p : Premises) (before later : List Proved) (number : ℕ → ℕ) where
  -- the element at a place before has its proof among the later ones
  abbrev pub IsThere : ℕ → Type 0
  IsThere a = (u : Proved) → slice_get before a ≡ Some u → slice_get later (number a) ≡ Some u

  line-moved : (a : ℕ) (line : LineParts) → IsThere a → as_line (slice_get before a) ≡ Some line → as_line (slice_get later (number a)) ≡ Some line
  line-moved a line there e = let (u, at) = line_there (slice_get before a) line e in ap as_line (there u at) ∙ ap as_line (sym at) ∙ e

  box-moved : (a : ℕ) (sets : List ℕ) → IsThere a → as_box (slice_get before a) ≡ Some sets → as_box (slice_get later (number a)) ≡ Some sets
  box-moved a sets there e = let (u, at) = box_there (slice_get before a) sets e in ap as_box (there u at) ∙ ap as_box (sym at) ∙ e

  common-moved : (at code : ℕ) (parts common result : List ℕ) → ((a : ℕ) → IsIn a parts → IsThere a) → common_from before at code parts common ≡ Some result
      → common_from later at code (map number parts) common ≡ Some result
  common-moved at code [] common result there e = e
  common-moved at code (a ∷ parts) common result there e =
      let (sets, part, rest) = was-some (part_with before at code a) _ result e in
      let (own, box, has) = was-some (as_box (slice_get before a)) _ sets part in
      then_same (part_with later at code (number a)) sets _ (Some result) (then_same (as_box (slice_get later (number a))) own _ (Some sets)
      (box-moved a own (there a (inl refl)) box) has)
      (common-moved at (suc code) parts _ result (λ b later_on. there b (inr later_on)) rest)

  -- a step proves the same with other numbers for its parts
  pub step-moved : (step : Step) (v : Proved) → ((a : ℕ) → IsIn a (step_parts step) → IsThere a) → proved_by p before step ≡ Some v
      → proved_by p later (with_step_numbers number step) ≡ Some v
  step-moved (Given i) v there e = e
  step-moved (Combine a m b n g) v there e =
      let (s, first, rest) = was-some (as_line (slice_get before a)) _ v e in
      let (t, second, last) = was-some (as_line (slice_get before b)) _ v rest in
      then_same (as_line (slice_get later (number a))) s _ (Some v) (line-moved a s (there a (inl refl)) first)
      (then_same (as_line (slice_get later (number b))) t _ (Some v) (line-moved b t (there b (inr (inl refl))) second) last)
  step-moved (Fail a) v there e =
      let (line, at, rest) = was-some (as_line (slice_get before a)) _ v e in then_same (as_line (slice_get later (number a))) line _ (Some v)
      (line-moved a line (there a (inl refl)) at) rest
  step-moved (Cover field parts) v there e = by (has_field (code_fields p.shape) field && (length parts == size_of p.shape field))
      (has_field (code_fields p.shape) field && (length (map number parts) == size_of p.shape field)) same e
    where
      same : (has_field (code_fields p.shape) field && (length parts == size_of p.shape field))
          ≡ (has_field (code_fields p.shape) field && (length (map number parts) == size_of p.shape field))
      same = ap (λ n. has_field (code_fields p.shape) field && (n == size_of p.shape field)) (sym (length-map parts number))

      by : (b d : Bool) → b ≡ d
          → (if b then (common_from before (place_of p.shape field) 0 parts (whole_sets p.shape) >>? (λ common. covered_sets p.shape field common)) else None)
          ≡ Some v
          → (if d then (common_from later (place_of p.shape field) 0 (map number parts) (whole_sets p.shape) >>? (λ common. covered_sets p.shape field common))
          else None) ≡ Some v
      by true true e h =
          let (common, made, rest) = was-some (common_from before (place_of p.shape field) 0 parts (whole_sets p.shape)) _ v h in
          then_same (common_from later (place_of p.shape field) 0 (map number parts) (whole_sets p.shape)) common _ (Some v)
          (common-moved (place_of p.shape field) 0 parts (whole_sets p.shape) common there made) rest
      by true false e h = absurd (cc)
      by false d e h = absurd (cc)
  step-moved (Fix field part) v there e = by (has_field (code_fields p.shape) field && has_number p.kept field) e
    where
      by : (b : Bool) → (if b then (as_box (slice_get before part) >>? (λ sets. fixed_sets p.shape field (value_of p.row field) sets)) else None) ≡ Some v
          → (if b then (as_box (slice_get later (number part)) >>? (λ sets. fixed_sets p.shape field (value_of p.row field) sets)) else None) ≡ Some v
      by true h = let (sets, at, rest) = was-some (as_box (slice_get before part)) _ v h in
          then_same (as_box (slice_get later (number part))) sets _ (Some v) (box-moved part sets (there part (inl refl)) at) rest
      by false h = absurd (cc)

-- a step that proves something builds on elements that are there
module _ (p : Premises) (before : List Proved) where
  abbrev pub HasPart : ℕ → Type 0
  HasPart a = (u : Proved) × (slice_get before a ≡ Some u)

  common-parts : (at code : ℕ) (parts common result : List ℕ) → common_from before at code parts common ≡ Some result → (a : ℕ) → IsIn a parts → HasPart a
  common-parts at code [] common result e a none = absurd none
  common-parts at code (b ∷ parts) common result e a there =
      let (sets, part, rest) = was-some (part_with before at code b) _ result e in
      let (own, box, has) = was-some (as_box (slice_get before b)) _ sets part in
      either (box_there (slice_get before b) own box) (common-parts at (suc code) parts _ result rest a) there
    where
      either : HasPart b → (IsIn a parts → HasPart a) → (a ≡ b) ⊎ IsIn a parts → HasPart a
      either here rest (inl same) = subst (λ (i : ℕ). HasPart i) (sym same) here
      either here rest (inr later) = rest later

  one : (a b : ℕ) → HasPart b → (a ≡ b) ⊎ ⊥ → HasPart a
  one a b here (inl same) = subst (λ (i : ℕ). HasPart i) (sym same) here
  one a b here (inr none) = absurd none

  pub step-parts : (step : Step) (v : Proved) → proved_by p before step ≡ Some v → (a : ℕ) → IsIn a (step_parts step) → HasPart a
  step-parts (Given i) v e a none = absurd none
  step-parts (Combine b m d n g) v e a there =
      let (s, first, rest) = was-some (as_line (slice_get before b)) _ v e in
      let (t, second, last) = was-some (as_line (slice_get before d)) _ v rest in
      either (line_there (slice_get before b) s first) (line_there (slice_get before d) t second) there
    where
      either : HasPart b → HasPart d → (a ≡ b) ⊎ ((a ≡ d) ⊎ ⊥) → HasPart a
      either x y (inl same) = subst (λ (i : ℕ). HasPart i) (sym same) x
      either x y (inr rest) = one a d y rest
  step-parts (Fail b) v e a there = let (line, at, rest) = was-some (as_line (slice_get before b)) _ v e in
      one a b (line_there (slice_get before b) line at) there
  step-parts (Cover field parts) v e a there = by (has_field (code_fields p.shape) field && (length parts == size_of p.shape field)) e
    where
      by : (b : Bool) → (if b then (common_from before (place_of p.shape field) 0 parts (whole_sets p.shape) >>? (λ common. covered_sets p.shape field common))
          else None) ≡ Some v → HasPart a
      by true h = let (common, made, rest) = was-some (common_from before (place_of p.shape field) 0 parts (whole_sets p.shape)) _ v h in
          common-parts (place_of p.shape field) 0 parts (whole_sets p.shape) common made a there
      by false h = absurd (cc)
  step-parts (Fix field part) v e a there = by (has_field (code_fields p.shape) field && has_number p.kept field) e
    where
      by : (b : Bool) → (if b then (as_box (slice_get before part) >>? (λ sets. fixed_sets p.shape field (value_of p.row field) sets)) else None) ≡ Some v
          → HasPart a
      by true h = let (sets, at, rest) = was-some (as_box (slice_get before part)) _ v h in one a part (box_there (slice_get before part) sets at) there
      by false h = absurd (cc)

-- ---- a history with what its elements are

-- the elements of the lists, the last list first
abbrev pub Elements : Type 0
Elements = List (List Proved)

-- the elements of the last list
abbrev pub last_of : Elements → List Proved
last_of [] = []
last_of (list ∷ before) = list

-- an element is made from the list before as it is said
abbrev pub IsMadeBy : Premises → List Proved → Proved → Making → Type 0
IsMadeBy p before v (By step) = proved_by p before step ≡ Some v
IsMadeBy p before v (Same place) = slice_get before place ≡ Some v

-- each element of each list is made from the list before as the history says
abbrev pub IsMade : Premises → History → Elements → Type 0
IsMade p [] [] = Unit {0}
IsMade p (list ∷ history) (values ∷ before) = ((i : ℕ) (v : Proved) → slice_get values i ≡ Some v → IsMadeBy p (last_of before) v (making_at list i))
    × IsMade p history before
IsMade p _ _ = ⊥

-- each element of a list of things is made as it is said, where each thing is
pub list-made : {X : Type 0} (p : Premises) (before : List Proved) (value : X → Proved) (making : X → Making) (xs : List X)
    → ((x : X) → IsIn x xs → IsMadeBy p before (value x) (making x))
    → (i : ℕ) (v : Proved) → slice_get (map value xs) i ≡ Some v → IsMadeBy p before v (making_at (map making xs) i)
list-made p before value making xs made i v at =
    let (x, there, same) = get-map-out value xs i v at in
    subst (λ (m : Making). IsMadeBy p before v m) (sym (index-map making xs i x (Same 0) there))
    (subst (λ (w : Proved). IsMadeBy p before w (making x)) (sym same) (made x (in-get x xs i there)))

-- the list with so many before it
abbrev pub level_of : Elements → ℕ → List Proved
level_of [] level = []
level_of (values ∷ before) level = if length before == level then values else level_of before level

-- what an element is
abbrev pub value_at : Elements → Element → Option Proved
value_at all e = slice_get (level_of all e.0) e.1

pub same_element : (a b : Element) → is_element a b ≡ true → a ≡ b
same_element (l, i) (k, j) h =
    let (first, second) = both_true (l == k) _ h in
    ap (λ n. (n, i)) ((Decides-eqb l k).0 first) ∙ ap (λ n. (k, n)) ((Decides-eqb i j).0 second)

self_element : (a : Element) → is_element a a ≡ true
self_element (l, i) = ap (λ b. b && (i == i)) ((Decides-eqb l l).1 refl) ∙ (Decides-eqb i i).1 refl

module _ (p : Premises) (all : Elements) where
  -- the written steps prove their elements
  abbrev pub Match : List Written → List Proved → Type 0
  Match [] [] = Unit {0}
  Match (w ∷ done) (v ∷ values) = (value_at all w.element ≡ Some v) × Match done values
  Match _ _ = ⊥

  abbrev pub steps_of : List Written → List Step
  steps_of done = map (λ (w : Written). w.step) done

  pub record IsSound (done : List Written) : Type 0 where
    pub values : List Proved
    pub proved : proved_from p [] (steps_of done) ≡ Ok values
    pub match : Match done values

  abbrev pub HasStep : List Written → Element → Type 0
  HasStep done e = (w : Written) × IsIn w done × (w.element ≡ e)

  -- the step that proves an element has its number
  number-at : (done : List Written) (values : List Proved) (e : Element) (u : Proved) → Match done values → HasStep done e → value_at all e ≡ Some u
      → slice_get values (step_number done e) ≡ Some u
  number-at [] values e u match has is = absurd has.1
  number-at (w ∷ done) [] e u match has is = absurd match
  number-at (w ∷ done) (v ∷ values) e u match has is = by (is_element w.element e) refl (λ rest. number-at done values e u match.1 rest is)
    where
      by : (b : Bool) → is_element w.element e ≡ b → (HasStep done e → slice_get values (step_number done e) ≡ Some u)
          → slice_get (v ∷ values) (if b then 0 else suc (step_number done e)) ≡ Some u
      by true h rest = sym match.0 ∙ ap (λ (x : Element). value_at all x) (same_element w.element e h) ∙ is
      by false h rest = rest (later has)
        where
          later : HasStep (w ∷ done) e → HasStep done e
          later (x, inl same, at) = absurd (cc (sym h ∙ ap (λ (y : Element). is_element y e) (ap (λ (z : Written). z.element) (sym same) ∙ at)
              ∙ self_element e))
          later (x, inr there, at) = (x, there, at)

  -- one more step
  proved-more : (earlier : List Proved) (steps : List Step) (values : List Proved) (step : Step) (v : Proved) → proved_from p earlier steps ≡ Ok values
      → proved_by p values step ≡ Some v → proved_from p earlier (steps ++ step ∷ []) ≡ Ok (values ++ v ∷ [])
  proved-more earlier [] values step v e h =
      let same : earlier ≡ values = cc in
      ap (λ (o : Option Proved). (ok_or o (length earlier) >>= (λ proved. Ok (earlier ++ proved ∷ [])))) (ap (λ (vs : List Proved). proved_by p vs step) same
      ∙ h) ∙ ap (λ (vs : List Proved). Ok (vs ++ v ∷ [])) same
  proved-more earlier (s ∷ steps) values step v e h = by (proved_by p earlier s) e (λ proved rest. proved-more (earlier ++ proved ∷ []) steps values step v rest
      h)
    where
      by : (o : Option Proved) → (ok_or o (length earlier) >>= (λ proved. proved_from p (earlier ++ proved ∷ []) steps)) ≡ Ok values
          → ((proved : Proved) → proved_from p (earlier ++ proved ∷ []) steps ≡ Ok values → proved_from p (earlier ++ proved ∷ []) (steps ++ step ∷ [])
          ≡ Ok (values ++ v ∷ []))
          → (ok_or o (length earlier) >>= (λ proved. proved_from p (earlier ++ proved ∷ []) (steps ++ step ∷ []))) ≡ Ok (values ++ v ∷ [])
      by None t rest = absurd (cc)
      by (Some proved) t rest = rest proved t

  match-more : (done : List Written) (values : List Proved) (w : Written) (v : Proved) → Match done values → value_at all w.element ≡ Some v
      → Match (done ++ w ∷ []) (values ++ v ∷ [])
  match-more [] [] w v match is = (is, tt)
  match-more [] (x ∷ values) w v match is = absurd match
  match-more (y ∷ done) [] w v match is = absurd match
  match-more (y ∷ done) (x ∷ values) w v match is = (match.0, match-more done values w v match.1 is)

  -- what is known after the element's steps were written
  pub record IsWritten (done after : List Written) (e : Element) (v : Proved) : Type 0 where
    pub sound : IsSound after
    pub keeps : (x : Element) → HasStep done x → HasStep after x
    pub has : HasStep after e
    pub value : value_at all e ≡ Some v

  -- a function that writes an element's steps
  abbrev Writes : (ℕ → List Written → List Written) → (ℕ → Element) → List Proved → Type 0
  Writes prove maker before = (i : ℕ) (u : Proved) (done : List Written) → slice_get before i ≡ Some u → IsSound done
      → IsWritten done (prove i done) (maker i) u

  -- the steps of several elements
  parts-written : (prove : ℕ → List Written → List Written) (maker : ℕ → Element) (before : List Proved) → Writes prove maker before
      → (parts : List ℕ) (done : List Written) → ((a : ℕ) → IsIn a parts → HasPart p before a) → IsSound done
      → IsSound (fold (λ done i. prove i done) done parts) × ((x : Element) → HasStep done x → HasStep (fold (λ done i. prove i done) done parts) x)
      × ((a : ℕ) (u : Proved) → IsIn a parts → slice_get before a ≡ Some u → HasStep (fold (λ done i. prove i done) done parts) (maker a)
      × (value_at all (maker a) ≡ Some u))
  parts-written prove maker before writes [] done there sound = (sound, λ x has. has, λ a u none. absurd none)
  parts-written prove maker before writes (b ∷ parts) done there sound =
      let (t, at) = there b (inl refl) in
      let first = writes b t done at sound in
      let (rest, keeps, each) = parts-written prove maker before writes parts (prove b done) (λ a in_parts. there a (inr in_parts)) first.sound in
      (rest, λ x has. keeps x (first.keeps x has), λ a u in_parts is. by a u first rest keeps each in_parts is)
    where
      by : (a : ℕ) (u : Proved) {t : Proved} → IsWritten done (prove b done) (maker b) t → IsSound (fold (λ done i. prove i done) (prove b done) parts)
          → ((x : Element) → HasStep (prove b done) x → HasStep (fold (λ done i. prove i done) (prove b done) parts) x)
          → ((a : ℕ) (u : Proved) → IsIn a parts → slice_get before a ≡ Some u → HasStep (fold (λ done i. prove i done) (prove b done) parts) (maker a)
          × (value_at all (maker a) ≡ Some u))
          → (a ≡ b) ⊎ IsIn a parts → slice_get before a ≡ Some u → HasStep (fold (λ done i. prove i done) (prove b done) parts) (maker a)
          × (value_at all (maker a) ≡ Some u)
      by a u first rest keeps each (inr later) is = each a u later is
      by a u first rest keeps each (inl same) is =
          let own = writes b u done (ap (λ i. slice_get before i) (sym same) ∙ is) sound in (
            subst (λ (i : ℕ). HasStep (fold (λ done i. prove i done) (prove b done) parts) (maker i)) (sym same) (keeps (maker b) first.has),
            ap (λ (i : ℕ). value_at all (maker i)) same ∙ own.value,
          )

  -- the step of an element, after those of its parts
  step-written : (prove : ℕ → List Written → List Written) (maker : ℕ → Element) (before : List Proved) → Writes prove maker before
      → (e : Element) (step : Step) (v : Proved) (done : List Written) → proved_by p before step ≡ Some v → value_at all e ≡ Some v → IsSound done
      → IsWritten done (proof_by e maker prove (By step) done) e v
  step-written prove maker before writes e step v done made value sound = by (list_any (λ (w : Written). is_element w.element e) done) refl
    where
      known : IsSound (fold (λ done i. prove i done) done (step_parts step))
          × ((x : Element) → HasStep done x → HasStep (fold (λ done i. prove i done) done (step_parts step)) x)
          × ((a : ℕ) (u : Proved) → IsIn a (step_parts step) → slice_get before a ≡ Some u
          → HasStep (fold (λ done i. prove i done) done (step_parts step)) (maker a) × (value_at all (maker a) ≡ Some u))
      known = parts-written prove maker before writes (step_parts step) done (step-parts p before step v made) sound

      new : Written
      new = record { element = e; step = with_step_numbers (λ i. step_number (fold (λ done i. prove i done) done (step_parts step)) (maker i)) step }

      by : (b : Bool) → list_any (λ (w : Written). is_element w.element e) done ≡ b → IsWritten done
          (if b then done else with_step e maker step (fold (λ done i. prove i done) done (step_parts step))) e v
      by true h =
          let (w, there, is) = in-any (λ (w : Written). is_element w.element e) done h in
          record { sound = sound; keeps = λ x has. has; has = (w, there, same_element w.element e is); value = value }
      by false h = record {
        sound = record {
          values = known.0.values ++ v ∷ [];
          proved =
              ap (λ (steps : List Step). proved_from p [] steps) (map-append (λ (w : Written). w.step) (fold (λ done i. prove i done) done (step_parts step))
              (new ∷ []))
              ∙ proved-more [] (steps_of (fold (λ done i. prove i done) done (step_parts step))) known.0.values
              (with_step_numbers (λ i. step_number (fold (λ done i. prove i done) done (step_parts step)) (maker i)) step) v known.0.proved
              (step-moved p before known.0.values (λ i. step_number (fold (λ done i. prove i done) done (step_parts step)) (maker i)) step v
              (λ a there u at. let (has, is) = known.2 a u there at in number-at (fold (λ done i. prove i done) done (step_parts step)) known.0.values
              (maker a) u known.0.match has is) made);
          match = match-more (fold (λ done i. prove i done) done (step_parts step)) known.0.values new v known.0.match value;
        };
        keeps = λ x has. let (w, there, is) = known.1 x has in (w, in-left w (fold (λ done i. prove i done) done (step_parts step)) (new ∷ []) there, is);
        has = (new, in-right new (fold (λ done i. prove i done) done (step_parts step)) (new ∷ []) (inl refl), refl);
        value = value;
      }

  -- the steps of an element of a history
  history-written : (history : History) (values : Elements) → IsMade p history values → ((level : ℕ) → level < length history → level_of all level
      ≡ level_of values level) → (place : ℕ) (v : Proved) (done : List Written)
      → slice_get (last_of values) place ≡ Some v → IsSound done → IsWritten done (with_proof history place done) (maker history place) v
  history-written [] [] made agree place v done at sound = absurd (cc)
  history-written [] (list ∷ before) made agree place v done at sound = absurd made
  history-written (list ∷ history) [] made agree place v done at sound = absurd made
  history-written (list ∷ history) (values ∷ before) made agree place v done at sound =
      by (making_at list place) (made.0 place v at) (λ i u done. history-written history before made.1 agree_before i u done)
    where
      lengths : (history : History) (values : Elements) → IsMade p history values → length history ≡ length values
      lengths [] [] is = refl
      lengths [] (x ∷ values) is = absurd is
      lengths (x ∷ history) [] is = absurd is
      lengths (x ∷ history) (y ∷ values) is = ap suc (lengths history values is.1)

      same : length history ≡ length before
      same = lengths history before made.1

      agree_before : (level : ℕ) → level < length history → level_of all level ≡ level_of before level
      agree_before level below = agree level (omega (arith, below)) ∙ skip (length before == level) refl
        where
          skip : (b : Bool) → (length before == level) ≡ b → (if b then values else level_of before level) ≡ level_of before level
          skip true e = absurd (omega (arith, below, same, (Decides-eqb (length before) level).0 e))
          skip false e = refl

      own : value_at all (length history, place) ≡ Some v
      own =
          ap (λ (vs : List Proved). slice_get vs place) (agree (length history) (omega arith)
          ∙ ap (λ b. if b then values else level_of before (length history)) ((Decides-eqb (length before) (length history)).1 (sym same)))
          ∙ at

      by : (m : Making) → IsMadeBy p (last_of before) v m → Writes (λ i done. with_proof history i done) (λ i. maker history i) (last_of before)
          → IsWritten done (proof_by (length history, place) (λ i. maker history i) (λ i done. with_proof history i done) m done)
          (made_or (length history, place) (λ i. maker history i) m) v
      by (Same i) is writes = writes i v done is sound
      by (By step) is writes = step-written (λ i done. with_proof history i done) (λ i. maker history i) (last_of before) writes (length history, place) step v
          done is own sound

-- ---- the last step

-- from no steps on, the element's own step is the last
last-written : (p : Premises) (history : History) (values : Elements) → IsMade p history values → (place : ℕ) (v : Proved) → slice_get (last_of values) place
    ≡ Some v
    → (done : List Written) × (w : Written) × (with_proof history place [] ≡ done ++ w ∷ []) × (w.element ≡ maker history place)
last-written p [] [] made place v at = absurd (cc)
last-written p [] (list ∷ before) made place v at = absurd made
last-written p (list ∷ history) [] made place v at = absurd made
last-written p (list ∷ history) (values ∷ before) made place v at = by (making_at list place) (made.0 place v at)
    (λ i u is. last-written p history before made.1 i u is)
  where
    by : (m : Making) → IsMadeBy p (last_of before) v m
        → ((i : ℕ) (u : Proved) → slice_get (last_of before) i ≡ Some u → (done : List Written) × (w : Written) × (with_proof history i [] ≡ done ++ w ∷ [])
        × (w.element ≡ maker history i))
        → (done : List Written) × (w : Written) × (proof_by (length history, place) (λ i. maker history i) (λ i done. with_proof history i done) m [] ≡ done
        ++ w ∷ []) × (w.element ≡ made_or (length history, place) (λ i. maker history i) m)
    by (Same i) is rest = rest i v is
    by (By step) is rest = (
      fold (λ done i. with_proof history i done) [] (step_parts step),
      record {
        element = (length history, place);
        step = with_step_numbers (λ i. step_number (fold (λ done i. with_proof history i done) [] (step_parts step))
            (maker history i)) step;
      },
      refl,
      refl,
    )

last-from : (before : Option Proved) (values : List Proved) (v : Proved) → last_from before (values ++ v ∷ []) ≡ Ok v
last-from None [] v = refl
last-from (Some u) [] v = refl
last-from before (x ∷ values) v = last-from (Some x) values v

match-last : (p : Premises) (all : Elements) (done : List Written) (w : Written) (values : List Proved) → Match p all (done ++ w ∷ []) values
    → (us : List Proved) × (u : Proved) × (values ≡ us ++ u ∷ []) × (value_at all w.element ≡ Some u)
match-last p all [] w [] match = absurd match
match-last p all [] w (u ∷ []) match = ([], u, refl, match.0)
match-last p all [] w (u ∷ x ∷ values) match = absurd match.1
match-last p all (y ∷ done) w [] match = absurd match
match-last p all (y ∷ done) w (x ∷ values) match =
    let (us, u, same, is) = match-last p all done w values match.1 in (x ∷ us, u, ap (λ (vs : List Proved). x ∷ vs) same, is)

-- the steps of an element of a history are valid, and the last one proves it
pub steps-valid : (p : Premises) (history : History) (values : Elements) → IsMade p history values → (place : ℕ) (v : Proved) → slice_get (last_of values) place
    ≡ Some v → steps_result p (steps_to history place) ≡ Ok v
steps-valid p history values made place v at =
    let written = history-written p values history values made (λ level below. refl) place v [] at (record { values = []; proved = refl; match = tt }) in
    let (done, w, is, own) = last-written p history values made place v at in
    let (us, u, same, value) = match-last p values done w written.sound.values (subst (λ (ws : List Written). Match p values ws written.sound.values) is
    written.sound.match) in
    let equal : Some u ≡ Some v = sym value ∙ ap (λ (e : Element). value_at values e) own ∙ written.value in
    ap last_proved written.sound.proved ∙ ap (λ (vs : List Proved). last_from None vs) same ∙ last-from None us u ∙ ap (λ (x : Proved). Ok x) (cc)
