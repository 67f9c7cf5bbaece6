use Rattle.std.proofs.Common.{Bool, List, None, Some, [], ap, append-nil, append_assoc, arith, drop, false, if◌then◌else◌, inl, inr, length, map, nat_lt, not}
use Rattle.std.proofs.Common.{refl, slice_index_or, subst, suc, sym, take, true, zero, ℕ, ◌++◌, ◌+◌, ◌<◌, ◌==◌, ◌||◌, ◌∙◌, ◌∷◌, ◌≡◌, ◌≤◌}
use Rattle.std.proofs.lemmas.Bool.Decides.{Decides-eqb}
use Rattle.std.proofs.Math.Seq.{take-suc}
use Rattle.std.proofs.lemmas.List.{length-take-le, length-map, take-append-drop}
use Rattle.std.specs.Option.{unwrap_or}
use Rattle.edit_model.specs.Corrections.{differs_from, is_first, path_order, word_of}
use Rattle.edit_model.specs.Points.{Point}
use Rattle.edit_model.specs.Rows.{value_of}
use Rattle.edit_line.specs.Reductions.{IsIn}
use Rattle.edit_line.specs.Shapes.{has_field, place_in}
use Rattle.edit_line.proofs.Members.{in-either}
use Rattle.edit_paths.specs.Cases.{SearchCase, IsCase, Meets}
use Rattle.edit_paths.specs.Choices.{IsChoice}
use Rattle.edit_paths.specs.Certificates.{certificate_of}
use Rattle.edit_paths.specs.Outcomes.{end_by, outcome_from, outcome_of}
use Rattle.edit_paths.specs.ReachedPaths.{AreInOrder, is_before, reached_paths}
use Rattle.edit_paths.specs.Works.{work_of, work_of_all}
use Rattle.edit_paths.specs.Paths.{AgreesAlong, field_count, is_complete}
use Rattle.bound_cert.specs.Paths.{changes, path_place, path_weight}
use Rattle.edit_model.specs.Words.{weight_at}
use Rattle.edit_paths.specs.PathStates.{is_closed, is_open}
use Rattle.edit_paths.specs.States.{state_of}
use Rattle.edit_paths.specs.declared.state.PathState.{PathState}
use Rattle.edit_paths.specs.declared.state.PathState.TheVariants.{ClosedBad, ClosedBox, ClosedLine, Open, Overflows}
use Rattle.bound_cert.specs.declared.cert.Cert.{Cert}
use Rattle.bound_cert.specs.declared.outcome.Event.{Event}
use Rattle.edit_paths.proofs.ClosedPaths.{closed-path}
use Rattle.edit_paths.proofs.FieldPlaces.{place-of}
use Rattle.edit_paths.proofs.LetterLaws.{all-treated, taken-kept}
use Rattle.edit_paths.proofs.OpenPaths.{open-point}
use Rattle.edit_model.proofs.OrderLaws.{order-length}
use Rattle.edit_line.proofs.FieldLists.{there-has}
use Rattle.edit_paths.proofs.PathOrder.{before-chain, before-extends, before-total, sum-less, tells}
use Rattle.edit_paths.proofs.ReachedLaws.{empty-reached, next-reached, reached-sorted}
use Rattle.edit_line.proofs.FieldLists.{there-has}
use Rattle.bound_cert.specs.declared.outcome.Outcome.TheVariants as outcome

-- The outcome Change has the choice among the points at which the edits hold; Contradictory means that there is none.

-- ---- letters of a word

pub word-at : (g : ℕ → Bool) (fields : List ℕ) (f : ℕ) (d : Bool) → has_field fields f ≡ true → slice_index_or (map g fields) (place_in fields f) d ≡ g f
word-at g [] f d there = absurd (cc)
word-at g (i ∷ fields) f d there = by (i == f) refl (word-at g fields f d) there
  where
    by : (b : Bool) → (i == f) ≡ b → (has_field fields f ≡ true → slice_index_or (map g fields) (place_in fields f) d ≡ g f) → (b || has_field fields f) ≡ true
        → slice_index_or (g i ∷ map g fields) (if b then 0 else suc (place_in fields f)) d ≡ g f
    by true e rest h = ap g ((Decides-eqb i f).0 e)
    by false e rest h = rest h

-- where each field that the first changes is one that the second does, and the second comes first, they are the same
same-word : (a b : List Bool) → length a ≡ length b → ((k : ℕ) → k < length a → slice_index_or a k false ≡ true → slice_index_or b k false ≡ true)
    → is_first b a ≡ true → a ≡ b
same-word [] [] same each first = refl
same-word [] (y ∷ b) same each first = absurd (omega (arith, same))
same-word (x ∷ a) [] same each first = absurd (omega (arith, same))
same-word (false ∷ a) (false ∷ b) same each first =
    ap (λ (p : List Bool). false ∷ p) (same-word a b (omega (arith, same)) (λ k below. each (suc k) (omega arith)) first)
same-word (false ∷ a) (true ∷ b) same each first = absurd (cc)
same-word (true ∷ a) (false ∷ b) same each first = absurd (cc (each 0 (omega arith) refl))
same-word (true ∷ a) (true ∷ b) same each first = ap (λ (p : List Bool). true ∷ p) (same-word a b (omega (arith, same)) (λ k below. each (suc k) (omega arith))
    first)

-- ---- the end of a search

-- the path ends no search: no number leaves the range, and it is not open with all fields treated
abbrev pub EndsNot : SearchCase → List Bool → Type 0
EndsNot c path = ((e : Event) → state_of c path ≡ Overflows e → ⊥) × (state_of c path ≡ Open → is_complete c path ≡ true → ⊥)

-- a search that finds a change ends at an open path that treats all fields, and at no path before it
pub record FoundAt (c : SearchCase) (taken paths : List (List Bool)) (path : List Bool) (weight : ℕ) (cert : Cert) : Type 0 where
  pub before : List (List Bool)
  pub after : List (List Bool)
  pub paths_are : paths ≡ before ++ path ∷ after
  pub not_before : (p : List Bool) → IsIn p before → EndsNot c p
  pub open_there : state_of c path ≡ Open
  pub complete : is_complete c path ≡ true
  pub weight_is : weight ≡ path_weight c.survey.fields path
  pub cert_is : cert.leaves ≡ certificate_of c (if nat_lt 0 (path_weight c.survey.fields path) then taken ++ before else [])

module _ (c : SearchCase) (budget : ℕ) where
  in_first : (path x : List Bool) (paths : List (List Bool)) → EndsNot c path → ((p : List Bool) → IsIn p paths → EndsNot c p) → IsIn x (path ∷ paths)
      → EndsNot c x
  in_first path x paths here rest (inl same) = subst (λ (p : List Bool). EndsNot c p) (sym same) here
  in_first path x paths here rest (inr there) = rest x there

  later : (taken : List (List Bool)) (path : List Bool) (paths : List (List Bool)) (chosen : List Bool) (weight : ℕ) (cert : Cert) → EndsNot c path
      → FoundAt c (taken ++ path ∷ []) paths chosen weight cert → FoundAt c taken (path ∷ paths) chosen weight cert
  later taken path paths chosen weight cert here found = record {
    before = path ∷ found.before;
    after = found.after;
    paths_are = ap (λ (ps : List (List Bool)). path ∷ ps) found.paths_are;
    not_before = λ p there. in_first path p found.before here found.not_before there;
    open_there = found.open_there;
    complete = found.complete;
    weight_is = found.weight_is;
    cert_is = found.cert_is ∙ ap (λ (ps : List (List Bool)). certificate_of c (if nat_lt 0 (path_weight c.survey.fields chosen) then ps else []))
        (append_assoc taken (path ∷ []) found.before);
  }

  pub found-from : (taken paths : List (List Bool)) (chosen : List Bool) (weight : ℕ) (cert : Cert) → outcome_from c budget taken paths
      ≡ outcome.Change chosen weight cert → FoundAt c taken paths chosen weight cert
  found-from taken [] chosen weight cert e = absurd (cc)
  found-from taken (path ∷ paths) chosen weight cert e =
      by (nat_lt budget (work_of_all c taken + work_of c path)) (state_of c path) refl (λ h. found-from (taken ++ path ∷ []) paths chosen weight cert h) e
    where
      by : (over : Bool) (s : PathState) → state_of c path ≡ s → (outcome_from c budget (taken ++ path ∷ []) paths ≡ outcome.Change chosen weight cert
          → FoundAt c (taken ++ path ∷ []) paths chosen weight cert)
          → (unwrap_or (if over then Some (outcome.Budget path (work_of_all c taken)) else end_by c taken path s)
          (outcome_from c budget (taken ++ path ∷ []) paths)) ≡ outcome.Change chosen weight cert → FoundAt c taken (path ∷ paths) chosen weight cert
      by true s is rest h = absurd (cc)
      by false (Overflows event) is rest h = absurd (cc)
      by false Open is rest h = at (is_complete c path) refl rest h
        where
          at : (full : Bool) → is_complete c path ≡ full → (outcome_from c budget (taken ++ path ∷ []) paths ≡ outcome.Change chosen weight cert
              → FoundAt c (taken ++ path ∷ []) paths chosen weight cert)
              → (unwrap_or (if full then Some (outcome.Change path (path_weight c.survey.fields path)
              (record { leaves = certificate_of c (if nat_lt 0 (path_weight c.survey.fields path) then taken else []) })) else None)
              (outcome_from c budget (taken ++ path ∷ []) paths)) ≡ outcome.Change chosen weight cert
              → FoundAt c taken (path ∷ paths) chosen weight cert
          at true full rest h =
              let same : path ≡ chosen = cc in
              let weighs : path_weight c.survey.fields path ≡ weight = cc in
              let certified : (record { leaves = certificate_of c (if nat_lt 0 (path_weight c.survey.fields path) then taken else []) }) ≡ cert = cc in
              record {
                before = [];
                after = paths;
                paths_are = ap (λ (p : List Bool). p ∷ paths) same;
                not_before = λ p none. absurd none;
                open_there = ap (λ (p : List Bool). state_of c p) (sym same) ∙ is;
                complete = ap (λ (p : List Bool). is_complete c p) (sym same) ∙ full;
                weight_is = sym weighs ∙ ap (λ (p : List Bool). path_weight c.survey.fields p) same;
                cert_is =
                    ap (λ (d : Cert). d.leaves) (sym certified)
                    ∙ ap (λ (p : List Bool). certificate_of c (if nat_lt 0 (path_weight c.survey.fields p) then taken else [])) same
                    ∙ ap (λ (ps : List (List Bool)). certificate_of c (if nat_lt 0 (path_weight c.survey.fields chosen) then ps else []))
                    (sym (append-nil taken));
              }
          at false full rest h = later taken path paths chosen weight cert (
            λ event is_over. absurd (cc (sym is ∙ is_over)),
            λ opened whole. cc (sym full ∙ whole),
          ) (rest h)
      by false ClosedBad is rest h = later taken path paths chosen weight cert (
        λ event is_over. absurd (cc (sym is ∙ is_over)),
        λ opened whole. absurd (cc (sym is ∙ opened)),
      ) (rest h)
      by false (ClosedLine i) is rest h = later taken path paths chosen weight cert (
        λ event is_over. absurd (cc (sym is ∙ is_over)),
        λ opened whole. absurd (cc (sym is ∙ opened)),
      ) (rest h)
      by false (ClosedBox i) is rest h = later taken path paths chosen weight cert (
        λ event is_over. absurd (cc (sym is ∙ is_over)),
        λ opened whole. absurd (cc (sym is ∙ opened)),
      ) (rest h)

  -- a search that finds a contradiction ends at no path
  pub none-from : (taken paths : List (List Bool)) (cert : Cert) → outcome_from c budget taken paths ≡ outcome.Contradictory cert → (p : List Bool)
      → IsIn p paths → EndsNot c p
  none-from taken [] cert e p none = absurd none
  none-from taken (path ∷ paths) cert e p there =
      by (nat_lt budget (work_of_all c taken + work_of c path)) (state_of c path) refl (λ h. none-from (taken ++ path ∷ []) paths cert h) e
    where
      by : (over : Bool) (s : PathState) → state_of c path ≡ s → (outcome_from c budget (taken ++ path ∷ []) paths ≡ outcome.Contradictory cert
          → (p : List Bool) → IsIn p paths → EndsNot c p)
          → (unwrap_or (if over then Some (outcome.Budget path (work_of_all c taken)) else end_by c taken path s)
          (outcome_from c budget (taken ++ path ∷ []) paths)) ≡ outcome.Contradictory cert → EndsNot c p
      by true s is rest h = absurd (cc)
      by false (Overflows event) is rest h = absurd (cc)
      by false Open is rest h = at (is_complete c path) refl rest h
        where
          at : (full : Bool) → is_complete c path ≡ full → (outcome_from c budget (taken ++ path ∷ []) paths ≡ outcome.Contradictory cert → (p : List Bool)
              → IsIn p paths → EndsNot c p)
              → (unwrap_or (if full then Some (outcome.Change path (path_weight c.survey.fields path)
              (record { leaves = certificate_of c (if nat_lt 0 (path_weight c.survey.fields path) then taken else []) })) else None)
              (outcome_from c budget (taken ++ path ∷ []) paths)) ≡ outcome.Contradictory cert
              → EndsNot c p
          at true full rest h = absurd (cc)
          at false full rest h = in_first path p paths (λ event is_over. absurd (cc (sym is ∙ is_over)), λ opened whole. cc (sym full ∙ whole)) (rest h) there
      by false ClosedBad is rest h = in_first path p paths (λ event is_over. absurd (cc (sym is ∙ is_over)), λ opened whole. absurd (cc (sym is ∙ opened)))
          (rest h) there
      by false (ClosedLine i) is rest h = in_first path p paths (λ event is_over. absurd (cc (sym is ∙ is_over)), λ opened whole. absurd (cc (sym is ∙ opened)))
          (rest h) there
      by false (ClosedBox i) is rest h = in_first path p paths (λ event is_over. absurd (cc (sym is ∙ is_over)), λ opened whole. absurd (cc (sym is ∙ opened)))
          (rest h) there

  pub none-cert : (taken paths : List (List Bool)) (cert : Cert) → outcome_from c budget taken paths ≡ outcome.Contradictory cert → cert.leaves
      ≡ certificate_of c (taken ++ paths)
  none-cert taken [] cert e = let same : cert ≡ record { leaves = certificate_of c taken } = sym (cc) in ap (λ (d : Cert). d.leaves) same
      ∙ ap (λ (ps : List (List Bool)). certificate_of c ps) (sym (append-nil taken))
  none-cert taken (path ∷ paths) cert e =
      by (nat_lt budget (work_of_all c taken + work_of c path)) (state_of c path) (λ h. none-cert (taken ++ path ∷ []) paths cert h
      ∙ ap (λ (ps : List (List Bool)). certificate_of c ps) (append_assoc taken (path ∷ []) paths)) e
    where
      by : (over : Bool) (s : PathState) → (outcome_from c budget (taken ++ path ∷ []) paths ≡ outcome.Contradictory cert → cert.leaves
          ≡ certificate_of c (taken ++ path ∷ paths))
          → (unwrap_or (if over then Some (outcome.Budget path (work_of_all c taken)) else end_by c taken path s)
          (outcome_from c budget (taken ++ path ∷ []) paths)) ≡ outcome.Contradictory cert → cert.leaves ≡ certificate_of c (taken ++ path ∷ paths)
      by true s rest h = absurd (cc)
      by false (Overflows event) rest h = absurd (cc)
      by false Open rest h = at (is_complete c path) rest h
        where
          at : (full : Bool) → (outcome_from c budget (taken ++ path ∷ []) paths ≡ outcome.Contradictory cert → cert.leaves
              ≡ certificate_of c (taken ++ path ∷ paths))
              → (unwrap_or (if full then Some (outcome.Change path (path_weight c.survey.fields path)
              (record { leaves = certificate_of c (if nat_lt 0 (path_weight c.survey.fields path) then taken else []) })) else None)
              (outcome_from c budget (taken ++ path ∷ []) paths)) ≡ outcome.Contradictory cert
              → cert.leaves ≡ certificate_of c (taken ++ path ∷ paths)
          at true rest h = absurd (cc)
          at false rest h = rest h
      by false ClosedBad rest h = rest h
      by false (ClosedLine i) rest h = rest h
      by false (ClosedBox i) rest h = rest h

-- ---- the prefixes of a point's word

module _ (c : SearchCase) (is : IsCase c) (q : Point) (meets : Meets c q) where
  abbrev w : List Bool
  w = word_of c.survey c.row q

  word-length : length (word_of c.survey c.row q) ≡ field_count c
  word-length = length-map (path_order c.survey.fields) (λ f. differs_from (value_of c.row f) q f) ∙ order-length c.survey.fields

  -- a field that a prefix of the word keeps has the record's value
  prefix-agrees : (k : ℕ) → AgreesAlong c (take k (word_of c.survey c.row q)) q
  prefix-agrees k f there kept =
      undo (differs_from (value_of c.row f) q f)
      (ap not (sym (word-at (λ f. differs_from (value_of c.row f) q f) (path_order c.survey.fields) f true there))
      ∙ taken-kept (word_of c.survey c.row q) k (path_place c.survey.fields f) kept)
    where
      undo : (b : Bool) → not b ≡ true → b ≡ false
      undo true h = absurd (cc)
      undo false h = refl

  -- so a prefix that ends no search is open
  prefix-open : (k : ℕ) → EndsNot c (take k (word_of c.survey c.row q)) → state_of c (take k (word_of c.survey c.row q)) ≡ Open
  prefix-open k ends = by (state_of c (take k (word_of c.survey c.row q))) refl
    where
      closed : (s : PathState) → state_of c (take k (word_of c.survey c.row q)) ≡ s → is_closed s ≡ true → ⊥
      closed s e shut = closed-path c is (take k (word_of c.survey c.row q)) (ap (λ s. is_closed s) e ∙ shut) q meets (prefix-agrees k)

      by : (s : PathState) → state_of c (take k (word_of c.survey c.row q)) ≡ s → state_of c (take k (word_of c.survey c.row q)) ≡ Open
      by Open e = e
      by ClosedBad e = absurd (closed ClosedBad e refl)
      by (ClosedLine i) e = absurd (closed (ClosedLine i) e refl)
      by (ClosedBox i) e = absurd (closed (ClosedBox i) e refl)
      by (Overflows event) e = absurd (ends.0 event e)

  module _ (before : List (List Bool)) (each : (p : List Bool) → IsIn p before → EndsNot c p)
      (within : (k : ℕ) → IsIn (take k (word_of c.survey c.row q)) (reached_paths c) → IsIn (take k (word_of c.survey c.row q)) before) where
    -- each prefix is reached
    prefix-reached : (k : ℕ) → k ≤ field_count c → IsIn (take k (word_of c.survey c.row q)) (reached_paths c)
    prefix-reached zero few = subst (λ (p : List Bool). IsIn p (reached_paths c)) (refl) (empty-reached c)
    prefix-reached (suc k) few =
        let there = prefix-reached k (omega arith) in
        subst (λ (p : List Bool). IsIn p (reached_paths c)) (sym (take-suc (word_of c.survey c.row q) k false (omega (arith, few, word-length))))
        (next-reached c (take k (word_of c.survey c.row q)) (slice_index_or (word_of c.survey c.row q) k false) there
        (ap is_open (prefix-open k (each (take k (word_of c.survey c.row q)) (within k there))))
        (omega (arith, few, length-take-le k (word_of c.survey c.row q) (omega (arith, few, word-length)))))

    -- so some path ends the search
    word-ends : ⊥
    word-ends =
        let ends = each (take (field_count c) (word_of c.survey c.row q)) (within (field_count c) (prefix-reached (field_count c) (omega arith))) in
        ends.1 (prefix-open (field_count c) ends) ((Decides-eqb _ _).1 (length-take-le (field_count c) (word_of c.survey c.row q) (omega (arith, word-length))))

-- no point meets the edits of a contradictory case
pub contradictory : (c : SearchCase) → IsCase c → (budget : ℕ) (cert : Cert) → outcome_of c budget ≡ outcome.Contradictory cert → (p : Point) → Meets c p → ⊥
contradictory c is budget cert e p meets = word-ends c is p meets (reached_paths c) (none-from c budget [] (reached_paths c) cert e) (λ k there. there)

-- ---- the choice

module _ (c : SearchCase) (is : IsCase c) where
  pub sorted-after : (before : List (List Bool)) (path z : List Bool) (after : List (List Bool))
      → AreInOrder (is_before c.survey.fields) (before ++ path ∷ after) → IsIn z after → is_before c.survey.fields path z ≡ true
  sorted-after [] path z after sorted there = sorted.0 z there
  sorted-after (x ∷ before) path z after sorted there = sorted-after before path z after sorted.1 there

  module _ (path : List Bool) (weight : ℕ) (cert : Cert) (found : FoundAt c [] (reached_paths c) path weight cert) where
    full : length path ≡ field_count c
    full = (Decides-eqb (length path) (field_count c)).0 found.complete

    -- the path comes before the word of each point
    pub comes-first : (q : Point) → Meets c q → is_before c.survey.fields path (word_of c.survey c.row q) ≡ true
    comes-first q meets = by (is_before c.survey.fields path (word_of c.survey c.row q)) refl
      where
        by : (b : Bool) → is_before c.survey.fields path (word_of c.survey c.row q) ≡ b → b ≡ true
        by true e = refl
        by false e = absurd (word-ends c is q meets found.before found.not_before within)
          where
            after_path : (k : ℕ) → is_before c.survey.fields path (take k (word_of c.survey c.row q)) ≡ true → ⊥
            after_path k h =
                cc (sym e ∙ before-chain c path (take k (word_of c.survey c.row q)) (word_of c.survey c.row q) h
                (subst (λ (p : List Bool). is_before c.survey.fields (take k (word_of c.survey c.row q)) p ≡ true)
                (take-append-drop k (word_of c.survey c.row q)) (before-extends c (take k (word_of c.survey c.row q)) (drop k (word_of c.survey c.row q)))))

            itself : is_before c.survey.fields path path ≡ true
            itself = own (is_before c.survey.fields path path) refl
              where
                own : (b : Bool) → is_before c.survey.fields path path ≡ b → is_before c.survey.fields path path ≡ true
                own true h = h
                own false h = before-total c path path h

            within : (k : ℕ) → IsIn (take k (word_of c.survey c.row q)) (reached_paths c) → IsIn (take k (word_of c.survey c.row q)) found.before
            within k there = elim (in-either (take k (word_of c.survey c.row q)) found.before (path ∷ found.after)
                (subst (λ (ps : List (List Bool)). IsIn (take k (word_of c.survey c.row q)) ps) found.paths_are there)) [
                  | inl at ↦ at
                  | inr at ↦ elim at [
                    | inl same ↦ absurd (after_path k (subst (λ (p : List Bool). is_before c.survey.fields path p ≡ true) (sym same) itself))
                    | inr late ↦ absurd (after_path k (sorted-after found.before path (take k (word_of c.survey c.row q)) found.after
                        (subst (λ (ps : List (List Bool)). AreInOrder (is_before c.survey.fields) ps) found.paths_are (reached-sorted c)) late))
                  ]
                ]

    -- a point that has the record's values at the path's kept fields has the path as its word
    has-word : (q : Point) → Meets c q → AgreesAlong c path q → word_of c.survey c.row q ≡ path
    has-word q meets agrees =
        elim (tells (path_weight c.survey.fields path) (path_weight c.survey.fields (word_of c.survey c.row q)) (is_first path (word_of c.survey c.row q))
        (comes-first q meets)) [
          | inl less ↦ absurd (omega (arith, less, no_more))
          | inr both ↦ same-word (word_of c.survey c.row q) path (word-length c is q meets ∙ sym full) letters both.1
        ]
      where
        changed : (f : ℕ) → has_field (path_order c.survey.fields) f ≡ true → changes c.survey.fields (word_of c.survey c.row q) f ≡ true
            → changes c.survey.fields path f ≡ true
        changed f there h = by (changes c.survey.fields path f) refl
          where
            by : (b : Bool) → changes c.survey.fields path f ≡ b → b ≡ true
            by true e = refl
            by false e =
                absurd (cc (sym (agrees f there (all-treated c path full f there e)) ∙ sym
                (word-at (λ f. differs_from (value_of c.row f) q f) (path_order c.survey.fields) f false there) ∙ h))

        no_more : path_weight c.survey.fields (word_of c.survey c.row q) ≤ path_weight c.survey.fields path
        no_more = sum-less (weight_at c.survey.fields) (changes c.survey.fields (word_of c.survey c.row q)) (changes c.survey.fields path)
            (path_order c.survey.fields) (λ f at h. changed f (there-has f (path_order c.survey.fields) at) h)

        letters : (k : ℕ) → k < length (word_of c.survey c.row q) → slice_index_or (word_of c.survey c.row q) k false ≡ true → slice_index_or path k false
            ≡ true
        letters k below h =
            let (f, there, place) = place-of c k (omega (arith, below, word-length c is q meets)) in
            ap (λ i. slice_index_or path i false) (sym place) ∙ changed f there (ap (λ i. slice_index_or (word_of c.survey c.row q) i false) place ∙ h)

    pub found-choice : IsChoice c path
    found-choice = record {
      reached = let (q, meets, agrees) = open-point c is path full found.open_there in (q, meets, has-word q meets agrees);
      first = comes-first;
    }

-- the path of a change is the choice, and the weight is its own
pub change-choice : (c : SearchCase) → IsCase c → (budget : ℕ) (path : List Bool) (weight : ℕ) (cert : Cert) → outcome_of c budget
    ≡ outcome.Change path weight cert → IsChoice c path × (weight ≡ path_weight c.survey.fields path)
change-choice c is budget path weight cert e = let found = found-from c budget [] (reached_paths c) path weight cert e in
    (found-choice c is path weight cert found, found.weight_is)
