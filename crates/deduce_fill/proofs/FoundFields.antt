use Rattle.std.proofs.Common.{◌≡◌, ◌⊎◌, inl, inr, ℕ, suc, ◌<◌, ◌++◌, ◌==◌, not, Bool, true, false, List, [], ◌∷◌, append-nil, append_assoc, length, slice_get}
use Rattle.std.proofs.Common.{slice_set, Some, ℤ, ◌*ℤ◌, refl, sym, ap, ◌∙◌, subst, arith}
use Rattle.std.specs.Ordering.{int_eq}
use Rattle.std.proofs.lemmas.Bool.Decides.{Decides-eqb, Decides-int_eq}
use Rattle.fraction128.specs.declared.fraction.Fraction.{Fraction}
use Rattle.fraction128.proofs.LowestLaws.{Fraction-same, fraction_unique}
use Rattle.fraction128.proofs.Signs.{same_cancel}
use Rattle.fraction128.proofs.Whole.{swap_last}
use Rattle.edit_model.specs.Corrections.{differs_from}
use Rattle.edit_model.specs.FieldSets.{has_field}
use Rattle.edit_model.specs.Parts.{SurveyParts}
use Rattle.edit_model.specs.Points.{Point}
use Rattle.edit_model.specs.Rows.{IsOfKind, is_bad, value_of}
use Rattle.edit_model.specs.declared.field.Field.{Field}
use Rattle.edit_model.specs.declared.field.Kind.{Kind}
use Rattle.edit_model.specs.declared.field.Kind.TheVariants as kind
use Rattle.edit_model.specs.declared.value.Value.{Value}
use Rattle.edit_model.specs.declared.value.Value.TheVariants.{Bad, Code, Number}
use Rattle.edit_model.proofs.FieldSetLaws.{has-set_of}
use Rattle.edit_model.proofs.RowLaws.{row-length, value-held}
use Rattle.edit_line.specs.EditSets.{EditsParts}
use Rattle.edit_line.specs.Lines.{LineHolds, LineParts}
use Rattle.edit_line.specs.Reductions.{IsIn}
use Rattle.edit_line.specs.Shapes.{shape_of}
use Rattle.edit_line.proofs.FieldLists.{has-there}
use Rattle.edit_line.proofs.ListPlaces.{some_with}
use Rattle.derivation.specs.declared.step.Step.{Step}
use Rattle.edit_paths.specs.Cases.{IsCase, SearchCase, case_of}
use Rattle.edit_paths.proofs.FieldPlaces.{order-within}
use Rattle.prefix_walk.specs.PathWalks.{walk_along}
use Rattle.prefix_walk.specs.declared.walk_end.WalkEnd.{WalkEnd}
use Rattle.prefix_walk.specs.declared.walk_end.WalkEnd.TheVariants as walk
use Rattle.deduce_fill.specs.Filled.{IsCandidate, filled_by, filled_from, tested_by, tested_from}
use Rattle.deduce_fill.specs.Forced.{HasValue, IsCompletion, IsForced}
use Rattle.deduce_fill.specs.Laws.{HasForced, IsRuleCase, with_forced}
use Rattle.deduce_fill.specs.Tests.{bad_fields, own_path, test_lines, with_line}
use Rattle.deduce_fill.specs.declared.filled.Filled.{Filled}
use Rattle.deduce_fill.specs.declared.filled.Filled.TheVariants as filled
use Rattle.deduce_fill.specs.declared.filled.Forced.{Forced}
use Rattle.deduce_fill.specs.declared.filled.Tested.{Tested}
use Rattle.deduce_fill.specs.declared.filled.Tested.TheVariants as tested
use Rattle.deduce_fill.proofs.Completions.{closed-fails, open-holds}
use Rattle.deduce_fill.proofs.OwnPaths.{bad-in, bad-is, bad-out}
use Rattle.deduce_fill.proofs.TestCases.{with-case}
use Rattle.deduce_fill.proofs.TestFits.{test-fits}
use Rattle.deduce_fill.proofs.TestLaws.{none-value, value-none}

-- The fields whose tests all close are just those whose value is forced.

-- two values of one kind that a point has at a field are the same
module _ (q : Point) (f : ℕ) where
  undo : (b : Bool) → not b ≡ false → b ≡ true
  undo true h = refl
  undo false h = absurd (cc)

  same-number : (x y : Fraction) → q.numerator f *ℤ x.denominator ≡ x.numerator *ℤ q.denominator
      → q.numerator f *ℤ y.denominator ≡ y.numerator *ℤ q.denominator → x ≡ y
  same-number x y first second =
      let both = fraction_unique x y
      (same_cancel (x.numerator *ℤ y.denominator) (y.numerator *ℤ x.denominator) q.denominator q.positive
      (swap_last x.numerator y.denominator q.denominator ∙ ap (λ (z : ℤ). z *ℤ y.denominator) (sym first)
      ∙ swap_last (q.numerator f) x.denominator y.denominator ∙ ap (λ (z : ℤ). z *ℤ x.denominator) second ∙ swap_last y.numerator q.denominator x.denominator))
      in
      Fraction-same x y both.0 both.1

  pub same-value : (k : Kind) (v w : Value) → IsOfKind k v → IsOfKind k w → HasValue v q f → HasValue w q f → v ≡ w
  same-value k Bad w v_of w_of first second = absurd (cc)
  same-value k (Number x) Bad v_of w_of first second = absurd (cc)
  same-value k (Code c) Bad v_of w_of first second = absurd (cc)
  same-value k (Number x) (Number y) v_of w_of first second =
      ap (λ (z : Fraction). Number z)
      (same-number x y ((Decides-int_eq _ _).0 (undo (int_eq (q.numerator f *ℤ x.denominator) (x.numerator *ℤ q.denominator)) first))
      ((Decides-int_eq _ _).0 (undo (int_eq (q.numerator f *ℤ y.denominator) (y.numerator *ℤ q.denominator)) second)))
  same-value k (Code c) (Code d) v_of w_of first second =
      ap (λ n. Code n) ((Decides-eqb c (q.code f)).0 (undo (c == q.code f) first) ∙ sym ((Decides-eqb d (q.code f)).0 (undo (d == q.code f) second)))
  same-value (kind.Number scale) (Code c) (Number y) v_of w_of first second = absurd v_of
  same-value (kind.Code codes) (Code c) (Number y) v_of w_of first second = absurd w_of
  same-value (kind.Number scale) (Number x) (Code d) v_of w_of first second = absurd w_of
  same-value (kind.Code codes) (Number x) (Code d) v_of w_of first second = absurd v_of

module _ (survey : SurveyParts) (edits : EditsParts) (row : List Value) (is : IsRuleCase survey edits row) (new : List Value)
    (candidate : IsCandidate survey edits row new) (budget : ℕ) where
  abbrev c : SearchCase
  c = case_of survey edits row

  abbrev path : List Bool
  path = own_path survey.fields row

  abbrev lines_at : ℕ → List LineParts
  lines_at f = test_lines (shape_of survey.fields) f (value_of new f)

  -- ---- what the tests found

  -- the walk over the edits and the line closes, by these steps
  abbrev pub Closes : LineParts → List Step → Type 0
  Closes line steps = (spent : ℕ) × (work : ℕ) × (walk_along (with_line c line) path budget spent ≡ walk.Closed steps work)

  abbrev pub AllClose : List LineParts → List (List Step) → Type 0
  AllClose [] [] = Unit {0}
  AllClose (line ∷ lines) (steps ∷ proofs) = Closes line steps × AllClose lines proofs
  AllClose _ _ = ⊥

  -- for one of the lines it stays open
  abbrev pub StaysOpen : List LineParts → Type 0
  StaysOpen lines = (line : LineParts) × IsIn line lines × (spent : ℕ) × (work : ℕ) × (walk_along (with_line c line) path budget spent ≡ walk.Open work)

  tested-closed : (tests work : ℕ) (proofs : List (List Step)) (lines : List LineParts) (all : List (List Step)) (t w : ℕ)
      → tested_from c budget tests work proofs lines ≡ tested.Closed all t w → (more : List (List Step)) × (all ≡ proofs ++ more) × AllClose lines more
  tested-closed tests work proofs [] all t w e = ([], let same : all ≡ proofs = cc in same ∙ sym (append-nil proofs), tt)
  tested-closed tests work proofs (line ∷ lines) all t w e =
      by (walk_along (with_line c line) path budget work) refl (λ steps w'. tested-closed (suc tests) w' (proofs ++ steps ∷ []) lines all t w) e
    where
      by : (end : WalkEnd) → walk_along (with_line c line) path budget work ≡ end
          → ((steps : List Step) (w' : ℕ) → tested_from c budget (suc tests) w' (proofs ++ steps ∷ []) lines ≡ tested.Closed all t w
          → (more : List (List Step)) × (all ≡ (proofs ++ steps ∷ []) ++ more) × AllClose lines more)
          → tested_by (suc tests) end (λ steps work. tested_from c budget (suc tests) work (proofs ++ steps ∷ []) lines) ≡ tested.Closed all t w
          → (more : List (List Step)) × (all ≡ proofs ++ more) × AllClose (line ∷ lines) more
      by (walk.Closed steps w') ended rest h =
          let (more, same, close) = rest steps w' h in (steps ∷ more, same ∙ append_assoc proofs (steps ∷ []) more, ((work, w', ended), close))
      by (walk.Open w') ended rest h = absurd (cc)
      by (walk.Budget w') ended rest h = absurd (cc)
      by walk.Overflow ended rest h = absurd (cc)

  tested-free : (tests work : ℕ) (proofs : List (List Step)) (lines : List LineParts) (t w : ℕ)
      → tested_from c budget tests work proofs lines ≡ tested.Free t w → StaysOpen lines
  tested-free tests work proofs [] t w e = absurd (cc)
  tested-free tests work proofs (line ∷ lines) t w e =
      by (walk_along (with_line c line) path budget work) refl (λ steps w'. tested-free (suc tests) w' (proofs ++ steps ∷ []) lines t w) e
    where
      by : (end : WalkEnd) → walk_along (with_line c line) path budget work ≡ end
          → ((steps : List Step) (w' : ℕ) → tested_from c budget (suc tests) w' (proofs ++ steps ∷ []) lines ≡ tested.Free t w → StaysOpen lines)
          → tested_by (suc tests) end (λ steps work. tested_from c budget (suc tests) work (proofs ++ steps ∷ []) lines) ≡ tested.Free t w
          → StaysOpen (line ∷ lines)
      by (walk.Closed steps w') ended rest h = let (open_line, there, s, last, walked) = rest steps w' h in (open_line, inr there, s, last, walked)
      by (walk.Open w') ended rest h = (line, inl refl, work, w', ended)
      by (walk.Budget w') ended rest h = absurd (cc)
      by walk.Overflow ended rest h = absurd (cc)

  -- an answer that ends the tests tells neither values nor that the record is blocked
  abbrev pub IsStop : Filled → Type 0
  IsStop answer = ((w : ℕ) × (answer ≡ filled.Budget w)) ⊎ ((t : ℕ) × (answer ≡ filled.Overflow t))

  tested-stopped : (tests work : ℕ) (proofs : List (List Step)) (lines : List LineParts) (answer : Filled)
      → tested_from c budget tests work proofs lines ≡ tested.Stopped answer → IsStop answer
  tested-stopped tests work proofs [] answer e = absurd (cc)
  tested-stopped tests work proofs (line ∷ lines) answer e =
      by (walk_along (with_line c line) path budget work) (λ steps w'. tested-stopped (suc tests) w' (proofs ++ steps ∷ []) lines answer) e
    where
      by : (end : WalkEnd)
          → ((steps : List Step) (w' : ℕ) → tested_from c budget (suc tests) w' (proofs ++ steps ∷ []) lines ≡ tested.Stopped answer → IsStop answer)
          → tested_by (suc tests) end (λ steps work. tested_from c budget (suc tests) work (proofs ++ steps ∷ []) lines) ≡ tested.Stopped answer → IsStop answer
      by (walk.Closed steps w') rest h = rest steps w' h
      by (walk.Open w') rest h = absurd (cc)
      by (walk.Budget w') rest h = inl (w', cc)
      by walk.Overflow rest h = inr (suc tests, cc)

  -- the field's tests all close, and its value and proofs are these
  pub record IsFoundAt (f : ℕ) (e : Forced) : Type 0 where
    pub field_is : e.field ≡ f
    pub value_is : e.value ≡ value_of new f
    pub close : AllClose (lines_at f) e.proofs

  -- the tests of the fields found these
  abbrev pub AreFound : List ℕ → List Forced → Type 0
  AreFound [] more = more ≡ []
  AreFound (f ∷ fields) more =
      ((e : Forced) × (rest : List Forced) × (more ≡ e ∷ rest) × IsFoundAt f e × AreFound fields rest) ⊎ (StaysOpen (lines_at f) × AreFound fields more)

  pub record IsFoundFrom (fields : List ℕ) (r : List Value) (forced : List Forced) (r' : List Value) (all : List Forced) : Type 0 where
    pub more : List Forced
    pub behind : all ≡ forced ++ more
    pub row_is : r' ≡ with_forced r more
    pub found : AreFound fields more

  pub filled-found : (fields : List ℕ) (tests work : ℕ) (r : List Value) (forced : List Forced) (r' : List Value) (all : List Forced)
      → filled_from c new budget tests work r forced fields ≡ filled.Done r' all → IsFoundFrom fields r forced r' all
  filled-found [] tests work r forced r' all e =
      let same : all ≡ forced = cc in let row_same : r' ≡ r = cc in
      record { more = []; behind = same ∙ sym (append-nil forced); row_is = row_same; found = refl }
  filled-found (f ∷ fields) tests work r forced r' all e =
      by (tested_from c budget tests work [] (lines_at f)) refl
      (λ proofs t w. filled-found fields t w (slice_set r f (value_of new f))
      (forced ++ record { field = f; value = value_of new f; proofs = proofs } ∷ []) r' all)
      (λ t w. filled-found fields t w r forced r' all) e
    where
      entry : List (List Step) → Forced
      entry proofs = record { field = f; value = value_of new f; proofs = proofs }

      with_found : (proofs : List (List Step)) → AllClose (lines_at f) proofs
          → IsFoundFrom fields (slice_set r f (value_of new f)) (forced ++ record { field = f; value = value_of new f; proofs = proofs } ∷ []) r' all
          → IsFoundFrom (f ∷ fields) r forced r' all
      with_found proofs close rest = record {
        more = record { field = f; value = value_of new f; proofs = proofs } ∷ rest.more;
        behind = rest.behind ∙ append_assoc forced (record { field = f; value = value_of new f; proofs = proofs } ∷ []) rest.more;
        row_is = rest.row_is;
        found = inl (
          record { field = f; value = value_of new f; proofs = proofs },
          rest.more,
          refl,
          record
              { field_is = refl; value_is = refl; close = close },
          rest.found,
        );
      }

      with_free : StaysOpen (lines_at f) → IsFoundFrom fields r forced r' all → IsFoundFrom (f ∷ fields) r forced r' all
      with_free stays rest = record { more = rest.more; behind = rest.behind; row_is = rest.row_is; found = inr (stays, rest.found) }

      by : (t : Tested) → tested_from c budget tests work [] (lines_at f) ≡ t
          → ((proofs : List (List Step)) (t w : ℕ)
          → filled_from c new budget t w (slice_set r f (value_of new f))
          (forced ++ record { field = f; value = value_of new f; proofs = proofs } ∷ []) fields ≡ filled.Done r' all
          → IsFoundFrom fields (slice_set r f (value_of new f)) (forced ++ record { field = f; value = value_of new f; proofs = proofs } ∷ []) r' all)
          → ((t w : ℕ) → filled_from c new budget t w r forced fields ≡ filled.Done r' all → IsFoundFrom fields r forced r' all)
          → filled_by t (λ proofs tests work. filled_from c new budget tests work (slice_set r f (value_of new f))
          (forced ++ record { field = f; value = value_of new f; proofs = proofs } ∷ []) fields)
          (λ tests work. filled_from c new budget tests work r forced fields) ≡ filled.Done r' all → IsFoundFrom (f ∷ fields) r forced r' all
      by (tested.Closed proofs t w) told closed free h =
          let (more, same, close) = tested-closed tests work [] (lines_at f) proofs t w told in
          with_found proofs (subst (AllClose (lines_at f)) (sym same) close) (closed proofs t w h)
      by (tested.Free t w) told closed free h = with_free (tested-free tests work [] (lines_at f) t w told) (free t w h)
      by (tested.Stopped answer) told closed free h =
          elim (tested-stopped tests work [] (lines_at f) answer told) [ inl (w, is_budget) ↦ absurd (cc) | inr (t, is_overflow) ↦ absurd (cc) ]

  -- no answer after a candidate is that the record is blocked
  pub never-blocked : (fields : List ℕ) (tests work : ℕ) (r : List Value) (forced : List Forced) (steps : List Step)
      → filled_from c new budget tests work r forced fields ≡ filled.Blocked steps → ⊥
  never-blocked [] tests work r forced steps e = cc e
  never-blocked (f ∷ fields) tests work r forced steps e =
      by (tested_from c budget tests work [] (lines_at f)) refl
      (λ proofs t w. never-blocked fields t w (slice_set r f (value_of new f))
      (forced ++ record { field = f; value = value_of new f; proofs = proofs } ∷ []) steps)
      (λ t w. never-blocked fields t w r forced steps) e
    where
      by : (t : Tested) → tested_from c budget tests work [] (lines_at f) ≡ t
          → ((proofs : List (List Step)) (t w : ℕ)
          → filled_from c new budget t w (slice_set r f (value_of new f))
          (forced ++ record { field = f; value = value_of new f; proofs = proofs } ∷ []) fields ≡ filled.Blocked steps → ⊥)
          → ((t w : ℕ) → filled_from c new budget t w r forced fields ≡ filled.Blocked steps → ⊥)
          → filled_by t (λ proofs tests work. filled_from c new budget tests work (slice_set r f (value_of new f))
          (forced ++ record { field = f; value = value_of new f; proofs = proofs } ∷ []) fields)
          (λ tests work. filled_from c new budget tests work r forced fields) ≡ filled.Blocked steps → ⊥
      by (tested.Closed proofs t w) told closed free h = closed proofs t w h
      by (tested.Free t w) told closed free h = free t w h
      by (tested.Stopped answer) told closed free h =
          elim (tested-stopped tests work [] (lines_at f) answer told)
          [ inl (w, is_budget) ↦ cc (sym h ∙ is_budget) | inr (t, is_overflow) ↦ cc (sym h ∙ is_overflow) ]

  -- ---- lists of found fields

  pub found-out : (fields : List ℕ) (more : List Forced) → AreFound fields more → (e : Forced) → IsIn e more → (f : ℕ) × IsIn f fields × IsFoundAt f e
  found-out [] more none e there = absurd (subst (IsIn e) none there)
  found-out (f ∷ fields) more (inl (first, rest, same, at, found)) e there = elim (subst (IsIn e) same there) [
    | inl is_first ↦ (f, inl refl, subst (IsFoundAt f) (sym is_first) at)
    | inr later ↦ (let (g, g_in, g_at) = found-out fields rest found e later in (g, inr g_in, g_at))
  ]
  found-out (f ∷ fields) more (inr (stays, found)) e there = let (g, g_in, at) = found-out fields more found e there in (g, inr g_in, at)

  pub found-in : (fields : List ℕ) (more : List Forced) → AreFound fields more → (f : ℕ) → IsIn f fields
      → ((e : Forced) × IsIn e more × IsFoundAt f e) ⊎ StaysOpen (lines_at f)
  found-in [] more found f there = absurd there
  found-in (g ∷ fields) more (inl (first, rest, same, at, found)) f (inl is_first) =
      inl (first, subst (IsIn first) (sym same) (inl refl), subst (λ n. IsFoundAt n first) (sym is_first) at)
  found-in (g ∷ fields) more (inl (first, rest, same, at, found)) f (inr later) = elim (found-in fields rest found f later) [
    | inl (e, e_in, e_at) ↦ inl (e, subst (IsIn e) (sym same) (inr e_in), e_at)
    | inr stays ↦ inr stays
  ]
  found-in (g ∷ fields) more (inr (stays, found)) f (inl is_first) = inr (subst (λ n. StaysOpen (lines_at n)) (sym is_first) stays)
  found-in (g ∷ fields) more (inr (stays, found)) f (inr later) = found-in fields more found f later

  -- ---- what a candidate is

  row-size : length row ≡ length survey.fields
  row-size = row-length survey.fields row is.case.row

  known-kept : (f : ℕ) → is_bad (value_of row f) ≡ false → value_of new f ≡ value_of row f
  known-kept f known = candidate.imputed.keeps f (has-set_of (bad_fields survey.fields row) f ∙ none (has_field (bad_fields survey.fields row) f) refl)
    where
      none : (b : Bool) → has_field (bad_fields survey.fields row) f ≡ b → b ≡ false
      none true e = absurd (cc (sym known ∙ (bad-out survey.fields row f (has-there f (bad_fields survey.fields row) e)).1))
      none false e = refl

  own-point : Point
  own-point = candidate.completed.0

  pub own-completes : IsCompletion survey row candidate.completed.0
  own-completes = record {
    consistent = candidate.completed.1.correction;
    agrees = λ f within known.
        ap (λ (v : Value). differs_from v candidate.completed.0 f) (sym (known-kept f known))
        ∙ candidate.completed.1.agrees f (omega (arith, within, row-size, row-length survey.fields new candidate.imputed.fits)) refl;
  }

  own-value : (f : ℕ) → f < length row → HasValue (value_of new f) candidate.completed.0 f
  own-value f within = candidate.completed.1.agrees f (omega (arith, within, row-size, row-length survey.fields new candidate.imputed.fits)) refl

  never-bad : (f : ℕ) → f < length row → value_of new f ≡ Bad → ⊥
  never-bad f within bad = cc (sym (ap (λ (v : Value). differs_from v candidate.completed.0 f) bad) ∙ own-value f within)

  pub test-case : (f : ℕ) (line : LineParts) → IsIn line (lines_at f) → IsCase (with_line c line)
  test-case f line there =
      let (fits, over) = test-fits survey.fields is.case.fields new f line (value_of new f) candidate.imputed.fits refl there in
      with-case c is.case is.placed line fits over

  within-row : (f : ℕ) → IsIn f (bad_fields survey.fields row) → f < length row
  within-row f there = let below = order-within survey.fields f (bad-out survey.fields row f there).0 in omega (arith, below, row-size)

  none-holds : (f : ℕ) (lines : List LineParts) (proofs : List (List Step)) → ((line : LineParts) → IsIn line lines → IsIn line (lines_at f))
      → AllClose lines proofs → (p : Point) → IsCompletion survey row p → (line : LineParts) → IsIn line lines → ¬ LineHolds line p
  none-holds f [] proofs among close p done line there = absurd there
  none-holds f (first ∷ lines) [] among close p done line there = absurd close
  none-holds f (first ∷ lines) (steps ∷ proofs) among close p done line (inl same) =
      let (spent, work, ended) = close.0 in
      λ holds. closed-fails survey edits row is first (test-case f first (among first (inl refl))) budget spent work steps ended p done
      (subst (λ (l : LineParts). LineHolds l p) same holds)
  none-holds f (first ∷ lines) (steps ∷ proofs) among close p done line (inr later) =
      none-holds f lines proofs (λ l l_in. among l (inr l_in)) close.1 p done line later

  -- a field whose tests all close is forced
  pub found-forced : (f : ℕ) (e : Forced) → IsIn f (bad_fields survey.fields row) → IsFoundAt f e → IsForced survey row e.field e.value
  found-forced f e there at = subst (λ n. IsForced survey row n e.value) (sym at.field_is)
      (subst (λ (v : Value). IsForced survey row f v) (sym at.value_is) forced)
    where
      forced : IsForced survey row f (value_of new f)
      forced = record {
        within = within-row f there;
        bad = bad-is (value_of row f) (bad-out survey.fields row f there).1;
        fits = value-held survey.fields new f candidate.imputed.fits (omega (arith, within-row f there, row-size));
        some = (candidate.completed.0, own-completes);
        every = λ p done. none-value survey new f p candidate.imputed.fits done.consistent.codes (value_of new f) refl (never-bad f (within-row f there))
            (none-holds f (lines_at f) e.proofs (λ l l_in. l_in) at.close p done);
      }

  -- what is forced is the candidate's value
  pub forced-value : (f : ℕ) (v : Value) → IsForced survey row f v → v ≡ value_of new f
  forced-value f v forced =
      let (field, at, v_of) = some_with (λ (field : Field). IsOfKind field.kind v) (slice_get survey.fields f) forced.fits in
      let (other, other_at, new_of) =
      some_with (λ (field : Field). IsOfKind field.kind (value_of new f)) (slice_get survey.fields f)
      (value-held survey.fields new f candidate.imputed.fits (omega (arith, forced.within, row-size))) in
      same-value candidate.completed.0 f field.kind v (value_of new f) v_of
      (subst (λ (g : Field). IsOfKind g.kind (value_of new f)) (one other field (sym other_at ∙ at)) new_of) (forced.every candidate.completed.0 own-completes)
      (own-value f forced.within)
    where
      one : (a b : Field) → Some a ≡ Some b → a ≡ b
      one a b e = cc

  -- and no test of it stays open
  pub open-free : (f : ℕ) (v : Value) → IsForced survey row f v → StaysOpen (lines_at f) → ⊥
  open-free f v forced (line, there, spent, work, ended) =
      let (p, done, holds) = open-holds survey edits row is line (test-case f line there) budget spent work ended in
      value-none survey new f p candidate.imputed.fits done.consistent.codes (value_of new f) refl
      (subst (λ (w : Value). HasValue w p f) (forced-value f v forced) (forced.every p done)) line there holds

  -- so the found fields are just the forced ones
  pub found-exact : (more : List Forced) → AreFound (bad_fields survey.fields row) more → (f : ℕ) (v : Value)
      → (HasForced more f v → IsForced survey row f v) × (IsForced survey row f v → HasForced more f v)
  found-exact more found f v = (
    λ (e, e_in, field_is, value_is).
        let (g, g_in, at) = found-out (bad_fields survey.fields row) more found e e_in in
        subst (λ n. IsForced survey row n v) field_is (subst (λ (w : Value). IsForced survey row e.field w) value_is (found-forced g e g_in at)),
    λ forced. elim (found-in (bad_fields survey.fields row) more found f (bad-in survey.fields row f (omega (arith, forced.within, row-size)) forced.bad)) [
      | inl (e, e_in, at) ↦ (e, e_in, at.field_is, at.value_is ∙ sym (forced-value f v forced))
      | inr stays ↦ absurd (open-free f v forced stays)
    ],
  )
