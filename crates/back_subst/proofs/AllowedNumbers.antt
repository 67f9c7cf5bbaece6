use Rattle.std.proofs.Common.{◌≡◌, ◌≢◌, ◌↔◌, ℕ, zero, suc, ◌<◌, ◌==◌, ◌||◌, Bool, true, false, if◌then◌else◌, List, ◌∷◌, All, length, ℤ, pos, ◌<ℤ◌}
use Rattle.std.proofs.Common.{◌+ℤ◌, ◌*ℤ◌, refl, sym, ap, ◌∙◌, subst, arith}
use Rattle.std.specs.Ordering.{int_eq}
use Rattle.std.proofs.lemmas.Bool.Decides.{Decides-eqb, Decides-int_eq}
use Rattle.fraction128.specs.Formulas.{Ratio}
use Rattle.fraction128.proofs.Signs.{above-*, same_cancel}
use Rattle.fraction128.proofs.Whole.{assoc, parts, ring, same_dif, swap_last}
use Rattle.edit_model.specs.Parts.{SurveyParts}
use Rattle.edit_model.specs.Points.{Point}
use Rattle.edit_model.specs.Rows.{IsRow}
use Rattle.edit_model.specs.declared.value.Value.{Value}
use Rattle.edit_line.specs.Lines.{AllHold, HaveShape, IsEnough, LineHolds, LineParts, factor}
use Rattle.edit_line.specs.Reductions.{IsIn}
use Rattle.edit_line.specs.Sets.{AreCodesIn}
use Rattle.edit_line.specs.Shapes.{Domain, IsNumerical, code_fields, codes_at, has_field, number_fields, shape_of}
use Rattle.edit_line.proofs.Members.{all-in, in-all}
use Rattle.linear_elim.specs.PointChanges.{DiffersOnlyIn}
use Rattle.linear_elim.specs.Systems.{system}
use Rattle.linear_elim.proofs.PointLaws.{LineHolds-others, LineHolds-same, amount-put, holds-put, map-agree, put, put-code, put-differs, rest_at}
use Rattle.linear_elim.proofs.SystemLaws.{HaveShape-system, system-follows, system-holds, system-lifts}
use Rattle.back_subst.specs.Allowed.{AllowsNumber, Completes}
use Rattle.back_subst.specs.inner.Bounds.{DecideFor}
use Rattle.edit_line.proofs.FactorLaws.{factor-numerical}
use Rattle.linear_elim.proofs.PointLaws.{number-no_code}
use Rattle.back_subst.proofs.FieldPoints.{Agrees-carried, HasCodesFrom-same, SameNumber, SameNumber-sym, SameNumber-trans, apart-absent, both-code}
use Rattle.back_subst.proofs.FieldPoints.{both-number, code-at, absent-apart, number-at, number-listed}

-- The numbers that a field may be given are those within the bounds of the lines of the system of the numerical fields that are left after it.

-- q at these numerical fields, and p elsewhere
abbrev mixed : List ℕ → Point → Point → Point
mixed fields p q = record {
  code = p.code;
  numerator = λ i. if has_field fields i then q.numerator i *ℤ p.denominator else p.numerator i *ℤ q.denominator;
  denominator = p.denominator *ℤ q.denominator;
  positive = above-* p.denominator q.denominator p.positive q.positive;
}

mixed-differs : (fields : List ℕ) (p q : Point) → DiffersOnlyIn fields p (mixed fields p q)
mixed-differs fields p q = record { codes = λ i outside. refl; numbers = λ i outside. by i (has_field fields i) (apart-absent i fields outside) }
  where
    turned : (x d e : ℤ) → x *ℤ e *ℤ d ≡ x *ℤ (d *ℤ e)
    turned x d e = rw (parts x, parts d, parts e) (simp ring (same_dif _ _ _ _ (omega arith)))

    by : (i : ℕ) (b : Bool) → b ≡ false → (if b then q.numerator i *ℤ p.denominator else p.numerator i *ℤ q.denominator) *ℤ p.denominator
        ≡ p.numerator i *ℤ (p.denominator *ℤ q.denominator)
    by i true e = absurd (cc)
    by i false e = turned (p.numerator i) p.denominator q.denominator

-- it has the number of q where p and q have one number at each other field
mixed-number : (fields : List ℕ) (p q : Point) (i : ℕ) → (has_field fields i ≡ false → SameNumber p q i) → SameNumber (mixed fields p q) q i
mixed-number fields p q i same = by (has_field fields i) refl
  where
    own : (y d e : ℤ) → y *ℤ (d *ℤ e) ≡ y *ℤ d *ℤ e
    own y d e = sym (assoc y d e)

    by : (b : Bool) → has_field fields i ≡ b → q.numerator i *ℤ (p.denominator *ℤ q.denominator)
        ≡ (if b then q.numerator i *ℤ p.denominator else p.numerator i *ℤ q.denominator) *ℤ q.denominator
    by true e = own (q.numerator i) p.denominator q.denominator
    by false e = own (q.numerator i) p.denominator q.denominator ∙ ap (λ (k : ℤ). k *ℤ q.denominator) (same e)

-- the point with a number at a field
abbrev pub with_number : Point → ℕ → (x : Ratio) → pos 0 <ℤ x.denominator → Point
with_number p f x above = put p f (p.code f) (x.numerator *ℤ p.denominator) x.denominator above

-- a line's bound at the field, by the other values of a point
abbrev pub IsBoundedAt : Point → ℕ → Ratio → LineParts → Type 0
IsBoundedAt p f x line = IsEnough line.relation (factor line f *ℤ (x.numerator *ℤ p.denominator) +ℤ rest_at line f p *ℤ x.denominator)

module _ (survey : SurveyParts) (edits : List LineParts) (row : List Value) (f : ℕ) (before : List ℕ)
    (is_row : IsRow survey.fields row) (over : HaveShape (shape_of survey.fields) edits) (decide : DecideFor survey edits row (f ∷ before))
    (number : IsNumerical (shape_of survey.fields) f) (numbers : All (IsNumerical (shape_of survey.fields)) before) (other : has_field before f ≡ false)
    (p : Point) (completes : Completes survey row (f ∷ before) p) where
  abbrev shape : List Domain
  shape = shape_of survey.fields

  no_codes : (i : ℕ) → has_field (code_fields shape) i ≡ true → has_field (f ∷ before) i ≡ false
  no_codes i there = by (has_field (f ∷ before) i) refl
    where
      every : All (IsNumerical shape) (f ∷ before)
      every zero d below = number
      every (suc k) d below = numbers k d (omega arith)

      by : (b : Bool) → has_field (f ∷ before) i ≡ b → b ≡ false
      by false e = refl
      by true e = absurd (cc (sym there ∙ number-no_code i 0 shape (number-listed shape (f ∷ before) i every e)))

  module _ (x : Ratio) (above : pos 0 <ℤ x.denominator) where
    -- p with the number at f
    abbrev at_x : Point
    at_x = with_number p f x above

    at_x-number : (i : ℕ) → i ≢ f → SameNumber p at_x i
    at_x-number i apart = (put-differs p f (p.code f) (x.numerator *ℤ p.denominator) x.denominator above).numbers i apart

    -- a point with the number at f has that of at_x
    same-at_f : (q : Point) → q.numerator f *ℤ x.denominator ≡ x.numerator *ℤ q.denominator → SameNumber at_x q f
    same-at_f q is = own ∙ by (f == f) ((Decides-eqb f f).1 refl)
      where
        moved : (y x_n x_d d e : ℤ) → y *ℤ x_d ≡ x_n *ℤ e → y *ℤ (d *ℤ x_d) ≡ x_n *ℤ d *ℤ e
        moved y x_n x_d d e h = turned y x_d d ∙ ap (λ (k : ℤ). k *ℤ d) h ∙ swap_last x_n e d
          where
            turned : (y x_d d : ℤ) → y *ℤ (d *ℤ x_d) ≡ y *ℤ x_d *ℤ d
            turned y x_d d = rw (parts y, parts x_d, parts d) (simp ring (same_dif _ _ _ _ (omega arith)))

        own : q.numerator f *ℤ (p.denominator *ℤ x.denominator) ≡ x.numerator *ℤ p.denominator *ℤ q.denominator
        own = moved (q.numerator f) x.numerator x.denominator p.denominator q.denominator is

        by : (b : Bool) → b ≡ true → x.numerator *ℤ p.denominator *ℤ q.denominator
            ≡ (if b then x.numerator *ℤ p.denominator else p.numerator f *ℤ x.denominator) *ℤ q.denominator
        by true e = refl
        by false e = absurd (cc)

    -- a completion with the number at f has the values of at_x at all fields of the survey but those before
    same-elsewhere : (q : Point) → Completes survey row (f ∷ before) q → q.numerator f *ℤ x.denominator ≡ x.numerator *ℤ q.denominator
        → (i : ℕ) → has_field (number_fields shape) i ≡ true → has_field before i ≡ false → SameNumber at_x q i
    same-elsewhere q completes_q is i there outside = by (f == i) refl
      where
        by : (b : Bool) → (f == i) ≡ b → SameNumber at_x q i
        by true e = subst (λ (j : ℕ). SameNumber at_x q j) ((Decides-eqb f i).0 e) (same-at_f q is)
        by false e =
            let absent : has_field (f ∷ before) i ≡ false = ap (λ b. b || has_field before i) e ∙ outside in
            let within : i < length row = (number-at survey.fields row i is_row there).1 in
            SameNumber-trans at_x p q i (SameNumber-sym p at_x i (at_x-number i (λ same. absurd (cc (sym e ∙ (Decides-eqb f i).1 (sym same))))))
            (both-number survey.fields row is_row p q i (completes.agrees i within absent) (completes_q.agrees i within absent) there)

    -- ---- from a completion to the system

    pub allowed-holds : AllowsNumber survey row (f ∷ before) f x → AllHold (system edits before) at_x
    allowed-holds (q, completes_q, is) =
        system-holds shape edits before at_x (mixed before at_x q) over numbers (mixed-differs before at_x q)
        (all-in (λ line. LineHolds line (mixed before at_x q)) edits
        (λ line there. moved line (in-all (λ l. l.shape ≡ shape) line edits (λ k d below. (over k d below).same) there)
        (in-all (λ line. LineHolds line q) line edits (decide.complete q completes_q.correction completes_q.agrees) there)))
      where
        codes : codes_at shape q ≡ codes_at shape (mixed before at_x q)
        codes = map-agree q.code (mixed before at_x q).code (code_fields shape) (λ i there.
            let within : i < length row = (code-at survey.fields row i is_row there).1 in
            both-code survey.fields row is_row p q i (completes.agrees i within (no_codes i there)) (completes_q.agrees i within (no_codes i there)) there
            ∙ sym (put-code p f (x.numerator *ℤ p.denominator) x.denominator above i))

        moved : (line : LineParts) → line.shape ≡ shape → LineHolds line q → LineHolds line (mixed before at_x q)
        moved line same holds =
            LineHolds-same line (mixed before at_x q) q (subst (λ (s : List Domain). codes_at s q ≡ codes_at s (mixed before at_x q)) (sym same) codes)
            (λ i some. mixed-number before at_x q i (λ outside. same-elsewhere q completes_q is i
            (subst (λ (s : List Domain). has_field (number_fields s) i ≡ true) same (factor-numerical line i some)) outside)) holds

    -- ---- from the system to a completion

    pub holds-allowed : AllHold (system edits before) at_x → AllowsNumber survey row (f ∷ before) f x
    holds-allowed holds =
        let (q, differs, same_codes, at_q) = system-lifts shape edits before at_x over holds in
        let codes : (i : ℕ) → q.code i ≡ p.code i = λ i. same_codes i ∙ put-code p f (x.numerator *ℤ p.denominator) x.denominator above i in (
          q,
          record {
            correction = decide.sound q (HasCodesFrom-same 0 survey.fields p q codes completes.correction.codes) at_q;
            agrees = λ i within absent. Agrees-carried row p q i (codes i) (number_same q differs i absent) (completes.agrees i within absent);
          },
          at_f q differs,
        )
      where
        number_same : (q : Point) → DiffersOnlyIn before at_x q → (i : ℕ) → has_field (f ∷ before) i ≡ false → SameNumber p q i
        number_same q differs i absent = by (f == i) refl absent
          where
            by : (b : Bool) → (f == i) ≡ b → (b || has_field before i) ≡ false → SameNumber p q i
            by true e h = absurd (cc)
            by false e h = SameNumber-trans p at_x q i (at_x-number i (λ same. absurd (cc (sym e ∙ (Decides-eqb f i).1 (sym same)))))
                (differs.numbers i (absent-apart i before h))

        at_f : (q : Point) → DiffersOnlyIn before at_x q → q.numerator f *ℤ x.denominator ≡ x.numerator *ℤ q.denominator
        at_f q differs = cancel (q.numerator f) x.numerator x.denominator p.denominator q.denominator p.positive
            (differs.numbers f (absent-apart f before other) ∙ by (f == f) ((Decides-eqb f f).1 refl))
          where
            cancel : (y x_n x_d d e : ℤ) → pos 0 <ℤ d → y *ℤ (d *ℤ x_d) ≡ x_n *ℤ d *ℤ e → y *ℤ x_d ≡ x_n *ℤ e
            cancel y x_n x_d d e d_above h = same_cancel (y *ℤ x_d) (x_n *ℤ e) d d_above (turned y x_d d ∙ h ∙ swap_last x_n d e)
              where
                turned : (y x_d d : ℤ) → y *ℤ x_d *ℤ d ≡ y *ℤ (d *ℤ x_d)
                turned y x_d d = rw (parts y, parts x_d, parts d) (simp ring (same_dif _ _ _ _ (omega arith)))

            by : (b : Bool) → b ≡ true → (if b then x.numerator *ℤ p.denominator else p.numerator f *ℤ x.denominator) *ℤ q.denominator
                ≡ x.numerator *ℤ p.denominator *ℤ q.denominator
            by true e = refl
            by false e = absurd (cc)

    -- ---- the system at the point, line by line

    -- the lines whose sets hold the point's codes and that have a factor at f bound the number
    abbrev pub AreBounded : Type 0
    AreBounded = (line : LineParts) → IsIn line (system edits before) → AreCodesIn line.sets (codes_at shape p) → factor line f ≢ pos 0 → IsBoundedAt p f x line

    pub holds-bounded : AllHold (system edits before) at_x → AreBounded
    holds-bounded holds line there inside some =
        let same : line.shape ≡ shape = in-all (λ l. l.shape ≡ shape) line (system edits before)
        (λ k d below. (HaveShape-system shape edits before over k d below).same) there in
        let here : LineHolds line at_x = in-all (λ l. LineHolds l at_x) line (system edits before) holds there in
        let codes : codes_at line.shape at_x ≡ codes_at shape p = ap (λ s. codes_at s at_x) same
        ∙ map-agree at_x.code p.code (code_fields shape) (λ i _. put-code p f (x.numerator *ℤ p.denominator) x.denominator above i) in
        subst (λ (z : ℤ). IsEnough line.relation z) (amount-put p f (p.code f) (x.numerator *ℤ p.denominator) x.denominator above line)
        (here.enough (subst (λ (cs : List ℕ). AreCodesIn line.sets cs) (sym codes) inside))

    pub bounded-holds : AreBounded → AllHold (system edits before) at_x
    bounded-holds bounded = all-in (λ line. LineHolds line at_x) (system edits before) each
      where
        at_p : AllHold (system edits before) p
        at_p = system-follows shape edits before p over (decide.complete p completes.correction completes.agrees)

        each : (line : LineParts) → IsIn line (system edits before) → LineHolds line at_x
        each line there = by_factor (int_eq (factor line f) (pos 0)) refl
          where
            same : line.shape ≡ shape
            same = in-all (λ l. l.shape ≡ shape) line (system edits before) (λ k d below. (HaveShape-system shape edits before over k d below).same) there

            by_factor : (b : Bool) → int_eq (factor line f) (pos 0) ≡ b → LineHolds line at_x
            by_factor true e =
                let differs = put-differs p f (p.code f) (x.numerator *ℤ p.denominator) x.denominator above in
                LineHolds-others line at_x p f (subst (λ (s : List Domain). IsNumerical s f) (sym same) number)
                (record { codes = λ i apart. sym (differs.codes i apart); numbers = λ i apart. sym (differs.numbers i apart) })
                ((Decides-int_eq (factor line f) (pos 0)).0 e) (in-all (λ l. LineHolds l p) line (system edits before) at_p there)
            by_factor false e =
                holds-put line p f (x.numerator *ℤ p.denominator) x.denominator above
                (λ inside. bounded line there (subst (λ (s : List Domain). AreCodesIn line.sets (codes_at s p)) same inside)
                (λ none. absurd (cc (sym e ∙ (Decides-int_eq (factor line f) (pos 0)).1 none))))

    -- where some correction completes the record, the numbers allowed at f are those within the bounds
    pub allowed-bounded : AllowsNumber survey row (f ∷ before) f x ↔ AreBounded
    allowed-bounded = (λ allowed. holds-bounded (allowed-holds allowed), λ bounded. holds-allowed (bounded-holds bounded))
