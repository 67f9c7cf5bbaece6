use Rattle.std.proofs.Common.{◌≡◌, ◌≢◌, ◌↔◌, ℕ, ◌<◌, ◌++◌, ◌&&◌, Bool, true, false, List, [], ◌∷◌, inl, inr, length, refl, sym, ap, ◌∙◌, subst, arith}
use Rattle.std.specs.List.{AllByRecursion, flat_map}
use Rattle.std.proofs.lemmas.List.Elements.{All-append}
use Rattle.edit_model.specs.Corrections.{IsCorrection, path_order}
use Rattle.edit_model.specs.FieldSets.{has_number}
use Rattle.edit_model.specs.Parts.{SurveyParts}
use Rattle.edit_model.specs.Points.{HasCodesFrom, Holds, Point}
use Rattle.edit_model.specs.RowPoints.{Agrees}
use Rattle.edit_model.specs.Rows.{IsRow, is_bad, value_of}
use Rattle.edit_model.specs.Surveys.{IsRule, IsWellFormed}
use Rattle.edit_model.specs.declared.rule.Rule.{Rule}
use Rattle.edit_model.specs.declared.value.Value.{Value}
use Rattle.edit_model.specs.declared.value.Value.TheVariants.{Bad}
use Rattle.edit_model.proofs.RowLaws.{row-length}
use Rattle.edit_line.specs.Lines.{AllHold, LineHolds}
use Rattle.edit_line.specs.Reductions.{IsIn}
use Rattle.edit_line.specs.Shapes.{Domain, HasCodes, shape_of}
use Rattle.edit_line.proofs.FieldLists.{has-there, there-has}
use Rattle.edit_line.proofs.Members.{all-in, any-in, in-all, in-either, in-filter, in-filter-out, in-flat_map-out, in-left, in-right}
use Rattle.edit_line.proofs.ShapeLaws.{HasCodes-shape}
use Rattle.edit_normal.specs.NormalForm.{rule_lines_of}
use Rattle.edit_normal.proofs.NormalLaws.{FitsRule, normal-Decides}
use Rattle.edit_normal.proofs.RuleEditLaws.{placed-lines}
use Rattle.edit_normal.proofs.RuleForms.{fits-rule}
use Rattle.edit_paths.specs.Cases.{Meets, case_of}
use Rattle.edit_paths.proofs.FieldPlaces.{order-within}
use Rattle.back_subst.proofs.StartLaws.{in-order}
use Rattle.panel_link.specs.LinkedCorrections.{AgreesAt, IsLinkedCorrection, lacks_value}
use Rattle.panel_link.specs.Pins.{fixed_fields, kept_rules, linked_edits, linked_lines, pinned, value_kept}
use Rattle.panel_link.proofs.PinRules.{kept-fits, value-kept}

-- The lines and the pins hold at a point exactly where it is a correction that leaves the fixed fields alone.

-- ---- the lines of rules that fit

rules-hold : (shape : List Domain) (p : Point) → HasCodes 0 shape p → (rules : List Rule)
    → ((rule : Rule) → IsIn rule rules → FitsRule shape rule.conditions rule.conclusion)
    → AllHold (flat_map (λ rule. rule_lines_of shape rule) rules) p ↔ AllByRecursion (λ rule. Holds rule p) rules
rules-hold shape p held [] fit = (λ _. tt, λ _. λ k d below. absurd (omega arith))
rules-hold shape p held (rule ∷ rules) fit =
    let truth = normal-Decides shape rule p (fit rule (inl refl)) held in
    let rest = rules-hold shape p held rules (λ r there. fit r (inr there)) in
    let own = rule_lines_of shape rule in
    let others = flat_map (λ rule. rule_lines_of shape rule) rules in (
      λ hold. (
        truth.1 (all-in (λ line. LineHolds line p) own (λ line there. in-all (λ line. LineHolds line p) line (own ++ others) hold
            (in-left line own others there))),
        rest.0 (all-in (λ line. LineHolds line p) others (λ line there. in-all (λ line. LineHolds line p) line (own ++ others) hold
            (in-right line own others there))),
      ),
      λ hold. All-append (λ line. LineHolds line p) own others (truth.0 hold.0) (rest.1 hold.1),
    )

-- ---- two lists of rules

both-lists : (p : Point) (xs ys : List Rule) → AllByRecursion (λ (r : Rule). Holds r p) (xs ++ ys)
    ↔ (AllByRecursion (λ (r : Rule). Holds r p) xs × AllByRecursion (λ (r : Rule). Holds r p) ys)
both-lists p [] ys = (λ all. (tt, all), λ both. both.1)
both-lists p (x ∷ xs) ys =
    let rest = both-lists p xs ys in (λ all. let more = rest.0 all.1 in ((all.0, more.0), more.1), λ both. (both.0.0, rest.1 (both.0.1, both.1)))

-- ---- the rules that fields keep their values

some-value : (v : Value) → is_bad v ≡ false → v ≢ Bad
some-value v some bad = cc (sym some ∙ ap is_bad bad)

kept-agree : (row : List Value) (p : Point) (fields : List ℕ) → ((f : ℕ) → IsIn f fields → value_of row f ≢ Bad)
    → AllByRecursion (λ (r : Rule). Holds r p) (kept_rules row fields) ↔ ((f : ℕ) → IsIn f fields → Agrees row p f)
kept-agree row p [] some = (λ _ f none. absurd none, λ _. tt)
kept-agree row p (f ∷ fields) some =
    let own = value-kept p f (value_of row f) (some f (inl refl)) in
    let rest = kept-agree row p fields (λ g there. some g (inr there)) in
    let both = both-lists p (value_kept f (value_of row f)) (kept_rules row fields) in (
      λ all g there. let parts = both.0 all in at parts g there (own.0 parts.0) (rest.0 parts.1),
      λ agree. both.1 (own.1 (agree f (inl refl)), rest.1 (λ g there. agree g (inr there))),
    )
  where
    at : {P : Type 0} → P → (g : ℕ) → IsIn g (f ∷ fields) → Agrees row p f → ((h : ℕ) → IsIn h fields → Agrees row p h) → Agrees row p g
    at parts g (inl same) here later = subst (λ n. Agrees row p n) (sym same) here
    at parts g (inr there) here later = later g there

module _ (survey : SurveyParts) (row : List Value) (fixed : ℕ) (is_row : IsRow survey.fields row) where
  -- ---- the fixed fields

  pub fixed-in : (f : ℕ) → f < length row → has_number fixed f ≡ true → IsIn f (fixed_fields survey.fields fixed)
  fixed-in f below has =
      in-filter (has_number fixed) f (path_order survey.fields) has
      (has-there f (path_order survey.fields) (in-order survey.fields f (omega (arith, below, row-length survey.fields row is_row))))

  pub fixed-out : (f : ℕ) → IsIn f (fixed_fields survey.fields fixed) → (f < length row) × (has_number fixed f ≡ true)
  fixed-out f there =
      let (among, has) = in-filter-out (has_number fixed) f (path_order survey.fields) there in
      let below = order-within survey.fields f (there-has f (path_order survey.fields) among) in
      (omega (arith, below, row-length survey.fields row is_row), has)

  pub agree-fixed : (p : Point) → ((f : ℕ) → IsIn f (fixed_fields survey.fields fixed) → Agrees row p f) ↔ AgreesAt row fixed p
  agree-fixed p = (λ agree f below has. agree f (fixed-in f below has), λ agree f there. let (below, has) = fixed-out f there in agree f below has)

  module _ (values : lacks_value survey row fixed ≡ false) where
    some-there : (f : ℕ) → IsIn f (fixed_fields survey.fields fixed) → value_of row f ≢ Bad
    some-there f there bad =
        let (among, has) = in-filter-out (has_number fixed) f (path_order survey.fields) there in
        cc (sym values ∙ any-in (λ g. has_number fixed g && is_bad (value_of row g)) f (path_order survey.fields) among
        (ap (λ (b : Bool). b && is_bad (value_of row f)) has ∙ ap is_bad bad))

    -- a correction of the survey with these rules is one that leaves the fixed fields alone
    pub pinned-correction : (p : Point) → IsCorrection (pinned survey row fixed) p ↔ IsLinkedCorrection survey row fixed p
    pinned-correction p =
        let kept = kept-agree row p (fixed_fields survey.fields fixed) some-there in
        let fields = agree-fixed p in
        let both = both-lists p survey.rules (kept_rules row (fixed_fields survey.fields fixed)) in (
          λ correction. record {
            correction = record { codes = correction.codes; rules = (both.0 correction.rules).0 };
            agrees = fields.0 (kept.0 (both.0 correction.rules).1);
          },
          λ linked. record { codes = linked.correction.codes; rules = both.1 (linked.correction.rules, kept.1 (fields.1 linked.agrees)) },
        )

    module _ (well : IsWellFormed survey) where
      fit-all : (rule : Rule) → IsIn rule (pinned survey row fixed).rules → FitsRule (shape_of survey.fields) rule.conditions rule.conclusion
      fit-all rule there = elim (in-either rule survey.rules (kept_rules row (fixed_fields survey.fields fixed)) there) [
        | inl own ↦ fits-rule survey.fields rule (in-all (IsRule survey.fields) rule survey.rules well.rules own)
        | inr kept ↦ let (f, f_in, made) = in-flat_map-out (λ f. value_kept f (value_of row f)) rule (fixed_fields survey.fields fixed) kept in
            kept-fits survey.fields row f rule is_row made
      ]

      lines-hold : (p : Point) → HasCodesFrom 0 survey.fields p
          → AllHold (linked_lines survey row fixed) p ↔ AllByRecursion (λ (r : Rule). Holds r p) (pinned survey row fixed).rules
      lines-hold p codes = rules-hold (shape_of survey.fields) p (HasCodes-shape 0 survey.fields p codes) (pinned survey row fixed).rules fit-all

      -- so do the lines and the pins
      pub pins-tell : (p : Point) → (HasCodesFrom 0 survey.fields p × AllHold (linked_lines survey row fixed) p) ↔ IsLinkedCorrection survey row fixed p
      pins-tell p =
          let correction = pinned-correction p in (
            λ both. correction.0 (record { codes = both.0; rules = (lines-hold p both.0).0 both.1 }),
            λ linked. let is = correction.1 linked in (is.codes, (lines-hold p is.codes).1 is.rules),
          )

      -- and the edits that are made of them
      pub edits-tell : (p : Point) → Meets (case_of survey (linked_edits survey row fixed) row) p ↔ IsLinkedCorrection survey row fixed p
      edits-tell p =
          let told = pins-tell p in
          let lines = placed-lines 0 (linked_lines survey row fixed) in (
            λ meets. told.0 (meets.codes, subst (λ ls. AllHold ls p) lines meets.edits),
            λ linked. let both = told.1 linked in record { codes = both.0; edits = subst (λ ls. AllHold ls p) (sym lines) both.1 },
          )
