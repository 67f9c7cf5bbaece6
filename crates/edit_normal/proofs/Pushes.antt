use Rattle.std.proofs.Common.{◌≡◌, ℕ, suc, ◌<◌, ◌≤◌, ◌++◌, Bool, true, false, List, [], ◌∷◌, All, get_or, length, map, replicate, drop, ℤ, pos, negsuc, refl}
use Rattle.std.proofs.Common.{sym, ap, ◌∙◌, subst, arith, append-nil}
use Rattle.std.specs.Prelude.{OnOk, Result}
use Rattle.std.proofs.Math.Seq.{drop-cons}
use Rattle.std.proofs.lemmas.List.{drop_all, length-replicate}
use Rattle.std.proofs.lemmas.List.Elements.{All-replicate}
use Rattle.edit_line.specs.inner.SetBounds.{AreWithin}
use Rattle.fraction128.specs.Range.{InRange}
use Rattle.edit_model.specs.declared.rule.Linear.{Linear}
use Rattle.edit_model.specs.declared.rule.Test.{Test}
use Rattle.edit_model.specs.declared.rule.Test.TheVariants.{Number}
use Rattle.edit_line.specs.Divisors.{reduced}
use Rattle.edit_line.specs.Lines.{IsLine, LineParts, parts_of}
use Rattle.edit_line.specs.Sets.{none_is_empty}
use Rattle.edit_line.specs.Shapes.{Domain, number_fields, whole_sets}
use Rattle.edit_line.specs.Negations.{never}
use Rattle.edit_line.proofs.NegationLines.{zeros-are}
use Rattle.edit_line.specs.declared.relation.Relation.{Relation}
use Rattle.edit_line.specs.declared.relation.Relation.TheVariants.{AtLeast}
use Rattle.edit_line.proofs.RelationLaws.{least_apart}
use Rattle.edit_line.proofs.SetLaws.{AreSets-within}
use Rattle.edit_normal.specs.NormalForm.{condition_lines, conclusion_lines, implied_lines, term_factor}
use Rattle.edit_normal.specs.inner.Sides.{is_negative, joined_by, relation_of, side_line, signed}
use Rattle.edit_normal.specs.declared.rule_line.RuleLine.{RuleLine}
use Rattle.edit_normal.specs.declared.side.Side.{Side}
use Rattle.edit_normal.specs.declared.side.Side.TheVariants.{Above, AtMost, Below, Zero}
use Rattle.edit_normal.specs.declared.side.Side.TheVariants as side

-- Steps of the calls that append lines.

-- a line without an empty set is put last
pub pushed : (before after : List RuleLine) (rule : ℕ) (line : LineParts) → none_is_empty line.sets ≡ true → after ≡ before
    ++ record { rule = rule; line = line } ∷ [] → after ≡ joined_by before rule (line ∷ [])
pushed before after rule line full is = rw full is

-- and one with an empty set is not
pub skipped : (before : List RuleLine) (rule : ℕ) (line : LineParts) → none_is_empty line.sets ≡ false → before ≡ joined_by before rule (line ∷ [])
skipped before rule line empty = rw empty (sym (append-nil before))

-- the sets of a side's line
pub side_line-sets : (shape : List Domain) (sets : List ℕ) (e : Linear) (side : Side) → (side_line shape sets e side).sets ≡ sets
unfolding reduced
side_line-sets shape sets e side.AtLeast = refl
side_line-sets shape sets e Above = refl
side_line-sets shape sets e AtMost = refl
side_line-sets shape sets e Below = refl
side_line-sets shape sets e Zero = refl

side_line-parts : (shape : List Domain) (sets : List ℕ) (e : Linear) (side : Side)
    → reduced (parts_of shape sets (map (λ f. signed (is_negative side) (term_factor e.terms f)) (number_fields shape)) (signed (is_negative side) e.constant)
    (relation_of side)) ≡ side_line shape sets e side
side_line-parts shape sets e side.AtLeast = refl
side_line-parts shape sets e Above = refl
side_line-parts shape sets e AtMost = refl
side_line-parts shape sets e Below = refl
side_line-parts shape sets e Zero = refl

-- a side's line, from its parts
pub side_line-is : (own shape : List Domain) (seen sets fields : List ℕ) (factors : List ℤ) (constant : ℤ) (relation : Relation) (negative : Bool) (e : Linear)
    (side : Side)
    → own ≡ shape → seen ≡ sets → fields ≡ number_fields shape → negative ≡ is_negative side → factors
    ≡ map (λ f. signed negative (term_factor e.terms f)) fields → constant ≡ signed negative e.constant → relation ≡ relation_of side
    → reduced (parts_of own seen factors constant relation) ≡ side_line shape sets e side
side_line-is own shape seen sets fields factors constant relation negative e side own_is seen_is fields_are negative_is factors_are constant_is relation_is =
    let all : factors ≡ map (λ f. signed (is_negative side) (term_factor e.terms f)) (number_fields shape) =
    factors_are ∙ ap (λ b. map (λ f. signed b (term_factor e.terms f)) fields) negative_is
    ∙ ap (λ fs. map (λ f. signed (is_negative side) (term_factor e.terms f)) fs) fields_are in
    let last : constant ≡ signed (is_negative side) e.constant = constant_is ∙ ap (λ b. signed b e.constant) negative_is in
    (λ i. reduced (parts_of (own_is i) (seen_is i) (all i) (last i) (relation_is i))) ∙ side_line-parts shape sets e side

-- ---- the line -1 >= 0

pub never-is : (own shape : List Domain) (sets fields : List ℕ) (factors : List ℤ) → own ≡ shape → fields ≡ number_fields shape → factors
    ≡ replicate (length fields) (pos 0) → parts_of own sets factors (negsuc 0) AtLeast ≡ never shape sets
never-is own shape sets fields factors own_is fields_are factors_are =
    let all : factors ≡ map (λ (f : ℕ). pos 0) (number_fields shape) = factors_are ∙ ap (λ (fs : List ℕ). replicate (length fs) (pos 0)) fields_are
    ∙ zeros-are (number_fields shape) (length (number_fields shape)) refl in
    λ i. parts_of (own_is i) sets (all i) (negsuc 0) AtLeast

pub never-line : (own shape : List Domain) (sets fields : List ℕ) (factors : List ℤ) → own ≡ shape → fields ≡ number_fields shape → factors
    ≡ replicate (length fields) (pos 0)
    → none_is_empty sets ≡ true → AreWithin sets (whole_sets shape) → IsLine (parts_of own sets factors (negsuc 0) AtLeast)
never-line own shape sets fields factors own_is fields_are factors_are full within = record {
  sets = AreSets-within sets (whole_sets own) full (subst (λ (s : List Domain). AreWithin sets (whole_sets s)) (sym own_is) within);
  factors = ap length factors_are ∙ length-replicate (length fields) (pos 0) ∙ ap length fields_are
      ∙ ap (λ (s : List Domain). length (number_fields s)) (sym own_is);
  in_range = (subst (λ (ns : List ℤ). All InRange ns) (sym factors_are) (All-replicate InRange (length fields) (pos 0) (omega arith)), omega arith);
  whole = λ equal. absurd (least_apart equal);
}

-- ---- the conditions of a rule, one after the other

module _ (shape : List Domain) (sets : List ℕ) (conditions : List Test) (conclusion t : Test) (i : ℕ) (whole : List LineParts) (below : i < length conditions)
    (here : t ≡ get_or conditions i t)
    (same : implied_lines shape sets (drop i conditions) conclusion ≡ whole) where
  pub next-condition : implied_lines shape sets (t ∷ drop (suc i) conditions) conclusion ≡ whole
  next-condition = ap (λ (s : Test). implied_lines shape sets (s ∷ drop (suc i) conditions) conclusion) here
      ∙ sym (ap (λ (ts : List Test). implied_lines shape sets ts conclusion) (drop-cons conditions i t below)) ∙ same

-- a comparison ends the conditions
pub condition-ends : (shape : List Domain) (sets : List ℕ) (conditions : List Test) (conclusion t : Test) (e : Linear) (i : ℕ) (whole : List LineParts)
    → i < length conditions → t ≡ get_or conditions i t → t ≡ Number e
    → implied_lines shape sets (drop i conditions) conclusion ≡ whole → condition_lines shape sets e conclusion ≡ whole
condition-ends shape sets conditions conclusion t e i whole below here is same =
    sym (ap (λ (s : Test). implied_lines shape sets (s ∷ drop (suc i) conditions) conclusion) is)
    ∙ next-condition shape sets conditions conclusion t i whole below here same

-- past the last condition comes the conclusion
pub conditions-end : (shape : List Domain) (sets : List ℕ) (conditions : List Test) (conclusion : Test) (i : ℕ) (whole : List LineParts) → length conditions ≤ i
    → implied_lines shape sets (drop i conditions) conclusion ≡ whole → conclusion_lines shape sets conclusion ≡ whole
conditions-end shape sets conditions conclusion i whole past same =
    sym (ap (λ (ts : List Test). implied_lines shape sets ts conclusion) (drop_all i conditions past)) ∙ same

-- what a call appended, under the lines' other name
pub joined-from : {T E : Type 0} (r : Result T E) (after before old : List RuleLine) (rule : ℕ) (lines whole : List LineParts) → before ≡ old → lines ≡ whole
    → OnOk r (after ≡ joined_by before rule lines) → OnOk r (after ≡ joined_by old rule whole)
joined-from r after before old rule lines whole same are h =
    subst (λ (ls : List LineParts). OnOk r (after ≡ joined_by old rule ls)) are (subst (λ (bs : List RuleLine). OnOk r (after ≡ joined_by bs rule lines)) same
    h)
