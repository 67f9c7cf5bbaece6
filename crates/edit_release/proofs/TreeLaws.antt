-- The proof that is written has a tree for each record, over the lines of the rules that are kept and those of its table.
use Rattle.std.proofs.Common.{◌≡◌, ◌∙◌, ◌++◌, ℕ, zero, suc, Bool, true, List, [], ◌∷◌, Option, Some, None, Ok, is_none, length, map, refl, sym, ap, subst}
use Rattle.std.proofs.Common.{append_assoc, append-nil, arith}
use Rattle.std.specs.List.{AllZip}
use Rattle.std.proofs.lemmas.List.{length-map}
use Rattle.edit_model.specs.Parts.{SurveyParts}
use Rattle.edit_model.specs.declared.value.Value.{Value}
use Rattle.edit_line.specs.Lines.{LineParts}
use Rattle.edit_normal.specs.RuleLines.{normal_lines_of}
use Rattle.edit_normal.proofs.NormalLines.{normal-over}
use Rattle.derivation.specs.LineLists.{AreLinesOf, no_record}
use Rattle.derivation.specs.declared.step.Step.{Step}
use Rattle.derivation.proofs.LineListLaws.{table-follows}
use Rattle.bound_cert.specs.SharedTrees.{leaves_in, shared_outcome, shared_rows, table_with_leaves, table_with_rows}
use Rattle.bound_cert.specs.ValidTrees.{tree_case}
use Rattle.bound_cert.specs.declared.outcome.GiftFault.{GiftFault}
use Rattle.bound_cert.specs.declared.outcome.Outcome.{Outcome}
use Rattle.bound_cert.specs.declared.outcome.Outcome.TheVariants.{Budget, Change, Contradictory, Overflow}
use Rattle.bound_cert.specs.declared.outcome.RowProof.{RowProof}
use Rattle.bound_cert.proofs.SharedTreeLaws.{tree-grows, tree-shared}
use Rattle.proof_grammar.specs.declared.proof.Proof.{Proof}
use Rattle.cert_check.specs.Dropped.{kept_flags}
use Rattle.edit_report.specs.declared.end.RowEnd.{RowEnd}
use Rattle.redundancy.proofs.BaseLaws.{verdicts-count}
use Rattle.pruned_rules.specs.Pruned.{rule_flags, rule_verdicts}
use Rattle.pruned_rules.specs.Limits.{pruning_budget}
use Rattle.record_editing.specs.declared.terms.Terms.{Terms}
use Rattle.donor_book.specs.declared.claim.Entry.{Entry}
use Rattle.edit_release.specs.Edits.{proof_of, refutation_by, said, said_of, written_proof}
use Rattle.edit_release.specs.Guarantee.{HasTree, HasTrees, table_premises}
use Rattle.edit_release.proofs.SaidLaws.{flags-said}

-- ---- what the proof says of a record has the tree of its end

module _ (survey : SurveyParts) (lines : List LineParts) (usable : List Bool) where
  said-tree : (row : List Value) (o : Outcome) (stop : Option GiftFault) → HasTree survey lines usable row o
      → HasTree survey lines usable row (said_of o stop).outcome
  said-tree row (Change path zero cert) None has = has
  said-tree row (Change path zero cert) (Some stop) has = has
  said-tree row (Change path (suc w) cert) None has = has
  said-tree row (Change path (suc w) cert) (Some stop) has = has
  said-tree row (Budget path work) stop has = has
  said-tree row (Overflow path event) stop has = has
  said-tree row (Contradictory cert) stop has = has

  said-trees : (rows : List (List Value)) (ends : List RowEnd) → AllZip (λ row (end : RowEnd). HasTree survey lines usable row end.proof.outcome) rows ends
      → AllZip (λ row (s : RowProof). HasTree survey lines usable row s.outcome) rows (map said ends)
  said-trees [] [] each = tt
  said-trees [] (end ∷ ends) each = absurd each
  said-trees (row ∷ rows) [] each = absurd each
  said-trees (row ∷ rows) (end ∷ ends) (first, each) = (said-tree row end.proof.outcome end.proof.gift first, said-trees rows ends each)

-- ---- trees whose lines are put into a table

module _ (survey : SurveyParts) (lines : List LineParts) (usable : List Bool) (even : length lines ≡ length usable) where
  -- the steps of the table give these lines
  abbrev AreLines : List Step → List LineParts → Type 0
  AreLines table shared = AreLinesOf (no_record survey lines usable) table shared

  -- the tree stands over the lines and those of the table
  abbrev HasTreeWith : List LineParts → List Value → Outcome → Type 0
  HasTreeWith shared row o = HasTree survey (lines ++ shared) (usable ++ map (λ (line : LineParts). true) shared) row o

  -- where the table grows
  tree-more : (shared more : List LineParts) (row : List Value) (o : Outcome) → HasTreeWith shared row o → HasTreeWith (shared ++ more) row o
  tree-more shared more row (Change path w cert) has = tree-grows (tree_case survey lines usable row (Some w)) shared more cert.leaves has
  tree-more shared more row (Budget path work) has = tt
  tree-more shared more row (Overflow path event) has = tt
  tree-more shared more row (Contradictory cert) has = tree-grows (tree_case survey lines usable row None) shared more cert.leaves has

  -- of one record
  outcome-tree : (table : List Step) (shared : List LineParts) (row : List Value) (o : Outcome) → AreLines table shared → HasTree survey lines usable row o
      → (more : List LineParts) × AreLines (table_with_leaves table (leaves_in o)) (shared ++ more)
      × HasTreeWith (shared ++ more) row (shared_outcome (length lines) table o)
  outcome-tree table shared row (Change path w cert) are has = tree-shared (tree_case survey lines usable row (Some w)) table shared cert.leaves even are has
  outcome-tree table shared row (Budget path work) are has = ([], are ∙ ap (λ (ls : List LineParts). Ok ls) (sym (append-nil shared)), tt)
  outcome-tree table shared row (Overflow path event) are has = ([], are ∙ ap (λ (ls : List LineParts). Ok ls) (sym (append-nil shared)), tt)
  outcome-tree table shared row (Contradictory cert) are has = tree-shared (tree_case survey lines usable row None) table shared cert.leaves even are has

  -- of all records
  trees-shared : (table : List Step) (shared : List LineParts) (rows : List (List Value)) (saids : List RowProof) → AreLines table shared
      → AllZip (λ row (s : RowProof). HasTree survey lines usable row s.outcome) rows saids
      → (more : List LineParts) × AreLines (table_with_rows table saids) (shared ++ more) × AllZip
      (λ row (s : RowProof). HasTreeWith (shared ++ more) row s.outcome) rows (shared_rows (length lines) table saids)
  trees-shared table shared [] [] are each = ([], are ∙ ap (λ (ls : List LineParts). Ok ls) (sym (append-nil shared)), tt)
  trees-shared table shared [] (s ∷ saids) are each = absurd each
  trees-shared table shared (row ∷ rows) [] are each = absurd each
  trees-shared table shared (row ∷ rows) (s ∷ saids) are (first, each) =
      let (more, more_are, has) = outcome-tree table shared row s.outcome are first in
      let (rest, rest_are, later) = trees-shared (table_with_leaves table (leaves_in s.outcome)) (shared ++ more) rows saids more_are each in
      let joined : (shared ++ more) ++ rest ≡ shared ++ (more ++ rest) = rw append_assoc refl in (
        more ++ rest,
        subst (λ (ls : List LineParts). AreLines (table_with_rows table (s ∷ saids)) ls) joined rest_are,
        subst (λ (ls : List LineParts). AllZip (λ r (t : RowProof). HasTreeWith ls r t.outcome) (row ∷ rows) (shared_rows (length lines) table (s ∷ saids)))
            joined
            (tree-more (shared ++ more) rest row (shared_outcome (length lines) table s.outcome) has, later),
      )

-- ---- the proof of an edit

module _ (survey : SurveyParts) (terms : Terms) (ends : List RowEnd) (history : List Entry) where
  abbrev p : Proof
  p = proof_of survey terms ends history

  -- it says something of each line of the rules
  pub lines-many : length p.verdicts ≡ length (normal_lines_of survey)
  lines-many = length-map (rule_verdicts survey) refutation_by ∙ verdicts-count survey (normal_lines_of survey) pruning_budget 0 (normal_lines_of survey)

  even : length (normal_lines_of survey) ≡ length (kept_flags p)
  even = omega (arith, lines-many, length-map p.verdicts is_none)

  pub has-trees : (rows : List (List Value)) → AllZip (λ row (end : RowEnd). HasTree survey (normal_lines_of survey) (rule_flags survey) row end.proof.outcome)
      rows ends
      → HasTrees survey rows (written_proof survey terms ends history)
  has-trees rows shown =
      let own = subst (λ (usable : List Bool). AllZip (λ row (end : RowEnd). HasTree survey (normal_lines_of survey) usable row end.proof.outcome) rows ends)
      (sym (flags-said (rule_verdicts survey))) shown in
      let (shared, are, each) = trees-shared survey (normal_lines_of survey) (kept_flags p) even [] [] rows p.rows refl
      (said-trees survey (normal_lines_of survey) (kept_flags p) rows ends own) in
      record {
        shared = shared;
        table = are;
        follow = (table-follows (table_premises survey p) (table_with_rows [] p.rows) shared (normal-over survey) are).0;
        each = subst (λ (n : ℕ). AllZip (λ row (s : RowProof). HasTree survey (normal_lines_of survey ++ shared)
            (kept_flags p ++ map (λ (line : LineParts). true) shared) row s.outcome) rows (shared_rows n [] p.rows)) (sym lines-many) each;
      }
