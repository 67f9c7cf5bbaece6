use Rattle.std.proofs.Common.{◌≡◌, ◌&&◌, ◌⊎◌, inl, inr, ℕ, zero, suc, ◌+◌, ◌≤◌, nat_lt, Bool, true, false, if◌then◌else◌, List, [], ◌∷◌, ◌++◌, map, Option}
use Rattle.std.proofs.Common.{Some, None, length, slice_get, append-nil, append_assoc, refl, sym, ap, ◌∙◌, subst, arith}
use Rattle.std.specs.List.{AllByRecursion}
use Rattle.std.proofs.lemmas.Bool.Decides.{Decides-eqb}
use Rattle.std.proofs.lemmas.List.{map-append}
use Rattle.std.specs.Result.{result_unwrap_or}
use Rattle.foundation.specs.Options.{◌>>?◌}
use Rattle.edit_model.specs.Corrections.{is_first}
use Rattle.edit_line.specs.Lines.{LineParts}
use Rattle.edit_line.specs.Reductions.{IsIn}
use Rattle.edit_line.specs.Shapes.{shape_of, whole_sets}
use Rattle.std.specs.Cmp.Lexicographic.{same_text}
use Rattle.edit_line.proofs.BoolLaws.{true-both}
use Rattle.edit_line.proofs.Members.{any-in, in-any, in-either}
use Rattle.edit_line.proofs.SetLaws.{both_true}
use Rattle.derivation.specs.declared.proved.Proved.TheVariants as proved
use Rattle.bound_cert.specs.Paths.{keeps_bad, kept_set, path_weight}
use Rattle.bound_cert.specs.Trees.{Fork, Tip, Tree, leaf_paths}
use Rattle.bound_cert.specs.ValidTrees.{IsValidLeaf, IsValidTree, premises_at, tree_case}
use Rattle.bound_cert.specs.declared.cert.Cert.{Cert}
use Rattle.bound_cert.specs.declared.cert.Leaf.{Leaf}
use Rattle.bound_cert.specs.declared.cert.LeafWhy.{LeafWhy}
use Rattle.bound_cert.specs.declared.cert.LeafWhy.TheVariants as why
use Rattle.bound_cert.specs.declared.outcome.Outcome.TheVariants as outcome
use Rattle.edit_paths.specs.Cases.{AreUsableAmong, SearchCase, IsCase}
use Rattle.edit_paths.specs.Certificates.{certificate_of, has_path, leaf, leaves_by, leaves_from}
use Rattle.edit_paths.specs.Histories.{steps_to}
use Rattle.edit_paths.specs.Outcomes.{outcome_of}
use Rattle.edit_paths.specs.PathHistories.{box_history, line_history}
use Rattle.edit_paths.specs.PathStates.{is_open}
use Rattle.edit_paths.specs.Paths.{field_count}
use Rattle.edit_paths.specs.ReachedPaths.{AreInOrder, changed_next, is_before, kept_next, reached_paths}
use Rattle.edit_paths.specs.States.{state_of}
use Rattle.edit_paths.specs.declared.state.PathState.{PathState}
use Rattle.edit_paths.specs.declared.state.PathState.TheVariants.{ClosedBad, ClosedBox, ClosedLine, Open, Overflows}
use Rattle.edit_paths.proofs.BadFields.{is-bad, not-bad}
use Rattle.edit_paths.proofs.ChoiceLaws.{EndsNot, FoundAt, found-from, none-cert, none-from, sorted-after}
use Rattle.edit_paths.proofs.ClosingSteps.{closing-box, closing-line, only-kept}
use Rattle.edit_paths.proofs.KeptLines.{asks-whole, kept-number}
use Rattle.edit_paths.proofs.LetterLaws.{longer}
use Rattle.edit_paths.proofs.LineHistories.{AreUsable}
use Rattle.edit_paths.proofs.PathOrder.{first-equal, first-self, tells}
use Rattle.edit_paths.proofs.ReachedLaws.{empty-reached, next-reached, reached-sorted}

-- The certificate of an outcome is a valid tree.

-- ---- lists

-- the paths have a path exactly where it is one of them
in-has : (paths : List (List Bool)) (path : List Bool) → has_path paths path ≡ true → IsIn path paths
in-has paths path h =
    let (q, there, both) = in-any (λ q. is_first q path && is_first path q) paths h in
    let (first, second) = both_true (is_first q path) (is_first path q) both in
    subst (λ (x : List Bool). IsIn x paths) (first-equal q path first second) there

has-in : (paths : List (List Bool)) (path : List Bool) → IsIn path paths → has_path paths path ≡ true
has-in paths path there = any-in (λ q. is_first q path && is_first path q) path paths there (true-both _ _ (first-self path) (first-self path))

both-all : {X : Type 0} (P : X → Type 0) (xs ys : List X) → AllByRecursion P xs → AllByRecursion P ys → AllByRecursion P (xs ++ ys)
both-all P [] ys first second = second
both-all P (x ∷ xs) ys first second = (first.0, both-all P xs ys first.1 second)

-- ---- the leaves of a case's trees

module _ (c : SearchCase) (is : IsCase c) (given : List LineParts) (usable : List Bool) (are : AreUsableAmong given usable c.edits) where
  -- why no correction along the path weighs less than the weight
  abbrev IsValid : Option ℕ → List Bool → LeafWhy → Type 0
  IsValid weight path why = IsValidLeaf (tree_case c.survey given usable c.row weight) path why

  module _ (path : List Bool) (none : keeps_bad c.survey.fields c.row path ≡ false) where
    usable_is : AreUsable (premises_at (tree_case c.survey given usable c.row None) path) c.edits
    usable_is e there =
        let (at, may) = are e there in
        ap (λ b. if b then (slice_get given e.0 >>? (λ line. Some (proved.Line line))) else None) may
        ∙ ap (λ (o : Option LineParts). (o >>? (λ line. Some (proved.Line line)))) at

    line-leaf : (weight : Option ℕ) (i : ℕ) → state_of c path ≡ ClosedLine i → IsValid weight path (why.Line (steps_to (line_history c path) i))
    line-leaf weight i e =
        let (line, closing) = closing-line c is path none given usable (kept_set c.survey.fields c.row path) (kept-number c is path none) usable_is i e in
        let (whole, alone) = asks-whole c is path line closing.asks in (
          line,
          closing.valid,
          (
            whole,
            true-both _ _ (only-kept c is path none given usable (kept_set c.survey.fields c.row path) (kept-number c is path none)
                usable_is line closing.over alone) (ap (λ r. (result_unwrap_or r false)) closing.fails),
          ),
        )

    box-leaf : (weight : Option ℕ) (i : ℕ) → state_of c path ≡ ClosedBox i → IsValid weight path (why.Box (steps_to (box_history c path) i))
    box-leaf weight i e =
        let (b, closing) = closing-box c is path none given usable (kept_set c.survey.fields c.row path) (kept-number c is path none) usable_is i e in
        (b.code_box, closing.valid, same_text b.code_box.sets (whole_sets (shape_of c.survey.fields)) (sym closing.whole))

  -- ---- trees from a path on

  -- the leaves are those of a full tree from the path on, none deeper than there are fields, and each is valid
  pub record IsTreeFrom (weight : Option ℕ) (path : List Bool) (leaves : List Leaf) : Type 0 where
    pub tree : Tree
    pub paths : map (λ (leaf : Leaf). leaf.path) leaves ≡ map (λ (rest : List Bool). path ++ rest) (leaf_paths tree)
    pub depth : AllByRecursion (λ (leaf : Leaf). length leaf.path ≤ length c.survey.fields) leaves
    pub each : AllByRecursion (λ (leaf : Leaf). IsValidLeaf (tree_case c.survey given usable c.row weight) leaf.path leaf.why) leaves

  tip : (weight : Option ℕ) (path : List Bool) (w : LeafWhy) → length path ≤ field_count c → IsValid weight path w → IsTreeFrom weight path (leaf path w)
  tip weight path w fits valid = record { tree = Tip; paths = ap (λ (p : List Bool). p ∷ []) (sym (append-nil path)); depth = (fits, tt); each = (valid, tt) }

  moved : (path : List Bool) (b : Bool) (rests : List (List Bool)) → map (λ (rest : List Bool). (path ++ b ∷ []) ++ rest) rests
      ≡ map (λ (rest : List Bool). path ++ rest) (map (λ (rest : List Bool). b ∷ rest) rests)
  moved path b [] = refl
  moved path b (rest ∷ rests) = ap (λ (p : List Bool). p ∷ map (λ (rest : List Bool). (path ++ b ∷ []) ++ rest) rests) (append_assoc path (b ∷ []) rest)
      ∙ ap (λ (ps : List (List Bool)). (path ++ b ∷ rest) ∷ ps) (moved path b rests)

  fork : (weight : Option ℕ) (path : List Bool) (first second : List Leaf) → IsTreeFrom weight (kept_next path) first
      → IsTreeFrom weight (changed_next path) second → IsTreeFrom weight path (first ++ second)
  fork weight path first second kept changed = record {
    tree = Fork kept.tree changed.tree;
    paths =
        map-append (λ (leaf : Leaf). leaf.path) first second
        ∙ ap (λ (ps : List (List Bool)). ps ++ map (λ (leaf : Leaf). leaf.path) second) (kept.paths ∙ moved path false (leaf_paths kept.tree))
        ∙ ap (λ (ps : List (List Bool)). map (λ (rest : List Bool). path ++ rest) (map (λ (rest : List Bool). false ∷ rest) (leaf_paths kept.tree)) ++ ps)
        (changed.paths ∙ moved path true (leaf_paths changed.tree))
        ∙ sym (map-append (λ (rest : List Bool). path ++ rest) (map (λ (rest : List Bool). false ∷ rest) (leaf_paths kept.tree))
        (map (λ (rest : List Bool). true ∷ rest) (leaf_paths changed.tree)));
    depth = both-all (λ (leaf : Leaf). length leaf.path ≤ length c.survey.fields) first second kept.depth changed.depth;
    each = both-all (λ (leaf : Leaf). IsValidLeaf (tree_case c.survey given usable c.row weight) leaf.path leaf.why) first second kept.each changed.each;
  }

  module _ (weight : Option ℕ) (taken : List (List Bool)) (each : (p : List Bool) → IsIn p taken → EndsNot c p)
      (bound : (p : List Bool) → IsIn p (reached_paths c) → (IsIn p taken → ⊥) → IsValid weight p why.Bound) where
    -- a path that is taken is closed, or leads on
    closed-from : (path : List Bool) (below : List Leaf) → length path ≤ field_count c → IsIn path taken → (s : PathState) → state_of c path ≡ s
        → (s ≡ Open → IsTreeFrom weight path below) → IsTreeFrom weight path (leaves_by c path below s)
    closed-from path below fits known Open e open_tree = open_tree refl
    closed-from path below fits known ClosedBad e open_tree = tip weight path why.BadKept fits (is-bad c path e)
    closed-from path below fits known (ClosedLine i) e open_tree = tip weight path _ fits (line-leaf path (not-bad c path (ClosedLine i) e (λ h. absurd (cc)))
        weight i e)
    closed-from path below fits known (ClosedBox i) e open_tree = tip weight path _ fits (box-leaf path (not-bad c path (ClosedBox i) e (λ h. absurd (cc)))
        weight i e)
    closed-from path below fits known (Overflows event) e open_tree = absurd ((each path known).0 event e)

    -- the leaves from a reached path on are a valid tree
    tree-from : (left : ℕ) (path : List Bool) → length path + left ≡ field_count c → IsIn path (reached_paths c)
        → IsTreeFrom weight path (leaves_from c taken left path)
    tree-from zero path sum there = by (has_path taken path) refl
      where
        by : (h : Bool) → has_path taken path ≡ h → IsTreeFrom weight path (if h then leaves_by c path [] (state_of c path) else leaf path why.Bound)
        by true h =
            closed-from path [] (omega (arith, sum)) (in-has taken path h) (state_of c path) refl
            (λ opened. absurd ((each path (in-has taken path h)).1 opened ((Decides-eqb (length path) (field_count c)).1 (omega (arith, sum)))))
        by false h = tip weight path why.Bound (omega (arith, sum)) (bound path there (λ known. cc (sym h ∙ has-in taken path known)))
    tree-from (suc left) path sum there =
        by (has_path taken path) refl (λ h. tree-from left (kept_next path) (omega (arith, sum, longer path false)) h)
        (λ h. tree-from left (changed_next path) (omega (arith, sum, longer path true)) h)
      where
        by : (h : Bool) → has_path taken path ≡ h
            → (IsIn (kept_next path) (reached_paths c) → IsTreeFrom weight (kept_next path) (leaves_from c taken left (kept_next path)))
            → (IsIn (changed_next path) (reached_paths c) → IsTreeFrom weight (changed_next path) (leaves_from c taken left (changed_next path)))
            → IsTreeFrom weight path (if h then leaves_by c path (leaves_from c taken left (kept_next path) ++ leaves_from c taken left (changed_next path))
            (state_of c path) else leaf path why.Bound)
        by true h first second =
            closed-from path (leaves_from c taken left (kept_next path) ++ leaves_from c taken left (changed_next path)) (omega (arith, sum))
            (in-has taken path h) (state_of c path) refl
            (λ opened. fork weight path (leaves_from c taken left (kept_next path)) (leaves_from c taken left (changed_next path))
            (first (next-reached c path false there (ap is_open opened) (omega (arith, sum))))
            (second (next-reached c path true there (ap is_open opened) (omega (arith, sum)))))
        by false h first second = tip weight path why.Bound (omega (arith, sum)) (bound path there (λ known. cc (sym h ∙ has-in taken path known)))

    tree-all : IsValidTree (tree_case c.survey given usable c.row weight) (certificate_of c taken)
    tree-all =
        let all = tree-from (field_count c) [] (omega arith) (empty-reached c) in
        record { full = (all.tree, all.paths ∙ plain (leaf_paths all.tree)); depth = all.depth; each = all.each }
      where
        plain : (paths : List (List Bool)) → map (λ (rest : List Bool). [] ++ rest) paths ≡ paths
        plain [] = refl
        plain (path ∷ paths) = ap (λ (ps : List (List Bool)). path ∷ ps) (plain paths)

  -- the certificate of a contradiction is a valid tree without a weight
  pub contradiction-tree : (budget : ℕ) (cert : Cert) → outcome_of c budget ≡ outcome.Contradictory cert
      → IsValidTree (tree_case c.survey given usable c.row None) cert.leaves
  contradiction-tree budget cert e =
      subst (λ (leaves : List Leaf). IsValidTree (tree_case c.survey given usable c.row None) leaves) (sym (none-cert c budget [] (reached_paths c) cert e))
      (tree-all None (reached_paths c) (none-from c budget [] (reached_paths c) cert e) (λ p there other. absurd (other there)))

  -- that of a change is a valid tree with its weight
  pub change-tree : (budget : ℕ) (path : List Bool) (weight : ℕ) (cert : Cert) → outcome_of c budget ≡ outcome.Change path weight cert
      → IsValidTree (tree_case c.survey given usable c.row (Some weight)) cert.leaves
  change-tree budget path weight cert e =
      let found = found-from c budget [] (reached_paths c) path weight cert e in
      subst (λ (leaves : List Leaf). IsValidTree (tree_case c.survey given usable c.row (Some weight)) leaves) (sym found.cert_is)
      (by found (nat_lt 0 (path_weight c.survey.fields path)) refl)
    where
      by : (found : FoundAt c [] (reached_paths c) path weight cert) → (b : Bool) → nat_lt 0 (path_weight c.survey.fields path) ≡ b
          → IsValidTree (tree_case c.survey given usable c.row (Some weight)) (certificate_of c (if b then [] ++ found.before else []))
      by found true some =
          tree-all (Some weight) found.before found.not_before
          (λ p there other. bound p (in-either p found.before (path ∷ found.after) (subst (λ (ps : List (List Bool)). IsIn p ps) found.paths_are there))
          other)
        where
          lighter : (p : List Bool) → is_before c.survey.fields path p ≡ true → weight ≤ path_weight c.survey.fields p
          lighter p h = elim (tells (path_weight c.survey.fields path) (path_weight c.survey.fields p) (is_first path p) h) [
            | inl less ↦ omega (arith, less, found.weight_is)
            | inr both ↦ omega (arith, both.0, found.weight_is)
          ]

          bound : (p : List Bool) → IsIn p found.before ⊎ IsIn p (path ∷ found.after) → (IsIn p found.before → ⊥) → weight ≤ path_weight c.survey.fields p
          bound p (inl early) other = absurd (other early)
          bound p (inr (inl same)) other = omega (arith, found.weight_is, ap (λ (q : List Bool). path_weight c.survey.fields q) same)
          bound p (inr (inr late)) other =
              lighter p
              (sorted-after c is found.before path p found.after
              (subst (λ (ps : List (List Bool)). AreInOrder (is_before c.survey.fields) ps) found.paths_are (reached-sorted c)) late)
      by found false none = tree-all (Some weight) [] (λ p nothing. absurd nothing) (λ p there other. omega (arith, found.weight_is, least none))
        where
          least : nat_lt 0 (path_weight c.survey.fields path) ≡ false → path_weight c.survey.fields path ≤ 0
          least h = grind (arith, h)
