use Rattle.std.proofs.Common.{◌≡◌, ◌≢◌, ◌&&◌, ◌||◌, ◌==◌, ℕ, suc, ◌+◌, ◌<◌, ◌≤◌, Bool, true, false, not, if◌then◌else◌, nat_lt, List, [], ◌∷◌, ◌++◌}
use Rattle.std.proofs.Common.{length, drop, slice_index_or, refl, sym, ap, ◌∙◌, subst, arith}
use Rattle.std.specs.List.{AllByRecursion, filter, fold, sum_by}
use Rattle.std.proofs.lemmas.Bool.Decides.{Decides-eqb}
use Rattle.std.proofs.lemmas.List.{at_drop_all, at_drop_more}
use Rattle.edit_model.specs.Corrections.{is_first, path_order}
use Rattle.edit_model.specs.Words.{weight_at}
use Rattle.std.specs.Arc.{arc_value}
use Rattle.linear_elim.specs.declared.held.Held.{Held}
use Rattle.bound_cert.specs.Paths.{changes, path_weight}
use Rattle.edit_paths.specs.Cases.{SearchCase}
use Rattle.edit_paths.specs.PathStates.{is_open}
use Rattle.edit_paths.specs.Paths.{before_last, field_count, is_complete}
use Rattle.edit_paths.specs.ReachedPaths.{changed_next, is_before, kept_next, placed}
use Rattle.edit_paths.specs.States.{IsOpen, boxes_along, state_of}
use Rattle.edit_paths.specs.Walks.{next_paths}
use Rattle.edit_paths.specs.declared.state.PathState.{PathState}
use Rattle.edit_paths.specs.declared.state.PathState.TheVariants.{ClosedBad, ClosedBox, ClosedLine, Open, Overflows}
use Rattle.edit_paths.proofs.ChildLaws.{child-before, child-weight}
use Rattle.edit_paths.proofs.LetterLaws.{longer}
use Rattle.path_walk.specs.Bases.{IsBasis, IsBasisBefore, IsPathSystem}
use Rattle.path_walk.specs.KeptFields.{KeepsChanged}
use Rattle.path_walk.specs.declared.looks.Basis.{Basis}
use Rattle.path_walk.specs.declared.looks.Basis.TheVariants.{Boxes, Lines}
use Rattle.localise_tree.specs.declared.ends.Node.{Node}
use Rattle.localise_tree.specs.inner.Nodes.{AreKept, IsFirstEnd, IsNode, IsOfSystem, before, paths_of}

-- The ends of a search: nodes whose paths are reached.

-- ---- words

pub first-long : (a b : List Bool) (i : ℕ) → i < length a → length b ≤ i → is_first (drop i a) (drop i b) ≡ is_first a b → false ≡ is_first a b
first-long a b i below past so_far =
    sym (at_drop_more (λ (l : List Bool). is_first l (drop i b)) a i false below
    ∙ at_drop_all (λ (l : List Bool). is_first (slice_index_or a i false ∷ drop (i + 1) a) l) b i past) ∙ so_far

-- ---- bases

basis-before : (c : SearchCase) (path more : List Bool) (k : Basis) → length more ≡ suc (length path) → before_last more ≡ path → IsBasis c path k
    → IsBasisBefore c more k
basis-before c path more (Lines system) longer parent is =
    (omega (arith, longer, is.0), subst (λ (p : List Bool). IsPathSystem c p (arc_value system)) (sym parent) is.1)
basis-before c path more (Boxes boxes) longer parent is = (omega (arith, longer, is.0), is.1 ∙ ap (λ (p : List Bool). boxes_along c p) (sym parent))

-- ---- nodes

none-changed : (c : SearchCase) (fs : List ℕ) → filter (changes c.survey.fields []) fs ≡ []
none-changed c [] = refl
none-changed c (f ∷ fs) = none-changed c fs

-- the node of the empty path
first-node : (c : SearchCase) (held : Held) (before : Basis) → IsOfSystem held before → IsPathSystem c [] held
    → IsNode c (record { path = []; weight = 0; before = before })
first-node c held (Boxes boxes) is made = absurd is
first-node c held (Lines system) is made = record {
  fit = omega arith;
  weight = sym (ap (λ (fs : List ℕ). sum_by (weight_at c.survey.fields) fs) (none-changed c (path_order c.survey.fields)));
  few = omega arith;
  reached = λ some. absurd (omega (arith, some));
  basis = (omega arith, subst (λ (h : Held). IsPathSystem c [] h) (sym is) made);
}

pub first-nodes : (c : SearchCase) (held : Held) (ends : List Node) → IsFirstEnd held ends → IsPathSystem c [] held → AllByRecursion (IsNode c) ends
first-nodes c held ends (before, are, is) made = subst (λ (ns : List Node). AllByRecursion (IsNode c) ns) (sym are) (first-node c held before is made, tt)

module _ (c : SearchCase) (node more : Node) (b : Bool) (is_node : IsNode c node) (short : length node.path < field_count c)
    (path_is : more.path ≡ node.path ++ b ∷ []) where
  counted : length more.path ≡ suc (length node.path)
  counted = ap (λ (p : List Bool). length p) path_is ∙ longer node.path b

  parent : before_last more.path ≡ node.path
  parent = ap (λ (p : List Bool). before_last p) path_is ∙ child-before c node.path b short

  -- the node of a path with one letter more
  pub child-node : state_of c node.path ≡ Open → (added : ℕ)
      → added ≡ (if b then weight_at c.survey.fields (slice_index_or (path_order c.survey.fields) (length node.path) 0) else 0) → added ≤ 1000
      → more.weight ≡ node.weight + added → IsBasis c node.path more.before → IsNode c more
  child-node is_open added is few weighs basis = record {
    fit = omega (arith, short, counted);
    weight =
        weighs ∙ ap (λ (n : ℕ). n + added) is_node.weight ∙ ap (λ (n : ℕ). path_weight c.survey.fields node.path + n) is
        ∙ sym (ap (λ (p : List Bool). path_weight c.survey.fields p) path_is ∙ child-weight c node.path b short);
    few = omega (arith, weighs, few, is_node.few, counted);
    reached = λ some. subst (λ (p : List Bool). IsOpen c p) (sym parent) is_open;
    basis = basis-before c node.path more.path more.before counted parent basis;
  }

  pub child-kept : (keeps : ℕ → Bool) → KeepsChanged keeps c node.path → KeepsChanged keeps c (before_last more.path)
  child-kept keeps kept = subst (λ (p : List Bool). KeepsChanged keeps c p) (sym parent) kept

-- ---- an end at its place

pub placed-all : (P : Node → Type 0) (ends : List Node) (node : Node) → AllByRecursion P ends → P node → AllByRecursion P (placed before ends node)
placed-all P [] node are is = (is, tt)
placed-all P (x ∷ ends) node are is = by (before x node) (placed-all P ends node are.1 is)
  where
    by : (t : Bool) → AllByRecursion P (placed before ends node) → AllByRecursion P (if t then x ∷ placed before ends node else node ∷ x ∷ ends)
    by true rest = (are.0, rest)
    by false rest = (is, are)

pub before-paths : (c : SearchCase) (a b : Node) → IsNode c a → IsNode c b → before a b ≡ is_before c.survey.fields a.path b.path
before-paths c a b is_a is_b =
    ap (λ (n : ℕ). nat_lt n b.weight || ((n == b.weight) && is_first a.path b.path)) is_a.weight
    ∙ ap (λ (n : ℕ). nat_lt (path_weight c.survey.fields a.path) n || ((path_weight c.survey.fields a.path == n) && is_first a.path b.path)) is_b.weight

pub placed-paths : (c : SearchCase) (ends : List Node) (node : Node) → AllByRecursion (IsNode c) ends → IsNode c node
    → paths_of (placed before ends node) ≡ placed (is_before c.survey.fields) (paths_of ends) node.path
placed-paths c [] node are is = refl
placed-paths c (x ∷ ends) node are is =
    by (before x node) (placed-paths c ends node are.1 is)
    ∙ ap (λ (t : Bool). if t then x.path ∷ placed (is_before c.survey.fields) (paths_of ends) node.path else node.path ∷ x.path ∷ paths_of ends)
    (before-paths c x node are.0 is)
  where
    by : (t : Bool) → paths_of (placed before ends node) ≡ placed (is_before c.survey.fields) (paths_of ends) node.path
        → paths_of (if t then x ∷ placed before ends node else node ∷ x ∷ ends)
        ≡ (if t then x.path ∷ placed (is_before c.survey.fields) (paths_of ends) node.path else node.path ∷ x.path ∷ paths_of ends)
    by true rest = ap (λ (ps : List (List Bool)). x.path ∷ ps) rest
    by false rest = refl

-- ---- the ends after a path that leads on

pub leads-open : (state : PathState) (complete leads : Bool) → leads ≡ (is_open state && not complete) → leads ≡ true → state ≡ Open
leads-open Open complete leads told both = refl
leads-open ClosedBad complete leads told both = absurd (cc)
leads-open (ClosedLine i) complete leads told both = absurd (cc)
leads-open (ClosedBox i) complete leads told both = absurd (cc)
leads-open (Overflows e) complete leads told both = absurd (cc)

pub leads-short : (c : SearchCase) (path : List Bool) (state : PathState) (leads : Bool) → length path ≤ field_count c
    → leads ≡ (is_open state && not (is_complete c path)) → leads ≡ true → length path < field_count c
leads-short c path state leads fit told both = by (is_complete c path) refl (is_open state) (sym told ∙ both)
  where
    by : (b : Bool) → (length path == field_count c) ≡ b → (o : Bool) → (o && not b) ≡ true → length path < field_count c
    by false apart o h = omega (arith, fit, other apart)
      where
        other : (length path == field_count c) ≡ false → length path ≢ field_count c
        other e same = absurd (cc (sym e ∙ (Decides-eqb (length path) (field_count c)).1 same))
    by true apart true h = absurd (cc)
    by true apart false h = absurd (cc)

module _ (c : SearchCase) (path : List Bool) where
  pub leads-both : (leads : Bool) → leads ≡ (is_open (state_of c path) && not (is_complete c path)) → leads ≡ true
      → next_paths c path ≡ kept_next path ∷ changed_next path ∷ []
  leads-both leads told both = ap (λ (t : Bool). if t then kept_next path ∷ changed_next path ∷ [] else []) (sym told ∙ both)

  module _ (ends one two : List Node) (kept changed : Node) (first : one ≡ placed before ends kept) (second : two ≡ placed before one changed) where
    led-all : (P : Node → Type 0) → AllByRecursion P ends → P kept → P changed → AllByRecursion P two
    led-all P are is_kept is_changed =
        subst (λ (ns : List Node). AllByRecursion P ns) (sym second)
        (placed-all P one changed (subst (λ (ns : List Node). AllByRecursion P ns) (sym first) (placed-all P ends kept are is_kept)) is_changed)

    pub led-kept : (keeps : ℕ → Bool) → AreKept keeps c ends → KeepsChanged keeps c (before_last kept.path)
        → KeepsChanged keeps c (before_last changed.path) → AreKept keeps c two
    led-kept keeps are is_kept is_changed = led-all (λ (node : Node). KeepsChanged keeps c (before_last node.path)) are is_kept is_changed

    module _ (are : AllByRecursion (IsNode c) ends) (is_kept : IsNode c kept) (is_changed : IsNode c changed) where
      pub led-nodes : AllByRecursion (IsNode c) two
      led-nodes = led-all (λ (node : Node). IsNode c node) are is_kept is_changed

      pub led-paths : next_paths c path ≡ kept_next path ∷ changed_next path ∷ [] → kept.path ≡ path ++ false ∷ [] → changed.path ≡ path ++ true ∷ []
          → paths_of two ≡ fold (placed (is_before c.survey.fields)) (paths_of ends) (next_paths c path)
      led-paths next kept_path changed_path =
          ap (λ (ns : List Node). paths_of ns) second ∙ placed-paths c one changed
          (subst (λ (ns : List Node). AllByRecursion (IsNode c) ns) (sym first) (placed-all (λ (node : Node). IsNode c node) ends kept are is_kept))
          is_changed
          ∙ ap (λ (ps : List (List Bool)). placed (is_before c.survey.fields) ps changed.path)
          (ap (λ (ns : List Node). paths_of ns) first ∙ placed-paths c ends kept are is_kept)
          ∙ ap (λ (p : List Bool). placed (is_before c.survey.fields) (placed (is_before c.survey.fields) (paths_of ends) p) changed.path) kept_path
          ∙ ap (λ (p : List Bool). placed (is_before c.survey.fields) (placed (is_before c.survey.fields) (paths_of ends) (path ++ false ∷ [])) p) changed_path
          ∙ ap (λ (ps : List (List Bool)). fold (placed (is_before c.survey.fields)) (paths_of ends) ps) (sym next)
