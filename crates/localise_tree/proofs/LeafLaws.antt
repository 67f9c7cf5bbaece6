use Rattle.std.proofs.Common.{◌≡◌, ◌++◌, ◌-◌, ◌<◌, ◌≤◌, ℕ, zero, suc, Bool, true, false, if◌then◌else◌, List, [], ◌∷◌, Option, length, refl, take}
use Rattle.std.proofs.Common.{append_assoc, sym, ap, subst, ◌∙◌, arith}
use Rattle.std.proofs.Math.Seq.{take-append_seam}
use Rattle.bound_cert.specs.declared.cert.Leaf.{Leaf}
use Rattle.bound_cert.specs.declared.cert.LeafWhy.TheVariants as why
use Rattle.edit_paths.specs.Cases.{SearchCase}
use Rattle.edit_paths.specs.Certificates.{has_path, leaf, leaves_by, leaves_from}
use Rattle.edit_paths.specs.PathStates.{is_open}
use Rattle.edit_paths.specs.Paths.{before_last, field_count}
use Rattle.edit_paths.specs.ReachedPaths.{changed_next, kept_next}
use Rattle.edit_paths.specs.States.{state_of}
use Rattle.edit_paths.specs.declared.levels.Level.{Level}
use Rattle.edit_paths.specs.declared.state.PathState.{PathState}
use Rattle.edit_paths.specs.declared.state.PathState.TheVariants.{ClosedBad, ClosedBox, ClosedLine, Open, Overflows}
use Rattle.edit_paths.proofs.ChildLaws.{child-before}
use Rattle.edit_paths.proofs.LetterLaws.{longer}
use Rattle.path_walk.specs.Bases.{IsKnownBasis}
use Rattle.path_walk.specs.Lists.{HasLists, HasListsBefore, HasMore}
use Rattle.path_walk.specs.declared.looks.Basis.{Basis}
use Rattle.path_walk.specs.inner.Histories.{LeadTo}
use Rattle.path_walk.proofs.LeadLaws.{leads-to}
use Rattle.localise_tree.specs.inner.Takens.{AddsClosed, leaves_below}

-- The leaves of a tree from a path on, by what is known of the path.

module _ (c : SearchCase) (taken : List (List Bool)) (path : List Bool) where
  pub leaves-unknown : (left : ℕ) → has_path taken path ≡ false → leaves_from c taken left path ≡ leaf path why.Bound
  leaves-unknown zero other = ap (λ b. if b then leaves_by c path [] (state_of c path) else leaf path why.Bound) other
  leaves-unknown (suc left) other =
      ap (λ b. if b then leaves_by c path (leaves_from c taken left (kept_next path) ++ leaves_from c taken left (changed_next path))
      (state_of c path) else leaf path why.Bound) other

  -- the leaf of a closed path, and none of one that overflows
  ends : (below : List Leaf) (s : PathState) → (s ≡ Open → below ≡ []) → leaves_by c path below s ≡ leaves_by c path [] s
  ends below Open none = none refl
  ends below ClosedBad none = refl
  ends below (ClosedLine i) none = refl
  ends below (ClosedBox i) none = refl
  ends below (Overflows e) none = refl

  leaves-ended : (left : ℕ) (s : PathState) → has_path taken path ≡ true → state_of c path ≡ s → (s ≡ Open → left ≡ 0)
      → leaves_from c taken left path ≡ leaves_by c path [] s
  leaves-ended zero s has is end = ap (λ b. if b then leaves_by c path [] (state_of c path) else leaf path why.Bound) has ∙ ap (λ t. leaves_by c path [] t) is
  leaves-ended (suc left) s has is end =
      ap (λ b. if b then leaves_by c path (leaves_from c taken left (kept_next path) ++ leaves_from c taken left (changed_next path))
      (state_of c path) else leaf path why.Bound) has
      ∙ ap (λ t. leaves_by c path (leaves_from c taken left (kept_next path) ++ leaves_from c taken left (changed_next path)) t) is
      ∙ ends _ s (λ stays. absurd (omega (arith, end stays)))

  -- those below an open path
  leaves-below : (left next : ℕ) → has_path taken path ≡ true → state_of c path ≡ Open → left ≡ suc next
      → leaves_from c taken left path ≡ leaves_from c taken next (kept_next path) ++ leaves_from c taken next (changed_next path)
  leaves-below left next has is more =
      ap (λ n. leaves_from c taken n path) more
      ∙ ap (λ b. if b then leaves_by c path (leaves_from c taken next (kept_next path) ++ leaves_from c taken next (changed_next path))
      (state_of c path) else leaf path why.Bound) has
      ∙ ap (λ t. leaves_by c path (leaves_from c taken next (kept_next path) ++ leaves_from c taken next (changed_next path)) t) is

  -- of a path that is not gone on with
  pub leaves-last : (left : ℕ) (s : PathState) → has_path taken path ≡ true → state_of c path ≡ s → (is_open s ≡ true → left ≡ 0)
      → leaves_by c path [] s ≡ leaves_from c taken left path
  leaves-last left s has is end = sym (leaves-ended left s has is (λ stays. end (ap (λ (t : PathState). is_open t) stays)))

  -- of an open path, those of both paths with one letter more
  pub leaves-both : (first second : List Bool) (s : PathState) → has_path taken path ≡ true → state_of c path ≡ s → is_open s ≡ true
      → length path < field_count c → first ≡ path ++ false ∷ [] → second ≡ path ++ true ∷ []
      → leaves_from c taken (field_count c - length first) first ++ leaves_from c taken (field_count c - length second) second
      ≡ leaves_from c taken (field_count c - length path) path
  leaves-both first second s has is stays few kept changed =
      ap (λ (p : List Bool). leaves_from c taken (field_count c - length p) p ++ leaves_from c taken (field_count c - length second) second) kept
      ∙ ap (λ (p : List Bool). leaves_from c taken (field_count c - length (path ++ false ∷ [])) (path ++ false ∷ [])
      ++ leaves_from c taken (field_count c - length p) p) changed
      ∙ ap (λ n. leaves_from c taken n (path ++ false ∷ []) ++ leaves_from c taken (field_count c - length (path ++ true ∷ [])) (path ++ true ∷ []))
      (less false)
      ∙ ap (λ n. leaves_from c taken (field_count c - length path - 1) (path ++ false ∷ []) ++ leaves_from c taken n (path ++ true ∷ [])) (less true)
      ∙ sym (leaves-below (field_count c - length path) (field_count c - length path - 1) has (is ∙ open_is s stays) (omega (arith, few)))
    where
      less : (b : Bool) → field_count c - length (path ++ b ∷ []) ≡ field_count c - length path - 1
      less b = omega (arith, longer path b, few)

      open_is : (s : PathState) → is_open s ≡ true → s ≡ Open
      open_is Open h = refl
      open_is ClosedBad h = absurd (cc)
      open_is (ClosedLine i) h = absurd (cc)
      open_is (ClosedBox i) h = absurd (cc)
      open_is (Overflows e) h = absurd (cc)

-- ---- the leaves that a walk appends, where its letters are this path

module _ (c : SearchCase) (taken : List (List Bool)) (path letters : List Bool) (same : letters ≡ path) (before after : List Leaf) where
  -- the leaf of a path that was not taken
  pub adds-unknown : has_path taken path ≡ false → after ≡ before ++ leaf letters why.Bound → after ≡ before ++ leaves_below c taken path
  adds-unknown other added =
      added ∙ ap (λ (p : List Bool). before ++ leaf p why.Bound) same
      ∙ ap (λ (ls : List Leaf). before ++ ls) (sym (leaves-unknown c taken path (field_count c - length path) other))

  -- that of a path that is not gone on with
  pub adds-last : (s : PathState) (grown levels : List Level) → levels ≡ grown → has_path taken path ≡ true → state_of c path ≡ s
      → (is_open s ≡ true → field_count c - length path ≡ 0) → HasLists c path grown → AddsClosed letters s levels before after
      → after ≡ before ++ leaves_below c taken path
  adds-last s grown levels is has state end lists adds =
      subst (λ (p : List Bool). AddsClosed p s levels before after) same adds c
      (subst (λ (ls : List Level). LeadTo c path s ls) (sym is) (leads-to c path s grown state lists))
      ∙ ap (λ (ls : List Leaf). before ++ ls) (leaves-last c taken path (field_count c - length path) s has state end)

-- those below an open path, of one path with one letter more and then of the other
pub adds-both : (c : SearchCase) (taken : List (List Bool)) (path first second : List Bool) (s : PathState) (before middle after : List Leaf)
    → has_path taken path ≡ true → state_of c path ≡ s → is_open s ≡ true → length path < field_count c → first ≡ path ++ false ∷ []
    → second ≡ path ++ true ∷ [] → middle ≡ before ++ leaves_below c taken first → after ≡ middle ++ leaves_below c taken second
    → after ≡ before ++ leaves_below c taken path
adds-both c taken path first second s before middle after has state stays few kept changed one two =
    two ∙ ap (λ (ls : List Leaf). ls ++ leaves_below c taken second) one
    ∙ append_assoc before (leaves_below c taken first) (leaves_below c taken second)
    ∙ ap (λ (ls : List Leaf). before ++ ls) (leaves-both c taken path first second s has state stays few kept changed)

-- the letters without the last one
pub popped : (letters before after : List Bool) (b : Bool) (n : ℕ) → n ≡ length before → before ≡ letters ++ b ∷ [] → after ≡ take (n - 1) before
    → after ≡ letters
popped letters before after b n count pushed rest =
    rest ∙ ap (λ (p : List Bool). take (n - 1) p) pushed
    ∙ ap (λ m. take m (letters ++ b ∷ [])) (omega (arith, count, ap (λ (p : List Bool). length p) pushed, longer letters b))
    ∙ take-append_seam letters (b ∷ [])

-- the lists without those that were added
pub cut : (before grown now after : List Level) (n : ℕ) → n ≡ length before → HasMore before grown → now ≡ grown → after ≡ take n now → after ≡ before
cut before grown now after n count (more, added) same rest =
    rest ∙ ap (λ (ls : List Level). take n ls) (same ∙ added) ∙ ap (λ m. take m (before ++ more)) count ∙ take-append_seam before more

-- ---- what the paths with one letter more have of the path

module _ (c : SearchCase) (letters more : List Bool) (b : Bool) (short : length letters < field_count c) (pushed : more ≡ letters ++ b ∷ []) where
  before-more : letters ≡ before_last more
  before-more = sym (ap (λ (p : List Bool). before_last p) pushed ∙ child-before c letters b short)

  pub more-fits : length more ≤ field_count c
  more-fits = omega (arith, short, ap (λ (p : List Bool). length p) pushed, longer letters b)

  pub basis-before : (basis : Option Basis) → IsKnownBasis c letters basis → IsKnownBasis c (before_last more) basis
  basis-before basis known = subst (λ (p : List Bool). IsKnownBasis c p basis) before-more known

  pub lists-before : (levels after : List Level) → HasLists c letters levels → after ≡ levels → HasListsBefore c more after
  lists-before levels after lists same = record {
    first = λ none. absurd (omega (arith, none, ap (λ (p : List Bool). length p) pushed, longer letters b));
    later = λ some. subst (λ (ls : List Level). HasLists c (before_last more) ls) (sym same) (subst (λ (p : List Bool). HasLists c p levels) before-more lists);
  }
