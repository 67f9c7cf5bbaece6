use Rattle.std.proofs.Common.{◌≡◌, ℕ, zero, suc, ◌+◌, ◌-◌, ◌<◌, ◌≤◌, ◌==◌, Bool, true, false, if◌then◌else◌, nat_lt, List, [], ◌∷◌, Option, Some, None, IfNone}
use Rattle.std.proofs.Common.{drop, length, map, take, refl, sym, ap, ◌∙◌, subst, arith}
use Rattle.std.specs.Arc.{arc_value}
use Rattle.edit_model.specs.FieldSets.{set_of}
use Rattle.edit_paths.specs.Cases.{SearchCase}
use Rattle.edit_paths.specs.Paths.{before_last, changed_numbers}
use Rattle.edit_paths.specs.States.{IsOpen, boxes_along, state_of}
use Rattle.edit_paths.specs.Works.{work_of}
use Rattle.edit_paths.specs.declared.state.PathState.{PathState}
use Rattle.edit_paths.specs.declared.state.PathState.TheVariants.{Open}
use Rattle.edit_paths.specs.declared.levels.Level.{Level}
use Rattle.path_walk.specs.KeptFields.{KeepsChanged}
use Rattle.path_walk.specs.Lists.{HasLists, HasListsBefore}
use Rattle.prefix_walk.specs.PathWalks.{ended_by, prefixes, walk_along, walk_through}
use Rattle.path_walk.specs.declared.looks.Basis.{Basis}
use Rattle.path_walk.specs.declared.looks.Basis.TheVariants.{Boxes, Lines}
use Rattle.path_walk.specs.declared.looks.Look.{Look}
use Rattle.prefix_walk.specs.declared.walk_end.WalkEnd.{WalkEnd}
use Rattle.prefix_walk.specs.declared.walk_end.WalkEnd.TheVariants as walk
use Rattle.path_walk.specs.Bases.{IsBasis, IsBasisBefore, IsKnownBasis, IsPathSystem, has_basis}
use Rattle.path_walk.specs.Looks.{IsLook}
use Rattle.prefix_walk.specs.inner.WalkEnds.{TellsClosed, TellsStop}

-- One turn of a walk.

-- ---- the prefixes that are left

drop-map : {X Y : Type 0} (g : X → Y) (k : ℕ) (xs : List X) → drop k (map g xs) ≡ map g (drop k xs)
drop-map g zero xs = refl
drop-map g (suc k) [] = refl
drop-map g (suc k) (x ∷ xs) = drop-map g k xs

pub prefix-next : (path : List Bool) (k : ℕ) → k ≤ length path → drop k (prefixes path) ≡ take k path ∷ drop (suc k) (prefixes path)
prefix-next [] zero fits = refl
prefix-next [] (suc k) fits = absurd (omega (arith, fits))
prefix-next (l ∷ path) zero fits = refl
prefix-next (l ∷ path) (suc k) fits =
    drop-map (λ (p : List Bool). l ∷ p) k (prefixes path) ∙ ap (map (λ (p : List Bool). l ∷ p)) (prefix-next path k (omega (arith, fits)))
    ∙ ap (λ (ps : List (List Bool)). (l ∷ take k path) ∷ ps) (sym (drop-map (λ (p : List Bool). l ∷ p) (suc k) (prefixes path)))

prefix-none : (path : List Bool) → drop (suc (length path)) (prefixes path) ≡ []
prefix-none [] = refl
prefix-none (l ∷ path) = drop-map (λ (p : List Bool). l ∷ p) (suc (length path)) (prefixes path) ∙ ap (map (λ (p : List Bool). l ∷ p)) (prefix-none path)

-- the first letters
taken-long : (w : List Bool) (k : ℕ) → k ≤ length w → length (take k w) ≡ k
taken-long w zero fits = refl
taken-long [] (suc k) fits = absurd (omega (arith, fits))
taken-long (l ∷ w) (suc k) fits = ap suc (taken-long w k (omega (arith, fits)))

take-take : (w : List Bool) (k : ℕ) → take k (take (suc k) w) ≡ take k w
take-take w zero = refl
take-take [] (suc k) = refl
take-take (l ∷ w) (suc k) = ap (λ (p : List Bool). l ∷ p) (take-take w k)

pub before-taken : (w : List Bool) (k : ℕ) → k < length w → before_last (take (suc k) w) ≡ take k w
before-taken w k below = ap (λ n. take n (take (suc k) w)) (omega (arith, taken-long w (suc k) (omega (arith, below)))) ∙ take-take w k

-- ---- a turn

one_more : (n : ℕ) → suc n ≡ n + 1
one_more n = omega arith

basis-before : (c : SearchCase) (path more : List Bool) (k : Basis) → length more ≡ suc (length path) → before_last more ≡ path → IsBasis c path k
    → IsBasisBefore c more k
basis-before c path more (Lines system) longer parent is =
    (omega (arith, longer, is.0), subst (λ (p : List Bool). IsPathSystem c p (arc_value system)) (sym parent) is.1)
basis-before c path more (Boxes boxes) longer parent is = (omega (arith, longer, is.0), is.1 ∙ ap (λ (p : List Bool). boxes_along c p) (sym parent))

-- the basis of the path before is known for it, where the path has a last letter
pub parent-known : (c : SearchCase) (path : List Bool) (before : Basis) → IsBasisBefore c path before
    → IsKnownBasis c (before_last path) (if length path == 0 then None else Some before)
parent-known c path before is = by (length path == 0) refl
  where
    shorter : 0 < length path → length (before_last path) ≡ length path - 1
    shorter some = taken-long path (length path - 1) (omega arith)

    known : 0 < length path → (k : Basis) → IsBasisBefore c path k → IsBasis c (before_last path) k
    known some (Lines system) own = (let short = shorter some in omega (arith, some, short, own.0), own.1)
    known some (Boxes boxes) own = (let short = shorter some in omega (arith, some, short, own.0), own.1)

    by : (b : Bool) → (length path == 0) ≡ b → IsKnownBasis c (before_last path) (if b then None else Some before)
    by true e = tt
    by false e = known (some (length path) e) before is
      where
        some : (n : ℕ) → (n == 0) ≡ false → 0 < n
        some zero e = absurd (cc)
        some (suc n) e = omega arith

-- what is known before the path of this many letters is taken
pub record IsReady (c : SearchCase) (path : List Bool) (keeps : ℕ → Bool) (count : ℕ) (before : Basis) (levels : List Level) : Type 0 where
  pub reached : 0 < length (take count path) → IsOpen c (before_last (take count path))
  pub basis : IsBasisBefore c (take count path) before
  pub kept : KeepsChanged keeps c (before_last (take count path))
  pub lists : HasListsBefore c (take count path) levels

-- the walk goes on after this many paths and this work
pub record IsWalking (c : SearchCase) (path : List Bool) (budget spent : ℕ) (keeps : ℕ → Bool) (count work : ℕ) (before : Basis)
    (levels : List Level) : Type 0 where
  pub rest : walk_along c path budget spent ≡ walk_through c budget work (drop count (prefixes path))
  pub within : work ≤ budget
  pub ready : count ≤ length path → IsReady c path keeps count before levels

module _ (c : SearchCase) (path : List Bool) (budget spent : ℕ) (keeps : ℕ → Bool) (count work : ℕ) (before : Basis) (levels : List Level)
    (walking : IsWalking c path budget spent keeps count work before levels) where
  module _ (fits : count ≤ length path) where
    abbrev here : List Bool
    here = take count path

    -- the paths after this one
    abbrev rest_from : ℕ → WalkEnd
    rest_from n = walk_through c budget n (drop (suc count) (prefixes path))

    next-is : walk_along c path budget spent
        ≡ (if nat_lt budget (work + work_of c here) then walk.Budget work else ended_by c here (work + work_of c here) (rest_from (work + work_of c here))
        (state_of c here))
    next-is = walking.rest ∙ ap (walk_through c budget work) (prefix-next path count fits)

    -- the work passes the budget
    pub budget-end : (most : ℕ) → most ≡ budget - work → most < work_of c here → walk.Budget work ≡ walk_along c path budget spent
    budget-end most is past =
        sym (next-is ∙ ap (λ b. if b then walk.Budget work else ended_by c here (work + work_of c here) (rest_from (work + work_of c here)) (state_of c here))
        over)
      where
        over : nat_lt budget (work + work_of c here) ≡ true
        over = let w = walking.within in grind (arith, past, is, w)

    module _ (look : Look) (is_look : IsLook c here look) (few : look.work ≤ budget - work) where
      under : nat_lt budget (work + work_of c here) ≡ false
      under = let w = walking.within in let e = is_look.work in grind (arith, few, e, w)

      on-is : walk_along c path budget spent ≡ ended_by c here (work + look.work) (rest_from (work + look.work)) look.state
      on-is =
          next-is ∙ ap (λ b. if b then walk.Budget work else ended_by c here (work + work_of c here) (rest_from (work + work_of c here)) (state_of c here))
          under
          ∙ ap (λ n. ended_by c here (work + n) (rest_from (work + n)) (state_of c here)) (sym is_look.work)
          ∙ ap (λ (s : PathState). ended_by c here (work + look.work) (rest_from (work + look.work)) s) (sym is_look.state)

      -- the walk ends here, without steps
      pub stops-here : (told : Option WalkEnd) (end : WalkEnd) → TellsStop look.state (work + look.work) told → told ≡ Some end
          → end ≡ walk_along c path budget spent
      stops-here told end tells is = sym (on-is ∙ subst (TellsStop look.state (work + look.work)) is tells c here (rest_from (work + look.work)))

      -- or by steps
      pub closes-here : (after : List Level) (told : Option WalkEnd) (end : WalkEnd) → HasLists c here after
          → TellsClosed look.state after (work + look.work) told → told ≡ Some end
          → end ≡ walk_along c path budget spent
      closes-here after told end lists tells is =
          sym (on-is ∙ subst (TellsClosed look.state after (work + look.work)) is tells c here (rest_from (work + look.work)) (sym is_look.state) lists)

      -- or goes on
      pub goes-on : (later : ℕ → Bool) (after : List Level) → look.state ≡ Open → KeepsChanged later c here → HasLists c here after
          → IsWalking c path budget spent later (count + 1) (work + look.work) look.basis after
      goes-on later after opened kept lists = record {
        rest = on-is ∙ ap (ended_by c here (work + look.work) (rest_from (work + look.work))) opened
            ∙ ap (λ n. walk_through c budget (work + look.work) (drop n (prefixes path))) (one_more count);
        within = let w = walking.within in omega (arith, few, w);
        ready = λ more. subst (λ n. IsReady c path later n look.basis after) (one_more count) (ready_next (omega (arith, more)));
      }
        where
          ready_next : suc count ≤ length path → IsReady c path later (suc count) look.basis after
          ready_next more =
              let parent = before-taken path count (omega (arith, more)) in
              record {
                reached = λ some. subst (IsOpen c) (sym parent) (sym is_look.state ∙ opened);
                basis = basis-before c here (take (suc count) path) look.basis
                    (taken-long path (suc count) more ∙ ap suc (sym (taken-long path count fits))) parent (is_look.basis (ap has_basis opened));
                kept = subst (KeepsChanged later c) (sym parent) kept;
                lists = record {
                  first = λ none. absurd (let long = taken-long path (suc count) more in omega (arith, none, long));
                  later = λ some. subst (λ (p : List Bool). HasLists c p after) (sym parent) lists;
                };
              }

  -- the walk has taken all paths
  pub ends-open : count ≡ length path + 1 → walk.Open work ≡ walk_along c path budget spent
  ends-open all = sym (walking.rest
      ∙ ap (walk_through c budget work) (ap (λ n. drop n (prefixes path)) (all ∙ sym (one_more (length path))) ∙ prefix-none path))

-- the walk begins
pub walk-start : (c : SearchCase) (path : List Bool) (budget spent : ℕ) (keeps : ℕ → Bool) (before : Basis) → spent ≤ budget → IsBasisBefore c [] before
    → KeepsChanged keeps c [] → IsWalking c path budget spent keeps 0 spent before []
walk-start c path budget spent keeps before within basis kept = record {
  rest = refl;
  within = within;
  ready = λ fits. record {
    reached = λ some. absurd (omega (arith, some));
    basis = basis;
    kept = kept;
    lists =
        record { first = λ none. refl; later = λ some. absurd (omega (arith, some)) };
  };
}

-- what is kept stays kept
pub kept-on : (c : SearchCase) (path : List Bool) (keeps later : ℕ → Bool) → ((f : ℕ) → keeps f ≡ true → later f ≡ true) → KeepsChanged keeps c path
    → KeepsChanged later c path
kept-on c path keeps later more kept = more (set_of (changed_numbers c path)) kept

-- ---- answers that are there or not

pub none-of : {X : Type 0} (P : Type 0) (o : Option X) → ((x : X) → o ≡ Some x → ⊥) → IfNone o P → P
none-of P None other h = h
none-of P (Some x) other h = absurd (other x refl)

-- where the walk does not end without steps, the path has a basis
pub has-stopped : (s : PathState) (work : ℕ) (told : Option WalkEnd) → TellsStop s work told → ((x : WalkEnd) → told ≡ Some x → ⊥) → has_basis s ≡ true
has-stopped s work None tells other = tells
has-stopped s work (Some end) tells other = absurd (other end refl)

-- and where it does not end by steps, the path is open
pub stays-open : (s : PathState) (levels : List Level) (work : ℕ) (told : Option WalkEnd) → TellsClosed s levels work told
    → ((x : WalkEnd) → told ≡ Some x → ⊥) → s ≡ Open
stays-open s levels work None tells other = tells
stays-open s levels work (Some end) tells other = absurd (other end refl)
