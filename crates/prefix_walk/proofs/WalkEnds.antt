use Rattle.std.proofs.Common.{◌≡◌, inl, inr, ℕ, ◌+◌, ◌≤◌, Bool, true, false, List, [], ◌∷◌, map, nat_lt, if◌then◌else◌, refl, sym, ap, ◌∙◌, subst, arith}
use Rattle.edit_line.specs.Reductions.{IsIn}
use Rattle.derivation.specs.declared.step.Step.{Step}
use Rattle.edit_paths.specs.Cases.{SearchCase}
use Rattle.edit_paths.specs.States.{IsClosed, IsOpen, state_of}
use Rattle.edit_paths.specs.PathStates.{is_closed}
use Rattle.edit_paths.specs.Works.{work_of}
use Rattle.edit_paths.specs.declared.state.PathState.{PathState}
use Rattle.edit_paths.specs.declared.state.PathState.TheVariants.{ClosedBad, ClosedBox, ClosedLine, Open, Overflows}
use Rattle.prefix_walk.specs.PathWalks.{closing_steps, ended_by, prefixes, walk_through}
use Rattle.prefix_walk.specs.declared.walk_end.WalkEnd.TheVariants as walk

-- What the end of a walk tells of the paths that it took.

-- a path of the list is closed, by these steps
pub record IsClosedBy (c : SearchCase) (paths : List (List Bool)) (steps : List Step) : Type 0 where
  pub path : List Bool
  pub there : IsIn path paths
  pub closed : IsClosed c path
  pub by_steps : steps ≡ closing_steps c path (state_of c path)

pub closed-at : (c : SearchCase) (budget spent work : ℕ) (steps : List Step) (paths : List (List Bool))
    → walk_through c budget spent paths ≡ walk.Closed steps work → IsClosedBy c paths steps
closed-at c budget spent work steps [] e = absurd (cc)
closed-at c budget spent work steps (path ∷ paths) e =
    by (nat_lt budget (spent + work_of c path)) (state_of c path) refl (closed-at c budget (spent + work_of c path) work steps paths) e
  where
    here : (s : PathState) → state_of c path ≡ s → is_closed s ≡ true → steps ≡ closing_steps c path s → IsClosedBy c (path ∷ paths) steps
    here s is closed steps_are =
        record { path = path; there = inl refl; closed = ap is_closed is ∙ closed; by_steps = steps_are ∙ sym (ap (closing_steps c path) is) }

    later : IsClosedBy c paths steps → IsClosedBy c (path ∷ paths) steps
    later end = record { path = end.path; there = inr end.there; closed = end.closed; by_steps = end.by_steps }

    by : (over : Bool) (s : PathState) → state_of c path ≡ s
        → (walk_through c budget (spent + work_of c path) paths ≡ walk.Closed steps work → IsClosedBy c paths steps)
        → (if over then walk.Budget spent else ended_by c path (spent + work_of c path) (walk_through c budget (spent + work_of c path) paths) s) ≡ walk.Closed
        steps work
        → IsClosedBy c (path ∷ paths) steps
    by true s is rest h = absurd (cc)
    by false Open is rest h = later (rest h)
    by false (Overflows event) is rest h = absurd (cc)
    by false ClosedBad is rest h = here ClosedBad is refl (cc)
    by false (ClosedLine i) is rest h = here (ClosedLine i) is refl (cc)
    by false (ClosedBox i) is rest h = here (ClosedBox i) is refl (cc)

-- each path of the list is open, and its work within the budget
pub record AreOpen (c : SearchCase) (budget spent work : ℕ) (paths : List (List Bool)) : Type 0 where
  pub grows : spent ≤ work
  pub within : spent ≤ budget → work ≤ budget
  pub each : (path : List Bool) → IsIn path paths → IsOpen c path × (work_of c path ≤ budget)

pub open-at : (c : SearchCase) (budget spent work : ℕ) (paths : List (List Bool)) → walk_through c budget spent paths ≡ walk.Open work
    → AreOpen c budget spent work paths
open-at c budget spent work [] e = record { grows = grows_from spent work (cc); within = λ h. within_from spent work (cc) h; each = λ path there. absurd there }
  where
    grows_from : (a b : ℕ) → a ≡ b → a ≤ b
    grows_from a b same = omega (arith, same)

    within_from : (a b : ℕ) → a ≡ b → a ≤ budget → b ≤ budget
    within_from a b same h = omega (arith, same)
open-at c budget spent work (path ∷ paths) e =
    by (nat_lt budget (spent + work_of c path)) refl (state_of c path) refl (open-at c budget (spent + work_of c path) work paths) e
  where
    both : (spent + work_of c path ≤ budget) → state_of c path ≡ Open → AreOpen c budget (spent + work_of c path) work paths
        → AreOpen c budget spent work (path ∷ paths)
    both fits is rest =
        record {
          grows = let g = rest.grows in omega (arith, g);
          within = λ h. rest.within fits;
          each = each_path;
        }
      where
        each_path : (q : List Bool) → IsIn q (path ∷ paths) → IsOpen c q × (work_of c q ≤ budget)
        each_path q (inl same) = (ap (state_of c) same ∙ is, subst (λ (n : ℕ). n ≤ budget) (sym (ap (work_of c) same)) (omega (arith, fits)))
        each_path q (inr there) = rest.each q there

    by : (over : Bool) → nat_lt budget (spent + work_of c path) ≡ over → (s : PathState) → state_of c path ≡ s
        → (walk_through c budget (spent + work_of c path) paths ≡ walk.Open work → AreOpen c budget (spent + work_of c path) work paths)
        → (if over then walk.Budget spent else ended_by c path (spent + work_of c path) (walk_through c budget (spent + work_of c path) paths) s) ≡ walk.Open
        work
        → AreOpen c budget spent work (path ∷ paths)
    by true over s is rest h = absurd (cc)
    by false over Open is rest h = both (grind (arith, over)) is (rest h)
    by false over (Overflows event) is rest h = absurd (cc)
    by false over ClosedBad is rest h = absurd (cc)
    by false over (ClosedLine i) is rest h = absurd (cc)
    by false over (ClosedBox i) is rest h = absurd (cc)

-- the first path is within the budget, and so are the others
first-within : (c : SearchCase) (budget spent work : ℕ) (path : List Bool) (paths : List (List Bool))
    → walk_through c budget spent (path ∷ paths) ≡ walk.Open work → work ≤ budget
first-within c budget spent work path paths e =
    by (nat_lt budget (spent + work_of c path)) refl (state_of c path) (open-at c budget (spent + work_of c path) work paths) e
  where
    by : (over : Bool) → nat_lt budget (spent + work_of c path) ≡ over → (s : PathState)
        → (walk_through c budget (spent + work_of c path) paths ≡ walk.Open work → AreOpen c budget (spent + work_of c path) work paths)
        → (if over then walk.Budget spent else ended_by c path (spent + work_of c path) (walk_through c budget (spent + work_of c path) paths) s) ≡ walk.Open
        work
        → work ≤ budget
    by true over s rest h = absurd (cc)
    by false over Open rest h = (rest h).within (grind (arith, over))
    by false over (Overflows event) rest h = absurd (cc)
    by false over ClosedBad rest h = absurd (cc)
    by false over (ClosedLine i) rest h = absurd (cc)
    by false over (ClosedBox i) rest h = absurd (cc)

-- the work of an open end is within the budget
pub open-within : (c : SearchCase) (budget spent work : ℕ) (path : List Bool) → walk_through c budget spent (prefixes path) ≡ walk.Open work → work ≤ budget
open-within c budget spent work [] e = first-within c budget spent work [] [] e
open-within c budget spent work (letter ∷ path) e = first-within c budget spent work [] (map (λ (q : List Bool). letter ∷ q) (prefixes path)) e

-- and so is that of a closed one
pub closed-within : (c : SearchCase) (budget spent work : ℕ) (steps : List Step) (paths : List (List Bool))
    → walk_through c budget spent paths ≡ walk.Closed steps work → work ≤ budget
closed-within c budget spent work steps [] e = absurd (cc)
closed-within c budget spent work steps (path ∷ paths) e =
    by (nat_lt budget (spent + work_of c path)) refl (state_of c path) (closed-within c budget (spent + work_of c path) work steps paths) e
  where
    same : (s : List Step) → nat_lt budget (spent + work_of c path) ≡ false → walk.Closed s (spent + work_of c path) ≡ walk.Closed steps work → work ≤ budget
    same s under h = let is : spent + work_of c path ≡ work = cc in grind (arith, under, is)

    by : (over : Bool) → nat_lt budget (spent + work_of c path) ≡ over → (s : PathState)
        → (walk_through c budget (spent + work_of c path) paths ≡ walk.Closed steps work → work ≤ budget)
        → (if over then walk.Budget spent else ended_by c path (spent + work_of c path) (walk_through c budget (spent + work_of c path) paths) s) ≡ walk.Closed
        steps work
        → work ≤ budget
    by true over s rest h = absurd (cc)
    by false over Open rest h = rest h
    by false over (Overflows event) rest h = absurd (cc)
    by false over ClosedBad rest h = same [] over h
    by false over (ClosedLine i) rest h = same (closing_steps c path (ClosedLine i)) over h
    by false over (ClosedBox i) rest h = same (closing_steps c path (ClosedBox i)) over h
