use Rattle.std.proofs.Common.{◌≡◌, ℕ, ◌+◌, ◌-◌, ◌<◌, ◌≤◌, ◌++◌, Bool, true, false, if◌then◌else◌, nat_lt, List, [], ◌∷◌, Option, Some, None, IfNone}
use Rattle.std.proofs.Common.{IfSome, refl, sym, ap, ◌∙◌, subst, arith}
use Rattle.std.specs.List.{AllByRecursion, fold}
use Rattle.std.proofs.lemmas.List.Sums.{sum_by-append, sum_by-cons}
use Rattle.bound_cert.specs.Paths.{path_weight}
use Rattle.bound_cert.specs.declared.cert.Cert.{Cert}
use Rattle.bound_cert.specs.declared.outcome.Outcome.{Outcome}
use Rattle.bound_cert.specs.declared.outcome.Outcome.TheVariants as outcome
use Rattle.edit_paths.specs.Cases.{SearchCase}
use Rattle.edit_paths.specs.Certificates.{certificate_of}
use Rattle.edit_paths.specs.Outcomes.{end_at, end_by, outcome_of}
use Rattle.edit_model.specs.FieldSets.{set_of}
use Rattle.edit_paths.specs.Paths.{before_last, changed_numbers, is_complete}
use Rattle.edit_paths.specs.ReachedPaths.{is_before, placed}
use Rattle.edit_paths.specs.States.{state_of}
use Rattle.edit_paths.specs.Walks.{next_paths}
use Rattle.edit_paths.specs.Works.{work_of, work_of_all}
use Rattle.edit_paths.specs.declared.state.PathState.{PathState}
use Rattle.edit_paths.specs.declared.state.PathState.TheVariants.{ClosedBad, ClosedBox, ClosedLine, Open, Overflows}
use Rattle.path_walk.specs.Bases.{IsBasis, IsKnownBasis, IsPathSystem, IsSame, SharesBasis}
use Rattle.path_walk.specs.KeptFields.{KeepsChanged}
use Rattle.path_walk.specs.Looks.{IsLook}
use Rattle.path_walk.specs.declared.looks.Basis.{Basis}
use Rattle.path_walk.specs.declared.looks.Basis.TheVariants.{Boxes, Lines}
use Rattle.path_walk.specs.declared.looks.Look.{Look}
use Rattle.localise_tree.specs.KeptFields.{KeepsChange}
use Rattle.localise_tree.specs.declared.best_first.Taken.{Taken}
use Rattle.localise_tree.specs.declared.ends.Node.{Node}
use Rattle.localise_tree.specs.inner.Nodes.{AreKept, IsNode, paths_of}
use Rattle.localise_tree.specs.inner.Takens.{IsTaken, taken_paths}
use Rattle.localise_tree.proofs.SearchLoop.{IsSearching, left, searching-ends, searching-less, searching-turn}

-- The loop of the search, over nodes and taken paths with their states.

pub record IsRunning (c : SearchCase) (budget spent : ℕ) (taken : List Taken) (ends : List Node) : Type 0 where
  pub searching : IsSearching c budget (taken_paths taken) (paths_of ends)
  pub nodes : AllByRecursion (IsNode c) ends
  pub taken_are : AllByRecursion (IsTaken c) taken
  pub spent_is : spent ≡ work_of_all c (taken_paths taken)
  pub within : spent ≤ budget

module _ (c : SearchCase) (budget spent : ℕ) (taken : List (List Bool)) (path : List Bool) (spent_is : spent ≡ work_of_all c taken) where
  -- where the work passes the budget
  pub budget-end : spent ≤ budget → budget < spent + work_of c path → end_at c budget taken path ≡ Some (outcome.Budget path spent)
  budget-end within passed =
      ap (λ (t : Bool). if t then Some (outcome.Budget path (work_of_all c taken)) else end_by c taken path (state_of c path)) over
      ∙ ap (λ (n : ℕ). Some (outcome.Budget path n)) (sym spent_is)
    where
      over : nat_lt budget (work_of_all c taken + work_of c path) ≡ true
      over = ap (λ (n : ℕ). nat_lt budget (n + work_of c path)) (sym spent_is) ∙ grind (arith, passed)

  -- where it does not, the state decides
  pub state-end : spent + work_of c path ≤ budget → end_at c budget taken path ≡ end_by c taken path (state_of c path)
  state-end fits = ap (λ (t : Bool). if t then Some (outcome.Budget path (work_of_all c taken)) else end_by c taken path (state_of c path)) under
    where
      under : nat_lt budget (work_of_all c taken + work_of c path) ≡ false
      under = ap (λ (n : ℕ). nat_lt budget (n + work_of c path)) (sym spent_is) ∙ grind (arith, fits)

-- ---- the basis that is kept

-- the same basis is as right
pub same-basis : (c : SearchCase) (path : List Bool) (first second : Basis) → IsSame first second → IsBasis c path first → IsBasis c path second
same-basis c path (Lines a) (Lines b) same is = (is.0, subst (λ h. IsPathSystem c path h) (sym same) is.1)
same-basis c path (Boxes a) (Boxes b) same is = (is.0, same ∙ is.1)
same-basis c path (Lines a) (Boxes b) same is = absurd same
same-basis c path (Boxes a) (Lines b) same is = absurd same

-- what is kept of a look is the path's basis
pub kept-basis : (c : SearchCase) (path : List Bool) (look : Look) (before after : ℕ) (kept : Option Basis) → IsLook c path look
    → IfSome kept (SharesBasis look before after) → IsKnownBasis c path kept
kept-basis c path look before after None is shares = tt
kept-basis c path look before after (Some basis) is shares = same-basis c path look.basis basis shares.same (is.basis shares.own)

-- ---- one turn

taken-more : (taken : List Taken) (t : Taken) → taken_paths (taken ++ t ∷ []) ≡ taken_paths taken ++ t.path ∷ []
taken-more [] t = refl
taken-more (x ∷ taken) t = ap (λ (ps : List (List Bool)). x.path ∷ ps) (taken-more taken t)

are-more : (c : SearchCase) (taken : List Taken) (t : Taken) → AllByRecursion (IsTaken c) taken → IsTaken c t → AllByRecursion (IsTaken c) (taken ++ t ∷ [])
are-more c [] t are is = (is, tt)
are-more c (x ∷ taken) t are is = (are.0, are-more c taken t are.1 is)

pub work-one : (c : SearchCase) (paths : List (List Bool)) (path : List Bool) → work_of_all c (paths ++ path ∷ []) ≡ work_of_all c paths + work_of c path
work-one c paths path =
    sum_by-append (work_of c) paths (path ∷ []) ∙ ap (λ (n : ℕ). work_of_all c paths + n) (sum_by-cons (work_of c) path [] ∙ plus_zero (work_of c path))
  where
    plus_zero : (n : ℕ) → n + 0 ≡ n
    plus_zero n = omega arith

pub none-of : {X : Type 0} (P : Type 0) (o : Option X) → ((x : X) → o ≡ Some x → ⊥) → IfNone o P → P
none-of P None other h = h
none-of P (Some x) other h = absurd (other x refl)

pub none-is : {X : Type 0} (o : Option X) → ((x : X) → o ≡ Some x → ⊥) → o ≡ None
none-is None other = refl
none-is (Some x) other = absurd (other x refl)

module _ (c : SearchCase) (budget spent : ℕ) (taken : List Taken) (ends rest : List Node) (node : Node) (running : IsRunning c budget spent taken ends)
    (is : ends ≡ node ∷ rest) where
  pub run-budget : budget - spent < work_of c node.path → outcome.Budget node.path spent ≡ outcome_of c budget
  run-budget passed =
      searching-ends c budget (taken_paths taken) (paths_of ends) (paths_of rest) node.path running.searching (ap (λ (ns : List Node). paths_of ns) is)
      (outcome.Budget node.path spent)
      (budget-end c budget spent (taken_paths taken) node.path running.spent_is running.within (omega (arith, passed, running.within)))

  module _ (work : ℕ) (state : PathState) (known : List Taken) (end : Option Outcome) (work_is : work ≡ work_of c node.path) (fits : work ≤ budget - spent)
      (state_is : state ≡ state_of c node.path) (known_are : known ≡ taken)
      (end_is : end ≡ end_by c (taken_paths known) node.path state) where
    ends-so : end ≡ end_at c budget (taken_paths taken) node.path
    ends-so =
        end_is ∙ ap (λ (ts : List Taken). end_by c (taken_paths ts) node.path state) known_are
        ∙ ap (λ (s : PathState). end_by c (taken_paths taken) node.path s) state_is
        ∙ sym (state-end c budget spent (taken_paths taken) node.path running.spent_is (omega (arith, work_is, fits, running.within)))

    pub run-ends : (o : Outcome) → end ≡ Some o → o ≡ outcome_of c budget
    run-ends o found =
        searching-ends c budget (taken_paths taken) (paths_of ends) (paths_of rest) node.path running.searching (ap (λ (ns : List Node). paths_of ns) is) o
        (sym ends-so ∙ found)

    module _ (new : List Node) (led : paths_of new ≡ fold (placed (is_before c.survey.fields)) (paths_of rest) (next_paths c node.path)) where
      pub run-less : left c (paths_of new) < left c (paths_of ends)
      run-less =
          searching-less c budget (taken_paths taken) (paths_of ends) (paths_of rest) node.path running.searching (ap (λ (ns : List Node). paths_of ns) is)
          (paths_of new) led

      pub run-turn : end ≡ None → AllByRecursion (IsNode c) new → (basis : Option Basis) → IsKnownBasis c node.path basis → (after : List Taken)
          → after ≡ taken ++ record { path = node.path; state = state; basis = basis } ∷ []
          → IsRunning c budget (spent + work) after new
      run-turn none nodes basis known after more = record {
        searching =
            searching-turn c budget (taken_paths taken) (paths_of ends) (paths_of rest) node.path running.searching
            (ap (λ (ns : List Node). paths_of ns) is) (paths_of new) led (taken_paths after) (sym ends-so ∙ none)
            (ap (λ (ts : List Taken). taken_paths ts) more ∙ taken-more taken (record { path = node.path; state = state; basis = basis }));
        nodes = nodes;
        taken_are = subst (λ (ts : List Taken). AllByRecursion (IsTaken c) ts) (sym more)
            (are-more c taken (record { path = node.path; state = state; basis = basis }) running.taken_are
            (record { fit = (subst (λ (ns : List Node). AllByRecursion (IsNode c) ns) is running.nodes).0.fit; state = state_is; basis = known }));
        spent_is =
            ap (λ (n : ℕ). n + work) running.spent_is ∙ ap (λ (n : ℕ). work_of_all c (taken_paths taken) + n) work_is
            ∙ sym (work-one c (taken_paths taken) node.path)
            ∙ ap (λ (ps : List (List Bool)). work_of_all c ps)
            (sym (ap (λ (ts : List Taken). taken_paths ts) more ∙ taken-more taken (record { path = node.path; state = state; basis = basis })));
        within = omega (arith, fits, running.within);
      }

-- the first of the ends, and the others
pub first-node : (c : SearchCase) (ends rest : List Node) (node : Node) → ends ≡ node ∷ rest → AllByRecursion (IsNode c) ends
    → IsNode c node × AllByRecursion (IsNode c) rest
first-node c ends rest node is are = subst (λ (ns : List Node). AllByRecursion (IsNode c) ns) is are

-- ---- what the source keeps

-- the system of the path before the first end, and of those before the others
pub first-kept : (c : SearchCase) (keeps : ℕ → Bool) (ends rest : List Node) (node : Node) → ends ≡ node ∷ rest → AreKept keeps c ends
    → KeepsChanged keeps c (before_last node.path) × AreKept keeps c rest
first-kept c keeps ends rest node is are = subst (λ (ns : List Node). AreKept keeps c ns) is are

-- it keeps what it kept before
pub kept-later : (c : SearchCase) (first second : ℕ → Bool) → ((f : ℕ) → first f ≡ true → second f ≡ true) → (ends : List Node) → AreKept first c ends
    → AreKept second c ends
kept-later c first second more [] are = tt
kept-later c first second more (node ∷ ends) (keeps, are) =
    (more (set_of (changed_numbers c (before_last node.path))) keeps, kept-later c first second more ends are)

pub path-later : (c : SearchCase) (first second : ℕ → Bool) (path : List Bool) → ((f : ℕ) → first f ≡ true → second f ≡ true) → KeepsChanged first c path
    → KeepsChanged second c path
path-later c first second path more keeps = more (set_of (changed_numbers c path)) keeps

-- a change ends an open path, which is its own
change-open : (c : SearchCase) (taken : List (List Bool)) (path : List Bool) (state : PathState) (chosen : List Bool) (weight : ℕ) (cert : Cert)
    → Some (outcome.Change chosen weight cert) ≡ end_by c taken path state → (state ≡ Open) × (path ≡ chosen)
change-open c taken path (Overflows e) chosen weight cert is = absurd (cc is)
change-open c taken path ClosedBad chosen weight cert is = absurd (cc is)
change-open c taken path (ClosedLine i) chosen weight cert is = absurd (cc is)
change-open c taken path (ClosedBox i) chosen weight cert is = absurd (cc is)
change-open c taken path Open chosen weight cert is = by (is_complete c path) is
  where
    by : (b : Bool) → Some (outcome.Change chosen weight cert)
        ≡ (if b then Some (outcome.Change path (path_weight c.survey.fields path)
        (record { leaves = certificate_of c (if nat_lt 0 (path_weight c.survey.fields path) then taken else []) })) else None)
        → (Open ≡ Open) × (path ≡ chosen)
    by true e = (refl, cc)
    by false e = absurd (cc e)

-- so the source keeps its fields
pub change-kept : (c : SearchCase) (taken : List (List Bool)) (path : List Bool) (state : PathState) (end : Option Outcome) (o : Outcome)
    (first second : ℕ → Bool) → end ≡ end_by c taken path state → end ≡ Some o
    → ((f : ℕ) → first f ≡ true → second f ≡ true) → (state ≡ Open → KeepsChanged first c path) → KeepsChange second c o
change-kept c taken path state end o first second told is more kept chosen weight cert change =
    let (opened, same) = change-open c taken path state chosen weight cert (ap (λ (x : Outcome). Some x) (sym change) ∙ sym is ∙ told) in
    subst (λ (p : List Bool). KeepsChanged second c p) same (path-later c first second path more (kept opened))
