use Rattle.std.proofs.Common.{Bool, List, [], ap, arith, false, length, refl, rules, subst, sym, true, vec_len, ◌++◌, ◌-◌, ◌<◌, ◌≤◌}
use Rattle.std.proofs.Common.{◌∙◌, ◌∷◌, ◌≡◌}
use Rattle.std.specs.Option.{option_copied}
use Rattle.std.proofs.lemmas.Result.{IfOk-from_err}
use Rattle.edit_paths.specs.Paths.{before_last, field_count}
use Rattle.path_walk.specs.Bases.{IsKnownBasis}
use Rattle.path_walk.specs.Lists.{HasLists, HasListsBefore}
use Rattle.path_walk.specs.Problems.{case_in}
use Rattle.localise_tree.specs.inner.Takens.{taken_paths}
use Rattle.localise_tree.proofs.KnownLaws.{found-basis, found-has, found-state}
use Rattle.localise_tree.proofs.LeafLaws.{adds-both, adds-last, adds-unknown, basis-before, cut, lists-before, more-fits, popped}
use Rattle.localise_tree.proofs.SearchLaws.{none-of}
use Rattle.localise_tree.proofs.certificates.+push_leaves.Goals as goal
use Rattle.localise_tree.proofs.certificates.+push_leaves.Goals.{else-is_open-via-then-is_open+else-len-field_count, else-is_open-via-else-is_open}
use Rattle.edit_paths.proofs.LetterLaws.{longer}

pub taken_path-requires-clause-short : goal.taken_path-requires-clause-short
taken_path-requires-clause-short g t c = omega (arith, c.requires.fit, c.requires.problem.few)

pub push_lists-requires-clause-fit : goal.push_lists-requires-clause-fit
push_lists-requires-clause-fit g t c =
    subst (λ (p : List Bool). length p ≤ field_count (case_in c.args.tree.now.problem.now)) (sym c.deref-2.ensures.value) c.requires.fit

pub push_lists-requires-clause-parent : goal.push_lists-requires-clause-parent
push_lists-requires-clause-parent g t c =
    subst (λ (p : List Bool). IsKnownBasis (case_in c.args.tree.now.problem.now) (before_last p) (option_copied c.args.parent)) (sym c.deref-2.ensures.value)
    c.requires.parent

pub push_lists-requires-clause-before : goal.push_lists-requires-clause-before
push_lists-requires-clause-before g t c =
    subst (λ (p : List Bool). HasListsBefore (case_in c.args.tree.now.problem.now) p c.args.walk.now.levels.items) (sym c.deref-2.ensures.value)
    c.requires.before

pub returns-then-len-field_count-clause-letters : goal.returns-then-len-field_count-clause-letters
returns-then-len-field_count-clause-letters g t c =
    let back : c.pop.new.self.items ≡ c.args.walk.now.letters.items =
    popped c.args.walk.now.letters.items c.push_leaves.new.walk.letters.items c.pop.new.self.items false (vec_len c.push_leaves.new.walk.letters)
    (omega (arith, c.push_leaves.new.walk.letters.ok.0)) (c.in_ok-push_leaves.ensures.letters ∙ c.in_ok-push.ensures.items) c.pop.ensures.rest in
    popped c.args.walk.now.letters.items c.push_leaves-then-len-field_count.new.walk.letters.items c.pop-then-len-field_count.new.self.items true
    (vec_len c.push_leaves-then-len-field_count.new.walk.letters) (omega (arith, c.push_leaves-then-len-field_count.new.walk.letters.ok.0))
    (c.in_ok-push_leaves-2.ensures.letters ∙ c.in_ok-push-2.ensures.items ∙ ap (λ (p : List Bool). p ++ true ∷ []) back)
    c.pop-then-len-field_count.ensures.rest

pub returns-then-len-field_count-clause-levels : goal.returns-then-len-field_count-clause-levels
returns-then-len-field_count-clause-levels g t c =
    cut c.args.walk.now.levels.items c.push_lists.new.levels.items c.push_leaves-then-len-field_count.new.walk.levels.items c.truncate.new.self.items
    c.len-before.result (omega (arith, c.len-before.ensures, c.args.walk.now.levels.ok.0)) c.in_ok-push_lists.ensures.grown
    (c.in_ok-push_leaves-2.ensures.levels ∙ c.in_ok-push_leaves.ensures.levels) c.truncate.ensures.items

pub returns-clause-levels : goal.returns-clause-levels
returns-clause-levels g t c =
    cut c.args.walk.now.levels.items c.push_lists.new.levels.items c.push_lists.new.levels.items c.truncate-2.new.self.items c.len-before.result
    (omega (arith, c.len-before.ensures, c.args.walk.now.levels.ok.0)) c.in_ok-push_lists.ensures.grown refl c.truncate-2.ensures.items

pub returns-in_default-clause-leaves : goal.returns-in_default-clause-leaves
returns-in_default-clause-leaves g t c =
    adds-unknown (case_in c.args.tree.now.problem.now) (taken_paths c.args.tree.now.known.now.taken.now) c.args.walk.now.letters.items c.deref.result.now
    c.deref.ensures.value c.args.walk.now.leaves.items c.push_leaf.new.leaves.items
    (none-of _ c.taken_path.result c.in_default.not-Some c.taken_path.ensures.none) c.in_ok-push_leaf.ensures

pub push_lists-requires-clause-own : goal.push_lists-requires-clause-own
push_lists-requires-clause-own g t c =
    let case = case_in c.args.tree.now.problem.now in
    let known : IsKnownBasis case c.args.walk.now.letters.items (option_copied c.as_ref-own.result) =
    subst (λ o. IsKnownBasis case c.args.walk.now.letters.items o) (sym c.as_ref-own.ensures.value)
    (found-basis c.args.tree.now.known.now.taken.now c.args.walk.now.letters.items c.in-Some.taken.now c.in-Some.ensures.some case c.requires.taken) in
    subst (λ (p : List Bool). IsKnownBasis case p (option_copied c.as_ref-own.result)) (sym c.deref-2.ensures.value) known

pub push_leaves-requires : goal.push_leaves-requires
push_leaves-requires g t c =
    let case = case_in c.args.tree.now.problem.now in
    let known : IsKnownBasis case c.args.walk.now.letters.items (option_copied c.as_ref-own.result) =
    subst (λ o. IsKnownBasis case c.args.walk.now.letters.items o) (sym c.as_ref-own.ensures.value)
    (found-basis c.args.tree.now.known.now.taken.now c.args.walk.now.letters.items c.in-Some.taken.now c.in-Some.ensures.some case c.requires.taken) in
    let lists : HasLists case c.args.walk.now.letters.items c.push_lists.new.levels.items =
    subst (λ (p : List Bool). HasLists case p c.push_lists.new.levels.items) c.deref-2.ensures.value c.in_ok-push_lists.ensures.lists in
    let short : length c.args.walk.now.letters.items < field_count case =
    omega (arith, c.len.ensures, c.args.walk.now.letters.ok.0, c.if-len-field_count.true, c.field_count.ensures) in
    let fit : length c.push.new.self.items ≤ field_count case = more-fits case c.args.walk.now.letters.items c.push.new.self.items false short
    c.in_ok-push.ensures.items in
    let smaller : field_count case - length c.push.new.self.items
    < field_count case - length c.args.walk.now.letters.items = omega
    (arith, short, ap (λ (p : List Bool). length p) c.in_ok-push.ensures.items, longer c.args.walk.now.letters.items false) in
    let parent : IsKnownBasis case (before_last c.push.new.self.items) (option_copied c.as_ref-own.result) = basis-before case
    c.args.walk.now.letters.items c.push.new.self.items false short c.in_ok-push.ensures.items (option_copied c.as_ref-own.result) known in
    let before : HasListsBefore case c.push.new.self.items c.push_lists.new.levels.items =
    lists-before case c.args.walk.now.letters.items c.push.new.self.items false short c.in_ok-push.ensures.items c.push_lists.new.levels.items
    c.push_lists.new.levels.items lists refl in
    search rules

pub push_leaves-requires-then-len-field_count : goal.push_leaves-requires-then-len-field_count
push_leaves-requires-then-len-field_count g t c =
    let case = case_in c.args.tree.now.problem.now in
    let known : IsKnownBasis case c.args.walk.now.letters.items (option_copied c.as_ref-own.result) =
    subst (λ o. IsKnownBasis case c.args.walk.now.letters.items o) (sym c.as_ref-own.ensures.value)
    (found-basis c.args.tree.now.known.now.taken.now c.args.walk.now.letters.items c.in-Some.taken.now c.in-Some.ensures.some case c.requires.taken) in
    let lists : HasLists case c.args.walk.now.letters.items c.push_lists.new.levels.items =
    subst (λ (p : List Bool). HasLists case p c.push_lists.new.levels.items) c.deref-2.ensures.value c.in_ok-push_lists.ensures.lists in
    let short : length c.args.walk.now.letters.items < field_count case =
    omega (arith, c.len.ensures, c.args.walk.now.letters.ok.0, c.if-len-field_count.true, c.field_count.ensures) in
    let back : c.pop.new.self.items ≡ c.args.walk.now.letters.items =
    popped c.args.walk.now.letters.items c.push_leaves.new.walk.letters.items c.pop.new.self.items false (vec_len c.push_leaves.new.walk.letters)
    (omega (arith, c.push_leaves.new.walk.letters.ok.0)) (c.in_ok-push_leaves.ensures.letters ∙ c.in_ok-push.ensures.items) c.pop.ensures.rest in
    let pushed : c.push-then-len-field_count.new.self.items ≡ c.args.walk.now.letters.items ++ true ∷ [] = c.in_ok-push-2.ensures.items
    ∙ ap (λ (p : List Bool). p ++ true ∷ []) back in
    let fit : length c.push-then-len-field_count.new.self.items
    ≤ field_count case = more-fits case c.args.walk.now.letters.items c.push-then-len-field_count.new.self.items true short pushed in
    let smaller : field_count case - length c.push-then-len-field_count.new.self.items
    < field_count case - length c.args.walk.now.letters.items = omega
    (arith, short, ap (λ (p : List Bool). length p) pushed, longer c.args.walk.now.letters.items true) in
    let parent : IsKnownBasis case (before_last c.push-then-len-field_count.new.self.items) (option_copied c.as_ref-own.result) =
    basis-before case c.args.walk.now.letters.items c.push-then-len-field_count.new.self.items true short pushed (option_copied c.as_ref-own.result) known in
    let before : HasListsBefore case c.push-then-len-field_count.new.self.items c.push_leaves.new.walk.levels.items =
    lists-before case c.args.walk.now.letters.items c.push-then-len-field_count.new.self.items true short pushed c.push_lists.new.levels.items
    c.push_leaves.new.walk.levels.items lists c.in_ok-push_leaves.ensures.levels in
    search rules

pub returns-then-len-field_count-clause-leaves : goal.returns-then-len-field_count-clause-leaves
returns-then-len-field_count-clause-leaves g t c =
    let back : c.pop.new.self.items ≡ c.args.walk.now.letters.items =
    popped c.args.walk.now.letters.items c.push_leaves.new.walk.letters.items c.pop.new.self.items false (vec_len c.push_leaves.new.walk.letters)
    (omega (arith, c.push_leaves.new.walk.letters.ok.0)) (c.in_ok-push_leaves.ensures.letters ∙ c.in_ok-push.ensures.items) c.pop.ensures.rest in
    adds-both (case_in c.args.tree.now.problem.now) (taken_paths c.args.tree.now.known.now.taken.now) c.args.walk.now.letters.items c.push.new.self.items
    c.push-then-len-field_count.new.self.items c.in-Some.taken.now.state c.args.walk.now.leaves.items c.push_leaves.new.walk.leaves.items
    c.push_leaves-then-len-field_count.new.walk.leaves.items
    (found-has c.args.tree.now.known.now.taken.now c.args.walk.now.letters.items c.in-Some.taken.now c.in-Some.ensures.some)
    (found-state c.args.tree.now.known.now.taken.now c.args.walk.now.letters.items c.in-Some.taken.now c.in-Some.ensures.some
    (case_in c.args.tree.now.problem.now) c.requires.taken)
    (sym c.is_open.ensures ∙ c.if-is_open.true)
    (omega (arith, c.len.ensures, c.args.walk.now.letters.ok.0, c.if-len-field_count.true, c.field_count.ensures))
    c.in_ok-push.ensures.items (c.in_ok-push-2.ensures.items ∙ ap (λ (p : List Bool). p ++ true ∷ []) back) c.in_ok-push_leaves.ensures.leaves
    c.in_ok-push_leaves-2.ensures.leaves

pub returns-clause-leaves : goal.returns-clause-leaves
returns-clause-leaves g t c =
    adds-last (case_in c.args.tree.now.problem.now) (taken_paths c.args.tree.now.known.now.taken.now) c.args.walk.now.letters.items c.deref-3.result.now
    c.deref-3.ensures.value c.args.walk.now.leaves.items c.push_closed.new.leaves.items c.in-Some.taken.now.state c.push_lists.new.levels.items
    c.deref-4.result.now c.deref-4.ensures.value
    (found-has c.args.tree.now.known.now.taken.now c.args.walk.now.letters.items c.in-Some.taken.now c.in-Some.ensures.some)
    (found-state c.args.tree.now.known.now.taken.now c.args.walk.now.letters.items c.in-Some.taken.now c.in-Some.ensures.some
    (case_in c.args.tree.now.problem.now) c.requires.taken)
    (λ stays. elim c.else-is_open.branch [
      | else-is_open-via-then-is_open+else-len-field_count w ↦
          omega (arith, w.len.ensures, c.args.walk.now.letters.ok.0, w.field_count.ensures, w.if-len-field_count.false)
      | else-is_open-via-else-is_open w ↦ absurd (cc (sym stays ∙ sym c.is_open.ensures ∙ w.if-is_open.false))
    ])
    (subst (λ (p : List Bool). HasLists (case_in c.args.tree.now.problem.now) p c.push_lists.new.levels.items) c.deref-2.ensures.value
    c.in_ok-push_lists.ensures.lists)
    c.in_ok-push_closed.ensures

pub returns-in_err-push_lists-clause-serves : goal.returns-in_err-push_lists-clause-serves
returns-in_err-push_lists-clause-serves g t c = c.push_lists.ensures.serves

pub returns-in_err-push_lists-clause-keeps : goal.returns-in_err-push_lists-clause-keeps
returns-in_err-push_lists-clause-keeps g t c = c.push_lists.ensures.keeps

pub returns-in_err-push_lists-clause-counts : goal.returns-in_err-push_lists-clause-counts
returns-in_err-push_lists-clause-counts g t c = c.push_lists.ensures.counts

pub returns-in_err-push-clause-serves : goal.returns-in_err-push-clause-serves
returns-in_err-push-clause-serves g t c = c.push_lists.ensures.serves

pub returns-in_err-push-clause-keeps : goal.returns-in_err-push-clause-keeps
returns-in_err-push-clause-keeps g t c = c.push_lists.ensures.keeps

pub returns-in_err-push-clause-counts : goal.returns-in_err-push-clause-counts
returns-in_err-push-clause-counts g t c = c.push_lists.ensures.counts

pub returns-in_err-push_leaves-clause-serves : goal.returns-in_err-push_leaves-clause-serves
returns-in_err-push_leaves-clause-serves g t c e h = c.push_leaves.ensures.serves e (c.push_lists.ensures.serves e h)

pub returns-in_err-push_leaves-clause-keeps : goal.returns-in_err-push_leaves-clause-keeps
returns-in_err-push_leaves-clause-keeps g t c f h = c.push_leaves.ensures.keeps f (c.push_lists.ensures.keeps f h)

pub returns-in_err-push_leaves-clause-counts : goal.returns-in_err-push_leaves-clause-counts
returns-in_err-push_leaves-clause-counts g t c = omega (arith, c.push_lists.ensures.counts, c.push_leaves.ensures.counts)

pub returns-in_err-push-2-clause-serves : goal.returns-in_err-push-2-clause-serves
returns-in_err-push-2-clause-serves g t c e h = c.push_leaves.ensures.serves e (c.push_lists.ensures.serves e h)

pub returns-in_err-push-2-clause-keeps : goal.returns-in_err-push-2-clause-keeps
returns-in_err-push-2-clause-keeps g t c f h = c.push_leaves.ensures.keeps f (c.push_lists.ensures.keeps f h)

pub returns-in_err-push-2-clause-counts : goal.returns-in_err-push-2-clause-counts
returns-in_err-push-2-clause-counts g t c = omega (arith, c.push_lists.ensures.counts, c.push_leaves.ensures.counts)

pub returns-in_err-push_leaves-2-clause-serves : goal.returns-in_err-push_leaves-2-clause-serves
returns-in_err-push_leaves-2-clause-serves g t c e h =
    c.push_leaves-then-len-field_count.ensures.serves e (c.push_leaves.ensures.serves e (c.push_lists.ensures.serves e h))

pub returns-in_err-push_leaves-2-clause-keeps : goal.returns-in_err-push_leaves-2-clause-keeps
returns-in_err-push_leaves-2-clause-keeps g t c f h =
    c.push_leaves-then-len-field_count.ensures.keeps f (c.push_leaves.ensures.keeps f (c.push_lists.ensures.keeps f h))

pub returns-in_err-push_leaves-2-clause-counts : goal.returns-in_err-push_leaves-2-clause-counts
returns-in_err-push_leaves-2-clause-counts g t c =
    omega (arith, c.push_lists.ensures.counts, c.push_leaves.ensures.counts, c.push_leaves-then-len-field_count.ensures.counts)

pub returns-then-len-field_count-clause-serves : goal.returns-then-len-field_count-clause-serves
returns-then-len-field_count-clause-serves g t c e h =
    c.push_leaves-then-len-field_count.ensures.serves e (c.push_leaves.ensures.serves e (c.push_lists.ensures.serves e h))

pub returns-then-len-field_count-clause-keeps : goal.returns-then-len-field_count-clause-keeps
returns-then-len-field_count-clause-keeps g t c f h =
    c.push_leaves-then-len-field_count.ensures.keeps f (c.push_leaves.ensures.keeps f (c.push_lists.ensures.keeps f h))

pub returns-then-len-field_count-clause-counts : goal.returns-then-len-field_count-clause-counts
returns-then-len-field_count-clause-counts g t c =
    omega (arith, c.push_lists.ensures.counts, c.push_leaves.ensures.counts, c.push_leaves-then-len-field_count.ensures.counts)

pub returns-in_err-push_closed-clause-serves : goal.returns-in_err-push_closed-clause-serves
returns-in_err-push_closed-clause-serves g t c = c.push_lists.ensures.serves

pub returns-in_err-push_closed-clause-keeps : goal.returns-in_err-push_closed-clause-keeps
returns-in_err-push_closed-clause-keeps g t c = c.push_lists.ensures.keeps

pub returns-in_err-push_closed-clause-counts : goal.returns-in_err-push_closed-clause-counts
returns-in_err-push_closed-clause-counts g t c = c.push_lists.ensures.counts

pub returns-clause-serves : goal.returns-clause-serves
returns-clause-serves g t c = c.push_lists.ensures.serves

pub returns-clause-keeps : goal.returns-clause-keeps
returns-clause-keeps g t c = c.push_lists.ensures.keeps

pub returns-clause-counts : goal.returns-clause-counts
returns-clause-counts g t c = c.push_lists.ensures.counts

pub returns-in_err-push_leaf-clause-letters : goal.returns-in_err-push_leaf-clause-letters
returns-in_err-push_leaf-clause-letters g t c = IfOk-from_err _ _ c.from_residual.ensures.0

pub returns-in_err-push_leaf-clause-levels : goal.returns-in_err-push_leaf-clause-levels
returns-in_err-push_leaf-clause-levels g t c = IfOk-from_err _ _ c.from_residual.ensures.0

pub returns-in_err-push_leaf-clause-leaves : goal.returns-in_err-push_leaf-clause-leaves
returns-in_err-push_leaf-clause-leaves g t c = IfOk-from_err _ _ c.from_residual.ensures.0

pub returns-in_err-push_lists-clause-letters : goal.returns-in_err-push_lists-clause-letters
returns-in_err-push_lists-clause-letters g t c = IfOk-from_err _ _ c.from_residual-in_err-push_lists.ensures.0

pub returns-in_err-push_lists-clause-levels : goal.returns-in_err-push_lists-clause-levels
returns-in_err-push_lists-clause-levels g t c = IfOk-from_err _ _ c.from_residual-in_err-push_lists.ensures.0

pub returns-in_err-push_lists-clause-leaves : goal.returns-in_err-push_lists-clause-leaves
returns-in_err-push_lists-clause-leaves g t c = IfOk-from_err _ _ c.from_residual-in_err-push_lists.ensures.0

pub returns-in_err-push-clause-letters : goal.returns-in_err-push-clause-letters
returns-in_err-push-clause-letters g t c = IfOk-from_err _ _ c.from_residual-in_err-push.ensures.0

pub returns-in_err-push-clause-levels : goal.returns-in_err-push-clause-levels
returns-in_err-push-clause-levels g t c = IfOk-from_err _ _ c.from_residual-in_err-push.ensures.0

pub returns-in_err-push-clause-leaves : goal.returns-in_err-push-clause-leaves
returns-in_err-push-clause-leaves g t c = IfOk-from_err _ _ c.from_residual-in_err-push.ensures.0

pub returns-in_err-push_leaves-clause-letters : goal.returns-in_err-push_leaves-clause-letters
returns-in_err-push_leaves-clause-letters g t c = IfOk-from_err _ _ c.from_residual-in_err-push_leaves.ensures.0

pub returns-in_err-push_leaves-clause-levels : goal.returns-in_err-push_leaves-clause-levels
returns-in_err-push_leaves-clause-levels g t c = IfOk-from_err _ _ c.from_residual-in_err-push_leaves.ensures.0

pub returns-in_err-push_leaves-clause-leaves : goal.returns-in_err-push_leaves-clause-leaves
returns-in_err-push_leaves-clause-leaves g t c = IfOk-from_err _ _ c.from_residual-in_err-push_leaves.ensures.0

pub returns-in_err-push-2-clause-letters : goal.returns-in_err-push-2-clause-letters
returns-in_err-push-2-clause-letters g t c = IfOk-from_err _ _ c.from_residual-in_err-push-2.ensures.0

pub returns-in_err-push-2-clause-levels : goal.returns-in_err-push-2-clause-levels
returns-in_err-push-2-clause-levels g t c = IfOk-from_err _ _ c.from_residual-in_err-push-2.ensures.0

pub returns-in_err-push-2-clause-leaves : goal.returns-in_err-push-2-clause-leaves
returns-in_err-push-2-clause-leaves g t c = IfOk-from_err _ _ c.from_residual-in_err-push-2.ensures.0

pub returns-in_err-push_leaves-2-clause-letters : goal.returns-in_err-push_leaves-2-clause-letters
returns-in_err-push_leaves-2-clause-letters g t c = IfOk-from_err _ _ c.from_residual-in_err-push_leaves-2.ensures.0

pub returns-in_err-push_leaves-2-clause-levels : goal.returns-in_err-push_leaves-2-clause-levels
returns-in_err-push_leaves-2-clause-levels g t c = IfOk-from_err _ _ c.from_residual-in_err-push_leaves-2.ensures.0

pub returns-in_err-push_leaves-2-clause-leaves : goal.returns-in_err-push_leaves-2-clause-leaves
returns-in_err-push_leaves-2-clause-leaves g t c = IfOk-from_err _ _ c.from_residual-in_err-push_leaves-2.ensures.0

pub returns-in_err-push_closed-clause-letters : goal.returns-in_err-push_closed-clause-letters
returns-in_err-push_closed-clause-letters g t c = IfOk-from_err _ _ c.from_residual-in_err-push_closed.ensures.0

pub returns-in_err-push_closed-clause-levels : goal.returns-in_err-push_closed-clause-levels
returns-in_err-push_closed-clause-levels g t c = IfOk-from_err _ _ c.from_residual-in_err-push_closed.ensures.0

pub returns-in_err-push_closed-clause-leaves : goal.returns-in_err-push_closed-clause-leaves
returns-in_err-push_closed-clause-leaves g t c = IfOk-from_err _ _ c.from_residual-in_err-push_closed.ensures.0
