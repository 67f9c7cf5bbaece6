use Rattle.std.proofs.Common.{Err, IfSome, arith, ap, length, map, subst, sym, ◌+◌, ◌∙◌, ◌≡◌, ◌≤◌, ℕ}
use Rattle.std.proofs.lemmas.Option.{IfSome_then}
use Rattle.edit_model.specs.FieldSets.{without_number}
use Rattle.edit_line.specs.EditSets.{EditsParts}
use Rattle.linear_elim.specs.LastFields.{IsFirstOf}
use Rattle.linear_elim.specs.Systems.{AreNumerical, SystemParts, chosen_fields, pairs_at, system_at}
use Rattle.linear_elim.specs.Told.{told_system}
use Rattle.linear_elim.proofs.ExtensionLaws.{first-none, numerical-less}
use Rattle.shared_edits.specs.Pools.{Knows}
use Rattle.shared_edits.specs.inner.Entries.{walked_of}
use Rattle.shared_edits.proofs.MakeLaws.{fault-with, first-others, one-less, pairs-others, pairs-with}
use Rattle.shared_edits.proofs.pool.Pool.+make.Goals as goal

pub returns-in_default-clause-onwards : goal.returns-in_default-clause-onwards
returns-in_default-clause-onwards g t c = λ first firsts knows.
    let pool = c.args.self.now in
    let reader = map walked_of c.args.entries.now in
    let none = c.in_default.ensures.none in
    let same : first ≡ c.args.fields = first-none first (subst (λ (set : ℕ). IsFirstOf first set) none firsts) ∙ sym none in
    absurd (c.requires.unknown (subst (λ (set : ℕ). Knows pool set reader) same knows))

pub returns-in-Some-known_system-clause-onwards : goal.returns-in-Some-known_system-clause-onwards
returns-in-Some-known_system-clause-onwards g t c = λ first firsts knows.
    let pool = c.args.self.now in
    let fields = c.args.fields in
    let last = c.in-Some.last in
    let same = ap (λ (s : SystemParts). s.edits) c.deref-in-Some-known_system.ensures ∙ c.in-Some-known_system.ensures.edits in
    let few = subst (λ (e : EditsParts). c.with_last.new.steps + pairs_at e (without_number fields last) ≤ c.args.steps.now + pairs_at e fields) same
    c.with_last.ensures.few in
    let others = first-others pool.edits fields last c.requires.numerical c.in-Some.ensures.some pool (map walked_of c.args.entries.now) first firsts knows
    c.requires.unknown in
    let part = pairs-others pool.edits fields last c.requires.numerical c.in-Some.ensures.some first others in
    omega (arith, few, part)

pub make-requires : goal.make-requires
make-requires g t c κs within =
    let shape = c.args.self.now.edits.shape in
    let fields = c.args.fields in
    let last = c.in-Some.last in
    let set = c.without-others.ensures.set in
    let less = one-less c.args.self.now.edits fields last c.requires.numerical c.in-Some.ensures.some in
    let same = ap (λ (s : ℕ). length (chosen_fields shape s)) set in
    let numerical = subst (λ (s : ℕ). AreNumerical shape s) (sym set) (numerical-less shape fields last c.requires.numerical) in
    (omega (arith, less, same, c.decreases), (within, (numerical, (c.requires.entries, c.in_default-known_system.ensures.none))))

pub returns-in-Ok-clause-onwards : goal.returns-in-Ok-clause-onwards
returns-in-Ok-clause-onwards g t c = λ first firsts knows.
    let pool = c.args.self.now in
    let fields = c.args.fields in
    let last = c.in-Some.last in
    let set = c.without-others.ensures.set in
    let few = subst (λ (e : EditsParts). c.with_last-in-Ok.new.steps + pairs_at e (without_number fields last) ≤ c.make.new.steps + pairs_at e fields)
    c.in-Ok.ensures.edits c.with_last-in-Ok.ensures.few in
    let others = first-others pool.edits fields last c.requires.numerical c.in-Some.ensures.some pool (map walked_of c.args.entries.now) first firsts knows
    c.requires.unknown in
    let made = c.in-Ok.ensures.onwards first (subst (λ (s : ℕ). IsFirstOf first s) (sym set) others) knows in
    let same = ap (λ (s : ℕ). pairs_at pool.edits s) set in
    omega (arith, few, made, same)

pub returns-in-Err-clause-exact : goal.returns-in-Err-clause-exact
returns-in-Err-clause-exact g t c =
    let edits = c.args.self.now.edits in
    let exact = subst (λ (s : ℕ). IfSome (told_system c.in-Err.fault) (λ f. system_at edits s ≡ Err f)) c.without-others.ensures.set c.in-Err.ensures.exact in
    IfSome_then (told_system c.in-Err.fault) exact (λ f stops. fault-with edits c.args.fields c.in-Some.last c.requires.numerical c.in-Some.ensures.some f
    stops)

pub returns-in-Err-clause-few : goal.returns-in-Err-clause-few
returns-in-Err-clause-few g t c =
    let edits = c.args.self.now.edits in
    let part = pairs-with edits c.args.fields c.in-Some.last c.requires.numerical c.in-Some.ensures.some in
    let same = ap (λ (s : ℕ). pairs_at edits s) c.without-others.ensures.set in
    omega (arith, part, same, c.in-Err.ensures.few)

pub returns-in-Err-clause-onwards : goal.returns-in-Err-clause-onwards
returns-in-Err-clause-onwards g t c = λ first firsts knows.
    let pool = c.args.self.now in
    let fields = c.args.fields in
    let last = c.in-Some.last in
    let set = c.without-others.ensures.set in
    let others = first-others pool.edits fields last c.requires.numerical c.in-Some.ensures.some pool (map walked_of c.args.entries.now) first firsts knows
    c.requires.unknown in
    let made = c.in-Err.ensures.onwards first (subst (λ (s : ℕ). IsFirstOf first s) (sym set) others) knows in
    let same = ap (λ (s : ℕ). pairs_at pool.edits s) set in
    let part = pairs-with pool.edits fields last c.requires.numerical c.in-Some.ensures.some in
    omega (arith, made, same, part)
