-- Claims on what is told, and on what is told before and after.
use Rattle.std.proofs.Common.{◌≡◌, Option, Some, None, IfSome, Result, Ok, Err, ap}
use Rattle.std.specs.Result.{IsErrAnd}
use Rattle.edit_desk.specs.Desk.{Told}

module _ {A : Type 0} where
  -- what is so of something, told or not, is so of it where it is told
  pub where-told : (a : Option A) (P : Option A → Type 0) → P a → IfSome a (λ x. P (Some x))
  where-told None P p = tt
  where-told (Some x) P p = p

  -- where something is told, less is said of it
  pub each-told : (a : Option A) {P Q : A → Type 0} → ((x : A) → P x → Q x) → IfSome a P → IfSome a Q
  each-told None less p = tt
  each-told (Some x) less p = less x p

  -- what several claims give
  pub both-told : (a : Option A) {P Q R : A → Type 0} → ((x : A) → P x → Q x → R x) → IfSome a P → IfSome a Q → IfSome a R
  both-told None less p q = tt
  both-told (Some x) less p q = less x p q

  pub three-told : (a : Option A) {P Q R S : A → Type 0} → ((x : A) → P x → Q x → R x → S x) → IfSome a P → IfSome a Q → IfSome a R → IfSome a S
  three-told None less p q r = tt
  three-told (Some x) less p q r = less x p q r

  -- what two steps give
  pub then-told : (a b c : Option A) {P Q R : A → A → Type 0} → ((x y z : A) → P x y → Q y z → R x z) → Told a b P → Told b c Q → Told a c R
  then-told None None None both p q = tt
  then-told None None (Some z) both p q = q
  then-told None (Some y) c both p q = absurd p
  then-told (Some x) None c both p q = absurd p
  then-told (Some x) (Some y) None both p q = absurd q
  then-told (Some x) (Some y) (Some z) both p q = both x y z p q

  -- one step, of which less is said
  pub less-told : (a b : Option A) {P R : A → A → Type 0} → ((x y : A) → P x y → R x y) → Told a b P → Told a b R
  less-told None None less p = tt
  less-told None (Some y) less p = p
  less-told (Some x) None less p = p
  less-told (Some x) (Some y) less p = less x y p

  -- a step from something of which a claim holds
  pub from-told : (a b : Option A) {P : A → Type 0} {Q R : A → A → Type 0} → ((x y : A) → P x → Q x y → R x y) → IfSome a P → Told a b Q → Told a b R
  from-told None None less p q = tt
  from-told None (Some y) less p q = q
  from-told (Some x) None less p q = q
  from-told (Some x) (Some y) less p q = less x y p q

  -- no step
  pub same-told : (a b : Option A) (R : A → A → Type 0) → b ≡ a → ((x : A) → R x x) → Told a b R
  same-told None None R same own = tt
  same-told None (Some y) R same own = absurd cc
  same-told (Some x) None R same own = absurd cc
  same-told (Some x) (Some y) R same own = let e : y ≡ x = cc in rw e (own x)

-- an error that is handed on
pub handed : {A E : Type 0} (r : Result A E) (e : E) → IsErrAnd r (λ f. f ≡ e) → r ≡ Err e
handed (Ok a) e h = absurd h
handed (Err f) e h = ap (λ (g : _). Err g) h
