use Rattle.std.proofs.Common.{◌≡◌, ℕ, zero, suc, ◌+◌, ◌^◌, ◌&&◌, ◌==◌, List, [], ◌∷◌, ◌++◌, length, map, ap, sym, subst, ◌∙◌, arith}
use Rattle.std.specs.List.{AllByRecursion, range_with_len}
use Rattle.std.proofs.lemmas.List.FromFn.{length-map-range_with_len, map-range_with_len_more}
use Rattle.bound_cert.specs.ValidTrees.{steps_in}
use Rattle.bound_cert.specs.declared.cert.Leaf.{Leaf}
use Rattle.certificate_bench.specs.inner.Certificates.{leaf_at, leaves_of, step_where}
use Rattle.certificate_bench.specs.declared.certificate.Plan.{Plan}

-- a list made place by place, with the element of one place more
pub list-more : {X : Type 0} (f : ℕ → X) (place : ℕ) (before after : List X) (x : X) → after ≡ before ++ x ∷ [] → before ≡ map f (range_with_len 0 place) → x
    ≡ f place → after ≡ map f (range_with_len 0 (place + 1))
list-more {X} f place before after x items made is =
    items ∙ ap (λ (xs : List X). xs ++ x ∷ []) made ∙ ap (λ (y : X). map f (range_with_len 0 place) ++ y ∷ []) is
    ∙ sym (map-range_with_len_more f 0 place place (omega arith))

-- the leaves of all numbers are the certificate's
pub leaves-made : (plan : Plan) (number : ℕ) (made leaves : List Leaf) → made ≡ leaves → leaves ≡ map (λ k. leaf_at plan k) (range_with_len 0 number) → number
    ≡ 2 ^ plan.depth → made ≡ leaves_of plan
leaves-made plan number made leaves same is all = same ∙ is ∙ ap (λ n. map (λ k. leaf_at plan k) (range_with_len 0 n)) all

-- there are as many as the tree has
pub leaf-count : (plan : Plan) (leaves : List Leaf) → leaves ≡ leaves_of plan → length leaves ≡ 2 ^ plan.depth
leaf-count plan leaves is = ap (λ (ls : List Leaf). length ls) is ∙ length-map-range_with_len (λ k. leaf_at plan k) 0 (2 ^ plan.depth)

-- each has as many steps as are asked for
pub step-count : (plan : Plan) (leaves : List Leaf) → leaves ≡ leaves_of plan → AllByRecursion (λ (leaf : Leaf). length (steps_in leaf.why) ≡ plan.steps) leaves
step-count plan leaves is = subst (λ (ls : List Leaf). AllByRecursion (λ (leaf : Leaf). length (steps_in leaf.why) ≡ plan.steps) ls) (sym is)
    (from 0 (2 ^ plan.depth))
  where
    from : (i n : ℕ) → AllByRecursion (λ (leaf : Leaf). length (steps_in leaf.why) ≡ plan.steps) (map (λ k. leaf_at plan k) (range_with_len i n))
    from i zero = tt
    from i (suc n) = (
      length-map-range_with_len (λ place. step_where (plan.broken && (i + 1 == 2 ^ plan.depth)) (place + 1 == plan.steps)) 0 plan.steps,
      from (i + 1) n,
    )
