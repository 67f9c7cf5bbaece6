use Rattle.std.proofs.Common.{◌≡◌, ◌%◌, ◌⊎◌, ◌∙◌, inl, inr}
use Rattle.fraction128.proofs.OrderLaws.{nat_cmp-over, nat_cmp-wholes, nat_cmp-rests, nat_cmp-end, nat_cmp-turned}
use Rattle.fraction128.proofs.fraction.order.+compare_sizes.Goals as goal
use Rattle.fraction128.proofs.fraction.order.+compare_sizes.Goals.{then-first_rest-eq0-via-then-first_rest-eq0}
use Rattle.fraction128.proofs.fraction.order.+compare_sizes.Goals.{then-first_rest-eq0-via-else-first_rest-eq0+then-second_rest-eq0}

pub returns-then-b-d : goal.returns-then-b-d
returns-then-b-d t c = c.cmp.ensures ∙ nat_cmp-over _ _ _ _ c.requires.first c.if-b-d.true

pub returns-then-first-second : goal.returns-then-first-second
returns-then-first-second t c =
    c.cmp-then-first-second.ensures ∙ nat_cmp-wholes _ _ _ _ c.requires.first c.requires.second c.if-first-second.true

pub returns-then-first_rest-eq0 : goal.returns-then-first_rest-eq0
returns-then-first_rest-eq0 t c =
    let end : (c.args.a % c.args.b ≡ 0) ⊎ (c.args.c % c.args.d ≡ 0) = elim c.then-first_rest-eq0.branch [
      | then-first_rest-eq0-via-then-first_rest-eq0 w ↦ inl w.if-first_rest-eq0.true
      | then-first_rest-eq0-via-else-first_rest-eq0+then-second_rest-eq0 w ↦ inr w.if-second_rest-eq0.true
    ] in
    c.cmp-then-first_rest-eq0.ensures
    ∙ nat_cmp-end _ _ _ _ c.requires.first c.requires.second end
    ∙ nat_cmp-rests _ _ _ _ c.if-first-second.false

pub returns : goal.returns
returns t c = c.compare_sizes.ensures ∙ nat_cmp-turned _ _ _ _ c.if-first-second.false
