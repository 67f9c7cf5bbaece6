use Rattle.std.proofs.Common.{◌≡◌, ◌+◌, ◌-◌, ◌++◌, Bool, List, length, rules, true, ap, ◌∙◌, arith}
use Rattle.std.proofs.Math.ListN.{replicate}
use Rattle.std.proofs.lemmas.List.{take_all}
use Rattle.std.specs.Vec.{vec_len}
use Rattle.std.proofs.lemmas.Simd.{splat_is_map}
use Rattle.cert_check.proofs.table.put_behind.Goals as goal

pub returns-clause-usable : goal.returns-clause-usable
returns-clause-usable c =
    let before = c.args.usable.now.items in
    let shared = c.args.shared.items in
    let before_long : vec_len c.args.usable.now ≡ length before = search rules in
    let shared_long : vec_len c.args.shared ≡ length shared = search rules in
    let count = c.len.result + c.len-2.result in
    let many = count - vec_len c.args.usable.now in
    c.in_ok-resize.ensures.items
    ∙ ap (λ (bs : List Bool). bs ++ replicate many true) (take_all count before (omega (arith, c.len.ensures, c.len-2.ensures, before_long, shared_long)))
    ∙ ap (λ (bs : List Bool). before ++ bs) (splat_is_map shared many true (omega (arith, c.len.ensures, c.len-2.ensures, before_long, shared_long)))
