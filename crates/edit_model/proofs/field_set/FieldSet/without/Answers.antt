use Rattle.std.proofs.Common.{ap, w64, rules, ◌<◌, ◌^◌}
use Rattle.std.proofs.lemmas.Nat.Bits.{bit_at_clear_same}
use Rattle.std.specs.Prelude.{◌==◌}
use Rattle.edit_model.proofs.BitSets.{others_kept}
use Rattle.edit_model.proofs.FieldSetLaws.{without-is}
use Rattle.edit_model.proofs.field_set.FieldSet.without.Goals as goal

pub returns-clause-set : goal.returns-clause-set
returns-clause-set c =
    let under : c.self.inside.bits < 2 ^ 64 = search rules in
    rw (← c.self.view_is) (without-is c.self.inside.bits c.args.field _ (ap (λ b. b == 1) (bit_at_clear_same w64 c.self.inside.bits c.args.field c.requires))
    (λ f e. ap (λ b. b == 1) (others_kept c.self.inside.bits c.args.field f under c.requires e)))

pub returns-clause-out : goal.returns-clause-out
returns-clause-out c = ap (λ b. b == 1) (bit_at_clear_same w64 c.self.inside.bits c.args.field c.requires)

pub returns-clause-others : goal.returns-clause-others
returns-clause-others c = λ f e.
    let under : c.self.inside.bits < 2 ^ 64 = search rules in
    rw (← c.self.view_is) (ap (λ b. b == 1) (others_kept c.self.inside.bits c.args.field f under c.requires e))
