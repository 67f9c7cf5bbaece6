use Rattle.std.proofs.Common.{ap, eq-eqb, w64}
use Rattle.std.proofs.lemmas.Nat.Bits.{bit_at_set_same, bit_at_set_other}
use Rattle.std.specs.Prelude.{◌==◌}
use Rattle.edit_model.proofs.FieldSetLaws.{with-is}
use Rattle.edit_model.proofs.field_set.FieldSet.with.Goals as goal

pub returns-clause-set : goal.returns-clause-set
returns-clause-set c =
    rw (← c.self.view_is) (with-is c.self.inside.bits c.args.field _ (eq-eqb _ _ (bit_at_set_same w64 c.self.inside.bits c.args.field c.requires))
    (λ f e. ap (λ b. b == 1) (bit_at_set_other w64 c.self.inside.bits c.args.field c.requires f e)))

pub returns-clause-has : goal.returns-clause-has
returns-clause-has c = eq-eqb _ _ (bit_at_set_same w64 c.self.inside.bits c.args.field c.requires)

pub returns-clause-others : goal.returns-clause-others
returns-clause-others c = λ f e. rw (← c.self.view_is) (ap (λ b. b == 1) (bit_at_set_other w64 c.self.inside.bits c.args.field c.requires f e))
