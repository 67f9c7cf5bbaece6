use Rattle.std.proofs.Common.{ap, bit_and, bit_xor}
use Rattle.panel_link.proofs.PinParts.{power-fits}
use Rattle.panel_link.proofs.pins.others_of.Goals as goal

pub returns : goal.returns
returns c = ap (λ n. bit_and c.args.set (bit_xor c.args.set n)) (power-fits c.args.code c.requires)
