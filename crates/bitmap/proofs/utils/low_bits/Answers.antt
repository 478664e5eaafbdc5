use Rattle.std.proofs.Common.{◌-◌, ap, ◌∙◌}
use lib.Bits.{bit_and}
use Rattle.std.proofs.lemmas.Nat.{one_shl, and_mask}
use Rattle.bitmap.proofs.utils.low_bits.Goals as goal

pub returns : goal.returns
returns c = ap (λ t. bit_and c.args.byte (t - 1)) (one_shl c.args.j 8 c.requires) ∙ and_mask c.args.byte c.args.j
