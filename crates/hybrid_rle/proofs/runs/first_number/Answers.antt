use Rattle.std.proofs.Common.{◌∙◌, arith}
use Rattle.hybrid_rle.proofs.Places.{first_four}
use Rattle.hybrid_rle.proofs.runs.first_number.Goals as goal

pub returns : goal.returns
returns c = c.unpacked.ensures ∙ first_four c.args.bytes.now (λ i. let f = c.type_inv.bytes i in omega arith)
