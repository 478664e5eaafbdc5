use Rattle.hybrid_rle.specs.Rows.{bits}
use Rattle.holders.proofs.Filling.{bits_one}
use Rattle.holders.proofs.Measures.{needed_byte}
use Rattle.holders.proofs.present.ones.Goals as goal

pub loop-i-preserved : goal.loop-i-preserved
loop-i-preserved c = needed_byte (bits c.args.bytes.now c.args.offset c.loop-i.i) _ c.get_bit.result c.loop-i.count c.loop-i.i (bits_one c.args.bytes.now c.args.offset c.loop-i.i c.get_bit.result c.get_bit.ensures) c.loop-i.invariant.0 c.loop-i.invariant.1
