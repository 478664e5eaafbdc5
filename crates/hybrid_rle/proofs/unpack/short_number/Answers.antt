use Rattle.std.proofs.Common.{◌+◌, ◌*◌, ◌^◌, ◌≤◌, arith, pow_mono}
use Rattle.hybrid_rle.proofs.Littles.{byte_below, byte_on}
use Rattle.hybrid_rle.proofs.unpack.short_number.Goals as goal

pub overflow_add-value : goal.overflow_add-value
overflow_add-value c =
    let b = byte_below c.args.bytes.now c.loop-at.at c.loop-at.value (omega arith) (omega arith) (omega arith) c.loop-at.invariant.0 in
    let p : 2 ^ (8 * (c.loop-at.at + 1)) ≤ 2 ^ 64 = pow_mono {i = 8 * (c.loop-at.at + 1)} {j = 64} (omega arith) in
    omega arith

pub loop-at-preserved : goal.loop-at-preserved
loop-at-preserved c = (
  byte_below c.args.bytes.now c.loop-at.at c.loop-at.value (omega arith) (omega arith) (omega arith) c.loop-at.invariant.0,
  byte_on c.args.bytes.now c.loop-at.at c.loop-at.value (omega arith) (omega arith) (omega arith) c.loop-at.invariant.1,
)
