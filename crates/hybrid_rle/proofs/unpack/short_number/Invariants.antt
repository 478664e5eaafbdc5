use Rattle.std.proofs.Common.{◌≡◌, ◌+◌, ◌*◌, ◌^◌, ◌<◌, drop}
use Rattle.values.specs.Little.{little}
use Rattle.hybrid_rle.proofs.unpack.short_number.Given as goal

abbrev pub invariant-loop-at : goal.invariant-loop-at
invariant-loop-at l = (l.value < 2 ^ (8 * l.at)) × (l.value + 2 ^ (8 * l.at) * little (drop l.at l.bytes) ≡ little l.bytes)
