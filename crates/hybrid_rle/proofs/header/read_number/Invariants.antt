use Rattle.std.proofs.Common.{◌≡◌, ◌-◌, ◌*◌, ◌^◌, ◌<◌, drop}
use Rattle.hybrid_rle.specs.Header.{number}
use Rattle.hybrid_rle.proofs.Headers.{after}
use Rattle.hybrid_rle.proofs.header.read_number.Given as goal

abbrev pub invariant-loop-at : goal.invariant-loop-at
invariant-loop-at l = (l.value < 2 ^ (7 * l.at)) × (number l.most l.bytes ≡ after l.value l.at (number (l.most - l.at) (drop l.at l.bytes)))
