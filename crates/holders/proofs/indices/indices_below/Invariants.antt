use Rattle.std.proofs.Common.{◌≡◌, ◌-◌, ◌^◌, ◌≤◌, length}
use Rattle.hybrid_rle.specs.Runs.{runs}
use Rattle.holders.specs.Counts.{below}
use Rattle.holders.proofs.indices.indices_below.Given as goal

abbrev pub invariant-loop-run : goal.invariant-loop-run
invariant-loop-run l = (l.runs.w ≡ l.w) × (l.runs.left ≤ l.n) × (below l.entries (runs l.w (2 ^ 32 - 1) l.n l.bytes) ≡ below l.entries (runs l.w (2 ^ 32 - 1) l.runs.left l.runs.rest.now))

abbrev pub decreases-loop-run : goal.decreases-loop-run
decreases-loop-run l = length l.runs.rest.now
