use Rattle.std.proofs.Common.{◌≡◌, ◌+◌, ◌≤◌, length}
use Rattle.hybrid_rle.specs.Runs.{runs}
use Rattle.holders.specs.Counts.{tallied}
use Rattle.holders.proofs.Tally.{plus}
use Rattle.holders.proofs.present.present_rows.Given as goal

abbrev pub invariant-loop-run : goal.invariant-loop-run
invariant-loop-run l = (l.runs.w ≡ 1) × (l.n + l.runs.left ≤ l.rows) × (tallied (runs 1 1 l.rows l.bytes) ≡ plus l.n (tallied (runs 1 1 l.runs.left l.runs.rest.now)))

abbrev pub decreases-loop-run : goal.decreases-loop-run
decreases-loop-run l = length l.runs.rest.now
