use Rattle.std.proofs.Common.{◌≡◌, length}
use Rattle.hybrid_rle.specs.Runs.{runs, sound}
use Rattle.hybrid_rle.proofs.runs.check.Given as goal

abbrev pub invariant-loop-run : goal.invariant-loop-run
invariant-loop-run l = (l.runs.w ≡ l.w) × (sound (runs l.w l.top l.n l.bytes) ≡ sound (runs l.w l.top l.runs.left l.runs.rest.now))

abbrev pub decreases-loop-run : goal.decreases-loop-run
decreases-loop-run l = length l.runs.rest.now
