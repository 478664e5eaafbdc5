use Rattle.std.proofs.Common.{◌≡◌, ◌≤◌}
use Rattle.hybrid_rle.specs.Rows.{bits}
use Rattle.holders.specs.Judge.{needed}
use Rattle.holders.proofs.present.ones.Given as goal

abbrev pub invariant-loop-i : goal.invariant-loop-i
invariant-loop-i l = (l.count ≡ needed (bits l.bytes l.offset l.i)) × (l.count ≤ l.i)
