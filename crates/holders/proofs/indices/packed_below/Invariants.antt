use Rattle.std.proofs.Common.{◌≡◌, ◌-◌, ◌*◌}
use Rattle.hybrid_rle.specs.Runs.{fields, all_below}
use Rattle.holders.proofs.indices.packed_below.Given as goal

abbrev pub invariant-loop-i : goal.invariant-loop-i
invariant-loop-i l = all_below l.entries (fields l.w l.n l.bytes 0) ≡ all_below l.entries (fields l.w (l.n - l.i) l.bytes (l.i * l.w))
