use Rattle.std.proofs.Common.{◌≡◌, ◌-◌, is_some}
use Rattle.holders.specs.Judge.{arrays_in}
use Rattle.holders.proofs.arrays.arrays_fit.Given as goal

abbrev pub invariant-loop-i : goal.invariant-loop-i
invariant-loop-i l = is_some (arrays_in l.n l.bytes) ≡ is_some (arrays_in (l.n - l._i) l.rest)
