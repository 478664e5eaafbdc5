use Rattle.std.proofs.Common.{◌≡◌, ◌-◌, true, is_some}
use Rattle.holders.specs.Judge.{arrays_in}
use Rattle.holders.specs.Entries.{nth_in}
use Rattle.holders.proofs.entry.array_at.Given as goal

abbrev pub invariant-loop-k : goal.invariant-loop-k
invariant-loop-k l = (is_some (arrays_in (l.n - l._k) l.rest) ≡ true) × (nth_in (arrays_in (l.n - l._k) l.rest) (l.i - l._k) ≡ nth_in (arrays_in l.n l.bytes) l.i)
