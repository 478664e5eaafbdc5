use Rattle.std.proofs.Common.{◌≡◌, ◌+◌, ◌-◌, ◌≤◌, length, take, drop}
use Rattle.hybrid_rle.specs.Cursor.{to_come}
use Rattle.hybrid_rle.specs.Rows.{flat}
use Rattle.holders.specs.Judge.{needed}
use Rattle.holders.proofs.measure.count_present.Given as goal

abbrev pub invariant-loop-done : goal.invariant-loop-done
invariant-loop-done l =
    (l.done ≤ l.limit)
    × (flat (to_come l.page) ≡ drop l.done (flat (to_come l.initial.page)))
    × (l.count ≡ needed (take l.done (flat (to_come l.initial.page))))
    × (l.count ≤ l.done)

abbrev pub decreases-loop-done : goal.decreases-loop-done
decreases-loop-done l = (l.limit - l.done) + length (to_come l.page)
