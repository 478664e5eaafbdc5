use Rattle.std.proofs.Common.{◌≡◌, ◌+◌, ◌-◌, ◌≤◌, ◌++◌, length, take, drop}
use Rattle.hybrid_rle.specs.Cursor.{to_come}
use Rattle.hybrid_rle.specs.Rows.{flat}
use Rattle.holders.specs.Judge.{needed}
use Rattle.holders.specs.Filled.{filled}
use Rattle.holders.proofs.decode.extend_from_decoder.Given as goal

abbrev pub invariant-loop-done : goal.invariant-loop-done
invariant-loop-done g l =
    (l.done ≤ l.limit)
    × (flat (to_come l.page) ≡ drop l.done (flat (to_come l.initial.page)))
    × (g.P.Sink.items l.sink ≡ g.P.Sink.items l.initial.sink ++ filled (g.P.Sink.room l.initial.sink).blank (take l.done (flat (to_come l.initial.page))) (g.C.Cursor.left l.initial.values))
    × (g.C.Cursor.left l.values ≡ drop (needed (take l.done (flat (to_come l.initial.page)))) (g.C.Cursor.left l.initial.values))
    × (g.P.Sink.room l.sink ≡ g.P.Sink.room l.initial.sink)
    × (g.P.Sink.home l.sink ≡ g.P.Sink.home l.initial.sink)
    × (g.V.Validity.bits l.validity ≡ g.V.Validity.bits l.initial.validity ++ take l.done (flat (to_come l.initial.page)))
    × (g.V.Validity.room l.validity ≡ g.V.Validity.room l.initial.validity)
    × (g.V.Validity.home l.validity ≡ g.V.Validity.home l.initial.validity)

abbrev pub decreases-loop-done : goal.decreases-loop-done
decreases-loop-done g l = (l.limit - l.done) + length (to_come l.page)
