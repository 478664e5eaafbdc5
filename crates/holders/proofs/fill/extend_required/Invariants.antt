use Rattle.std.proofs.Common.{true, replicate}
use Rattle.holders.specs.Filled.{Fills}
use Rattle.holders.proofs.fill.extend_required.Given as goal

abbrev pub invariant-loop-i : goal.invariant-loop-i
invariant-loop-i g l = Fills (replicate l._i true) (g.P.Sink.room l.initial.sink) (g.P.Sink.home l.initial.sink) (g.P.Sink.items l.initial.sink) (g.C.Cursor.left l.initial.values) (g.P.Sink.room l.sink) (g.P.Sink.home l.sink) (g.P.Sink.items l.sink) (g.C.Cursor.left l.values)
