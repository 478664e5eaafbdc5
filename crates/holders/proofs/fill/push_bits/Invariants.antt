use Rattle.hybrid_rle.specs.Rows.{bits}
use Rattle.holders.specs.Filled.{Fills}
use Rattle.holders.proofs.fill.push_bits.Given as goal

abbrev pub invariant-loop-i : goal.invariant-loop-i
invariant-loop-i g l = Fills (bits l.bytes l.offset l.i) (g.P.Sink.room l.initial.sink) (g.P.Sink.home l.initial.sink) (g.P.Sink.items l.initial.sink) (g.C.Cursor.left l.initial.values) (g.P.Sink.room l.sink) (g.P.Sink.home l.sink) (g.P.Sink.items l.sink) (g.C.Cursor.left l.values)
