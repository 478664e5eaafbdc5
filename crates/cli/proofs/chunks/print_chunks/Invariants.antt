use Rattle.std.proofs.Common.{◌≡◌}
use Rattle.cli.proofs.chunks.print_chunks.Given as goal

abbrev pub invariant-loop : goal.invariant-loop
invariant-loop g l =
    ((g.P.Sink.room l.sink ≡ g.P.Sink.room l.initial.sink) × (g.P.Sink.home l.sink ≡ g.P.Sink.home l.initial.sink))
    × ((g.V.Validity.room l.validity ≡ g.V.Validity.room l.initial.validity) × (g.V.Validity.home l.validity ≡ g.V.Validity.home l.initial.validity))
    × (g.H.Decoder.column l.column ≡ g.H.Decoder.column l.initial.column)
