use Rattle.std.proofs.Common.{◌≡◌, true, ◌++◌, take, string_bytes, codes}
use Rattle.values.specs.Values.{rows_in}
use Rattle.cli.specs.Layout.{listed}
use Rattle.cli.proofs.layout.rows_text.Given as goal

abbrev pub invariant-loop-i : goal.invariant-loop-i
invariant-loop-i g l =
    (string_bytes l.text ≡ codes "[" ++ listed true (take l.i (rows_in (g.P.Sink.items l.initial.sink) (g.V.Validity.bits l.initial.validity))))
    × (l.sink ≡ l.initial.sink) × (l.validity ≡ l.initial.validity)
