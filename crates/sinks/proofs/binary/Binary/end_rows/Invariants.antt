use Rattle.std.proofs.Common.{◌≡◌, ◌+◌, ◌++◌, length, replicate}
use Rattle.sinks.specs.Offsets.{strings, no_bytes}
use Rattle.sinks.proofs.binary.Binary.end_rows.Given as goal

abbrev pub invariant-loop : goal.invariant-loop
invariant-loop l =
    (l.self.rows ≡ l.initial.self.rows + l.counter)
    × (l.self.used ≡ l.initial.self.used)
    × (l.self.bytes ≡ l.initial.self.bytes)
    × (l.self.offsets.ghost_name ≡ l.initial.self.offsets.ghost_name)
    × (length l.self.offsets.now ≡ length l.initial.self.offsets.now)
    × (strings l.self.rows l.self.offsets.now l.self.bytes.now ≡ strings l.initial.self.rows l.initial.self.offsets.now l.initial.self.bytes.now ++ replicate l.counter no_bytes)
