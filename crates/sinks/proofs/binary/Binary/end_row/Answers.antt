use Rattle.std.proofs.Common.{◌+◌, arith}
use Rattle.sinks.proofs.Marks.{stored, strings_pushed}
use Rattle.sinks.proofs.binary.Binary.end_row.Goals as goal

pub returns-clause-items : goal.returns-clause-items
returns-clause-items c =
    let s = c.args.self.now in
    let n = c.args.n in
    strings_pushed s n _ (stored c.offset_of.result (s.used + n) _ c.offset_of.ensures c.requires.bytes) (omega arith) s.bytes.now
