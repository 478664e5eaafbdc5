use Rattle.std.proofs.Common.{false, replicate, rules}
use lib.ListN.{length-replicate}
use Rattle.values.specs.Values.{flag}
use Rattle.sinks.proofs.Flags.{flags_grown}
use Rattle.sinks.proofs.Rows.{map_replicate}
use Rattle.sinks.proofs.bits.MutableBitmapSink.push_nulls.Goals as goal

pub returns : goal.returns
returns c =
    let n = c.args.n in
    let e = c.extend_constant.ensures in
    let p = (flags_grown c.extend_constant.result c.args.self.now c.extend_constant.new.self (replicate n false) e.appended e.kept n (replicate n (flag false)) (length-replicate n false) (map_replicate flag n false) e.answer) in
    record { answer = p.0; items = p.1; memory = search rules; kept = search rules }
