use Rattle.std.proofs.Common.{true, take, replicate, rules}
use lib.ListN.{length-replicate}
use Rattle.sinks.proofs.Rows.{numbers_grown, zeros}
use Rattle.sinks.proofs.fixed.FixedSink.push_nulls.Goals as goal

pub returns : goal.returns
returns g c =
    let s = c.args.self.now in let t = c.fill.new.self in let n = c.args.n in let z = c.zero-zero.result in let f = g.T.Element.int in
    let p = (numbers_grown f s.memory.now s.used n (replicate n z) (take t.used t.memory.now) _ true s.within (length-replicate n z) (zeros f n z c.zero-zero.ensures) c.if-not-has_space.ensures c.fill.ensures.items) in
    record { answer = p.0; items = p.1; memory = search rules; kept = search rules }
