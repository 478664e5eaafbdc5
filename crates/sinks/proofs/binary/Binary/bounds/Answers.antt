use Rattle.std.proofs.Common.{◌+◌, nat_abs, ap, arith}
use Rattle.sinks.specs.Offsets.{mark}
use Rattle.sinks.proofs.Marks.{as_offset, mark_below}
use Rattle.sinks.proofs.binary.Binary.bounds.Goals as goal

pub returns-clause-order : goal.returns-clause-order
returns-clause-order c =
    let s = c.args.self.now in
    let i = c.args.i in
    let low = mark_below s i (omega arith) in
    let high = mark_below s (i + 1) (omega arith) in
    let begin = ap nat_abs (as_offset _ (mark s.offsets.now i) (s.signed i (omega arith)) (omega arith)) in
    let end = ap nat_abs (as_offset _ (mark s.offsets.now (i + 1)) (s.signed (i + 1) (omega arith)) (omega arith)) in
    (omega (arith, begin, end, s.rising i c.if-i-self.false), omega (arith, end))
