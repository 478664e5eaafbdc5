use Rattle.std.proofs.Common.{◌-◌, ◌%◌, ◌++◌, ap, ◌∙◌, subst, arith}
use Rattle.bitmap.specs.Appends.{Appends}
use Rattle.bitmap.specs.Bitmaps.{bits_between}
use Rattle.bitmap.proofs.Appending.{appends_then, between_append}
use Rattle.bitmap.proofs.mutable.MutableBitmap.extend.Goals as goal

pub returns-clause-appended : goal.returns-clause-appended
returns-clause-appended g c =
    let s = c.args.self.now in
    let f = g.S.Bits.at c.args.source.now in
    let n = c.len-n.result in
    let gap = (8 - s.used % 8) % 8 in
    let last = n - (n - gap) % 8 in
    let all = appends_then (appends_then c.extend_bits-2.ensures c.extend_bytes.ensures) c.extend_bits-3.ensures in
    let front = between_append f 0 gap last (omega arith) (omega arith) in
    let joined = ap (λ t. t ++ bits_between f last n) front ∙ between_append f 0 last n (omega arith) (omega arith) ∙ ap (bits_between f 0) c.len-n.ensures in
    subst (Appends s c.extend_bits-3.new.self) joined all
