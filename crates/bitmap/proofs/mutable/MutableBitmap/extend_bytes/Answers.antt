use Rattle.std.proofs.Common.{◌≡◌, ◌+◌, ◌*◌, ◌++◌, ap, ◌∙◌, subst, arith}
use Rattle.bitmap.specs.Appends.{Appends}
use Rattle.bitmap.specs.Bitmaps.{bits_between}
use Rattle.bitmap.proofs.Appending.{appends_then, between_append}
use Rattle.bitmap.proofs.mutable.MutableBitmap.extend_bytes.Goals as goal

pub loop-i-preserved : goal.loop-i-preserved
loop-i-preserved g c =
    let f = g.S.Bits.at c.args.source.now in
    let at = c.args.start + 8 * c.loop-i.i in
    let next : at + 8 ≡ c.args.start + 8 * (c.loop-i.i + 1) = omega arith in
    let eight = appends_then c.loop-i.invariant c.push_byte.ensures in
    subst (Appends c.args.self.now c.push_byte.new.self) (ap (λ b. bits_between f c.args.start at ++ b) c.byte.ensures ∙ between_append f c.args.start at (at + 8) (omega arith) (omega arith) ∙ ap (bits_between f c.args.start) next) eight

pub returns : goal.returns
returns g c =
    let all : c.args.start + 8 * c.loop-i.i ≡ c.args.end = omega arith in
    subst (λ e. Appends c.args.self.now c.loop-i.self (bits_between (g.S.Bits.at c.args.source.now) c.args.start e)) all c.loop-i.invariant
