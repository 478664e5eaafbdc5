use Rattle.std.proofs.Common.{◌≡◌, [], ◌∷◌, ◌++◌, ap, ◌∙◌, subst, arith}
use Rattle.bitmap.specs.Appends.{Appends}
use Rattle.bitmap.specs.Bitmaps.{bits_between}
use Rattle.bitmap.proofs.Appending.{appends_then, between_more}
use Rattle.bitmap.proofs.mutable.MutableBitmap.extend_bits.Goals as goal

pub loop-i-preserved : goal.loop-i-preserved
loop-i-preserved g c =
    let f = g.S.Bits.at c.args.source.now in
    let one = appends_then c.loop-i.invariant c.push_unchecked.ensures in
    subst (Appends c.args.self.now c.push_unchecked.new.self) (ap (λ b. bits_between f c.args.start c.loop-i.i ++ b ∷ []) c.bit.ensures ∙ between_more f c.args.start c.loop-i.i c.loop-i.auto.i) one

pub returns : goal.returns
returns g c =
    let all : c.loop-i.i ≡ c.args.end = omega arith in
    subst (λ e. Appends c.args.self.now c.loop-i.self (bits_between (g.S.Bits.at c.args.source.now) c.args.start e)) all c.loop-i.invariant
