use Rattle.std.proofs.Common.{ap, ◌∙◌, subst}
use Rattle.bitmap.specs.Appends.{Appends}
use Rattle.bitmap.specs.Bitmaps.{part}
use Rattle.bitmap.proofs.Sources.{between_whole}
use Rattle.bitmap.proofs.mutable.MutableBitmap.extend_from_slice.Goals as goal

pub returns-clause-appended : goal.returns-clause-appended
returns-clause-appended c =
    let s = c.in_ok-source.source in
    let made = rw c.in_ok-source.ensures.ok_part at c.new.ensures.made in
    let given = between_whole s.bytes.now s.offset s.n ∙ ap (part s.offset s.n) made.0 ∙ ap (λ k. part k s.n c.args.bytes.now) made.1 ∙ ap (λ k. part c.args.offset k c.args.bytes.now) made.2 in
    subst (Appends c.args.self.now c.extend.new.self) given c.in_ok-extend.ensures.appended
