use Rattle.std.proofs.Common.{true, unwrap_or, ap, ◌∙◌}
use Rattle.bitmap.specs.Bitmaps.{bit_at}
use Rattle.sinks.proofs.Places.{bit_read}
use Rattle.sinks.proofs.bits.MutableBitmapValidity.get.Goals as goal

pub returns-clause-answer : goal.returns-clause-answer
returns-clause-answer c = let s = c.args.self.now in c.unwrap_or.ensures ∙ ap (λ o. unwrap_or o true) c.get.ensures ∙ bit_read (bit_at s.buffer.now) s.used c.args.i
