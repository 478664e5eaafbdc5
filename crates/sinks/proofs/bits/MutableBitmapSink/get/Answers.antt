use Rattle.std.proofs.Common.{ap, ◌∙◌}
use Rattle.std.specs.Option.{option_map}
use Rattle.bitmap.specs.Bitmaps.{bit_at}
use Rattle.values.specs.Values.{a_flag}
use Rattle.sinks.proofs.Places.{seen_bit}
use Rattle.sinks.proofs.bits.MutableBitmapSink.get.Goals as goal

pub returns-clause-answer : goal.returns-clause-answer
returns-clause-answer c = let s = c.args.self.now in ap (option_map a_flag) c.get.ensures ∙ seen_bit (bit_at s.buffer.now) s.used c.args.i
