use Rattle.std.proofs.Common.{sym, ◌∙◌}
use Rattle.bitmap.proofs.Sources.{between_part}
use Rattle.bitmap.proofs.source.SliceBits.byte.Goals as goal

pub returns : goal.returns
returns c = let s = c.args.self.now in c.byte_at.ensures ∙ sym (between_part s.bytes.now s.offset c.args.i 8)
