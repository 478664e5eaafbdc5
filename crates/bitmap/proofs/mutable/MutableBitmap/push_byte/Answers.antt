use Rattle.std.proofs.Common.{◌+◌, refl, arith, length-set}
use Rattle.bitmap.proofs.Laws.{beyond_set}
use Rattle.bitmap.proofs.Whole.{bits_byte}
use Rattle.bitmap.proofs.mutable.MutableBitmap.push_byte.Goals as goal

pub returns : goal.returns
returns c = record {
  count = refl;
  items = bits_byte _ _ _ c.requires.aligned (omega arith);
  room = length-set _ _ _;
  home = refl;
  beyond = λ j h. beyond_set c.args.self.now.buffer.now c.args.self.now.used (c.args.self.now.used + 8) j c.args.byte (omega arith) h;
}
