use Rattle.std.proofs.Common.{◌+◌, ◌*◌}
use Rattle.bitmap.specs.Appends.{Appends}
use Rattle.bitmap.specs.Bitmaps.{bits_between}
use Rattle.bitmap.proofs.mutable.MutableBitmap.extend_bytes.Given as goal

abbrev pub invariant-loop-i : goal.invariant-loop-i
invariant-loop-i g l = Appends l.initial.self l.self (bits_between (g.S.Bits.at l.source) l.start (l.start + 8 * l.i))
