-- What an iterator over bits has yet to give.
use Rattle.std.specs.Prelude.{◌-◌, Bool, List}
use Rattle.bitmap.specs.Bitmaps.{part}
use Rattle.bitmap.specs.declared.utils.BitmapIter.{BitmapIter}

-- the bits from the iterator's place to its end
abbrev pub left : BitmapIter → List Bool
left it = part it.index (it.end - it.index) it.bytes.now
