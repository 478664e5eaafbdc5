-- What an append does to a bitmap.
use Rattle.std.specs.Prelude.{◌≡◌, ℕ, ◌+◌, ◌/◌, ◌≤◌, Bool, List, ◌++◌, length, slice_index}
use Rattle.bitmap.specs.Bitmaps.{bits}
use Rattle.bitmap.specs.declared.mutable.MutableBitmap.{MutableBitmap}

-- xs stand after the bits that were there, in the same memory, and no byte beyond the last bit is written
pub record Appends (old new : MutableBitmap) (xs : List Bool) : Type 0 where
  pub count : new.used ≡ old.used + length xs
  pub items : bits new.used new.buffer.now ≡ bits old.used old.buffer.now ++ xs
  pub room : length new.buffer.now ≡ length old.buffer.now
  pub home : new.buffer.ghost_name ≡ old.buffer.ghost_name
  pub beyond : (j : ℕ) → (new.used + 7) / 8 ≤ j → slice_index new.buffer.now j ≡ slice_index old.buffer.now j
