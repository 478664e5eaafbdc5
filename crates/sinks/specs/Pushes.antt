-- What a push does to a sink.
use Rattle.std.specs.Prelude.{◌≡◌, ℕ, false, List, ◌++◌, is_ok, Result}
use Rattle.values.specs.Values.{Value, Room, fits, joined}
use Rattle.sinks.specs.Memory.{SameMemory}

-- xs stand after what was there, in the same memory; a push is refused exactly where that outgrows the room, and then changes nothing
pub record Pushes {S E : Type 0} (list : S → List Value) (space : S → Room) (home : S → List ℕ) (old new : S) (xs : List Value) (r : Result (Unit {0}) E) : Type 0 where
  pub answer : is_ok r ≡ fits (space old) (list old ++ xs)
  pub items : list new ≡ joined (space old) (list old) xs
  pub memory : SameMemory space home old new
  pub kept : is_ok r ≡ false → new ≡ old
