-- Columns of fixed width, by the rules of Arrow's columnar format.
use Rattle.std.specs.Prelude.{ℕ, Bool, List, map, ℤ}
use Rattle.values.specs.Values.{Value, Room, number, flag}

-- primitive layout: one number to a row, in order
abbrev pub numbers : {X : Type 0} → (X → ℤ) → List X → List Value
numbers f xs = map (λ x. number (f x)) xs

-- boolean layout: one bit to a row, packed as the bits of a validity bitmap are
abbrev pub flags : List Bool → List Value
flags bs = map flag bs

-- a null has its place as any row has, and b stands there; no row takes bytes beside its place
abbrev pub of_rows : ℕ → Value → Room
of_rows n b = record { rows = n; bytes = 0; blank = b }
