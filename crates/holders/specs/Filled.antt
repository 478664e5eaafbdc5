-- What rows put into a chunk: each present row takes the next value, a null a stand-in.
use Rattle.std.specs.Prelude.{◌≡◌, ◌≤◌, ℕ, Bool, true, List, ◌++◌, map, length, drop, Some, None, Option}
use Rattle.values.specs.Values.{Value, Room, fits}
use Rattle.holders.specs.Judge.{needed, spread}

abbrev pub stored : Value → Option Value → Value
stored blank None = blank
stored blank (Some v) = v

-- the values of rows whose presence is bs, taken from vs, with the stand-in under nulls
abbrev pub filled : Value → List Bool → List Value → List Value
filled blank bs vs = map (stored blank) (spread bs vs)

-- there are values and room for the rows
abbrev pub Able : Room → List Value → List Bool → List Value → Type 0
Able room items bs vs = (needed bs ≤ length vs) × (fits room (items ++ filled room.blank bs vs) ≡ true)

-- what these rows change in a sink of this room, home and list of values, and in the values still to come: each present row
-- takes the next value, a null a stand-in, and the sink's memory is the same
pub record Fills (bs : List Bool) (r : Room) (h : List ℕ) (its vs : List Value) (r' : Room) (h' : List ℕ) (its' vs' : List Value) : Type 0 where
  pub items : its' ≡ its ++ filled r.blank bs vs
  pub left : vs' ≡ drop (needed bs) vs
  pub room : r' ≡ r
  pub home : h' ≡ h
