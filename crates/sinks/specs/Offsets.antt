-- Variable-size binary layout, by the rules of Arrow's columnar format: the bytes of the rows stand one after the other,
-- and signed 32-bit offsets, one more than there are rows, say where each row begins and where the last one ends.
use Rattle.std.specs.Prelude.{◌≡◌, ℕ, ◌+◌, ◌-◌, ◌^◌, ◌<◌, ◌≤◌, min, List, [], map, take, drop, ℤ, pos, negsuc, slice_index_or}
use Rattle.std.specs.List.{range_with_len}
use Rattle.values.specs.Values.{Value, Room, bytes}

-- an offset counts bytes from the first one on
abbrev pub place : ℤ → ℕ
place (pos n) = n
place (negsuc n) = 0

-- offsets[i]
abbrev pub mark : List ℤ → ℕ → ℕ
mark offsets i = place (slice_index_or offsets i (pos 0))

-- the n bytes from place a on
abbrev pub cut : List ℕ → ℕ → ℕ → List ℕ
cut text a n = take n (drop a text)

-- the same as a value
abbrev pub string : List ℕ → ℕ → ℕ → Value
string text a n = bytes (cut text a n)

-- row i begins at offsets[i], and length(i) = offsets[i + 1] - offsets[i]
abbrev pub row : List ℤ → List ℕ → ℕ → List ℕ
row offsets text i = cut text (mark offsets i) (mark offsets (i + 1) - mark offsets i)

-- the values of n rows, in order
abbrev pub strings : ℕ → List ℤ → List ℕ → List Value
strings n offsets text = map (λ i. bytes (row offsets text i)) (range_with_len 0 n)

-- offsets are not negative
abbrev pub Signed : ℕ → List ℤ → Type 0
Signed n offsets = (i : ℕ) → i ≤ n → slice_index_or offsets i (pos 0) ≡ pos (mark offsets i)

-- offsets do not fall: offsets[i] ≤ offsets[i + 1]
abbrev pub Rising : ℕ → List ℤ → Type 0
Rising n offsets = (i : ℕ) → i < n → mark offsets i ≤ mark offsets (i + 1)

-- n rows have n + 1 offsets; without memory for offsets there are no rows
abbrev pub row_room : ℕ → ℕ
row_room n = n - 1

-- no signed 32-bit offset passes 2 ^ 31 - 1
abbrev pub byte_room : ℕ → ℕ
byte_room n = min n (2 ^ 31 - 1)

-- at a null the offset stays as it is: length(i) = 0
abbrev pub no_bytes : Value
no_bytes = bytes []

-- the room that memory for m offsets and n bytes gives
abbrev pub of_offsets : ℕ → ℕ → Room
of_offsets m n = record { rows = row_room m; bytes = byte_room n; blank = no_bytes }
