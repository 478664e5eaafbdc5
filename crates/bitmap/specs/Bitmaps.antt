-- Bits packed into bytes, by the rules of Arrow's columnar format. A byte is a number below 256.
use Rattle.std.specs.Prelude.{ℕ, ◌-◌, ◌*◌, ◌/◌, ◌%◌, ◌^◌, ◌<◌, min, Bool, List, map, ◌==◌, slice_index}
use Rattle.std.specs.List.{range_with_len}

-- bit i is bit i mod 8 of byte i div 8, counted from the lowest; past the last byte it counts as 0
abbrev pub bit_at : List ℕ → ℕ → Bool
bit_at bytes i = slice_index bytes (i / 8) / 2 ^ (i % 8) % 2 == 1

-- a bitmap of n bits is the bits 0 to n - 1, in order
abbrev pub bits : ℕ → List ℕ → List Bool
bits n bytes = map (bit_at bytes) (range_with_len 0 n)

-- the bits from bit a up to bit e, in order, where bit i is f i
abbrev pub bits_between : (ℕ → Bool) → ℕ → ℕ → List Bool
bits_between f a e = map f (range_with_len a (e - a))

-- a bitmap may begin at any bit: the n bits from bit offset on, in order
abbrev pub part : ℕ → ℕ → List ℕ → List Bool
part offset n bytes = map (bit_at bytes) (range_with_len offset n)

-- the unused bits of the last byte are 0: where n bits end inside a byte, nothing stands in it above them
abbrev pub Tidy : ℕ → List ℕ → Type 0
Tidy n bytes = 0 < n % 8 → slice_index bytes (n / 8) < 2 ^ (n % 8)

-- n bytes hold eight bits each, of which no more can be counted than 64 bits can say
abbrev pub capacity : ℕ → ℕ
capacity n = min (n * 8) (2 ^ 64 - 1)
