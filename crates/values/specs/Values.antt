-- Values, rows, and the chunk that holds them.
use Rattle.std.specs.Prelude.{ℕ, zero, suc, ◌+◌, Bool, true, false, cond, List, [], ◌∷◌, ◌++◌, length, take, drop, ℤ, Some, None, Option, nat_le}

pub data Value : Type 0 where
  number : ℤ → Value
  flag : Bool → Value
  bytes : List ℕ → Value

-- a row is null or has a value
pub data Row : Type 0 where
  null : Row
  value : Value → Row

-- the bytes that a value takes of a chunk's memory for bytes
abbrev pub weight : Value → ℕ
weight (number n) = 0
weight (flag b) = 0
weight (bytes bs) = length bs

abbrev pub weights : List Value → ℕ
weights [] = 0
weights (v ∷ vs) = weight v + weights vs

-- what a sink can hold, in rows and in bytes, and its stand-in for a null
pub record Room : Type 0 where
  pub rows : ℕ
  pub bytes : ℕ
  pub blank : Value

abbrev pub fits : Room → List Value → Bool
fits r vs = cond (nat_le (length vs) r.rows) (nat_le (weights vs) r.bytes) false

-- xs with ys after it, where there is room for both
abbrev pub joined : Room → List Value → List Value → List Value
joined r xs ys = cond (fits r (xs ++ ys)) (xs ++ ys) xs

-- what stands in a chunk for a row: its value, or the stand-in b
abbrev pub stand : Value → Row → Value
stand b null = b
stand b (value v) = v

abbrev pub stands : Value → List Row → List Value
stands b [] = []
stands b (r ∷ rs) = stand b r ∷ stands b rs

abbrev pub present : Row → Bool
present null = false
present (value v) = true

-- the validity bits of rows
abbrev pub validity : List Row → List Bool
validity [] = []
validity (r ∷ rs) = present r ∷ validity rs

-- a value under a validity bit
abbrev pub under : Bool → Value → Row
under true v = value v
under false v = null

-- the rows of a chunk: null at a bit 0; a row at or past the end of the bits is present
abbrev pub rows_in : List Value → List Bool → List Row
rows_in [] bs = []
rows_in (v ∷ vs) [] = value v ∷ rows_in vs []
rows_in (v ∷ vs) (b ∷ bs) = under b v ∷ rows_in vs bs

-- a value as it is seen in a chunk: bytes by their place and length
pub data Seen : Type 0 where
  a_number : ℤ → Seen
  a_flag : Bool → Seen
  a_place : ℕ → ℕ → Seen

-- what `row` answers: past the end, null, or the value
pub data Asked : Type 0 where
  past : Asked
  absent : Asked
  seen : Seen → Asked

-- a value whose bytes, if it has any, begin at place p
abbrev pub seen_as : ℕ → Value → Seen
seen_as p (number n) = a_number n
seen_as p (flag b) = a_flag b
seen_as p (bytes bs) = a_place p (length bs)

-- value i of a list whose bytes begin at place p
abbrev pub seen_at : ℕ → List Value → ℕ → Option Seen
seen_at p [] i = None
seen_at p (v ∷ vs) zero = Some (seen_as p v)
seen_at p (v ∷ vs) (suc i) = seen_at (p + weight v) vs i

-- bit i; at or past the end it is 1
abbrev pub bit_at : List Bool → ℕ → Bool
bit_at [] i = true
bit_at (b ∷ bs) zero = b
bit_at (b ∷ bs) (suc i) = bit_at bs i

abbrev pub asked : Option Seen → Bool → Asked
asked None b = past
asked (Some x) true = seen x
asked (Some x) false = absent

abbrev pub asked_at : List Value → List Bool → ℕ → Asked
asked_at vs bs i = asked (seen_at 0 vs i) (bit_at bs i)

-- the bytes of the values, one after the other
abbrev pub all_bytes : List Value → List ℕ
all_bytes [] = []
all_bytes (number n ∷ vs) = all_bytes vs
all_bytes (flag b ∷ vs) = all_bytes vs
all_bytes (bytes bs ∷ vs) = bs ++ all_bytes vs

-- what is seen means a value, bytes being those at its place
abbrev pub value_seen : List ℕ → Seen → Value
value_seen text (a_number n) = number n
value_seen text (a_flag b) = flag b
value_seen text (a_place p n) = bytes (take n (drop p text))

abbrev pub row_asked : List ℕ → Asked → Option Row
row_asked text past = None
row_asked text absent = Some null
row_asked text (seen x) = Some (value (value_seen text x))

-- row i of a list
abbrev pub row_at : List Row → ℕ → Option Row
row_at [] i = None
row_at (r ∷ rs) zero = Some r
row_at (r ∷ rs) (suc i) = row_at rs i
