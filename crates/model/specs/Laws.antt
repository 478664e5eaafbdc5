-- What holds after every list of calls.
use Rattle.std.specs.Prelude.{◌≡◌, ℕ, ◌+◌, ◌-◌, ◌*◌, ◌^◌, ◌≤◌, min, Bool, List, [], ◌∷◌, ◌++◌, length, take, None}
use Rattle.values.specs.Values.{Row, Value, all_bytes, row_asked, asked_at, row_at, rows_in}
use Rattle.pages.specs.Delivered.{Delivered}
use Rattle.faults.specs.Faults.{layer_of}
use Rattle.faults.specs.declared.types.Layer.{Layer}
use Rattle.faults.specs.declared.types.Layer.TheVariants as layer
use Rattle.model.specs.Model.{Column, Setup, Phase, Filling, Ready, Ended, Closed, Read, Answer, More, Chunk, End, Refused, Event, Next, Take, RowAt, Close, chunk, fresh, sound_rows, Run}

-- 0 for a refusal by the chunk, 1 for a fault of another layer
abbrev pub by_layer : Layer → ℕ
by_layer layer.Name = 1
by_layer layer.Open = 1
by_layer layer.Source = 1
by_layer layer.Page = 1
by_layer layer.Validity = 1
by_layer layer.Values = 1
by_layer layer.Dictionary = 1
by_layer layer.Chunk = 0

-- 1 for an answer other than a refusal by the chunk (12, 13, 14)
abbrev pub unrefused : Answer → ℕ
unrefused More = 1
unrefused Chunk = 1
unrefused End = 1
unrefused (Refused f) = by_layer (layer_of f.cause)

-- 1 for Chunk
abbrev pub is_chunk : Answer → ℕ
is_chunk More = 0
is_chunk Chunk = 1
is_chunk End = 0
is_chunk (Refused f) = 0

-- the chunks taken, in order
abbrev pub chunks : List Event → List (List Row)
chunks [] = []
chunks (Next a ∷ es) = chunks es
chunks (Take rs ∷ es) = rs ∷ chunks es
chunks (RowAt i o ∷ es) = chunks es
chunks (Close h g ∷ es) = chunks es

abbrev pub all_rows : List (List Row) → List Row
all_rows [] = []
all_rows (k ∷ ks) = k ++ all_rows ks

-- the rows handed out
abbrev pub handed_out : List Event → List Row
handed_out es = all_rows (chunks es)

-- how the answers to next count, by f
abbrev pub tally : (Answer → ℕ) → List Event → ℕ
tally f [] = 0
tally f (Next a ∷ es) = f a + tally f es
tally f (Take rs ∷ es) = tally f es
tally f (RowAt i o ∷ es) = tally f es
tally f (Close h g ∷ es) = tally f es

-- P of the two numbers that each close answered
abbrev pub EachClose : (ℕ → ℕ → Type 0) → List Event → Type 0
EachClose P [] = Unit {0}
EachClose P (Next a ∷ es) = EachClose P es
EachClose P (Take rs ∷ es) = EachClose P es
EachClose P (RowAt i o ∷ es) = EachClose P es
EachClose P (Close h g ∷ es) = P h g × EachClose P es

-- every chunk but the last has c rows
abbrev pub FullButLast : ℕ → List (List Row) → Type 0
FullButLast c [] = Unit {0}
FullButLast c (k ∷ []) = Unit {0}
FullButLast c (k ∷ l ∷ ks) = (length k ≡ c) × FullButLast c (l ∷ ks)

-- the read has come to its end, closed since or not
abbrev pub Over : Phase → Type 0
Over Filling = ⊥
Over Ready = ⊥
Over Ended = Unit {0}
Over Closed = Unit {0}

-- the deliveries that the source has given since it had ds
abbrev pub given : List Delivered → Read → ℕ
given ds t = length ds - length t.source

-- what `row` answers means the row of that number, bytes being those at its place
abbrev pub RowsSeen : Type 0
RowsSeen = (vs : List Value) (bs : List Bool) (i : ℕ) → row_asked (all_bytes vs) (asked_at vs bs i) ≡ row_at (rows_in vs bs) i

module _ (column : Column) where
  pub record Accounts (u : Setup) (limit : ℕ) (ds : List Delivered) (es : List Event) (t : Read) : Type 0 where
    pub total : length (handed_out es) + length (chunk t) + t.remaining ≡ limit
    pub order : handed_out es ++ chunk t ≡ take (limit - t.remaining) (sound_rows column None ds)
    pub whole : Over t.phase → length (handed_out es) ≡ min limit (length (sound_rows column None ds))
    pub close : EachClose (λ h g. (h ≡ length (handed_out es)) × (g ≡ min (given ds t) (2 ^ 64 - 1))) es
    pub full : FullButLast u.size (chunks es)

  -- every list of calls keeps account of the rows
  abbrev pub RowsAccounted : Type 0
  RowsAccounted = (u : Setup) (limit : ℕ) (ds : List Delivered) (es : List Event) (t : Read) → Run column u (fresh limit ds) es t → Accounts u limit ds es t

  -- with more deliveries and no lower limit, at any chunk sizes, the rows go on
  abbrev pub RowsExtend : Type 0
  RowsExtend =
      (u v : Setup) (m n : ℕ) (ds more : List Delivered) (es fs : List Event) (s t : Read)
      → m ≤ n
      → Run column u (fresh m ds) es s → Over s.phase
      → Run column v (fresh n (ds ++ more)) fs t → Over t.phase
      → (rest : List Row) × (handed_out fs ≡ handed_out es ++ rest)

  -- how many calls of next there can be
  abbrev pub NextsBounded : Type 0
  NextsBounded =
      (u : Setup) (limit : ℕ) (ds : List Delivered) (es : List Event) (t : Read) → Run column u (fresh limit ds) es t
      → tally unrefused es ≤ 1 + tally is_chunk es + 2 * given ds t

  -- the laws of whole runs
  pub record WholeRead : Type 0 where
    pub accounted : RowsAccounted
    pub extend : RowsExtend
    pub bounded : NextsBounded
    pub seen : RowsSeen
