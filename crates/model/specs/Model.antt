-- A read of one column, by what its calls do: rows, deliveries and counts.
use Rattle.std.specs.Prelude.{◌≡◌, ℕ, ◌+◌, ◌-◌, ◌^◌, ◌<◌, ◌≤◌, min, Bool, true, false, cond, ◌⊎◌, List, [], ◌∷◌, ◌++◌, length, take, drop, None, Option}
use Rattle.values.specs.Values.{Value, Row, weights, stands, validity, rows_in, present, Asked, asked_at}
use Rattle.pages.specs.Delivered.{Delivered, page, dict, fault}
use Rattle.faults.specs.declared.types.Cause.{Cause}
use Rattle.faults.specs.declared.types.Cause.TheVariants as cause
use Rattle.faults.specs.declared.types.Fault.{Fault}

-- a dictionary, by the bytes of its entries
abbrev pub Dict : Type 0
Dict = List (List ℕ)

-- what a delivery comes to: the rows of a sound page, the dictionary held from now on, or a fault's cause
pub data Verdict : Type 0 where
  Page : List Row → Verdict
  Holds : Option Dict → Verdict
  Broken : Cause → Verdict

abbrev pub rows_of : Verdict → List Row
rows_of (Page rs) = rs
rows_of (Holds o) = []
rows_of (Broken c) = []

abbrev pub held_after : Verdict → Option Dict → Option Dict
held_after (Page rs) h = h
held_after (Holds o) h = o
held_after (Broken c) h = h

abbrev pub AllPresent : List Row → Type 0
AllPresent [] = Unit {0}
AllPresent (r ∷ rs) = (present r ≡ true) × AllPresent rs

-- a column: may a row be null, and what a delivery comes to with the dictionary held; no row of a required column is null
pub record Column : Type 0 where
  pub optional : Bool
  pub judge : Option Dict → Delivered → Verdict
  pub full : optional ≡ false → (h : Option Dict) (d : Delivered) → AllPresent (rows_of (judge h d))

-- a source's fault is a fault of the read that carries its number
abbrev pub verdict : Column → Option Dict → Delivered → Verdict
verdict k h (fault n) = Broken (cause.Source n)
verdict k h (page n e f b) = k.judge h (page n e f b)
verdict k h (dict n b) = k.judge h (dict n b)

-- the chunk size, and what the chunk's memory holds: rows, bytes and validity bits, and the stand-in under nulls
pub record Setup : Type 0 where
  pub size : ℕ
  pub rows : ℕ
  pub bytes : ℕ
  pub bits : ℕ
  pub blank : Value

pub data Phase : Type 0 where
  Filling : Phase
  Ready : Phase
  Ended : Phase
  Closed : Phase

-- the read's numbers, the holder (unused rows of the page, dictionary), the source's deliveries, the chunk's values and validity bits
pub record Read : Type 0 where
  pub phase : Phase
  pub remaining : ℕ
  pub pending : ℕ
  pub handed : ℕ
  pub counted : ℕ
  pub unused : List Row
  pub held : Option Dict
  pub source : List Delivered
  pub values : List Value
  pub bits : List Bool

-- the rows pending
abbrev pub chunk : Read → List Row
chunk s = rows_in s.values s.bits

pub data Answer : Type 0 where
  More : Answer
  Chunk : Answer
  End : Answer
  Refused : Fault → Answer

abbrev pub faulted : Cause → ℕ → Fault
faulted c n = record { cause = c; count = n }

-- the answer to delivery number n
abbrev pub told : Verdict → ℕ → Answer
told (Page rs) n = More
told (Holds o) n = More
told (Broken c) n = Refused (faulted c n)

-- a call with its answer; take with the rows that it hands out, close with its two numbers
pub data Event : Type 0 where
  Next : Answer → Event
  Take : List Row → Event
  RowAt : ℕ → Asked → Event
  Close : ℕ → ℕ → Event

abbrev pub fresh : ℕ → List Delivered → Read
fresh limit ds = record { phase = Filling; remaining = limit; pending = 0; handed = 0; counted = 0; unused = []; held = None; source = ds; values = []; bits = [] }

abbrev pub in_phase : Phase → Read → Read
in_phase p s = record { phase = p; remaining = s.remaining; pending = s.pending; handed = s.handed; counted = s.counted; unused = s.unused; held = s.held; source = s.source; values = s.values; bits = s.bits }

-- one delivery more, counted to 2^64 - 1
abbrev pub one_more : ℕ → ℕ
one_more n = min (n + 1) (2 ^ 64 - 1)

-- the delivery judged v is counted and gone, and ds are left
abbrev pub delivered : Verdict → List Delivered → Read → Read
delivered v ds s = record { phase = Filling; remaining = s.remaining; pending = s.pending; handed = s.handed; counted = one_more s.counted; unused = rows_of v; held = held_after v s.held; source = ds; values = s.values; bits = s.bits }

abbrev pub taken : Read → Read
taken s = record { phase = Filling; remaining = s.remaining; pending = 0; handed = s.handed + s.pending; counted = s.counted; unused = s.unused; held = s.held; source = s.source; values = []; bits = [] }

abbrev pub fitting : Setup → Read → ℕ
fitting u s = min (u.size - s.pending) (min s.remaining (length s.unused))

-- the validity bits of rows, none in a required column
abbrev pub bits_for : Bool → List Row → List Bool
bits_for optional rs = cond optional (validity rs) []

-- the validity bits that n rows have
abbrev pub bits_due : Bool → ℕ → ℕ
bits_due optional n = cond optional n 0

-- the rows that the chunk's memory holds, with validity if optional
abbrev pub capacity : Bool → Setup → ℕ
capacity optional u = cond optional (min u.rows u.bits) u.rows

module _ (column : Column) where
  -- the rows of the sound pages, in order, each page read with the dictionary that those before it leave
  abbrev pub sound_rows : Option Dict → List Delivered → List Row
  sound_rows h [] = []
  sound_rows h (d ∷ ds) = rows_of (verdict column h d) ++ sound_rows (held_after (verdict column h d) h) ds

  -- k of the held page's rows go into the chunk
  abbrev pub appended : Setup → ℕ → Phase → Read → Read
  appended u k p s = record { phase = p; remaining = s.remaining - k; pending = s.pending + k; handed = s.handed; counted = s.counted; unused = drop k s.unused; held = s.held; source = s.source; values = s.values ++ stands u.blank (take k s.unused); bits = s.bits ++ bits_for column.optional (take k s.unused) }

  -- the chunk has the rows pending, and as many validity bits as it should
  pub record Matches (s : Read) : Type 0 where
    pub rows : length s.values ≡ s.pending
    pub bits : length s.bits ≡ bits_due column.optional s.pending

  -- neither refusal 12 nor 13
  pub record Right (u : Setup) (s : Read) : Type 0 where
    pub matches : Matches s
    pub room : u.size ≤ capacity column.optional u

  -- rows are wanted, and the held page has some
  pub record PageLeft (s : Read) : Type 0 where
    pub wanted : 0 < s.remaining
    pub some : 0 < length s.unused

  -- rows are wanted, and the held page has none
  pub record PageUsed (s : Read) : Type 0 where
    pub wanted : 0 < s.remaining
    pub none : s.unused ≡ []

  abbrev pub bytes_then : Setup → Read → ℕ
  bytes_then u s = weights s.values + weights (stands u.blank (take (fitting u s) s.unused))

  -- after the append the chunk is full or no row is wanted
  abbrev pub Fills : Setup → Read → Type 0
  Fills u s = ((s.pending + fitting u s) ≡ u.size) ⊎ (s.remaining - fitting u s ≡ 0)

  -- next on a Filling read: the refusals, with nothing altered, then the first of the four lines that fits
  pub data Steps (u : Setup) (s : Read) : Answer → Read → Type 0 where
    wrong_rows : (Matches s → ⊥) → Steps u s (Refused (faulted cause.ChunkRows s.counted)) s
    small_room : Matches s → capacity column.optional u < u.size → Steps u s (Refused (faulted cause.ChunkMemory s.counted)) s
    small_space : Right u s → PageLeft s → u.bytes < bytes_then u s → Steps u s (Refused (faulted cause.ChunkBytes s.counted)) s
    at_limit : Right u s → s.remaining ≡ 0 → Steps u s End (in_phase Ended s)
    fills : Right u s → PageLeft s → bytes_then u s ≤ u.bytes → Fills u s → Steps u s Chunk (appended u (fitting u s) Ready s)
    uses_up : Right u s → PageLeft s → bytes_then u s ≤ u.bytes → (Fills u s → ⊥) → Steps u s More (appended u (fitting u s) Filling s)
    gives : Right u s → PageUsed s → (d : Delivered) (ds : List Delivered) → s.source ≡ d ∷ ds
        → Steps u s (told (verdict column s.held d) (one_more s.counted)) (delivered (verdict column s.held d) ds s)
    last_chunk : Right u s → PageUsed s → s.source ≡ [] → 0 < s.pending → Steps u s Chunk (in_phase Ready s)
    no_more : Right u s → PageUsed s → s.source ≡ [] → s.pending ≡ 0 → Steps u s End (in_phase Ended s)

  -- a call that the phase allows, with its answer, and what it leaves
  abbrev pub Step : Setup → Read → Event → Read → Type 0
  Step u s (Next a) t = (s.phase ≡ Filling) × Steps u s a t
  Step u s (Take rs) t = (s.phase ≡ Ready) × (rs ≡ chunk s) × (t ≡ taken s)
  Step u s (RowAt i o) t = ((s.phase ≡ Filling) ⊎ (s.phase ≡ Ready)) × (o ≡ asked_at s.values s.bits i) × (t ≡ s)
  Step u s (Close h g) t = (s.phase ≡ Ended) × (h ≡ s.handed) × (g ≡ s.counted) × (t ≡ in_phase Closed s)

  -- a list of calls, each finding what those before it left
  abbrev pub Run : Setup → Read → List Event → Read → Type 0
  Run u s [] t = s ≡ t
  Run u s (e ∷ es) t = (m : Read) × Step u s e m × Run u m es t
