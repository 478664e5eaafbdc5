use Rattle.std.specs.Prelude.{ℕ, zero, suc, ◌+◌, ◌*◌, Bool, true, false, cond, List, [], ◌∷◌, length, take, drop, Some, None, Option, ◌==◌, nat_lt, slice_index}
use Rattle.pages.specs.Delivered.{Delivered, page, dict, fault}

-- the little-endian number in the four bytes from the place i on
abbrev pub le32 : List ℕ → ℕ → ℕ
le32 bs i = slice_index bs i + slice_index bs (i + 1) * 256 + slice_index bs (i + 2) * 65536 + slice_index bs (i + 3) * 16777216

-- what a command delivers, and the bytes after it: after a fault there are none
pub record Taken : Type 0 where
  pub what : Delivered
  pub left : List ℕ

abbrev pub broken : ℕ → Taken
broken n = record { what = fault n; left = [] }

-- a flag's meaning, if it has one
abbrev pub flagged : ℕ → Option Bool
flagged b = cond (b == 0) (Some false) (cond (b == 1) (Some true) None)

-- a dictionary command's body, of n bytes, and what follows it
abbrev pub dictionary_page_of : ℕ → ℕ → List ℕ → Taken
dictionary_page_of entries n bs =
    cond (nat_lt (length bs) n) (broken 2) (record { what = dict entries (take n bs); left = drop n bs })

-- a data page by its flag
abbrev pub by_flag : Option Bool → ℕ → ℕ → List ℕ → List ℕ → Taken
by_flag None rows encoding body after = broken 3
by_flag (Some f) rows encoding body after = record { what = page rows encoding f body; left = after }

-- a data page's body, of n bytes, its flag, and what follows it
abbrev pub data_page_of : ℕ → ℕ → ℕ → ℕ → List ℕ → Taken
data_page_of rows encoding flag n bs =
    cond (nat_lt (length bs) n) (broken 2) (by_flag (flagged flag) rows encoding (take n bs) (drop n bs))

-- the first command of bytes that are not empty
abbrev pub command : List ℕ → Taken
command bs =
    cond (slice_index bs 0 == 0x44)
    (cond (nat_lt (length bs) 9) (broken 2) (dictionary_page_of (le32 bs 1) (le32 bs 5) (drop 9 bs)))
    (cond (slice_index bs 0 == 0x50)
    (cond (nat_lt (length bs) 11) (broken 2) (data_page_of (le32 bs 1) (slice_index bs 5) (slice_index bs 6) (le32 bs 7) (drop 11 bs)))
    (broken 1))

-- the deliveries of the first n commands
abbrev pub commands : ℕ → List ℕ → List Delivered
commands zero bs = []
commands (suc n) [] = []
commands (suc n) (b ∷ bs) = (command (b ∷ bs)).what ∷ commands n (command (b ∷ bs)).left

-- the deliveries of a stream: of its commands there are no more than bytes
abbrev pub streamed : List ℕ → List Delivered
streamed bs = commands (length bs) bs
