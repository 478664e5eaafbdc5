use Rattle.std.specs.Prelude.{◌≡◌, ℕ, ◌/◌, ◌%◌, ◌^◌, ◌<◌, Bool, true, false, List, [], ◌∷◌, ◌++◌, length, take}
use Rattle.pages.specs.Delivered.{Delivered, page, dict, fault}
use Rattle.pages.specs.Commands.{streamed}

-- a number in four bytes, the lowest first
abbrev pub le_bytes : ℕ → List ℕ
le_bytes n = n % 256 ∷ n / 256 % 256 ∷ n / 256 / 256 % 256 ∷ n / 256 / 256 / 256 ∷ []

abbrev pub flag_byte : Bool → ℕ
flag_byte true = 1
flag_byte false = 0

-- a page as a command
abbrev pub written : Delivered → List ℕ
written (page rows encoding flag body) =
    0x50 ∷ (le_bytes rows ++ (encoding ∷ flag_byte flag ∷ (le_bytes (length body) ++ body)))
written (dict entries body) = 0x44 ∷ (le_bytes entries ++ (le_bytes (length body) ++ body))
written (fault n) = []

-- the pages that a command can hold
abbrev pub Writable : Delivered → Type 0
Writable (page rows encoding flag body) = (rows < 2 ^ 32) × (length body < 2 ^ 32)
Writable (dict entries body) = (entries < 2 ^ 32) × (length body < 2 ^ 32)
Writable (fault n) = ⊥

abbrev pub all_written : List Delivered → List ℕ
all_written [] = []
all_written (d ∷ ds) = written d ++ all_written ds

abbrev pub AllWritable : List Delivered → Type 0
AllWritable [] = Unit {0}
AllWritable (d ∷ ds) = Writable d × AllWritable ds

-- a stream that pages were written to delivers those pages, in order, and then what comes after them
abbrev pub DeliversWhatWasWritten : Type 0
DeliversWhatWasWritten =
    (ds : List Delivered) (rest : List ℕ) → AllWritable ds → streamed (all_written ds ++ rest) ≡ ds ++ streamed rest

-- a page's command that is cut short anywhere is fault 2, and nothing comes after it
abbrev pub CutShortIs2 : Type 0
CutShortIs2 =
    (d : Delivered) (k : ℕ) → Writable d → 0 < k → k < length (written d) → streamed (take k (written d)) ≡ fault 2 ∷ []
