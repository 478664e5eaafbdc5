-- Every stream is whole commands and then nothing or one fault.
use Rattle.std.specs.Prelude.{◌≡◌, ℕ, ◌<◌, ◌≤◌, ◌⊎◌, List, [], ◌∷◌, ◌++◌}
use Rattle.pages.specs.Delivered.{Delivered, fault}
use Rattle.pages.specs.Commands.{streamed}
use Rattle.pages.specs.Written.{AllWritable, all_written}

-- numbers that are bytes
abbrev pub Bytes : List ℕ → Type 0
Bytes [] = Unit {0}
Bytes (b ∷ bs) = (b < 256) × Bytes bs

-- bytes of which a stream gives one fault of its own, 1 to 3, and nothing after it
pub record GivesOneFault (bs : List ℕ) : Type 0 where
  pub number : ℕ
  pub low : 1 ≤ number
  pub high : number ≤ 3
  pub gives : streamed bs ≡ fault number ∷ []

-- a stream taken apart: the pages that were written to it, and what stands behind them
pub record TakenApart (bs : List ℕ) : Type 0 where
  pub pages : List Delivered
  pub rest : List ℕ
  pub writable : AllWritable pages
  pub bytes : bs ≡ all_written pages ++ rest
  pub gives : streamed bs ≡ pages ++ streamed rest
  pub last : (rest ≡ []) ⊎ GivesOneFault rest

-- every stream of bytes is whole commands, and then nothing or one fault
abbrev pub WholeThenOneFault : Type 0
WholeThenOneFault = (bs : List ℕ) → Bytes bs → TakenApart bs
