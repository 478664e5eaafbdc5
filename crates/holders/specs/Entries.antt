-- One of the values that there are.
use Rattle.std.specs.Prelude.{ℕ, zero, suc, ◌+◌, Bool, true, false, List, [], ◌∷◌, take, drop, Some, None, Option}
use Rattle.values.specs.Little.{little}
use Rattle.std.specs.List.{slice_get}
use Rattle.holders.specs.Judge.{some_then}
use Rattle.hybrid_rle.specs.Held.{piece_count}
use Rattle.hybrid_rle.specs.declared.piece.Piece.{Piece}

abbrev pub nth_in : {A : Type 0} → Option (List A) → ℕ → Option A
nth_in o i = some_then o (λ es. slice_get es i)

-- how many numbers the current run has left
abbrev pub current_count : Option (Piece ℕ) → ℕ
current_count (Some p) = piece_count p
current_count None = 0

-- the bytes that the first m values take, each after its length
abbrev pub place : ℕ → List ℕ → ℕ
place zero bs = 0
place (suc m) bs = 4 + little (take 4 bs) + place m (drop (4 + little (take 4 bs)) bs)

-- the raw value of a bit
abbrev pub raw_bit : Bool → List ℕ
raw_bit true = 1 ∷ []
raw_bit false = 0 ∷ []
