-- What the code's pieces mean.
use Rattle.std.specs.Prelude.{ℕ, ◌+◌, ◌*◌, ◌^◌, ◌<◌, ◌≤◌, Bool, List, [], ◌∷◌, length, replicate, Some, None, Option}
use Rattle.hybrid_rle.specs.Rows.{bits}
use Rattle.hybrid_rle.specs.declared.piece.Piece.{Piece}
use Rattle.hybrid_rle.specs.declared.piece.Piece.TheVariants.{Bitmap, Repeated}

-- how many items a piece has
abbrev pub piece_count : {T : Type 0} → Piece T → ℕ
piece_count (Bitmap bs at n) = n
piece_count (Repeated v n) = n

abbrev pub rows : Piece Bool → List Bool
rows (Bitmap bs at n) = bits bs.now at n
rows (Repeated s n) = replicate n s

-- what is left of the run that is held
abbrev pub held : Option (Piece Bool) → List (List Bool)
held (Some p) = rows p ∷ []
held None = []

abbrev pub asked : Option (Piece Bool) → Option (List Bool)
asked (Some p) = Some (rows p)
asked None = None

-- where the rows of a bitmap end, and where its bytes end, in bits
abbrev pub run_end : Option (Piece Bool) → ℕ
run_end (Some (Bitmap bs at n)) = at + n
run_end (Some (Repeated s n)) = 0
run_end None = 0

abbrev pub bytes_end : Option (Piece Bool) → ℕ
bytes_end (Some (Bitmap bs at n)) = 8 * length bs.now
bytes_end (Some (Repeated s n)) = 0
bytes_end None = 0

-- a bitmap piece lies in its bytes
abbrev pub Inside : Option (Piece Bool) → Type 0
Inside o = (run_end o ≤ bytes_end o) × (run_end o < 2 ^ 64)
