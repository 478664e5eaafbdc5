-- What the code's runs mean.
use Rattle.std.specs.Prelude.{ℕ, Bool, true, false, List, Some, None, Ok, Err, Option, Result}
use Rattle.std.specs.Borrow.{Bor}
use Rattle.hybrid_rle.specs.Runs.{One, Step, Stretch, packed, repeated}
use Rattle.hybrid_rle.specs.declared.header.Broken.{Broken}
use Rattle.hybrid_rle.specs.Rows.{present}
use Rattle.hybrid_rle.specs.declared.piece.Piece.{Piece}
use Rattle.hybrid_rle.specs.declared.piece.Piece.TheVariants as pc
use Rattle.hybrid_rle.specs.declared.runs.Run.{Run}
use Rattle.hybrid_rle.specs.declared.runs.Run.TheVariants.{Bitmap, Repeated}
use Rattle.hybrid_rle.specs.declared.runs.Runs.{Runs}

abbrev pub stretch : Run → Stretch
stretch (Bitmap bs n) = packed bs.now n
stretch (Repeated v n) = repeated v n

-- a run as a piece: of its numbers, and of its rows where the numbers have one bit
abbrev pub as_numbers : Run → Piece ℕ
as_numbers (Bitmap bs n) = pc.Bitmap bs 0 n
as_numbers (Repeated v n) = pc.Repeated v n

abbrev pub as_rows : Run → Piece Bool
as_rows (Bitmap bs n) = pc.Bitmap bs 0 n
as_rows (Repeated v n) = pc.Repeated (present v) n

abbrev pub meant : Result (Run × Bor (List ℕ)) Broken → One
meant (Ok p) = Ok (stretch p.0, p.1.now)
meant (Err e) = Err e

-- a run that was given, and the numbers that are then still to come
abbrev pub stepped : Result (Option Run) Broken → Runs → Step
stepped (Ok (Some r)) s = Ok (Some (stretch r, s.left, s.rest.now))
stepped (Ok None) s = Ok None
stepped (Err e) s = Err e

abbrev pub is_step : Result (Option Run) Broken → Bool
is_step (Ok (Some r)) = true
is_step (Ok None) = false
is_step (Err e) = false
