-- How many rows of runs are present.
use Rattle.std.specs.Prelude.{ℕ, Bool, false, List, map, Ok, Err, Result}
use Rattle.std.specs.List.{flat_map}
use Rattle.hybrid_rle.specs.Runs.{all_below}
use Rattle.hybrid_rle.specs.Rows.{present, flat}
use Rattle.hybrid_rle.specs.declared.header.Broken.{Broken}
use Rattle.holders.specs.Judge.{needed}

-- the present rows of a stream
abbrev pub tallied : Result (List (List ℕ)) Broken → Result ℕ Broken
tallied (Ok xss) = Ok (needed (flat (map (map present) xss)))
tallied (Err e) = Err e

-- whether all indices are below the entries
abbrev pub below : ℕ → Result (List (List ℕ)) Broken → Bool
below top (Ok xss) = all_below top (flat_map (λ xs. xs) xss)
below top (Err e) = false
