-- The rows of a page, present or null, run by run.
use Rattle.std.specs.Prelude.{ℕ, zero, suc, ◌+◌, Bool, cond, List, [], ◌∷◌, map, length, take, drop, is_ok, Some, None, Ok, Err, Option, Result, ◌==◌, nat_lt}
use Rattle.std.specs.List.{flat_map}
use Rattle.hybrid_rle.specs.Runs.{bit, runs}
use Rattle.hybrid_rle.specs.declared.header.Broken.{Broken}

-- number 1 is a present row
abbrev pub present : ℕ → Bool
present n = n == 1

-- n rows from bit `at` on
abbrev pub bits : List ℕ → ℕ → ℕ → List Bool
bits bs at zero = []
bits bs at (suc n) = present (bit bs at) ∷ bits bs (at + 1) n

abbrev pub rows_of : Result (List (List ℕ)) Broken → List (List Bool)
rows_of (Ok xss) = map (map present) xss
rows_of (Err e) = []

-- n rows from a stream, run by run
abbrev pub later : ℕ → List ℕ → List (List Bool)
later n bs = rows_of (runs 1 1 n bs)

-- the stream gives n rows
abbrev pub gives_rows : ℕ → List ℕ → Bool
gives_rows n bs = is_ok (runs 1 1 n bs)

-- the next piece: no more than the limit, and no more than is left of the run
abbrev pub piece : ℕ → List (List Bool) → Option (List Bool)
piece limit [] = None
piece limit (xs ∷ xss) = Some (take limit xs)

-- what is left after it
abbrev pub beyond : ℕ → List (List Bool) → List (List Bool)
beyond limit [] = []
beyond limit (xs ∷ xss) = cond (nat_lt limit (length xs)) (drop limit xs ∷ xss) xss

-- the rows of a sound page take the place of those held
abbrev pub in_place : Result (List (List ℕ)) Broken → List (List Bool) → List (List Bool)
in_place (Ok xss) old = map (map present) xss
in_place (Err e) old = old

-- all rows of runs, one after the other
abbrev pub flat : List (List Bool) → List Bool
flat xss = flat_map (λ xs. xs) xss

abbrev pub taken : Option (List Bool) → List Bool
taken (Some xs) = xs
taken None = []
