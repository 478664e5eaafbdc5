-- Base-128 numbers, the lowest seven bits first; the header of a run is one of at most five bytes.
use Rattle.std.specs.Prelude.{ℕ, zero, suc, ◌+◌, ◌-◌, ◌*◌, ◌^◌, cond, List, [], ◌∷◌, Ok, Err, Result, nat_le, nat_lt}
use Rattle.hybrid_rle.specs.declared.header.Broken.{Broken}
use Rattle.hybrid_rle.specs.declared.header.Broken.TheVariants.{Ended, Long, Large}

-- a number and how many bytes it took, or why there is none
abbrev pub Read : Type 0
Read = Result (ℕ × ℕ) Broken

-- `low` stands below what the later bytes give
abbrev pub above : ℕ → Read → Read
above low (Ok p) = Ok (low + 128 * p.0, p.1 + 1)
above low (Err e) = Err e

-- a base-128 number of at most `most` bytes: a byte of 128 or more says that another follows
abbrev pub number : ℕ → List ℕ → Read
number zero bs = Err Long
number (suc most) [] = Err Ended
number (suc most) (b ∷ bs) = cond (nat_lt b 128) (Ok (b, 1)) (above (b - 128) (number most bs))

-- a number above the limit is too large
abbrev pub within_limit : ℕ → Read → Read
within_limit limit (Ok p) = cond (nat_le p.0 limit) (Ok p) (Err Large)
within_limit limit (Err e) = Err e

-- a number of 32 bits
abbrev pub fitting : Read → Read
fitting (Ok p) = cond (nat_lt p.0 (2 ^ 32)) (Ok p) (Err Large)
fitting (Err e) = Err e

-- the header of a run at the front of the bytes: at most five bytes and 32 bits
abbrev pub header : List ℕ → Read
header bs = fitting (number 5 bs)
