-- The answers of the checks, by what they mean.
use Rattle.std.specs.Prelude.{ℕ, Bool, true, cond, List, Some, None, Ok, Err, Option, Result, ◌==◌}
use Rattle.std.specs.Borrow.{Bor}
use Rattle.faults.specs.declared.types.Cause.{Cause}
use Rattle.faults.specs.declared.types.Cause.TheVariants.{Encoding as no_encoding}
use Rattle.holders.specs.Judge.{spread}
use Rattle.holders.specs.Left.{held_entries}
use Rattle.holders.specs.Cursors.{to_give}
use Rattle.holders.specs.declared.checks.Encoding.{Encoding}
use Rattle.holders.specs.declared.checks.Encoding.TheVariants.{Plain, Dictionary}
use Rattle.holders.specs.declared.types.Dict.{Dict}
use Rattle.holders.specs.declared.page_values.PageValues.{PageValues}

-- the encoding that a page's number stands for
abbrev pub encoding_of : ℕ → Result Encoding Cause
encoding_of e = cond (e == 0) (Ok Plain) (cond (cond (e == 2) true (e == 8)) (Ok Dictionary) (Err no_encoding))

-- the entries of a dictionary that may be none
abbrev pub entried : Result (Option Dict) Cause → Result (Option (List (List ℕ))) Cause
entried (Ok o) = Ok (held_entries o)
entried (Err e) = Err e

-- the values of a page, if the check found them
abbrev pub given : Result PageValues Cause → Result (List (List ℕ)) Cause
given (Ok p) = Ok (to_give p)
given (Err e) = Err e

-- presence, and the bytes of the values
abbrev pub seen : List Bool → Result (ℕ × Bor (List ℕ)) Cause → Result (List Bool × List ℕ) Cause
seen ps (Ok p) = Ok (ps, p.1.now)
seen ps (Err e) = Err e

abbrev pub count_in : Result (ℕ × Bor (List ℕ)) Cause → ℕ
count_in (Ok p) = p.0
count_in (Err e) = 0

-- a number that matters only where there is no fault
abbrev pub if_ok : {A : Type 0} → Result A Cause → ℕ → ℕ
if_ok (Ok x) n = n
if_ok (Err e) n = 0

-- the rows that the values make
abbrev pub shown : List Bool → Result PageValues Cause → Result (List (Option (List ℕ))) Cause
shown ps (Ok p) = Ok (spread ps (to_give p))
shown ps (Err e) = Err e

abbrev pub number_in : Result PageValues Cause → ℕ
number_in (Ok p) = p.n
number_in (Err e) = 0

-- two parts of the bytes
abbrev pub halves : Option (Bor (List ℕ) × Bor (List ℕ)) → Option (List ℕ × List ℕ)
halves (Some p) = Some (p.0.now, p.1.now)
halves None = None

-- a width and the bytes after it
abbrev pub headed : Result (ℕ × Bor (List ℕ)) Cause → Result (ℕ × List ℕ) Cause
headed (Ok p) = Ok (p.0, p.1.now)
headed (Err e) = Err e

abbrev pub width_in : Result (ℕ × Bor (List ℕ)) Cause → ℕ
width_in (Ok p) = p.0
width_in (Err e) = 0
