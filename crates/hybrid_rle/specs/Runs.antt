-- Runs of numbers of w bits.
use Rattle.std.specs.Prelude.{ℕ, zero, suc, ◌+◌, ◌-◌, ◌*◌, ◌/◌, ◌%◌, ◌^◌, min, Bool, true, cond, ◌&&◌, List, [], ◌∷◌, length, take, drop, replicate, Some, None, Ok, Err, Option, Result, ◌==◌, nat_le, nat_lt, slice_index}
use Rattle.values.specs.Little.{little}
use Rattle.hybrid_rle.specs.Header.{Read, header}
use Rattle.hybrid_rle.specs.declared.header.Broken.{Broken}
use Rattle.hybrid_rle.specs.declared.header.Broken.TheVariants.{Ended, Short, Above, Wide}

-- bit i of the bytes is bit i mod 8 of byte i div 8, the lowest first
abbrev pub bit : List ℕ → ℕ → ℕ
bit bs i = (slice_index bs (i / 8) / 2 ^ (i % 8)) % 2

-- the number in w bits from bit `at` on, the lowest first
abbrev pub field : ℕ → List ℕ → ℕ → ℕ
field zero bs at = 0
field (suc w) bs at = bit bs at + 2 * field w bs (at + 1)

-- n such numbers, one after the other
abbrev pub fields : ℕ → ℕ → List ℕ → ℕ → List ℕ
fields w zero bs at = []
fields w (suc n) bs at = field w bs at ∷ fields w n bs (at + w)

-- a run: so many packed numbers in these bytes, or one number so many times
pub data Stretch : Type 0 where
  packed : List ℕ → ℕ → Stretch
  repeated : ℕ → ℕ → Stretch

abbrev pub count : Stretch → ℕ
count (packed bs n) = n
count (repeated v n) = n

abbrev pub numbers : ℕ → Stretch → List ℕ
numbers w (packed bs n) = fields w n bs 0
numbers w (repeated v n) = replicate n v

-- a repeated number is at most `top`
abbrev pub allowed : ℕ → Stretch → Bool
allowed top (packed bs n) = true
allowed top (repeated v n) = nat_le v top

-- one run and the bytes after it, or why there is none
abbrev pub One : Type 0
One = Result (Stretch × List ℕ) Broken

-- the first `size` bytes make a run, if there are so many
abbrev pub cut : ℕ → (List ℕ → Stretch) → List ℕ → One
cut size make bs = cond (nat_le size (length bs)) (Ok (make (take size bs), drop size bs)) (Err Short)

-- groups of 8 numbers of w bits: each group has w bytes
abbrev pub packed_in : ℕ → ℕ → List ℕ → One
packed_in groups w bs = cut (groups * w) (λ xs. packed xs (groups * 8)) bs

-- one number of w bits, in whole bytes, n times
abbrev pub repeated_in : ℕ → ℕ → List ℕ → One
repeated_in n w bs = cut ((w + 7) / 8) (λ xs. repeated (little xs) n) bs

-- an odd header is half as many groups, an even one half as many times one number
abbrev pub run_of : ℕ → List ℕ → Read → One
run_of w bs (Err e) = Err e
run_of w bs (Ok p) = cond (p.0 % 2 == 1) (cut (p.0 / 2 * w) (λ xs. packed xs (p.0 / 2 * 8)) (drop p.1 bs)) (cut ((w + 7) / 8) (λ xs. repeated (little xs) (p.0 / 2)) (drop p.1 bs))

-- the run at the front of the bytes
abbrev pub run : ℕ → List ℕ → One
run w bs = run_of w bs (header bs)

-- the same for every width: one above 32 is refused
abbrev pub run_at : ℕ → List ℕ → One
run_at w bs = cond (nat_le w 32) (run w bs) (Err Wide)

-- go on with what was read, or with why there was none
abbrev pub onto : {X Y : Type 0} → Result X Broken → (X → Result Y Broken) → Result Y Broken
onto (Ok x) f = f x
onto (Err e) f = Err e

abbrev pub ahead : List ℕ → Result (List (List ℕ)) Broken → Result (List (List ℕ)) Broken
ahead xs (Ok xss) = Ok (xs ∷ xss)
ahead xs (Err e) = Err e

-- the first n numbers, run by run, the last run stopping at the nth; `fuel` is a number of runs that suffices
abbrev pub runs_by : ℕ → ℕ → ℕ → ℕ → List ℕ → Result (List (List ℕ)) Broken
runs_by w top zero fuel bs = Ok []
runs_by w top (suc n) zero bs = Err Ended
runs_by w top (suc n) (suc fuel) bs = onto (run w bs) (λ p. cond (allowed top p.0) (ahead (take (suc n) (numbers w p.0)) (runs_by w top (suc n - count p.0) fuel p.1)) (Err Above))

-- the numbers of a run up to the nth
abbrev pub upto : ℕ → Stretch → Stretch
upto n (packed bs m) = packed bs (min m n)
upto n (repeated v m) = repeated v (min m n)

-- one run on in a stream of which n numbers are still to come: the run up to the nth number, how many numbers are then
-- still to come, and the bytes after it; none where n is 0
abbrev pub Step : Type 0
Step = Result (Option (Stretch × ℕ × List ℕ)) Broken

abbrev pub step : ℕ → ℕ → List ℕ → Step
step w zero bs = Ok None
step w (suc n) bs = onto (run_at w bs) (λ p. Ok (Some (upto (suc n) p.0, suc n - count p.0, p.1)))

-- each run has a byte or more
abbrev pub runs : ℕ → ℕ → ℕ → List ℕ → Result (List (List ℕ)) Broken
runs w top n bs = runs_by w top n (length bs) bs

abbrev pub sound : {X : Type 0} → Result X Broken → Result (Unit {0}) Broken
sound (Ok x) = Ok tt
sound (Err e) = Err e

-- whether there are such runs, of a width that is at most 32
abbrev pub sound_at : {X : Type 0} → ℕ → Result X Broken → Result (Unit {0}) Broken
sound_at w r = cond (nat_le w 32) (sound r) (Err Wide)

abbrev pub all_below : ℕ → List ℕ → Bool
all_below top [] = true
all_below top (x ∷ xs) = nat_lt x top && all_below top xs
