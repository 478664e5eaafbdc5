-- The first words of the command line: a kind, a flag, a chunk size and a row limit.
use Rattle.std.specs.Prelude.{ℕ, ◌+◌, ◌-◌, ◌*◌, Bool, true, false, cond, ◌||◌, List, [], ◌∷◌, Some, None, Ok, Err, codes, Option, Result, ◌==◌, nat_lt}
use Rattle.std.specs.Str.{bytes_eq}
use Rattle.faults.specs.Names.{kind_of}
use Rattle.faults.specs.declared.types.Kind.{Kind}
use Rattle.faults.specs.declared.types.Fault.{Fault}
use Rattle.cli.specs.declared.words.Mistake.{Mistake}
use Rattle.cli.specs.declared.words.Mistake.TheVariants as wrong
use Rattle.cli.specs.declared.words.Wanted.{Wanted}

-- go on with what was understood, or stay with the mistake
abbrev pub and_then : {A B : Type 0} → Result A Mistake → (A → Result B Mistake) → Result B Mistake
and_then (Ok x) f = f x
and_then (Err e) f = Err e

-- what must be there, or else the mistake
abbrev pub or_mistake : {A : Type 0} → Mistake → Option A → Result A Mistake
or_mistake e (Some x) = Ok x
or_mistake e None = Err e

-- a number and one digit more, where it stays below 2^32
abbrev pub figure : ℕ → ℕ → Option ℕ
figure n c =
    cond (nat_lt c 48 || nat_lt 57 c) None (cond (nat_lt 4294967295 (n * 10 + (c - 48))) None (Some (n * 10 + (c - 48))))

abbrev pub figures_from : Option ℕ → List ℕ → Option ℕ
figures_from None cs = None
figures_from (Some n) [] = Some n
figures_from (Some n) (c ∷ cs) = figures_from (figure n c) cs

-- a number below 2^32 in decimal digits, one or more and nothing else
abbrev pub decimal : List ℕ → Option ℕ
decimal [] = None
decimal (c ∷ cs) = figures_from (Some 0) (c ∷ cs)

-- optional or required
abbrev pub flag_word : List ℕ → Option Bool
flag_word text = cond (bytes_eq text (codes "optional")) (Some true) (cond (bytes_eq text (codes "required")) (Some false) None)

abbrev pub kind_or : Result Kind Fault → Result Kind Mistake
kind_or (Ok k) = Ok k
kind_or (Err e) = Err wrong.Kind

-- Parquet's type name
abbrev pub named : List ℕ → Result Kind Mistake
named name = kind_or (kind_of name)

abbrev pub in_range : Option ℕ → Option ℕ
in_range None = None
in_range (Some n) = cond (n == 0 || nat_lt 65536 n) None (Some n)

-- a chunk size, from 1 to 65536
abbrev pub chunk_size : List ℕ → Option ℕ
chunk_size text = in_range (decimal text)

-- the words for a mistake
abbrev pub mistake_text : Mistake → List ℕ
mistake_text wrong.Kind = codes "KIND is none of BOOLEAN, INT32, INT64, FLOAT, DOUBLE, BYTE_ARRAY"
mistake_text wrong.Flag = codes "the third word is neither optional nor required"
mistake_text wrong.Chunk = codes "CHUNK is no number from 1 to 65536"
mistake_text wrong.Limit = codes "LIMIT is no number from 0 to 4294967295"
mistake_text wrong.Option = codes "an option is none of --conversion, --directory, --json"
mistake_text wrong.Conversion = codes "a conversion is none of keep, widen, unsigned"
mistake_text wrong.Missing = codes "an option lacks its word"
mistake_text wrong.NotConverted = codes "only INT32 is converted by widen or unsigned"
mistake_text wrong.NotYet = codes "columns of this KIND are not read yet: INT32 is"

-- the four words, or the first that is wrong
abbrev pub understood : List ℕ → List ℕ → List ℕ → List ℕ → Result Wanted Mistake
understood name flag chunk limit =
    and_then (named name) (λ k.
    and_then (or_mistake wrong.Flag (flag_word flag)) (λ o.
    and_then (or_mistake wrong.Chunk (chunk_size chunk)) (λ c.
    and_then (or_mistake wrong.Limit (decimal limit)) (λ l.
    Ok (record { kind = k; optional = o; chunk = c; limit = l })))))
