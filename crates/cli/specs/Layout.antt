-- How a chunk is printed: its rows between brackets, each after a comma and a space but the first.
use Rattle.std.specs.Prelude.{ℕ, zero, suc, ◌+◌, ◌/◌, ◌%◌, Bool, true, false, cond, ◌||◌, List, [], ◌∷◌, ◌++◌, codes, ◌==◌, nat_lt}
use Rattle.std.specs.Fmt.{signed_decimal}
use Rattle.values.specs.Values.{Value, number, flag, bytes, Row, null, value}

-- a hexadecimal digit
abbrev pub hex : ℕ → ℕ
hex n = cond (nat_lt n 10) (48 + n) (87 + n)

-- a byte by two hexadecimal digits, \xHH
abbrev pub hex_text : ℕ → List ℕ
hex_text b = codes "\\x" ++ (hex (b / 16) ∷ hex (b % 16) ∷ [])

-- a printable byte as itself, any other byte, a quote and a backslash by its digits
abbrev pub byte_text : ℕ → List ℕ
byte_text b =
    cond (nat_lt b 32 || nat_lt 126 b || b == 34 || b == 92) (hex_text b) (b ∷ [])

abbrev pub bytes_text : List ℕ → List ℕ
bytes_text [] = []
bytes_text (b ∷ bs) = byte_text b ++ bytes_text bs

abbrev pub quoted_text : List ℕ → List ℕ
quoted_text bs = codes "\"" ++ (bytes_text bs ++ codes "\"")

abbrev pub text_of_flag : Bool → List ℕ
text_of_flag b = cond b (codes "true") (codes "false")

-- a number in decimal, a flag by its name, bytes between quotes
abbrev pub text_of_value : Value → List ℕ
text_of_value (number n) = signed_decimal n
text_of_value (flag b) = text_of_flag b
text_of_value (bytes bs) = quoted_text bs

-- value i of a list, nothing past its end
abbrev pub text_at : List Value → ℕ → List ℕ
text_at [] i = []
text_at (v ∷ vs) zero = text_of_value v
text_at (v ∷ vs) (suc i) = text_at vs i

abbrev pub text_of_row : Row → List ℕ
text_of_row null = codes "null"
text_of_row (value v) = text_of_value v

abbrev pub row_at_text : List Row → ℕ → List ℕ
row_at_text [] i = []
row_at_text (r ∷ rs) zero = text_of_row r
row_at_text (r ∷ rs) (suc i) = row_at_text rs i

abbrev pub gap : Bool → List ℕ
gap first = cond first [] (codes ", ")

abbrev pub listed : Bool → List Row → List ℕ
listed first [] = []
listed first (r ∷ rs) = (gap first ++ text_of_row r) ++ listed false rs

abbrev pub text_of_rows : List Row → List ℕ
text_of_rows rs = codes "[" ++ (listed true rs ++ codes "]")
