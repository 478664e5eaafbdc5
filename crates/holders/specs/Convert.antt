-- The kinds of columns, by their page form and what becomes of a value's bytes.
use Rattle.std.specs.Prelude.{ℕ, Bool, List, ◌==◌}
use Rattle.values.specs.Little.{little, signed, unsigned}
use Rattle.values.specs.Values.{Value, number, flag, bytes}
use Rattle.model.specs.Model.{Column}
use Rattle.holders.specs.Columns.{column_of}
use Rattle.holders.specs.declared.types.Form.TheVariants.{Four, Eight, Bits, Arrays}

-- INT32, kept: a signed number in four bytes
abbrev pub keep_32 : List ℕ → Value
keep_32 bs = number (signed 4 bs)

-- INT32's bytes as an unsigned number; FLOAT's bits
abbrev pub unsigned_32 : List ℕ → Value
unsigned_32 bs = number (unsigned 4 bs)

-- INT64: a signed number in eight bytes
abbrev pub keep_64 : List ℕ → Value
keep_64 bs = number (signed 8 bs)

-- DOUBLE's bits
abbrev pub unsigned_64 : List ℕ → Value
unsigned_64 bs = number (unsigned 8 bs)

-- BOOLEAN: a bit
abbrev pub truth : List ℕ → Value
truth bs = flag (little bs == 1)

abbrev pub int32_keep : Bool → Column
int32_keep o = column_of Four keep_32 o

-- the same numbers, held in eight bytes
abbrev pub int32_as_wide : Bool → Column
int32_as_wide o = column_of Four keep_32 o

abbrev pub int32_as_unsigned : Bool → Column
int32_as_unsigned o = column_of Four unsigned_32 o

abbrev pub int64_keep : Bool → Column
int64_keep o = column_of Eight keep_64 o

abbrev pub float : Bool → Column
float o = column_of Four unsigned_32 o

abbrev pub double : Bool → Column
double o = column_of Eight unsigned_64 o

abbrev pub boolean : Bool → Column
boolean o = column_of Bits truth o

abbrev pub byte_array_column : Bool → Column
byte_array_column o = column_of Arrays bytes o
