-- The options after the first words: --conversion and its word, --directory and a file of heads, --json.
use Rattle.std.specs.Prelude.{ℕ, ◌+◌, true, false, cond, List, [], ◌∷◌, Some, None, Ok, Err, codes, Option, Result}
use Rattle.std.specs.Str.{bytes_eq}
use Rattle.faults.specs.declared.types.Kind.{Kind}
use Rattle.faults.specs.declared.types.Kind.TheVariants as kind
use Rattle.cli.specs.Words.{and_then}
use Rattle.cli.specs.declared.words.Mistake.{Mistake}
use Rattle.cli.specs.declared.words.Mistake.TheVariants as wrong
use Rattle.cli.specs.declared.options.Converts.{Converts}
use Rattle.cli.specs.declared.options.Converts.TheVariants.{Keep, Widen, Unsigned}
use Rattle.cli.specs.declared.options.Awaited.{Awaited}
use Rattle.cli.specs.declared.options.Awaited.TheVariants as awaits
use Rattle.cli.specs.declared.options.Options.{Options}
use Rattle.cli.specs.declared.options.Column.{Column}
use Rattle.cli.specs.declared.options.Column.TheVariants as column

-- keep, widen or unsigned
abbrev pub conversion_word : List ℕ → Result Converts Mistake
conversion_word text =
    cond (bytes_eq text (codes "keep")) (Ok Keep)
    (cond (bytes_eq text (codes "widen")) (Ok Widen)
    (cond (bytes_eq text (codes "unsigned")) (Ok Unsigned) (Err wrong.Conversion)))

-- no option yet: values are kept, the file is a page stream, chunks are printed as text
abbrev pub none_yet : Options
none_yet = record { awaits = None; converts = Keep; heads = None; json = false }

abbrev pub awaiting : Awaited → Options → Options
awaiting a o = record { awaits = Some a; converts = o.converts; heads = o.heads; json = o.json }

-- a word where an option may stand
abbrev pub after_option : Options → List ℕ → Result Options Mistake
after_option o word =
    cond (bytes_eq word (codes "--conversion")) (Ok (awaiting awaits.Conversion o))
    (cond (bytes_eq word (codes "--directory")) (Ok (awaiting awaits.Heads o))
    (cond (bytes_eq word (codes "--json")) (Ok (record { awaits = o.awaits; converts = o.converts; heads = o.heads; json = true }))
    (Err wrong.Option)))

-- word number `at`: an option, or the word that the option before it awaits
abbrev pub after_awaited : Option Awaited → Options → ℕ → List ℕ → Result Options Mistake
after_awaited None o at word = after_option o word
after_awaited (Some awaits.Conversion) o at word = and_then (conversion_word word) (λ k. Ok (record { awaits = None; converts = k; heads = o.heads; json = o.json }))
after_awaited (Some awaits.Heads) o at word = Ok (record { awaits = None; converts = o.converts; heads = Some at; json = o.json })

abbrev pub after_word : Options → ℕ → List ℕ → Result Options Mistake
after_word o at word = after_awaited o.awaits o at word

-- an option whose word is missing is a mistake
abbrev pub complete : Option Awaited → Options → Result Options Mistake
complete None o = Ok o
complete (Some awaits.Conversion) o = Err wrong.Missing
complete (Some awaits.Heads) o = Err wrong.Missing

abbrev pub ended : Options → Result Options Mistake
ended o = complete o.awaits o

-- the words from number `at` on
abbrev pub words_from : ℕ → Options → List (List ℕ) → Result Options Mistake
words_from at o [] = ended o
words_from at o (w ∷ ws) = and_then (after_word o at w) (λ p. words_from (at + 1) p ws)

-- all option words
abbrev pub options_in : List (List ℕ) → Result Options Mistake
options_in ws = words_from 0 none_yet ws

-- the column of a kind and a conversion: only INT32 is converted
abbrev pub column_of : Kind → Converts → Result Column Mistake
column_of kind.Int32 Keep = Ok column.Int32
column_of kind.Int32 Widen = Ok column.Widened
column_of kind.Int32 Unsigned = Ok column.Unsigned
column_of kind.Int64 Keep = Ok column.Int64
column_of kind.Int64 Widen = Err wrong.NotConverted
column_of kind.Int64 Unsigned = Err wrong.NotConverted
column_of kind.Float Keep = Ok column.Float
column_of kind.Float Widen = Err wrong.NotConverted
column_of kind.Float Unsigned = Err wrong.NotConverted
column_of kind.Double Keep = Ok column.Double
column_of kind.Double Widen = Err wrong.NotConverted
column_of kind.Double Unsigned = Err wrong.NotConverted
column_of kind.Boolean Keep = Ok column.Boolean
column_of kind.Boolean Widen = Err wrong.NotConverted
column_of kind.Boolean Unsigned = Err wrong.NotConverted
column_of kind.ByteArray Keep = Ok column.ByteArray
column_of kind.ByteArray Widen = Err wrong.NotConverted
column_of kind.ByteArray Unsigned = Err wrong.NotConverted
