-- What the words of the command line ask for.
use Rattle.std.specs.Prelude.{◌≡◌, ℕ, ◌<◌, ◌≤◌, List, Some, Ok}
use Rattle.std.specs.Str.Parse.{ParsesUnsigned}
use Rattle.faults.specs.Names.{kind_of}
use Rattle.faults.specs.declared.types.Kind.TheVariants.{Int32}
use Rattle.cli.specs.Words.{flag_word}
use Rattle.cli.specs.declared.words.Wanted.{Wanted}
use Rattle.cli.specs.declared.words.Mistake.{Mistake}

abbrev Decimal : List ℕ → ℕ → Type 0
Decimal text n = ParsesUnsigned {E = Mistake} 32 10 text (Ok n)

-- a kind that is read, the flag by its word, a chunk size from 1 to 65536 and a limit, both in decimal
pub record Means (name flag chunk limit : List ℕ) (w : Wanted) : Type 0 where
  pub kind : kind_of name ≡ Ok Int32
  pub kept : w.kind ≡ Int32
  pub optional : flag_word flag ≡ Some w.optional
  pub chunk_size : Decimal chunk w.chunk
  pub some : 0 < w.chunk
  pub most : w.chunk ≤ 65536
  pub row_limit : Decimal limit w.limit
