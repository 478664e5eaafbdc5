-- A file of heads: 15 bytes each, namely sort, encoding and flag in one byte, then rows or entries, place and length in four.
use Rattle.std.specs.Prelude.{ℕ, zero, suc, ◌/◌, ◌%◌, cond, List, [], ◌∷◌, length, drop, Some, None, Option, ◌==◌, nat_lt, slice_index}
use Rattle.std.specs.Borrow.{Bor}
use Rattle.pages.specs.Commands.{le32}
use Rattle.pages.specs.declared.heads.Head.{Head}

abbrev pub head_in : List ℕ → Head
head_in bs = record { sort = slice_index bs 0; encoding = slice_index bs 1; flag = slice_index bs 2; count = le32 bs 3; place = le32 bs 7; length = le32 bs 11 }

-- the head at the front, and the bytes after it
abbrev pub front_head : List ℕ → Option (Head × List ℕ)
front_head bs = cond (nat_lt (length bs) 15) None (Some (head_in bs, drop 15 bs))

-- what a pair of a head and the bytes after it means
abbrev pub head_and_rest : Head × Bor (List ℕ) → Head × List ℕ
head_and_rest p = (p.0, p.1.now)

-- n heads, one after the other
abbrev pub heads_in : ℕ → List ℕ → List Head
heads_in zero bs = []
heads_in (suc n) bs = head_in bs ∷ heads_in n (drop 15 bs)

-- the heads of a file, if no part of a head is left over
abbrev pub heads_file : List ℕ → Option (List Head)
heads_file bs = cond (length bs % 15 == 0) (Some (heads_in (length bs / 15) bs)) None
