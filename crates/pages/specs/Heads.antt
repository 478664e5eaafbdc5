-- The deliveries of a directory: one for each of its heads.
use Rattle.std.specs.Prelude.{ℕ, ◌+◌, Bool, cond, List, map, length, take, drop, Some, None, Ok, Err, Option, Result, ◌==◌, nat_lt}
use Rattle.pages.specs.Delivered.{Delivered, page, dict, fault}
use Rattle.pages.specs.Commands.{flagged}
use Rattle.pages.specs.declared.fault.SourceFault.{SourceFault}
use Rattle.pages.specs.declared.fault.SourceFault.TheVariants as flaw
use Rattle.pages.specs.declared.heads.Head.{Head}
use Rattle.pages.specs.declared.heads.Sort.{Sort}
use Rattle.pages.specs.declared.heads.Sort.TheVariants.{Dictionary, Data}

-- the sorts by their numbers: 0 a dictionary page, 1 a data page
abbrev pub sorted : ℕ → Result Sort SourceFault
sorted n = cond (n == 0) (Ok Dictionary) (cond (n == 1) (Ok Data) (Err flaw.Sort))

-- the n bytes of a buffer from a place on, if it has them all
abbrev pub part_of : List ℕ → ℕ → ℕ → Option (List ℕ)
part_of buffer place n = cond (nat_lt (length buffer) (place + n)) None (Some (take n (drop place buffer)))

-- a dictionary, or fault 5 where its part lies outside
abbrev pub dict_or : ℕ → Option (List ℕ) → Delivered
dict_or entries None = fault 5
dict_or entries (Some body) = dict entries body

-- a data page, or fault 5 where its part lies outside, then 3 for its flag
abbrev pub page_or : ℕ → ℕ → Option (List ℕ) → Option Bool → Delivered
page_or rows encoding None flag = fault 5
page_or rows encoding (Some body) None = fault 3
page_or rows encoding (Some body) (Some flag) = page rows encoding flag body

-- what a head delivers from a buffer: fault 4 for a sort other than 0 and 1 comes first
abbrev pub headed : List ℕ → Head → Delivered
headed buffer h =
    cond (h.sort == 0) (dict_or h.count (part_of buffer h.place h.length))
    (cond (h.sort == 1) (page_or h.count h.encoding (part_of buffer h.place h.length) (flagged h.flag))
    (fault 4))

-- the deliveries of a list of heads: a head after a fault is read like any other
abbrev pub listed : List ℕ → List Head → List Delivered
listed buffer heads = map (headed buffer) heads
