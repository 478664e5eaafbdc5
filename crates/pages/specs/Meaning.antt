use Rattle.std.specs.Prelude.{ℕ, List, Ok, Err, Result}
use Rattle.std.specs.Borrow.{Bor}
use Rattle.pages.specs.Commands.{Taken, broken}
use Rattle.pages.specs.Delivered.{Delivered, page, dict, fault}
use Rattle.pages.specs.Flaws.{number_of}
use Rattle.pages.specs.declared.fault.SourceFault.{SourceFault}
use Rattle.pages.specs.declared.page.Page.{Page}
use Rattle.pages.specs.declared.page.Page.TheVariants.{Data, Dict}

-- a page by its numbers and the bytes of its body
abbrev pub shown : Page → Delivered
shown (Data p) = page p.rows p.encoding p.optional p.body.now
shown (Dict p) = dict p.entries p.body.now

-- what a delivery's value means: a page, or the number of a fault
abbrev pub meaning : Result Page SourceFault → Delivered
meaning (Ok p) = shown p
meaning (Err f) = fault (number_of f)

-- what a page and the bytes after it mean, or a fault
abbrev pub taken : Result (Page × Bor (List ℕ)) SourceFault → Taken
taken (Ok p) = record { what = shown p.0; left = p.1.now }
taken (Err f) = broken (number_of f)
