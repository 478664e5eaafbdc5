use Rattle.std.proofs.Common.{◌≡◌, ◌++◌, take, string_bytes, codes}
use Rattle.cli.specs.Layout.{bytes_text}
use Rattle.cli.proofs.numbers.quoted.Given as goal

abbrev pub invariant-loop-b : goal.invariant-loop-b
invariant-loop-b l = string_bytes l.text ≡ codes "\"" ++ bytes_text (take l.b-index l.bytes)
