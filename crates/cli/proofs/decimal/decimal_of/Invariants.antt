use Rattle.std.proofs.Common.{◌≡◌, drop, Some}
use Rattle.cli.specs.Words.{figures_from}
use Rattle.cli.proofs.decimal.decimal_of.Given as goal

abbrev pub invariant-loop-c : goal.invariant-loop-c
invariant-loop-c l = figures_from (Some 0) l.c-items ≡ figures_from (Some l.n) (drop l.c-index l.c-items)
