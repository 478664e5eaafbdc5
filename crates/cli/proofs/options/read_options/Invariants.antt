use Rattle.std.proofs.Common.{◌≡◌, map, drop, string_bytes}
use Rattle.cli.specs.Options.{options_in, words_from}
use Rattle.cli.proofs.options.read_options.Given as goal

abbrev pub invariant-loop-at : goal.invariant-loop-at
invariant-loop-at l = options_in (map string_bytes l.words) ≡ words_from l.at l.chosen (map string_bytes (drop l.at l.words))
