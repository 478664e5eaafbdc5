use Rattle.std.proofs.Common.{ap, ◌∙◌}
use Rattle.std.specs.Option.{option_map}
use Rattle.sinks.proofs.Marks.{place_of, seen_bounds}
use Rattle.sinks.proofs.binary.BinarySink.get.Goals as goal

pub returns-in_err-at-clause-answer : goal.returns-in_err-at-clause-answer
returns-in_err-at-clause-answer c = ap (option_map _) c.from_residual.ensures ∙ ap (option_map place_of) c.in_err-at.ensures.row ∙ seen_bounds c.args.self.now c.args.i

pub returns-clause-answer : goal.returns-clause-answer
returns-clause-answer c = ap (option_map place_of) c.in_ok-at.ensures.row ∙ seen_bounds c.args.self.now c.args.i
