use Rattle.std.proofs.Common.{sym, ap, ◌∙◌}
use Rattle.holders.specs.Judge.{needed}
use Rattle.holders.specs.Left.{present_left}
use Rattle.holders.proofs.Validities.{needed_values}
use Rattle.holders.proofs.split.split.Goals as goal

pub returns-then-not-optional-clause-count : goal.returns-then-not-optional-clause-count
returns-then-not-optional-clause-count c = sym (ap (λ o. needed (present_left o c.args.rows c.args.v.now)) c.if-not-optional.true ∙ needed_values c.args.rows)
