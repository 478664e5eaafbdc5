use Rattle.std.proofs.Common.{sym, ap, ◌∙◌}
use Rattle.hybrid_rle.specs.Runs.{numbers, all_below}
use Rattle.hybrid_rle.specs.Borrowed.{stretch}
use Rattle.holders.proofs.Below.{some_below}
use Rattle.holders.proofs.indices.run_below.Goals as goal

pub returns-else-length-eq0-clause-below : goal.returns-else-length-eq0-clause-below
returns-else-length-eq0-clause-below c = sym (ap (λ r. all_below c.args.entries (numbers c.args.w (stretch r))) c.in-Repeated.is ∙ some_below c.args.entries c.in-Repeated.value c.in-Repeated.length c.if-length-eq0.false)
