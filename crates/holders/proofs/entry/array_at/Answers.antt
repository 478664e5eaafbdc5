use Rattle.std.proofs.Common.{◌∙◌, arith}
use Rattle.holders.proofs.Nth.{step_on}
use Rattle.holders.proofs.entry.array_at.Goals as goal

pub loop-k-preserved : goal.loop-k-preserved
loop-k-preserved c =
    let s = step_on c.args.n c.args.i c.loop-k._k c.loop-k.rest.now c.requires.1 c.loop-k.invariant.0 (omega arith) _ _ c.in-Some.ensures in
    (s.0, s.1 ∙ c.loop-k.invariant.1)
