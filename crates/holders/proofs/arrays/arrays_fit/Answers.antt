use Rattle.std.proofs.Common.{◌∙◌, arith}
use Rattle.holders.proofs.After.{arrays_more}
use Rattle.holders.proofs.arrays.arrays_fit.Goals as goal

pub loop-i-preserved : goal.loop-i-preserved
loop-i-preserved c = c.loop-i.invariant ∙ arrays_more c.args.n c.loop-i._i c.loop-i.rest.now (omega arith) _ _ c.in-Some.ensures
