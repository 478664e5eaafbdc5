use Rattle.std.proofs.Common.{◌+◌, ◌-◌, ◌*◌, ◌∙◌, ap, add-mul, arith}
use Rattle.hybrid_rle.specs.Runs.{fields, all_below}
use Rattle.hybrid_rle.proofs.Places.{below_goes, small_width}
use Rattle.holders.proofs.indices.packed_below.Goals as goal

pub loop-i-preserved : goal.loop-i-preserved
loop-i-preserved c = c.loop-i.invariant ∙ below_goes c.args.entries c.args.w c.args.n c.loop-i.i c.args.bytes.now (c.loop-i.i * c.args.w) (omega arith) c.unpacked.result (c.unpacked.ensures ∙ small_width c.args.w c.args.bytes.now (c.loop-i.i * c.args.w) c.requires.0) (omega arith) ∙ ap (λ k. all_below c.args.entries (fields c.args.w (c.args.n - (c.loop-i.i + 1)) c.args.bytes.now k)) (omega (arith, add-mul c.loop-i.i 1 c.args.w))
