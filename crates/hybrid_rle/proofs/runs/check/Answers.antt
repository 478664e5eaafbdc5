use Rattle.std.proofs.Common.{sym, ap, ◌∙◌}
use Rattle.hybrid_rle.specs.Runs.{sound}
use Rattle.hybrid_rle.proofs.Streams.{stepped_at, sound_ahead}
use Rattle.hybrid_rle.proofs.runs.check.Goals as goal

pub loop-run-preserved : goal.loop-run-preserved
loop-run-preserved c =
    let s = stepped_at c.args.w c.args.top _ _ c.loop-run.runs.w _ c.if-w-gt32.false c.loop-run.invariant.0 (rw c.in-Some.is at c.in_ok-run.ensures.given) in
    (c.in_ok-run.ensures.width ∙ c.loop-run.invariant.0, c.loop-run.invariant.1 ∙ ap sound s.0 ∙ sound_ahead _ _ _ (sym c.is_allowed.ensures ∙ c.if-not-is_allowed.false))
