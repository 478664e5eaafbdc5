use Rattle.std.proofs.Common.{◌-◌, ◌^◌, Some, Ok, sym, ◌∙◌, arith}
use Rattle.hybrid_rle.specs.Borrowed.{stretch}
use Rattle.hybrid_rle.proofs.Streams.{Stepped, stepped_at}
use Rattle.holders.proofs.Below.{below_more, below_stop}
use Rattle.holders.proofs.indices.indices_below.Goals as goal
use Rattle.holders.proofs.indices.indices_below.Goals.{In-Ok-Some}

-- the run that was given
on : (c : In-Ok-Some) → Stepped c.args.w (2 ^ 32 - 1) c.loop-run.runs.left c.loop-run.runs.rest.now (Ok (Some (stretch c.in-Ok-Some.run', c.next.new.self.left, c.next.new.self.rest.now)))
on c = stepped_at c.args.w (2 ^ 32 - 1) _ _ c.loop-run.runs.w _ c.requires.0 c.loop-run.invariant.0 (rw c.in-Ok-Some.field-0-is at c.in-Ok-Some.ensures.given)

pub returns-then-not-run_below : goal.returns-then-not-run_below
returns-then-not-run_below c =
    let s = on (goal.at.returns-then-not-run_below c).In-Ok-Some in
    sym (c.loop-run.invariant.2 ∙ below_stop c.args.w c.args.entries _ _ _ _ _ s c.run_below.ensures.small (sym c.run_below.ensures.below ∙ c.if-not-run_below.true))

pub loop-run-preserved : goal.loop-run-preserved
loop-run-preserved c =
    let s = on (goal.at.loop-run-preserved c).In-Ok-Some in
    (c.in-Ok-Some.ensures.width ∙ c.loop-run.invariant.0, omega (arith, s.2), c.loop-run.invariant.2 ∙ below_more c.args.w c.args.entries _ _ _ _ _ s c.run_below.ensures.small (sym c.run_below.ensures.below ∙ c.if-not-run_below.false))
