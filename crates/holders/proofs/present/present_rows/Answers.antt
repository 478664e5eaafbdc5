use Rattle.std.proofs.Common.{◌≡◌, map, Some, Ok, sym, ap, ◌∙◌, arith}
use Rattle.hybrid_rle.specs.Runs.{numbers}
use Rattle.hybrid_rle.specs.Rows.{present}
use Rattle.hybrid_rle.specs.Borrowed.{stretch}
use Rattle.hybrid_rle.specs.Held.{rows}
use Rattle.hybrid_rle.proofs.Pieces.{run_rows}
use Rattle.hybrid_rle.proofs.Streams.{Stepped, stepped_at}
use Rattle.holders.specs.Judge.{needed}
use Rattle.holders.proofs.Tally.{plus, plus_plus, tally_more, tally_least}
use Rattle.holders.proofs.present.present_rows.Goals as goal
use Rattle.holders.proofs.present.present_rows.Goals.{After-present_in-n}

-- the run that was given, and how many of its rows are present
on : (c : After-present_in-n) → Stepped 1 1 c.loop-run.runs.left c.loop-run.runs.rest.now (Ok (Some (stretch c.in-Some.run', c.next.new.self.left, c.next.new.self.rest.now)))
on c = stepped_at 1 1 _ _ c.loop-run.runs.w _ (omega arith) c.loop-run.invariant.0 (rw c.in-Some.is at c.in_ok-run.ensures.given)

counted : (c : After-present_in-n) → c.present_in-n.result ≡ needed (map present (numbers 1 (stretch c.in-Some.run')))
counted c = c.present_in-n.ensures ∙ ap needed (ap rows c.rows.ensures.piece ∙ run_rows c.in-Some.run')

pub overflow_add-n : goal.overflow_add-n
overflow_add-n c = let l = tally_least _ _ _ _ _ (on c) _ (counted c) in omega arith

pub loop-run-smaller : goal.loop-run-smaller
loop-run-smaller c = (on c).1

pub loop-run-preserved : goal.loop-run-preserved
loop-run-preserved c =
    let l = tally_least _ _ _ _ _ (on c) _ (counted c) in
    let m = tally_more _ _ _ _ _ (on c) (sym c.is_allowed.ensures ∙ c.if-not-is_allowed.false) _ (counted c) in
    (c.in_ok-run.ensures.width ∙ c.loop-run.invariant.0, omega arith, c.loop-run.invariant.2 ∙ ap (plus c.loop-run.n) m ∙ plus_plus c.loop-run.n c.present_in-n.result _)
