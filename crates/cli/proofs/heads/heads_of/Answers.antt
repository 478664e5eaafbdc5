use Rattle.cli.proofs.HeadsRead.{front_long, front_is, more_heads, same_over}
use Rattle.cli.proofs.heads.heads_of.Goals as goal

pub loop-head-preserved : goal.loop-head-preserved
loop-head-preserved c =
    let bs = c.loop-head.rest.now in
    let f = c.in-Some.ensures in
    let long = front_long bs c.in-Some.head c.in-Some.after.now f in
    let is = front_is bs c.in-Some.head c.in-Some.after.now f in (
      more_heads _ _ _ bs c.in-Some.after.now c.in-Some.head long is.0 is.1 c.in_ok-push.ensures.items c.loop-head.invariant.0,
      same_over _ bs c.in-Some.after.now long is.1 c.loop-head.invariant.1,
    )
