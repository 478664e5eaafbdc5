use Rattle.std.proofs.Common.{◌≡◌, length}
use Rattle.holders.specs.Left.{indices_left}
use Rattle.holders.proofs.types.Indices.next.Given as goal

abbrev pub invariant-loop-self : goal.invariant-loop-self
invariant-loop-self l = indices_left l.self ≡ indices_left l.initial.self

abbrev pub decreases-loop-self : goal.decreases-loop-self
decreases-loop-self l = length l.self.runs.rest.now
