use Rattle.std.proofs.Common.{◌≡◌, ◌+◌, take, drop}
use Rattle.values.specs.Values.{weights}
use Rattle.holders.proofs.measure.weigh_within.Given as goal

abbrev pub invariant-loop-i : goal.invariant-loop-i
invariant-loop-i g l = (g.C.Cursor.left l.values ≡ drop l._i (g.C.Cursor.left l.initial.values)) × (weights (take l._i (g.C.Cursor.left l.initial.values)) + l.spare ≡ l.most)
