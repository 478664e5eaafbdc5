use Rattle.std.proofs.Common.{◌<◌, length, sym, subst, ◌∙◌}
use Rattle.holders.specs.Left.{or_none}
use Rattle.holders.proofs.Onward.{more_left}
use Rattle.holders.proofs.types.Indices.next.Goals as goal

pub load-requires : goal.load-requires
load-requires c =
    let h = c.loop-self.self in
    let z = sym c.current_len.ensures ∙ c.loop-self-test.true in
    let m = more_left h.runs.w h.runs.left h.runs.rest.now h.current z (subst (λ o. 0 < length (or_none o)) (sym c.loop-self.invariant) c.requires) in
    (m.0, (z, m.1))
