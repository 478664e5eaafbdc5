use Rattle.std.proofs.Common.{refl, arith}
use Rattle.holders.specs.Holding.{unused_as}
use Rattle.holders.proofs.Keeps.{room_parts, unused_number}
use Rattle.holders.proofs.holder.Holder.extend_from_state.Goals as goal

pub append-requires : goal.append-requires
append-requires g c =
    let h = c.args.self.now in
    let us = unused_as g.C.OverPage.value h in
    let p = room_parts h.column.optional (g.P.Sink.room c.args.sink.now) (g.V.Validity.room c.args.validity.now) c.args.k us (g.P.Sink.items c.args.sink.now) (g.V.Validity.bits c.args.validity.now) c.if-not-room_for.ensures in
    λ _. ((refl, tt), (omega (arith, p.0, unused_number h g.C.OverPage.value), (p.1, p.2)))
