use Rattle.std.proofs.Common.{◌+◌, leb, length, take, ◌∙◌}
use Rattle.values.specs.Values.{weights, stands}
use Rattle.model.specs.Model.{bits_due}
use Rattle.holders.specs.Holding.{unused_as}
use Rattle.holders.proofs.Keeps.{no_room, all_room, unused_number, bytes_same, same_tests}
use Rattle.holders.proofs.holder.Holder.room_for.Goals as goal

pub returns-then-not-room : goal.returns-then-not-room
returns-then-not-room g c =
    let h = c.args.self.now in
    let k = c.args.k in
    let r = g.P.Sink.room c.args.sink.now in
    let vs = g.P.Sink.items c.args.sink.now in
    let n = g.V.Validity.room c.args.validity.now in
    let bs = g.V.Validity.bits c.args.validity.now in
    let us = unused_as g.C.OverPage.value h in
    let said = c.if-not-room.ensures ∙ same_tests h.column.optional r n k h.rows c.len.result c.capacity.result c.len-2.result c.capacity-2.result us vs bs (unused_number h g.C.OverPage.value) c.len.ensures c.capacity.ensures c.len-2.ensures c.capacity-2.ensures in
    no_room (leb k (length us)) (leb (length vs + k) r.rows) (leb (bits_due h.column.optional (length bs + k)) n) (leb (weights vs + weights (stands r.blank (take k us))) r.bytes) said

pub returns : goal.returns
returns g c =
    let h = c.args.self.now in
    let f = g.C.OverPage.value in
    let k = c.args.k in
    let r = g.P.Sink.room c.args.sink.now in
    let vs = g.P.Sink.items c.args.sink.now in
    let n = g.V.Validity.room c.args.validity.now in
    let bs = g.V.Validity.bits c.args.validity.now in
    let us = unused_as f h in
    let said = c.if-not-room.ensures ∙ same_tests h.column.optional r n k h.rows c.len.result c.capacity.result c.len-2.result c.capacity-2.result us vs bs (unused_number h f) c.len.ensures c.capacity.ensures c.len-2.ensures c.capacity-2.ensures in
    c.bytes_fit.ensures ∙ bytes_same h f k r vs c.spare.result (g.P.Sink.light c.args.sink.now) c.spare.ensures ∙ all_room (leb k (length us)) (leb (length vs + k) r.rows) (leb (bits_due h.column.optional (length bs + k)) n) (leb (weights vs + weights (stands r.blank (take k us))) r.bytes) said
