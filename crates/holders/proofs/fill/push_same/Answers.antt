use Rattle.std.proofs.Common.{◌++◌, drop, replicate, sym, ap, ◌∙◌}
use Rattle.values.specs.Values.{fits}
use Rattle.holders.proofs.Validities.{nulls_appended, values_able}
use Rattle.holders.proofs.fill.push_same.Goals as goal

pub extend_required-requires : goal.extend_required-requires
extend_required-requires g c =
    let a = values_able (g.P.Sink.room c.args.sink.now) (g.P.Sink.items c.args.sink.now) _ (g.C.Cursor.left c.args.values.now) c.args.n (ap (replicate c.args.n) c.if-present.true) c.requires in
    record { some = a.0; fits = ap (λ t. fits (g.P.Sink.room c.args.sink.now) (g.P.Sink.items c.args.sink.now ++ t)) (sym a.2) ∙ c.requires.1 }

pub returns-then-present : goal.returns-then-present
returns-then-present g c =
    let a = values_able (g.P.Sink.room c.args.sink.now) (g.P.Sink.items c.args.sink.now) _ (g.C.Cursor.left c.args.values.now) c.args.n (ap (replicate c.args.n) c.if-present.true) c.requires in
    let e = c.extend_required.ensures in
    record { items = e.items ∙ ap (λ t. g.P.Sink.items c.args.sink.now ++ t) (sym a.2); left = e.left ∙ ap (λ k. drop k (g.C.Cursor.left c.args.values.now)) (sym a.1); room = e.memory.0; home = e.memory.1 }

pub returns-else-present : goal.returns-else-present
returns-else-present g c =
    let e = nulls_appended _ _ _ _ _ c.args.n (ap (replicate c.args.n) c.if-present.false) c.requires c.push_nulls.ensures.items in
    record { items = e.0; left = e.1; room = c.push_nulls.ensures.memory.0; home = c.push_nulls.ensures.memory.1 }
