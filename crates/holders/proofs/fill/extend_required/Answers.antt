use Rattle.std.proofs.Common.{◌≡◌, ◌+◌, ◌-◌, true, [], ◌∷◌, ◌++◌, drop, replicate, sym, ap, ◌∙◌, arith}
use Rattle.std.proofs.lemmas.List.{replicate_more}
use Rattle.holders.specs.Judge.{needed}
use Rattle.holders.specs.Filled.{filled}
use Rattle.holders.proofs.Filling.{mid_able, mid_grown, split_same}
use Rattle.holders.proofs.Validities.{filled_values, needed_values, able_values}
use Rattle.holders.proofs.fill.extend_required.Goals as goal

pub push_row-requires : goal.push_row-requires
push_row-requires g c =
    mid_able _ _ _ (replicate c.loop-i._i true) (true ∷ []) (replicate (c.args.limit - (c.loop-i._i + 1)) true) _ (split_same c.args.limit c.loop-i._i c.loop-i-test.true) (able_values (g.P.Sink.room c.args.sink.now) (g.P.Sink.items c.args.sink.now) (g.C.Cursor.left c.args.values.now) c.args.limit c.requires.some c.requires.fits) _ _ _ c.loop-i.invariant.room c.loop-i.invariant.items c.loop-i.invariant.left

pub loop-i-preserved : goal.loop-i-preserved
loop-i-preserved g c =
    let e = mid_grown _ _ _ (replicate c.loop-i._i true) (true ∷ []) (replicate (c.args.limit - (c.loop-i._i + 1)) true) _ (split_same c.args.limit c.loop-i._i c.loop-i-test.true) (able_values (g.P.Sink.room c.args.sink.now) (g.P.Sink.items c.args.sink.now) (g.C.Cursor.left c.args.values.now) c.args.limit c.requires.some c.requires.fits) _ (replicate (c.loop-i._i + 1) true) _ _ _ _ c.loop-i.invariant.room (sym (replicate_more c.loop-i._i true)) c.loop-i.invariant.items c.loop-i.invariant.left c.push_row.ensures.items c.push_row.ensures.left in
    record { items = e.0; left = e.1; room = c.push_row.ensures.room ∙ c.loop-i.invariant.room; home = c.push_row.ensures.home ∙ c.loop-i.invariant.home }

pub returns : goal.returns
returns g c =
    let its = g.P.Sink.items c.args.sink.now in
    let vs = g.C.Cursor.left c.args.values.now in
    let b = (g.P.Sink.room c.args.sink.now).blank in
    let k = c.loop-i.auto._i-end in
    let t = c.loop-i-test.false in
    let i : c.loop-i._i ≡ c.args.limit = omega arith in
    record {
      items = c.loop-i.invariant.items ∙ ap (λ j. its ++ filled b (replicate j true) vs) i ∙ ap (λ l. its ++ l) (filled_values b c.args.limit vs c.requires.some);
      left = c.loop-i.invariant.left ∙ ap (λ j. drop (needed (replicate j true)) vs) i ∙ ap (λ j. drop j vs) (needed_values c.args.limit);
      memory = (c.loop-i.invariant.room, c.loop-i.invariant.home);
    }
