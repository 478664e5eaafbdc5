use Rattle.std.proofs.Common.{ap, ◌∙◌, arith}
use Rattle.pages.specs.Delivered.{first, others}
use Rattle.holders.proofs.Measures.{some_left, drop_first, weigh_on, weigh_out}
use Rattle.holders.proofs.measure.weigh_within.Goals as goal

pub unreachable-requires : goal.unreachable-requires
unreachable-requires g c =
    let s = some_left (g.C.Cursor.left c.args.values.now) c.loop-i._i (c.in_default.ensures.given ∙ ap first c.loop-i.invariant.0) in
    omega (arith, c.requires, c.loop-i-test.true)

pub returns-then-k-spare : goal.returns-then-k-spare
returns-then-k-spare g c = weigh_out (g.C.Cursor.left c.args.values.now) c.loop-i._i _ (c.in-Some.ensures.given ∙ ap first c.loop-i.invariant.0) c.args.most c.loop-i.spare c.loop-i.invariant.1 c.weigh-k.result c.args.n c.weigh-k.ensures c.if-k-spare.true c.loop-i-test.true

pub loop-i-preserved : goal.loop-i-preserved
loop-i-preserved g c = (
  c.in-Some.ensures.after ∙ ap others c.loop-i.invariant.0 ∙ drop_first (g.C.Cursor.left c.args.values.now) c.loop-i._i,
  weigh_on (g.C.Cursor.left c.args.values.now) c.loop-i._i _ (c.in-Some.ensures.given ∙ ap first c.loop-i.invariant.0) c.args.most c.loop-i.spare c.loop-i.invariant.1 c.weigh-k.result c.weigh-k.ensures c.if-k-spare.false,
)
