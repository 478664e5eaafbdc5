use Rattle.std.proofs.Common.{◌≤◌, length, ap, arith}
use Rattle.holders.specs.Judge.{needed}
use Rattle.holders.specs.Left.{present_left}
use Rattle.holders.specs.Cursors.{to_give}
use Rattle.holders.proofs.Keeps.{all_needed, light_fit}
use Rattle.holders.proofs.Spreads.{enough_first}
use Rattle.holders.proofs.holder.Holder.bytes_fit.Goals as goal

pub returns-then-light : goal.returns-then-light
returns-then-light g c =
    let h = c.args.self.now in
    light_fit g.C.OverPage.value (c.light.ensures c.if-light.true) _ c.args.spare (to_give h.values)

pub weigh_within-requires : goal.weigh_within-requires
weigh_within-requires g c =
    let h = c.args.self.now in
    let ps = present_left h.column.optional h.rows h.validity in
    let a = all_needed h in
    let e : needed ps ≤ length (to_give h.values) = omega arith in
    omega (arith, c.present_among-n.ensures, ap length c.load.ensures, enough_first g.C.OverPage.value c.args.k ps (to_give h.values) e)
