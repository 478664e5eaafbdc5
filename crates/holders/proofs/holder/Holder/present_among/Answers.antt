use Rattle.holders.proofs.Keeps.{required_among}
use Rattle.holders.proofs.holder.Holder.present_among.Goals as goal

pub returns-then-not-self : goal.returns-then-not-self
returns-then-not-self g c =
    let h = c.args.self.now in
    required_among h.column.optional h.rows c.args.k h.validity c.if-not-self.true c.requires
