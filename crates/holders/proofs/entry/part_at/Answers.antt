use Rattle.std.proofs.Common.{◌≡◌, ◌+◌, ◌-◌, ◌*◌, take, drop, Some, ap, ◌∙◌, arith}
use Rattle.holders.proofs.Nth.{part_there}
use Rattle.holders.proofs.entry.part_at.Goals as goal

pub returns : goal.returns
returns c =
    let k = c.args.i * c.args.w in
    let e : k + c.args.w - k ≡ c.args.w = omega arith in
    ap (λ m. Some (take m (drop k c.args.bytes.now))) e ∙ part_there c.args.w c.args.n c.args.i c.args.bytes.now c.requires.0 c.requires.1.0
