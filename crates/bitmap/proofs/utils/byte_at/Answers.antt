use Rattle.std.proofs.Common.{◌≡◌, ◌+◌, ◌-◌, ◌/◌, ◌%◌, ◌<◌, get_or, ◌∙◌, arith}
use Rattle.bitmap.proofs.Across.{eight_across, eight_aligned, across}
use Rattle.bitmap.proofs.utils.byte_at.Goals as goal

pub returns-then-s-eq0 : goal.returns-then-s-eq0
returns-then-s-eq0 c = eight_aligned c.args.bytes.now c.args.p c.if-s-eq0.true

pub returns : goal.returns
returns c =
    let bs = c.args.bytes.now in let p = c.args.p in
    let e : p % 8 + (8 - p % 8) ≡ 8 = omega arith in
    let small : get_or bs (p / 8) 0 < 256 = omega (arith, c.type_inv.bytes (p / 8)) in
    eight_across bs p c.merge_reversed.result (c.merge_reversed.ensures ∙ across (get_or bs (p / 8) 0) (get_or bs (p / 8 + 1) 0) (p % 8) (8 - p % 8) small e) small
