use Rattle.std.proofs.Common.{◌+◌, ◌-◌, [], ◌∷◌, ◌∙◌}
use Rattle.hybrid_rle.specs.Rows.{bits}
use Rattle.holders.proofs.Filling.{mid_able, mid_grown, split_bits, bits_one}
use Rattle.holders.proofs.fill.push_bits.Goals as goal

pub push_row-requires : goal.push_row-requires
push_row-requires g c =
    mid_able _ _ _ (bits c.args.bytes.now c.args.offset c.loop-i.i) (c.get_bit-present.result ∷ []) (bits c.args.bytes.now (c.args.offset + c.loop-i.i + 1) (c.args.n - (c.loop-i.i + 1))) _ (split_bits c.args.bytes.now c.args.offset c.args.n c.loop-i.i c.get_bit-present.result c.loop-i-test.true c.get_bit-present.ensures) c.requires.able _ _ _ c.loop-i.invariant.room c.loop-i.invariant.items c.loop-i.invariant.left

pub loop-i-preserved : goal.loop-i-preserved
loop-i-preserved g c =
    let e = mid_grown _ _ _ (bits c.args.bytes.now c.args.offset c.loop-i.i) (c.get_bit-present.result ∷ []) (bits c.args.bytes.now (c.args.offset + c.loop-i.i + 1) (c.args.n - (c.loop-i.i + 1))) _ (split_bits c.args.bytes.now c.args.offset c.args.n c.loop-i.i c.get_bit-present.result c.loop-i-test.true c.get_bit-present.ensures) c.requires.able _ (bits c.args.bytes.now c.args.offset (c.loop-i.i + 1)) _ _ _ _ c.loop-i.invariant.room (bits_one c.args.bytes.now c.args.offset c.loop-i.i c.get_bit-present.result c.get_bit-present.ensures) c.loop-i.invariant.items c.loop-i.invariant.left c.push_row.ensures.items c.push_row.ensures.left in
    record { items = e.0; left = e.1; room = c.push_row.ensures.room ∙ c.loop-i.invariant.room; home = c.push_row.ensures.home ∙ c.loop-i.invariant.home }
