use Rattle.std.proofs.Common.{◌≡◌, rules}
use Rattle.holders.specs.declared.types.Form.TheVariants.{Bits}
use Rattle.holders.proofs.Fronts.{bit_front}
use Rattle.holders.proofs.take.plain_front.Goals as goal

pub returns-then-eq : goal.returns-then-eq
returns-then-eq c =
    let e : c.args.form ≡ Bits = search rules in
    bit_front c.args.form c.args.n c.args.at c.unpacked-bit.result c.args.bytes.now _ e c.bit_bytes.ensures c.requires.1 c.unpacked-bit.ensures c.requires.0
