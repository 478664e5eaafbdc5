use Rattle.std.proofs.Common.{codes, refl, rules}
use Rattle.cli.proofs.Laid.{byte_on, bytes_out}
use Rattle.cli.proofs.numbers.quoted.Goals as goal

pub loop-b-preserved : goal.loop-b-preserved
loop-b-preserved c = byte_on _ (codes "\"") _ c.args.bytes.now c.loop-b.b-index (search rules) c.loop-b.invariant (c.in_ok-put_byte.ensures refl)

pub returns : goal.returns
returns c = bytes_out _ (codes "\"") _ (codes "\"") c.args.bytes.now c.loop-b.b-index (search rules) c.loop-b.invariant (search rules)
