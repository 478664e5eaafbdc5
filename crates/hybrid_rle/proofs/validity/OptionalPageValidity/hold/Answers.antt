use Rattle.std.proofs.Common.{rules}
use Rattle.hybrid_rle.proofs.Pieces.{rows_count}
use Rattle.hybrid_rle.proofs.validity.OptionalPageValidity.hold.Goals as goal

pub returns-clause-count : goal.returns-clause-count
returns-clause-count c = λ _. rows_count c.args.rows c.args.bytes.now (search rules)
