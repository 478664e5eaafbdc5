use Rattle.holders.proofs.Fronts.{array_first}
use Rattle.holders.proofs.take.whole_front.Goals as goal

pub returns-in-Some : goal.returns-in-Some
returns-in-Some c = array_first c.args.form c.args.n c.args.bytes.now _ _ c.requires.1.0 c.in-Arrays.is c.in-Some.ensures
