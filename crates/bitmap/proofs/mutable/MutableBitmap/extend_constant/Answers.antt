use Rattle.std.proofs.Common.{OnOk, subst}
use Rattle.bitmap.specs.Appends.{Appends}
use Rattle.bitmap.proofs.Sources.{between_equal}
use Rattle.bitmap.proofs.mutable.MutableBitmap.extend_constant.Goals as goal

pub returns-clause-appended : goal.returns-clause-appended
returns-clause-appended c = subst (λ xs. OnOk c.extend.result (Appends c.args.self.now c.extend.new.self xs)) (between_equal c.args.n c.args.value) c.extend.ensures.appended
