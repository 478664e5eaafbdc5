use Rattle.std.proofs.Common.{◌≡◌, suc, ◌+◌, leb, [], ◌∷◌, length, refl, ap, ◌∙◌, arith, rules}
use Rattle.bitmap.specs.Bitmaps.{capacity}
use Rattle.values.specs.Values.{flag}
use Rattle.sinks.proofs.Flags.{flags_grown}
use Rattle.sinks.proofs.bits.MutableBitmapPushableBool.push.Goals as goal

pub returns : goal.returns
returns c =
    let s = c.args.self.now in let v = c.args.v in let e = c.push.ensures in
    let one : suc s.used ≡ s.used + 1 = omega arith in
    let p = (flags_grown c.push.result s c.push.new.self (v ∷ []) e.appended e.kept 1 (flag v ∷ []) refl refl (e.answer ∙ ap (λ t. leb t (capacity (length s.buffer.now))) one)) in
    record { answer = p.0; items = p.1; memory = search rules; kept = search rules }
