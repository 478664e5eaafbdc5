use Rattle.std.proofs.Common.{◌+◌, true, [], ◌∷◌, take, set, sym, refl, arith, rules}
use Rattle.std.proofs.lemmas.List.{take_more_set}
use Rattle.std.proofs.lemmas.Bool.{leb-true}
use Rattle.sinks.proofs.Rows.{numbers_grown}
use Rattle.sinks.proofs.fixed.FixedPushable.push.Goals as goal

pub returns : goal.returns
returns g c =
    let s = c.args.self.now in let m = s.memory.now in let v = c.args.v in
    let room = leb-true _ _ (sym c.if-not-has_space.ensures) in
    let p = (numbers_grown g.T.Element.int m s.used 1 (v ∷ []) (take (s.used + 1) (set m s.used v)) _ true s.within refl refl c.if-not-has_space.ensures (take_more_set m s.used v (omega arith))) in
    record { answer = p.0; items = p.1; memory = search rules; kept = search rules }
