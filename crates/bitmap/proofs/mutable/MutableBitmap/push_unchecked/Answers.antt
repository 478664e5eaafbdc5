use Rattle.std.proofs.Common.{ℕ, ◌+◌, ◌/◌, ◌<◌, length, set, sym, refl, ap, ◌∙◌, subst, arith, length-set}
use Rattle.bitmap.specs.Bitmaps.{bits, Tidy, capacity}
use Rattle.bitmap.proofs.Laws.{bits_pushed, tidy_pushed, beyond_set}
use Rattle.bitmap.proofs.mutable.MutableBitmap.push_unchecked.Goals as goal

inside : (n m : ℕ) → n < capacity m → n / 8 < m
inside n m h = omega arith

pub invariant_of-self-clause-tidy : goal.invariant_of-self-clause-tidy
invariant_of-self-clause-tidy c =
    let bs = c.args.self.now.buffer.now in let n = c.args.self.now.used in
    subst (λ t. Tidy (n + 1) (set bs (n / 8) t)) (sym c.with_bit.ensures) (tidy_pushed bs n c.args.value (inside n (length bs) c.requires))

pub returns : goal.returns
returns c =
    let bs = c.args.self.now.buffer.now in let n = c.args.self.now.used in
    let w = inside n (length bs) c.requires in
    record {
      count = refl;
      items = ap (λ t. bits (n + 1) (set bs (n / 8) t)) c.with_bit.ensures ∙ bits_pushed bs n c.args.value w;
      room = length-set _ _ _;
      home = refl;
      beyond = λ j h. beyond_set bs n (n + 1) j c.with_bit.result (omega arith) h;
    }
