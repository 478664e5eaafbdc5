use Rattle.std.proofs.Common.{◌≡◌, ◌+◌, ◌*◌, ◌%◌, ◌^◌, cond, sym, ap, ◌∙◌, arith}
use lib.Bits.{bit_or, or_shifted_r}
use Rattle.std.proofs.lemmas.Nat.{one_shl, mod_below, pow_pos}
use Rattle.bitmap.proofs.utils.with_bit.Goals as goal

pub returns-then-value : goal.returns-then-value
returns-then-value c =
    let b = c.args.byte in let j = c.args.j in
    let one : (1 * 2 ^ j) % 256 ≡ 1 * 2 ^ j = omega (arith, one_shl j 8 c.requires) in
    let swap : 1 * 2 ^ j + b % 2 ^ j ≡ b % 2 ^ j + 2 ^ j = omega arith in
    ap (λ t. bit_or t ((1 * 2 ^ j) % 256)) c.low_bits-low.ensures
    ∙ ap (λ t. bit_or (b % 2 ^ j) t) one
    ∙ or_shifted_r 1 j (b % 2 ^ j) (mod_below b (2 ^ j) (pow_pos j))
    ∙ swap ∙ ap (λ t. b % 2 ^ j + cond t (2 ^ j) 0) (sym c.if-value.true)
