-- The number that bytes make, byte by byte.
use Rattle.std.proofs.Common.{◌≡◌, ℕ, ◌+◌, ◌*◌, ◌%◌, ◌^◌, ◌<◌, List, length, get_or, drop, sym, ap, ◌∙◌, mul_assoc, mul_comm, mul-add, mul_left_comm, arith}
use Rattle.std.proofs.Math.Arith.{digits_lt}
use Rattle.std.proofs.lemmas.Nat.{pow-add, shl_whole}
use Rattle.std.proofs.lemmas.List.{drop_more}
use Rattle.values.specs.Little.{little}

pow_step : (k : ℕ) → 2 ^ (8 * (k + 1)) ≡ 256 * 2 ^ (8 * k)
pow_step k = let e : 8 * (k + 1) ≡ 8 + 8 * k = omega arith in rw e (pow-add 2 8 (8 * k))

-- one byte on: `low` is the number of the first k bytes
module _ (bs : List ℕ) (k low : ℕ) (inside : k < length bs) (few : k < 8) (byte : get_or bs k 0 < 256) where
  placed : (get_or bs k 0 * 2 ^ (8 * k)) % 18446744073709551616 ≡ get_or bs k 0 * 2 ^ (8 * k)
  placed = shl_whole (get_or bs k 0) 8 (8 * k) 64 byte (omega arith)

  pub byte_below : low < 2 ^ (8 * k) → low + (get_or bs k 0 * 2 ^ (8 * k)) % 18446744073709551616 < 2 ^ (8 * (k + 1))
  byte_below l =
      let d = digits_lt {q = get_or bs k 0} {m = 256} {r = low} {c = 2 ^ (8 * k)} byte l in
      rw (placed, pow_step k) (omega arith)

  pub byte_on : low + 2 ^ (8 * k) * little (drop k bs) ≡ little bs → (low + (get_or bs k 0 * 2 ^ (8 * k)) % 18446744073709551616) + 2 ^ (8 * (k + 1)) * little (drop (k + 1) bs) ≡ little bs
  byte_on so =
      let b = get_or bs k 0 in
      let c = 2 ^ (8 * k) in
      let n = little (drop (k + 1) bs) in
      let f : little (drop k bs) ≡ b + 256 * n = ap little (drop_more bs k 0 inside) in
      let g : low + c * (b + 256 * n) ≡ little bs = ap (λ x. low + c * x) (sym f) ∙ so in
      rw (placed, pow_step k) (omega (arith, g, mul-add c b (256 * n), mul_comm c b, mul_left_comm c 256 n, mul_assoc 256 c n))
