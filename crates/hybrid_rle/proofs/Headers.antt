-- Laws of the header's number.
use Rattle.std.proofs.Common.{◌≡◌, ℕ, suc, ◌+◌, ◌-◌, ◌*◌, ◌%◌, ◌^◌, ◌<◌, ◌≤◌, true, false, cond, ltb, List, [], length, get_or, drop, Ok, Err, refl, ap, ◌∙◌, mul_assoc, mul_comm, mul-add, mul_left_comm, arith, drop_of_length-le}
use lib.Bits.{bit_and}
use lib.Arith.{digits_lt}
use Rattle.std.proofs.lemmas.Nat.{pow-add, and_mask, shl_whole, mod_below}
use Rattle.std.proofs.lemmas.List.{drop_more}
use Rattle.std.proofs.lemmas.Bool.Decides.{nat_tests}
use Rattle.hybrid_rle.specs.Header.{Read, above, number}
use Rattle.hybrid_rle.specs.declared.header.Broken.TheVariants.{Ended}

-- what is read when `low` was read before, in n bytes
abbrev pub after : ℕ → ℕ → Read → Read
after low n (Ok p) = Ok (low + 2 ^ (7 * n) * p.0, n + p.1)
after low n (Err e) = Err e

-- one more group of seven bits
pub pow_step : (k : ℕ) → 2 ^ (7 * (k + 1)) ≡ 128 * 2 ^ (7 * k)
pow_step k = let e : 7 * (k + 1) ≡ 7 + 7 * k = omega arith in rw e (pow-add 2 7 (7 * k))

-- the seven bits that count, moved to their place in 128 bits
pub placed : (b k : ℕ) → k < 10 → (bit_and b 127 * 2 ^ (7 * k)) % 340282366920938463463374607431768211456 ≡ (b % 128) * 2 ^ (7 * k)
placed b k h =
    let m : bit_and b 127 ≡ b % 128 = and_mask b 7 in
    rw m (shl_whole (b % 128) 7 (7 * k) 128 (mod_below b 128 (omega arith)) (omega arith))

-- the number at a place
pub number_at : (most : ℕ) (bs : List ℕ) (k : ℕ) → k < length bs → number (suc most) (drop k bs) ≡ cond (ltb (get_or bs k 0) 128) (Ok (get_or bs k 0, 1)) (above (get_or bs k 0 - 128) (number most (drop (k + 1) bs)))
number_at most bs k h = ap (number (suc most)) (drop_more bs k 0 h)

after_above : (low d k : ℕ) (r : Read) → after low k (above d r) ≡ after (low + d * 2 ^ (7 * k)) (k + 1) r
after_above low d k (Ok p) =
    let s = pow_step k in
    let m1 = mul-add (2 ^ (7 * k)) d (128 * p.0) in
    let m2 = mul_comm (2 ^ (7 * k)) d in
    let m3 = mul_left_comm (2 ^ (7 * k)) 128 p.0 in
    let m4 = mul_assoc 128 (2 ^ (7 * k)) p.0 in
    let x : low + 2 ^ (7 * k) * (d + 128 * p.0) ≡ low + d * 2 ^ (7 * k) + 2 ^ (7 * (k + 1)) * p.0 = rw (s, m4) (omega arith) in
    let y : k + (p.1 + 1) ≡ k + 1 + p.1 = omega arith in
    cc
after_above low d k (Err e) = refl

module _ (bs : List ℕ) (most k low b : ℕ) (few : most ≤ 10) (small : k < most) (inside : k < length bs) (is : b ≡ get_or bs k 0) (byte : b < 256) (so : number most bs ≡ after low k (number (most - k) (drop k bs))) where
  here : number (most - k) (drop k bs) ≡ cond (ltb b 128) (Ok (b, 1)) (above (b - 128) (number (most - (k + 1)) (drop (k + 1) bs)))
  here = let e : most - k ≡ suc (most - (k + 1)) = omega arith in rw (e, is) (number_at (most - (k + 1)) bs k inside)

  pub last_digit : b < 128 → number most bs ≡ Ok (low + (bit_and b 127 * 2 ^ (7 * k)) % 340282366920938463463374607431768211456, k + 1)
  last_digit h =
      let p = placed b k (omega arith) in
      let t : ltb b 128 ≡ true = grind (arith, nat_tests) in
      let e : b % 128 ≡ b = omega arith in
      let m = mul_comm b (2 ^ (7 * k)) in
      so ∙ rw (here, t, p, e, m) refl

  pub more_digits : 128 ≤ b → number most bs ≡ after (low + (bit_and b 127 * 2 ^ (7 * k)) % 340282366920938463463374607431768211456) (k + 1) (number (most - (k + 1)) (drop (k + 1) bs))
  more_digits h =
      let p = placed b k (omega arith) in
      let t : ltb b 128 ≡ false = grind (arith, nat_tests) in
      let e : b % 128 ≡ b - 128 = omega arith in
      so ∙ rw (here, t, p, e) (after_above low (b - 128) k (number (most - (k + 1)) (drop (k + 1) bs)))

pub digits_below : (b k low : ℕ) → k < 10 → low < 2 ^ (7 * k) → low + (bit_and b 127 * 2 ^ (7 * k)) % 340282366920938463463374607431768211456 < 2 ^ (7 * (k + 1))
digits_below b k low h l =
    let d = digits_lt {q = b % 128} {m = 128} {r = low} {c = 2 ^ (7 * k)} (mod_below b 128 (omega arith)) l in
    rw (placed b k h, pow_step k) (omega arith)

-- the bytes end inside the number
pub cut_off : (bs : List ℕ) (most k low : ℕ) → k < most → length bs ≤ k → number most bs ≡ after low k (number (most - k) (drop k bs)) → number most bs ≡ Err Ended
cut_off bs most k low small past so =
    let e : most - k ≡ suc (most - (k + 1)) = omega arith in
    let none : drop k bs ≡ [] = drop_of_length-le bs past in
    so ∙ rw (e, none) refl
