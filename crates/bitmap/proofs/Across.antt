-- eight bits that lie across two bytes
use Rattle.std.proofs.Common.{◌≡◌, ℕ, ◌+◌, ◌-◌, ◌*◌, ◌/◌, ◌%◌, ◌^◌, ◌<◌, ◌≤◌, eqb, List, [], ◌∷◌, get_or, sym, ap, ◌∙◌, subst, ⊎_elim, add-zero, mul_assoc, add_comm, arith}
use native.Mathlib.Nat.{add-mul-div_right}
use lib.Bits.{bit_or, or_shifted_r}
use Rattle.std.proofs.lemmas.Nat.{pow_pos, pow-add, field_of, mod-pow-add, shl-shr, shr-shr, shr_below, shr_high, mod_low}
use Rattle.std.proofs.lemmas.Bool.{cases_lt}
use Rattle.bitmap.specs.Bitmaps.{bit_at, bits, part}
use Rattle.bitmap.proofs.Runs.{runs_same}

-- a bit below what is cut off above stays
cut_bit : (n s i : ℕ) → i < s → n % 2 ^ s / 2 ^ i % 2 ≡ n / 2 ^ i % 2
cut_bit n s i h =
    let e : s - i - 1 + 1 + i ≡ s = omega arith in
    ap (λ t. n % 2 ^ t / 2 ^ i % 2) (sym e) ∙ ap (λ t. t % 2) (field_of n (s - i - 1 + 1) i) ∙ omega (arith, mod-pow-add (n / 2 ^ i) (s - i - 1) 1)

-- a bit below what is added above stays
low_bit : (h t a j : ℕ) → j < t → (h * 2 ^ t + a) / 2 ^ j % 2 ≡ a / 2 ^ j % 2
low_bit h t a j l =
    let e : t - j - 1 + 1 + j ≡ t = omega arith in
    let p : 2 ^ t ≡ 2 ^ (t - j - 1 + 1) * 2 ^ j = ap (λ x. 2 ^ x) (sym e) ∙ pow-add 2 (t - j - 1 + 1) j in
    let q : h * 2 ^ t + a ≡ a + (h * 2 ^ (t - j - 1 + 1)) * 2 ^ j = add_comm (h * 2 ^ t) a ∙ ap (λ x. a + x) (ap (λ x. h * x) p ∙ sym (mul_assoc h (2 ^ (t - j - 1 + 1)) (2 ^ j))) in
    let w : h * 2 ^ (t - j - 1 + 1) ≡ h * 2 ^ (t - j - 1) * 2 = ap (λ x. h * x) (pow-add 2 (t - j - 1) 1) ∙ sym (mul_assoc h (2 ^ (t - j - 1)) 2) in
    ap (λ x. x / 2 ^ j % 2) q ∙ ap (λ x. x % 2) (add-mul-div_right a (h * 2 ^ (t - j - 1 + 1)) (pow_pos j)) ∙ omega (arith, w)

high_bit : (h t a i : ℕ) → a < 2 ^ t → (h * 2 ^ t + a) / 2 ^ (t + i) % 2 ≡ h / 2 ^ i % 2
high_bit h t a i l = ap (λ x. x % 2) (sym (shr-shr (h * 2 ^ t + a) t i) ∙ ap (λ x. x / 2 ^ i) (shr_high h t a l))

-- what is shifted up in a byte keeps its low bits
kept : (hi s t : ℕ) → s + t ≡ 8 → (hi * 2 ^ t) % 256 ≡ (hi % 2 ^ s) * 2 ^ t
kept hi s t e =
    let z : (hi * 2 ^ t) % 2 ^ t ≡ 0 = ap (λ x. x % 2 ^ t) (sym (add-zero (hi * 2 ^ t))) ∙ mod_low hi t 0 (pow_pos t) in
    ap (λ x. (hi * 2 ^ t) % 2 ^ x) (sym e) ∙ mod-pow-add (hi * 2 ^ t) s t
    ∙ ap (λ x. (x % 2 ^ s) * 2 ^ t + (hi * 2 ^ t) % 2 ^ t) (shl-shr hi t) ∙ ap (λ x. (hi % 2 ^ s) * 2 ^ t + x) z ∙ add-zero ((hi % 2 ^ s) * 2 ^ t)

-- the byte that two neighbours make
pub across : (lo hi s t : ℕ) → lo < 256 → s + t ≡ 8 → bit_or (lo / 2 ^ s) ((hi * 2 ^ t) % 256) ≡ (hi % 2 ^ s) * 2 ^ t + lo / 2 ^ s
across lo hi s t h e = ap (bit_or (lo / 2 ^ s)) (kept hi s t e) ∙ or_shifted_r (hi % 2 ^ s) t (lo / 2 ^ s) (shr_below lo t s (let p : t + s ≡ 8 = omega arith in subst (λ x. lo < 2 ^ x) (sym p) h))

module _ (bs : List ℕ) (p r : ℕ) (made : r ≡ (get_or bs (p / 8 + 1) 0 % 2 ^ (p % 8)) * 2 ^ (8 - p % 8) + get_or bs (p / 8) 0 / 2 ^ (p % 8)) (small : get_or bs (p / 8) 0 < 256) where
  below : get_or bs (p / 8) 0 / 2 ^ (p % 8) < 2 ^ (8 - p % 8)
  below = shr_below (get_or bs (p / 8) 0) (8 - p % 8) (p % 8) (let e : 8 - p % 8 + p % 8 ≡ 8 = omega arith in subst (λ x. get_or bs (p / 8) 0 < 2 ^ x) (sym e) small)

  near : (i : ℕ) → i < 8 - p % 8 → r / 2 ^ i % 2 ≡ get_or bs ((p + i) / 8) 0 / 2 ^ ((p + i) % 8) % 2
  near i l =
      let a : p / 8 ≡ (p + i) / 8 = omega arith in
      let b : p % 8 + i ≡ (p + i) % 8 = omega arith in
      ap (λ x. x / 2 ^ i % 2) made ∙ low_bit (get_or bs (p / 8 + 1) 0 % 2 ^ (p % 8)) (8 - p % 8) (get_or bs (p / 8) 0 / 2 ^ (p % 8)) i l
      ∙ ap (λ x. x % 2) (shr-shr (get_or bs (p / 8) 0) (p % 8) i) ∙ ap (λ x. get_or bs x 0 / 2 ^ (p % 8 + i) % 2) a ∙ ap (λ x. get_or bs ((p + i) / 8) 0 / 2 ^ x % 2) b

  far : (i : ℕ) → i < 8 → 8 - p % 8 ≤ i → r / 2 ^ i % 2 ≡ get_or bs ((p + i) / 8) 0 / 2 ^ ((p + i) % 8) % 2
  far i h l =
      let a : p / 8 + 1 ≡ (p + i) / 8 = omega arith in
      let b : i - (8 - p % 8) ≡ (p + i) % 8 = omega arith in
      let d : i ≡ 8 - p % 8 + (i - (8 - p % 8)) = omega arith in
      let u : i - (8 - p % 8) < p % 8 = omega arith in
      ap (λ x. x / 2 ^ i % 2) made ∙ ap (λ x. ((get_or bs (p / 8 + 1) 0 % 2 ^ (p % 8)) * 2 ^ (8 - p % 8) + get_or bs (p / 8) 0 / 2 ^ (p % 8)) / 2 ^ x % 2) d
      ∙ high_bit (get_or bs (p / 8 + 1) 0 % 2 ^ (p % 8)) (8 - p % 8) (get_or bs (p / 8) 0 / 2 ^ (p % 8)) (i - (8 - p % 8)) below
      ∙ cut_bit (get_or bs (p / 8 + 1) 0) (p % 8) (i - (8 - p % 8)) u
      ∙ ap (λ x. get_or bs x 0 / 2 ^ (i - (8 - p % 8)) % 2) a ∙ ap (λ x. get_or bs ((p + i) / 8) 0 / 2 ^ x % 2) b

  pub eight_across : bits 8 (r ∷ []) ≡ part p 8 bs
  eight_across = runs_same (bit_at (r ∷ [])) (bit_at bs) 0 p 8 (λ i h.
      let z : (0 + i) / 8 ≡ 0 = omega arith in
      let m : (0 + i) % 8 ≡ i = omega arith in
      ap (λ x. eqb (get_or (r ∷ []) x 0 / 2 ^ ((0 + i) % 8) % 2) 1) z ∙ ap (λ x. eqb (r / 2 ^ x % 2) 1) m
      ∙ ap (λ x. eqb x 1) (⊎_elim (λ l. near i l) (λ l. far i h l) (cases_lt i (8 - p % 8))))

pub eight_aligned : (bs : List ℕ) (p : ℕ) → p % 8 ≡ 0 → bits 8 (get_or bs (p / 8) 0 ∷ []) ≡ part p 8 bs
eight_aligned bs p e = runs_same (bit_at (get_or bs (p / 8) 0 ∷ [])) (bit_at bs) 0 p 8 (λ i h.
    let z : (0 + i) / 8 ≡ 0 = omega arith in
    let a : p / 8 ≡ (p + i) / 8 = omega arith in
    let m : (0 + i) % 8 ≡ (p + i) % 8 = omega arith in
    ap (λ x. eqb (get_or (get_or bs (p / 8) 0 ∷ []) x 0 / 2 ^ ((0 + i) % 8) % 2) 1) z
    ∙ ap (λ x. eqb (get_or bs x 0 / 2 ^ ((0 + i) % 8) % 2) 1) a ∙ ap (λ x. eqb (get_or bs ((p + i) / 8) 0 / 2 ^ x % 2) 1) m)
