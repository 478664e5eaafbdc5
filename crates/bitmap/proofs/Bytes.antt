-- one byte, with a bit put after its lowest j
use Rattle.std.proofs.Common.{◌≡◌, ℕ, ◌+◌, ◌-◌, ◌*◌, ◌/◌, ◌%◌, ◌^◌, ◌<◌, Bool, true, false, cond, sym, ap, ◌∙◌, add-zero, arith}
use native.Mathlib.Nat.{add-mul-div_right, div-eq_of_lt}
use Rattle.std.proofs.lemmas.Nat.{pow_pos, pow-add, field_of, mod-pow-add, mod_below, shr_high}

abbrev pub topped : ℕ → ℕ → Bool → ℕ
topped b j v = b % 2 ^ j + cond v (2 ^ j) 0

low_at : (b s i : ℕ) (v : Bool) → topped b (s + 1 + i) v / 2 ^ i % 2 ≡ b / 2 ^ i % 2
low_at b s i true =
    ap (λ t. (b % 2 ^ (s + 1 + i) + t) / 2 ^ i % 2) (pow-add 2 (s + 1) i)
    ∙ ap (λ t. t % 2) (add-mul-div_right (b % 2 ^ (s + 1 + i)) (2 ^ (s + 1)) (pow_pos i) ∙ ap (λ t. t + 2 ^ (s + 1)) (field_of b (s + 1) i))
    ∙ omega (arith, pow-add 2 s 1, mod-pow-add (b / 2 ^ i) s 1)
low_at b s i false =
    ap (λ t. t / 2 ^ i % 2) (add-zero (b % 2 ^ (s + 1 + i)))
    ∙ ap (λ t. t % 2) (field_of b (s + 1) i)
    ∙ omega (arith, mod-pow-add (b / 2 ^ i) s 1)

-- the bits below j stay
pub topped_low : (b j i : ℕ) (v : Bool) → i < j → topped b j v / 2 ^ i % 2 ≡ b / 2 ^ i % 2
topped_low b j i v h =
    let e : j - i - 1 + 1 + i ≡ j = omega arith in
    ap (λ t. topped b t v / 2 ^ i % 2) (sym e) ∙ low_at b (j - i - 1) i v

-- bit j is the new one
pub topped_top : (b j : ℕ) (v : Bool) → topped b j v / 2 ^ j % 2 ≡ cond v 1 0
topped_top b j true =
    let m = mod_below b (2 ^ j) (pow_pos j) in
    let e : b % 2 ^ j + 2 ^ j ≡ 1 * 2 ^ j + b % 2 ^ j = omega arith in
    ap (λ t. t % 2) (ap (λ t. t / 2 ^ j) e ∙ shr_high 1 j (b % 2 ^ j) m)
topped_top b j false =
    let m = mod_below b (2 ^ j) (pow_pos j) in
    ap (λ t. t % 2) (ap (λ t. t / 2 ^ j) (add-zero (b % 2 ^ j)) ∙ div-eq_of_lt m)

-- nothing stands above it
pub topped_below : (b j : ℕ) (v : Bool) → topped b j v < 2 ^ (j + 1)
topped_below b j true = omega (arith, mod_below b (2 ^ j) (pow_pos j), pow-add 2 j 1)
topped_below b j false = omega (arith, mod_below b (2 ^ j) (pow_pos j), pow-add 2 j 1, pow_pos j)
