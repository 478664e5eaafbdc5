-- Bits of bytes as digits of one number.
use Rattle.std.proofs.Common.{◌≡◌, ℕ, zero, suc, ◌+◌, ◌-◌, ◌*◌, ◌/◌, ◌%◌, ◌^◌, ◌<◌, ◌≤◌, min, true, false, ◌&&◌, ltb, leb, List, [], ◌∷◌, length, get_or, take, drop, sym, refl, ap, ◌∙◌, ⊎_elim, mul_comm, add-one, arith, lt-ltb}
use native.Mathlib.Nat.{zero-div, zero-mod, div-one, mod-one, zero-min, min-zero, suc-min-suc}
use Rattle.std.proofs.lemmas.Bool.Decides.{leb_tells}
use Rattle.std.proofs.lemmas.List.{get_or-drop}
use Rattle.std.proofs.lemmas.Nat.{shr-shr, mod-pow-add, field_of, one_shl, and_mask}
use lib.Bits.{bit_and}
use lib.Pow.{mod-mod-pow}
use Rattle.hybrid_rle.specs.Runs.{bit, field, fields, all_below}
use Rattle.values.specs.Little.{little}

abbrev pub Bytes : List ℕ → Type 0
Bytes bs = (i : ℕ) → get_or bs i 0 < 256

-- the bytes without the first, and then without some
shift_one : (b v k : ℕ) → b < 256 → (b + 256 * v) / 2 ^ (8 + k) ≡ v / 2 ^ k
shift_one b v k h = let e : (b + 256 * v) / 256 ≡ v = omega arith in sym (shr-shr (b + 256 * v) 8 k) ∙ rw e refl

pub little_drop : (q : ℕ) (bs : List ℕ) → Bytes bs → little (drop q bs) ≡ little bs / 2 ^ (8 * q)
little_drop zero bs h = omega arith
little_drop (suc q) [] h = sym (zero-div (2 ^ (8 * suc q)))
little_drop (suc q) (b ∷ bs) h =
    let e : 8 * suc q ≡ 8 + 8 * q = omega arith in
    little_drop q bs (λ i. h (suc i)) ∙ sym (rw e (shift_one b (little bs) (8 * q) (h 0)))

low_bit : (b v k : ℕ) → b < 256 → k < 8 → (b / 2 ^ k) % 2 ≡ ((b + 256 * v) / 2 ^ k) % 2
low_bit b v zero h l = omega arith
low_bit b v (suc zero) h l = omega arith
low_bit b v (suc (suc zero)) h l = omega arith
low_bit b v (suc (suc (suc zero))) h l = omega arith
low_bit b v (suc (suc (suc (suc zero)))) h l = omega arith
low_bit b v (suc (suc (suc (suc (suc zero))))) h l = omega arith
low_bit b v (suc (suc (suc (suc (suc (suc zero)))))) h l = omega arith
low_bit b v (suc (suc (suc (suc (suc (suc (suc zero))))))) h l = omega arith
low_bit b v (suc (suc (suc (suc (suc (suc (suc (suc k)))))))) h l = absurd (omega arith)

-- bit i of the bytes is bit i of the number that they make
pub bit_is : (bs : List ℕ) (at : ℕ) → Bytes bs → bit bs at ≡ (little bs / 2 ^ at) % 2
bit_is [] at h = rw (zero-div, zero-div) refl
bit_is (b ∷ bs) at h = ⊎_elim (far (bit_is bs (at - 8) (λ i. h (suc i)))) near (leb_tells 8 at)
  where
    near : ((leb 8 at ≡ false) × (at < 8)) → bit (b ∷ bs) at ≡ (little (b ∷ bs) / 2 ^ at) % 2
    near p =
        let q : at / 8 ≡ 0 = omega arith in
        let r : at % 8 ≡ at = omega arith in
        rw (q, r) (low_bit b (little bs) at (h 0) p.1)

    far : bit bs (at - 8) ≡ (little bs / 2 ^ (at - 8)) % 2 → ((leb 8 at ≡ true) × (8 ≤ at)) → bit (b ∷ bs) at ≡ (little (b ∷ bs) / 2 ^ at) % 2
    far i p =
        let e : at ≡ 8 + (at - 8) = omega arith in
        let q : at / 8 ≡ suc ((at - 8) / 8) = omega arith in
        let r : at % 8 ≡ (at - 8) % 8 = omega arith in
        let s = shift_one b (little bs) (at - 8) (h 0) in
        let t : (b + 256 * little bs) / 2 ^ at ≡ little bs / 2 ^ (at - 8) = ap (λ n. (b + 256 * little bs) / 2 ^ n) e ∙ s in
        rw (q, r, t) i

-- w bits from bit `at` on
pub field_is : (w : ℕ) (bs : List ℕ) (at : ℕ) → Bytes bs → field w bs at ≡ (little bs / 2 ^ at) % 2 ^ w
field_is zero bs at h = sym (mod-one (little bs / 2 ^ at))
field_is (suc w) bs at h =
    let m = mod-pow-add (little bs / 2 ^ at) w 1 in
    let x = shr-shr (little bs) at 1 in
    let c = mul_comm 2 ((little bs / 2 ^ (at + 1)) % 2 ^ w) in
    rw (bit_is bs at h, field_is w bs (at + 1) h, sym (add-one w), m, x) (omega arith)

pub little_take : (k : ℕ) (xs : List ℕ) → Bytes xs → little (take k xs) ≡ little xs % 2 ^ (8 * k)
little_take zero xs h = sym (mod-one (little xs))
little_take (suc k) [] h = sym (zero-mod (2 ^ (8 * suc k)))
little_take (suc k) (b ∷ xs) h =
    let e : 8 * suc k ≡ 8 * k + 8 = omega arith in
    let l = h 0 in
    let q : (b + 256 * little xs) / 2 ^ 8 ≡ little xs = omega arith in
    let r : (b + 256 * little xs) % 2 ^ 8 ≡ b = omega arith in
    let i = little_take k xs (λ i. h (suc i)) in
    rw (e, mod-pow-add (b + 256 * little xs) (8 * k) 8, q, r, i) (omega arith)

part_is : (y s w : ℕ) → s + w ≤ 40 → (y % 2 ^ 40) / 2 ^ s % 2 ^ w ≡ y / 2 ^ s % 2 ^ w
part_is y s w h =
    let j : 40 ≡ (40 - s) + s = omega arith in
    let k : 40 - s ≡ (40 - s - w) + w = omega arith in
    ap (λ n. (y % 2 ^ n) / 2 ^ s % 2 ^ w) j ∙ ap (λ n. n % 2 ^ w) (field_of y (40 - s) s) ∙ ap (λ n. y / 2 ^ s % 2 ^ n % 2 ^ w) k ∙ mod-mod-pow (y / 2 ^ s) (40 - s - w) w

-- five bytes suffice
pub five_bytes : (bs : List ℕ) (w at : ℕ) → Bytes bs → w ≤ 32 → little (take 5 (drop (at / 8) bs)) / 2 ^ (at % 8) % 2 ^ w ≡ field w bs at
five_bytes bs w at h l =
    let d : Bytes (drop (at / 8) bs) = λ i. rw get_or-drop (h (at / 8 + i)) in
    let e : at ≡ 8 * (at / 8) + at % 8 = omega arith in
    let s : at % 8 + w ≤ 40 = omega arith in
    let x : little bs / 2 ^ (8 * (at / 8)) / 2 ^ (at % 8) ≡ little bs / 2 ^ at = shr-shr (little bs) (8 * (at / 8)) (at % 8) ∙ ap (λ n. little bs / 2 ^ n) (sym e) in
    rw (little_take 5 (drop (at / 8) bs) d, part_is (little (drop (at / 8) bs)) (at % 8) w s, little_drop (at / 8) bs h, x, field_is w bs at h) refl

-- a place past the end
pub drop_min : (n : ℕ) (bs : List ℕ) → drop (min n (length bs)) bs ≡ drop n bs
drop_min zero bs = rw zero-min refl
drop_min (suc n) [] = rw min-zero refl
drop_min (suc n) (b ∷ bs) = rw suc-min-suc (drop_min n bs)

-- the number of 32 bits at the front
pub first_four : (bs : List ℕ) → Bytes bs → field 32 bs 0 ≡ little (take 4 bs)
first_four bs h = field_is 32 bs 0 h ∙ rw (little_take 4 bs h, div-one (little bs)) refl

-- the mask of w bits
pub masked : (x w : ℕ) → w ≤ 32 → bit_and x ((1 * 2 ^ w) % 18446744073709551616 - 1) ≡ x % 2 ^ w
masked x w h = let o : (1 * 2 ^ w) % 18446744073709551616 ≡ 2 ^ w = one_shl w 64 (omega arith) in rw o (and_mask x w)

-- one number on, in a loop over the places of a packed run
module _ (top w n i : ℕ) (bs : List ℕ) (at : ℕ) (small : i < n) where
  below_step : all_below top (fields w (n - i) bs at) ≡ (ltb (field w bs at) top && all_below top (fields w (n - (i + 1)) bs (at + w)))
  below_step = let e : n - i ≡ suc (n - (i + 1)) = omega arith in rw e refl

  pub below_goes : (v : ℕ) → v ≡ field w bs at → v < top → all_below top (fields w (n - i) bs at) ≡ all_below top (fields w (n - (i + 1)) bs (at + w))
  below_goes v e h = let t : ltb (field w bs at) top ≡ true = lt-ltb (field w bs at) top (omega arith) in below_step ∙ rw t refl

-- a width of at most 32 is taken as it is
pub small_width : (w : ℕ) (bs : List ℕ) (at : ℕ) → w ≤ 32 → field (min w 32) bs at ≡ field w bs at
small_width w bs at h = ap (λ k. field k bs at) (omega arith)
