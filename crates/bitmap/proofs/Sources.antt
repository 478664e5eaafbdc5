-- the bits of a source, as its appends say them
use Rattle.std.proofs.Common.{◌≡◌, ℕ, zero, suc, ◌+◌, ◌-◌, Bool, List, ◌∷◌, map, replicate, refl, ap, ◌∙◌, arith}
use Rattle.std.specs.List.{range_with_len}
use Rattle.bitmap.specs.Bitmaps.{bit_at, bits_between, part}
use Rattle.bitmap.proofs.Runs.{runs_same}

all_equal : (a n : ℕ) (v : Bool) → map (λ _. v) (range_with_len a n) ≡ replicate n v
all_equal a zero v = refl
all_equal a (suc n) v = ap (λ xs. v ∷ xs) (all_equal (a + 1) n v)

pub between_equal : (n : ℕ) (v : Bool) → bits_between (λ _. v) 0 n ≡ replicate n v
between_equal n v = let p : n - 0 ≡ n = omega arith in ap (λ k. map (λ _. v) (range_with_len 0 k)) p ∙ all_equal 0 n v

pub between_part : (bs : List ℕ) (o a n : ℕ) → bits_between (λ i. bit_at bs (o + i)) a (a + n) ≡ part (o + a) n bs
between_part bs o a n =
    let p : a + n - a ≡ n = omega arith in
    ap (λ k. map (λ i. bit_at bs (o + i)) (range_with_len a k)) p
    ∙ runs_same (λ i. bit_at bs (o + i)) (bit_at bs) a (o + a) n (λ i _. let q : o + (a + i) ≡ o + a + i = omega arith in ap (bit_at bs) q)

pub between_whole : (bs : List ℕ) (o n : ℕ) → bits_between (λ i. bit_at bs (o + i)) 0 n ≡ part o n bs
between_whole bs o n =
    let p : n ≡ 0 + n = omega arith in
    let q : o + 0 ≡ o = omega arith in
    ap (bits_between (λ i. bit_at bs (o + i)) 0) p ∙ between_part bs o 0 n ∙ ap (λ k. part k n bs) q
