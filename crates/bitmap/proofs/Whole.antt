-- a whole byte at once
use Rattle.std.proofs.Common.{◌≡◌, ℕ, ◌+◌, ◌/◌, ◌%◌, ◌^◌, ◌<◌, eqb, ◌≢◌, List, [], ◌∷◌, ◌++◌, length, get_or, set, ap, ◌∙◌, arith}
use Rattle.std.proofs.lemmas.List.{get_or-set_same, get_or-set_other}
use Rattle.bitmap.specs.Bitmaps.{bit_at, bits, part}
use Rattle.bitmap.proofs.Laws.{bits_same}
use Rattle.bitmap.proofs.Runs.{map_counting_append, runs_same}

pub bits_byte : (bs : List ℕ) (n b : ℕ) → n % 8 ≡ 0 → n / 8 < length bs → bits (n + 8) (set bs (n / 8) b) ≡ bits n bs ++ bits 8 (b ∷ [])
bits_byte bs n b z w =
    map_counting_append (bit_at (set bs (n / 8) b)) 0 n 8
    ∙ ap (λ t. t ++ part (0 + n) 8 (set bs (n / 8) b)) (bits_same n (set bs (n / 8) b) bs (λ i h.
    let ne : i / 8 ≢ n / 8 = λ e. omega arith in
    ap (λ t. eqb (t / 2 ^ (i % 8) % 2) 1) (get_or-set_other bs (n / 8) (i / 8) b 0 ne)))
    ∙ ap (λ t. bits n bs ++ t) (runs_same (bit_at (set bs (n / 8) b)) (bit_at (b ∷ [])) (0 + n) 0 8 (λ i h.
    let p : (0 + n + i) / 8 ≡ n / 8 = omega arith in
    let q : (0 + n + i) % 8 ≡ (0 + i) % 8 = omega arith in
    let r : 0 ≡ (0 + i) / 8 = omega arith in
    ap (λ t. eqb (get_or (set bs (n / 8) b) t 0 / 2 ^ ((0 + n + i) % 8) % 2) 1) p
    ∙ ap (λ t. eqb (t / 2 ^ ((0 + n + i) % 8) % 2) 1) (get_or-set_same bs (n / 8) b 0 w)
    ∙ ap (λ t. eqb (b / 2 ^ t % 2) 1) q
    ∙ ap (λ t. eqb (get_or (b ∷ []) t 0 / 2 ^ ((0 + i) % 8) % 2) 1) r))
