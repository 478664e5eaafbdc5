-- bits of a list of bytes: parts, a bit pushed, and the bytes beyond
use Rattle.std.proofs.Common.{◌≡◌, ℕ, ◌+◌, ◌/◌, ◌%◌, ◌^◌, ◌<◌, ◌≤◌, Bool, true, false, cond, eqb, ◌≢◌, List, [], ◌∷◌, ◌++◌, length, get_or, set, sym, refl, ap, ◌∙◌, subst, ⊎_elim, arith}
use Rattle.std.proofs.lemmas.List.{get_or-set_same, get_or-set_other}
use Rattle.std.proofs.lemmas.List.FromFn.{length-map-range_with_len, map-range_with_len_more}
use Rattle.std.proofs.lemmas.Bool.{cases_eq}
use Rattle.bitmap.specs.Bitmaps.{bit_at, bits, Tidy, part}
use Rattle.bitmap.proofs.Runs.{counted_same}
use Rattle.bitmap.proofs.Bytes.{topped, topped_low, topped_top, topped_below}

pub length_bits : (n : ℕ) (bs : List ℕ) → length (bits n bs) ≡ n
length_bits n bs = length-map-range_with_len (bit_at bs) 0 n

pub length_part : (offset n : ℕ) (bs : List ℕ) → length (part offset n bs) ≡ n
length_part offset n bs = length-map-range_with_len (bit_at bs) offset n

pub bits_more : (n : ℕ) (bs : List ℕ) → bits (n + 1) bs ≡ bits n bs ++ bit_at bs n ∷ []
bits_more n bs = map-range_with_len_more (bit_at bs) 0 n n (omega arith)

-- bits that agree one by one are the same bits
pub bits_same : (n : ℕ) (bs cs : List ℕ) → ((i : ℕ) → i < n → bit_at bs i ≡ bit_at cs i) → bits n bs ≡ bits n cs
bits_same n bs cs e = counted_same (bit_at bs) (bit_at cs) n e

-- the bytes after a push
abbrev pub pushed : List ℕ → ℕ → Bool → List ℕ
pushed bs n v = set bs (n / 8) (topped (get_or bs (n / 8) 0) (n % 8) v)

pub bit_kept : (bs : List ℕ) (n i : ℕ) (v : Bool) → n / 8 < length bs → i < n → bit_at (pushed bs n v) i ≡ bit_at bs i
bit_kept bs n i v w h = ⊎_elim
    (λ e. let l : i % 8 < n % 8 = omega arith in
    ap (λ t. eqb (t / 2 ^ (i % 8) % 2) 1) (ap (λ t. get_or (pushed bs n v) t 0) e ∙ get_or-set_same bs (n / 8) (topped (get_or bs (n / 8) 0) (n % 8) v) 0 w)
    ∙ ap (λ t. eqb t 1) (topped_low (get_or bs (n / 8) 0) (n % 8) (i % 8) v l)
    ∙ ap (λ t. eqb (get_or bs t 0 / 2 ^ (i % 8) % 2) 1) (sym e))
    (λ ne. ap (λ t. eqb (t / 2 ^ (i % 8) % 2) 1) (get_or-set_other bs (n / 8) (i / 8) (topped (get_or bs (n / 8) 0) (n % 8) v) 0 ne))
    (cases_eq (i / 8) (n / 8))

bit_is : (v : Bool) → eqb (cond v 1 0) 1 ≡ v
bit_is true = refl
bit_is false = refl

pub bit_new : (bs : List ℕ) (n : ℕ) (v : Bool) → n / 8 < length bs → bit_at (pushed bs n v) n ≡ v
bit_new bs n v w =
    ap (λ t. eqb (t / 2 ^ (n % 8) % 2) 1) (get_or-set_same bs (n / 8) (topped (get_or bs (n / 8) 0) (n % 8) v) 0 w)
    ∙ ap (λ t. eqb t 1) (topped_top (get_or bs (n / 8) 0) (n % 8) v) ∙ bit_is v

pub bits_pushed : (bs : List ℕ) (n : ℕ) (v : Bool) → n / 8 < length bs → bits (n + 1) (pushed bs n v) ≡ bits n bs ++ v ∷ []
bits_pushed bs n v w =
    bits_more n (pushed bs n v)
    ∙ ap (λ t. t ++ bit_at (pushed bs n v) n ∷ []) (bits_same n (pushed bs n v) bs (λ i h. bit_kept bs n i v w h))
    ∙ ap (λ t. bits n bs ++ t ∷ []) (bit_new bs n v w)

pub tidy_pushed : (bs : List ℕ) (n : ℕ) (v : Bool) → n / 8 < length bs → Tidy (n + 1) (pushed bs n v)
tidy_pushed bs n v w h =
    let p : (n + 1) / 8 ≡ n / 8 = omega arith in
    let q : n % 8 + 1 ≡ (n + 1) % 8 = omega arith in
    let b = topped_below (get_or bs (n / 8) 0) (n % 8) v in
    subst (λ t. t < 2 ^ ((n + 1) % 8)) (sym (ap (λ t. get_or (pushed bs n v) t 0) p ∙ get_or-set_same bs (n / 8) (topped (get_or bs (n / 8) 0) (n % 8) v) 0 w)) (subst (λ t. topped (get_or bs (n / 8) 0) (n % 8) v < 2 ^ t) q b)

-- a byte that is set leaves those beyond the bits that reach into it
pub beyond_set : (bs : List ℕ) (n m k b : ℕ) → n < m → (m + 7) / 8 ≤ k → get_or (set bs (n / 8) b) k 0 ≡ get_or bs k 0
beyond_set bs n m k b l h =
    let ne : k ≢ n / 8 = λ e. omega arith in
    get_or-set_other bs (n / 8) k b 0 ne

-- a byte beyond more bits is beyond fewer
pub beyond_fewer : (u v k : ℕ) → u ≤ v → (v + 7) / 8 ≤ k → (u + 7) / 8 ≤ k
beyond_fewer u v k l h = omega arith
