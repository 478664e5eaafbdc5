-- Laws of bits and their appends.
use Rattle.std.proofs.Common.{◌≡◌, ℕ, zero, suc, ◌+◌, ◌*◌, ◌^◌, ◌<◌, ◌≤◌, Bool, true, false, cond, leb, List, [], ◌∷◌, ◌++◌, length, take, drop, replicate, is_ok, sym, refl, ap, ◌∙◌, arith}
use Rattle.std.proofs.lemmas.Bool.{le-leb}
use Rattle.bitmap.specs.Bitmaps.{part, capacity, bit_at}
use Rattle.bitmap.specs.Refusals.{sliced}
use Rattle.hybrid_rle.specs.Rows.{bits}
use Rattle.values.specs.Values.{Value, Room, fits, joined}
use Rattle.holders.specs.Judge.{needed}
use Rattle.holders.specs.Filled.{filled, Able}

pub part_bits : (bs : List ℕ) (at n : ℕ) → part at n bs ≡ bits bs at n
part_bits bs at zero = refl
part_bits bs at (suc n) = ap {B = List Bool} (λ t. bit_at bs at ∷ t) (part_bits bs (at + 1) n)

pub sliced_ok : (bytes room used offset n : ℕ) → offset + n ≤ 8 * bytes → offset + n < 2 ^ 64 → used + n ≤ room → is_ok (sliced (capacity bytes) room used offset n) ≡ true
sliced_ok bytes room used offset n h k l =
    let a : leb (offset + n) (capacity bytes) ≡ true = le-leb _ _ (omega arith) in
    let b : leb (used + n) room ≡ true = le-leb _ _ l in
    rw (a, b) refl

pub filled_nulls : (b : Value) (n : ℕ) (vs : List Value) → filled b (replicate n false) vs ≡ replicate n b
filled_nulls b zero vs = refl
filled_nulls b (suc n) vs = ap {B = List Value} (λ t. b ∷ t) (filled_nulls b n vs)

pub needed_nulls : (n : ℕ) → needed (replicate n false) ≡ 0
needed_nulls zero = refl
needed_nulls (suc n) = needed_nulls n

pub filled_values : (b : Value) (n : ℕ) (vs : List Value) → n ≤ length vs → filled b (replicate n true) vs ≡ take n vs
filled_values b zero vs h = refl
filled_values b (suc n) [] h = absurd (omega arith)
filled_values b (suc n) (v ∷ vs) h = ap {B = List Value} (λ t. v ∷ t) (filled_values b n vs (omega arith))

pub needed_values : (n : ℕ) → needed (replicate n true) ≡ n
needed_values zero = refl
needed_values (suc n) = ap suc (needed_values n)

-- room for values, as room for a run of present rows, and back
pub able_values : (r : Room) (its vs : List Value) (n : ℕ) → n ≤ length vs → fits r (its ++ take n vs) ≡ true → Able r its (replicate n true) vs
able_values r its vs n h f = (omega (arith, needed_values n), ap (λ t. fits r (its ++ t)) (filled_values r.blank n vs h) ∙ f)

pub values_able : (r : Room) (its : List Value) (xs : List Bool) (vs : List Value) (n : ℕ) → xs ≡ replicate n true → Able r its xs vs → (n ≤ length vs) × (needed xs ≡ n) × (filled r.blank xs vs ≡ take n vs)
values_able r its xs vs n e able =
    let k : needed xs ≡ n = ap needed e ∙ needed_values n in
    let h : n ≤ length vs = omega (arith, able.0) in
    (h, k, ap (λ t. filled r.blank t vs) e ∙ filled_values r.blank n vs h)

-- stand-ins appended, where there is room for a run of null rows
pub nulls_appended : (r : Room) (its its' : List Value) (xs : List Bool) (vs : List Value) (n : ℕ) → xs ≡ replicate n false → Able r its xs vs → its' ≡ joined r its (replicate n r.blank) → (its' ≡ its ++ filled r.blank xs vs) × (vs ≡ drop (needed xs) vs)
nulls_appended r its its' xs vs n e able j =
    let b = r.blank in
    let f : filled b xs vs ≡ replicate n b = ap (λ t. filled b t vs) e ∙ filled_nulls b n vs in
    let t : fits r (its ++ replicate n b) ≡ true = ap (λ l. fits r (its ++ l)) (sym f) ∙ able.1 in
    (j ∙ ap (λ c. cond c (its ++ replicate n b) its) t ∙ ap (λ l. its ++ l) (sym f), sym (ap (λ l. drop (needed l) vs) e ∙ ap (λ k. drop k vs) (needed_nulls n)))
