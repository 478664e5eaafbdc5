-- the values of a function at numbers that follow one another
use Rattle.std.proofs.Common.{◌≡◌, ℕ, zero, suc, ◌+◌, ◌<◌, ◌∷◌, ◌++◌, map, sym, refl, ap, ◌∙◌, add-zero, zero-add, arith}
use Rattle.std.specs.List.{range_with_len}

pub map_counting_append : {X : Type 0} (f : ℕ → X) (a m n : ℕ) → map f (range_with_len a (m + n)) ≡ map f (range_with_len a m) ++ map f (range_with_len (a + m) n)
map_counting_append f a zero n = ap (λ t. map f (range_with_len a t)) (zero-add n) ∙ ap (λ t. map f (range_with_len t n)) (sym (add-zero a))
map_counting_append f a (suc m) n =
    let p : suc m + n ≡ suc (m + n) = omega arith in
    let q : a + 1 + m ≡ a + suc m = omega arith in
    ap (λ t. map f (range_with_len a t)) p ∙ ap (λ t. f a ∷ t) (map_counting_append f (a + 1) m n ∙ ap (λ t. map f (range_with_len (a + 1) m) ++ map f (range_with_len t n)) q)

-- runs that agree one by one
pub runs_same : {X : Type 0} (f g : ℕ → X) (a b n : ℕ) → ((i : ℕ) → i < n → f (a + i) ≡ g (b + i)) → map f (range_with_len a n) ≡ map g (range_with_len b n)
runs_same f g a b zero e = refl
runs_same f g a b (suc n) e =
    let p : a + 0 ≡ a = omega arith in
    let q : b + 0 ≡ b = omega arith in
    let first : f a ≡ g b = ap f (sym p) ∙ e 0 (omega arith) ∙ ap g q in
    ap (λ x. x ∷ map f (range_with_len (a + 1) n)) first
    ∙ ap (λ xs. g b ∷ xs) (runs_same f g (a + 1) (b + 1) n (λ i h.
    let r : a + 1 + i ≡ a + suc i = omega arith in
    let t : b + suc i ≡ b + 1 + i = omega arith in ap f r ∙ e (suc i) (omega arith) ∙ ap g t))

-- the same, where both are counted from 0
pub counted_same : {X : Type 0} (f g : ℕ → X) (n : ℕ) → ((i : ℕ) → i < n → f i ≡ g i) → map f (range_with_len 0 n) ≡ map g (range_with_len 0 n)
counted_same f g n e = runs_same f g 0 0 n (λ i h. ap f (zero-add i) ∙ e i h ∙ ap g (sym (zero-add i)))
