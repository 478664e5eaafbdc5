-- Laws of weights and counts.
use Rattle.std.proofs.Common.{◌≡◌, ℕ, zero, suc, ◌+◌, ◌-◌, ◌<◌, ◌≤◌, Bool, true, false, leb, List, [], ◌∷◌, ◌++◌, length, take, drop, Some, None, Option, sym, refl, ap, ◌∙◌, ⊎_elim, arith}
use mir.Val.{bool_byte}
use Rattle.std.proofs.lemmas.Bool.Decides.{leb_tells}
use Rattle.std.proofs.lemmas.Bool.{le-leb, lt-leb}
use Rattle.pages.specs.Delivered.{first, others}
use Rattle.values.specs.Values.{Value, weight, weights}
use Rattle.holders.specs.Judge.{needed}
use Rattle.holders.specs.Filled.{filled}
use Rattle.sinks.proofs.Rows.{weights_append}
use Rattle.holders.proofs.Filling.{needed_append}

pub take_first : (vs : List Value) (i : ℕ) (x : Value) → Some x ≡ first (drop i vs) → take (i + 1) vs ≡ take i vs ++ (x ∷ [])
take_first [] zero x e = absurd (grind arith)
take_first [] (suc i) x e = absurd (grind arith)
take_first (v ∷ vs) zero x e = let d : x ≡ v = cc in ap {B = List Value} (λ t. t ∷ []) (sym d)
take_first (v ∷ vs) (suc i) x e = let s : suc i + 1 ≡ suc (i + 1) = omega arith in ap (λ n. take n (v ∷ vs)) s ∙ ap {B = List Value} (λ t. v ∷ t) (take_first vs i x e)

pub drop_first : (vs : List Value) (i : ℕ) → others (drop i vs) ≡ drop (i + 1) vs
drop_first [] zero = refl
drop_first [] (suc i) = let s : suc i + 1 ≡ suc (i + 1) = omega arith in ap (λ n. drop n []) (sym s)
drop_first (v ∷ vs) zero = refl
drop_first (v ∷ vs) (suc i) = let s : suc i + 1 ≡ suc (i + 1) = omega arith in drop_first vs i ∙ ap (λ n. drop n (v ∷ vs)) (sym s)

pub some_left : (vs : List Value) (i : ℕ) → ◌≡◌ {A = Option Value} None (first (drop i vs)) → length vs ≤ i
some_left [] i e = omega arith
some_left (v ∷ vs) zero e = absurd (grind arith)
some_left (v ∷ vs) (suc i) e = omega (arith, some_left vs i e)

pub weights_mono : (vs : List Value) (j n : ℕ) → j ≤ n → weights (take j vs) ≤ weights (take n vs)
weights_mono vs zero n h = omega arith
weights_mono vs (suc j) zero h = absurd (omega arith)
weights_mono [] (suc j) (suc n) h = omega arith
weights_mono (v ∷ vs) (suc j) (suc n) h = omega (arith, weights_mono vs j n (omega arith))

module _ (vs : List Value) (i : ℕ) (x : Value) (is : Some x ≡ first (drop i vs)) (most spare : ℕ) (inv : weights (take i vs) + spare ≡ most) where
  one_weight : weights (take (i + 1) vs) ≡ weights (take i vs) + weight x
  one_weight = ap weights (take_first vs i x is) ∙ weights_append (take i vs) (x ∷ []) ∙ omega arith

  pub weigh_on : (k : ℕ) → k ≡ weight x → k ≤ spare → weights (take (i + 1) vs) + (spare - k) ≡ most
  weigh_on k e h = omega (arith, one_weight)

  pub weigh_out : (k n : ℕ) → k ≡ weight x → spare < k → i < n → false ≡ leb (weights (take n vs)) most
  weigh_out k n e h l = sym (lt-leb (weights (take n vs)) most (omega (arith, one_weight, weights_mono vs (i + 1) n (omega arith))))

pub needed_byte : (xs ys : List Bool) (b : Bool) (count i : ℕ) → ys ≡ xs ++ (b ∷ []) → count ≡ needed xs → count ≤ i → (count + bool_byte b ≡ needed ys) × (count + bool_byte b ≤ i + 1)
needed_byte xs ys b count i e c h = (ap (λ n. n + bool_byte b) c ∙ sym (ap needed e ∙ needed_append xs (b ∷ []) ∙ ap (λ n. needed xs + n) (one b)), omega (arith, most b))
  where
    one : (t : Bool) → needed (t ∷ []) ≡ bool_byte t
    one true = refl
    one false = refl

    most : (t : Bool) → bool_byte t ≤ 1
    most true = omega arith
    most false = omega arith

-- stand-ins weigh nothing
pub filled_weight : (b : Value) (bs : List Bool) (vs : List Value) → weight b ≡ 0 → needed bs ≤ length vs → weights (filled b bs vs) ≡ weights (take (needed bs) vs)
filled_weight b [] vs l h = refl
filled_weight b (true ∷ bs) [] l h = absurd (omega arith)
filled_weight b (true ∷ bs) (v ∷ vs) l h = ap (λ n. weight v + n) (filled_weight b bs vs l (omega arith))
filled_weight b (false ∷ bs) vs l h = omega (arith, filled_weight b bs vs l h)

pub leb_same : (a b c d : ℕ) → a + b ≡ c → d ≡ c → (w : ℕ) → leb (a + w) d ≡ leb w b
leb_same a b c d e f w = ⊎_elim (λ p. le-leb (a + w) d (omega (arith, p.1)) ∙ sym p.0) (λ p. lt-leb (a + w) d (omega (arith, p.1)) ∙ sym p.0) (leb_tells w b)
