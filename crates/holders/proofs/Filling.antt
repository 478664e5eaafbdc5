-- Laws of rows filled in.
use Rattle.std.proofs.Common.{◌≡◌, ℕ, zero, suc, ◌+◌, ◌-◌, ◌<◌, ◌≤◌, Bool, true, false, List, [], ◌∷◌, ◌++◌, length, drop, replicate, sym, refl, ap, ◌∙◌, subst, zero-add, arith, length-drop}
use Rattle.std.proofs.lemmas.List.{append_assoc, drop-drop, replicate-append-replicate}
use Rattle.hybrid_rle.specs.Rows.{bits, present as row}
use Rattle.hybrid_rle.specs.Runs.{bit}
use Rattle.values.specs.Values.{Value, Room, fits}
use Rattle.sinks.proofs.Rooms.{fits_front}
use Rattle.holders.specs.Judge.{needed}
use Rattle.holders.specs.Filled.{filled, Able}

pub needed_append : (xs ys : List Bool) → needed (xs ++ ys) ≡ needed xs + needed ys
needed_append [] ys = sym (zero-add (needed ys))
needed_append (true ∷ xs) ys = omega (arith, needed_append xs ys)
needed_append (false ∷ xs) ys = needed_append xs ys

-- rows of two stretches: the second takes its values after the first
pub filled_append : (b : Value) (xs ys : List Bool) (vs : List Value) → needed xs ≤ length vs → filled b (xs ++ ys) vs ≡ filled b xs vs ++ filled b ys (drop (needed xs) vs)
filled_append b [] ys vs h = refl
filled_append b (true ∷ xs) ys [] h = absurd (omega arith)
filled_append b (true ∷ xs) ys (v ∷ vs) h = ap {B = List Value} (λ t. v ∷ t) (filled_append b xs ys vs (omega arith))
filled_append b (false ∷ xs) ys vs h = ap {B = List Value} (λ t. b ∷ t) (filled_append b xs ys vs h)

module _ (r : Room) (its : List Value) (xs ys : List Bool) (vs : List Value) (able : Able r its (xs ++ ys) vs) where
  abbrev b : Value
  b = r.blank

  enough : needed xs ≤ length vs
  enough = omega (arith, able.0, needed_append xs ys)

  pub able_front : Able r its xs vs
  able_front = (enough, fits_front r (its ++ filled b xs vs) (filled b ys (drop (needed xs) vs)) (ap (fits r) (append_assoc its (filled b xs vs) (filled b ys (drop (needed xs) vs)) ∙ ap (λ t. its ++ t) (sym (filled_append b xs ys vs enough))) ∙ able.1))

  -- after the first stretch there are values and room for the second
  pub able_back : (its' vs' : List Value) → its' ≡ its ++ filled b xs vs → vs' ≡ drop (needed xs) vs → Able r its' ys vs'
  able_back its' vs' e f = (
    omega (arith, able.0, needed_append xs ys, ap length f, length-drop (needed xs) vs),
    ap (fits r) (ap (λ t. t ++ filled b ys vs') e ∙ ap (λ t. (its ++ filled b xs vs) ++ filled b ys t) f ∙ append_assoc its (filled b xs vs) (filled b ys (drop (needed xs) vs)) ∙ ap (λ t. its ++ t) (sym (filled_append b xs ys vs enough))) ∙ able.1,
  )

  -- the two stretches together
  pub grown : (its₁ vs₁ its₂ vs₂ : List Value) → its₁ ≡ its ++ filled b xs vs → vs₁ ≡ drop (needed xs) vs → its₂ ≡ its₁ ++ filled b ys vs₁ → vs₂ ≡ drop (needed ys) vs₁ → (its₂ ≡ its ++ filled b (xs ++ ys) vs) × (vs₂ ≡ drop (needed (xs ++ ys)) vs)
  grown its₁ vs₁ its₂ vs₂ e f e₂ f₂ = (
    e₂ ∙ ap (λ t. t ++ filled b ys vs₁) e ∙ ap (λ t. (its ++ filled b xs vs) ++ filled b ys t) f ∙ append_assoc its (filled b xs vs) (filled b ys (drop (needed xs) vs)) ∙ ap (λ t. its ++ t) (sym (filled_append b xs ys vs enough)),
    f₂ ∙ ap (drop (needed ys)) f ∙ drop-drop (needed ys) (needed xs) vs ∙ ap (λ k. drop k vs) (omega (arith, needed_append xs ys)),
  )

-- a stretch in the midst of all rows
module _ (r : Room) (its : List Value) (all xs ys zs : List Bool) (vs : List Value) (is : all ≡ xs ++ (ys ++ zs)) (able : Able r its all vs) where
  able_all : Able r its (xs ++ (ys ++ zs)) vs
  able_all = subst (λ t. Able r its t vs) is able

  pub mid_able : (r' : Room) (its' vs' : List Value) → r' ≡ r → its' ≡ its ++ filled r.blank xs vs → vs' ≡ drop (needed xs) vs → Able r' its' ys vs'
  mid_able r' its' vs' d e f = subst (λ t. Able t its' ys vs') (sym d) (able_front r its' ys zs vs' (able_back r its xs (ys ++ zs) vs able_all its' vs' e f))

  pub mid_grown : (r' : Room) (next : List Bool) (its₁ vs₁ its₂ vs₂ : List Value) → r' ≡ r → next ≡ xs ++ ys → its₁ ≡ its ++ filled r.blank xs vs → vs₁ ≡ drop (needed xs) vs → its₂ ≡ its₁ ++ filled r'.blank ys vs₁ → vs₂ ≡ drop (needed ys) vs₁ → (its₂ ≡ its ++ filled r.blank next vs) × (vs₂ ≡ drop (needed next) vs)
  mid_grown r' next its₁ vs₁ its₂ vs₂ d n e f e₂ f₂ =
      let a = subst (λ t. Able r its t vs) (sym (append_assoc xs ys zs)) able_all in
      let g = grown r its xs ys vs (able_front r its (xs ++ ys) zs vs a) its₁ vs₁ its₂ vs₂ e f (e₂ ∙ ap (λ t. its₁ ++ filled t.blank ys vs₁) d) f₂ in
      (g.0 ∙ ap (λ t. its ++ filled r.blank t vs) (sym n), g.1 ∙ ap (λ t. drop (needed t) vs) (sym n))

pub split_same : (n i : ℕ) → i < n → replicate n true ≡ replicate i true ++ ((true ∷ []) ++ replicate (n - (i + 1)) true)
split_same n i h = let d : i + suc (n - (i + 1)) ≡ n = omega arith in sym (replicate-append-replicate i (suc (n - (i + 1))) true ∙ ap (λ k. replicate k true) d)

pub bits_append : (bs : List ℕ) (at i k : ℕ) → bits bs at (i + k) ≡ bits bs at i ++ bits bs (at + i) k
bits_append bs at zero k = let z : at + 0 ≡ at = omega arith in let y : 0 + k ≡ k = omega arith in rw (z, y) refl
bits_append bs at (suc i) k =
    let e : suc i + k ≡ suc (i + k) = omega arith in
    let d : at + suc i ≡ at + 1 + i = omega arith in
    rw (e, d) (ap {B = List Bool} (λ t. row (bit bs at) ∷ t) (bits_append bs (at + 1) i k))

pub bits_one : (bs : List ℕ) (at i : ℕ) (p : Bool) → p ≡ row (bit bs (at + i)) → bits bs at (i + 1) ≡ bits bs at i ++ (p ∷ [])
bits_one bs at i p e = bits_append bs at i 1 ∙ ap (λ t. bits bs at i ++ (t ∷ [])) (sym e)

pub split_bits : (bs : List ℕ) (at n i : ℕ) (p : Bool) → i < n → p ≡ row (bit bs (at + i)) → bits bs at n ≡ bits bs at i ++ ((p ∷ []) ++ bits bs (at + i + 1) (n - (i + 1)))
split_bits bs at n i p h e =
    let d : n ≡ i + suc (n - (i + 1)) = omega arith in
    ap (bits bs at) d ∙ bits_append bs at i (suc (n - (i + 1))) ∙ ap (λ t. bits bs at i ++ (t ∷ bits bs (at + i + 1) (n - (i + 1)))) (sym e)
