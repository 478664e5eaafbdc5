-- When bytes are the number 0.
use Rattle.std.proofs.Common.{◌≡◌, ℕ, ◌+◌, ◌*◌, Bool, true, false, ◌&&◌, eqb, List, [], ◌∷◌, sym, refl, ◌∙◌, arith, eqb-true, eq-eqb, ne_eqb}
use Rattle.std.specs.List.{list_all}
use Rattle.std.proofs.lemmas.Bool.Decides.{nat_tests}
use Rattle.values.specs.Little.{little}

front_zero : (b m : ℕ) → b ≡ 0 → eqb (b + 256 * m) 0 ≡ eqb m 0
front_zero b m e = grind (arith, nat_tests)

zero_front : (b : ℕ) (bs : List ℕ) → b ≡ 0 → eqb (little (b ∷ bs)) 0 ≡ eqb (little bs) 0
zero_front b bs e = front_zero b (little bs) e

more_front : (b : ℕ) (bs : List ℕ) → (b ≡ 0 → ⊥) → eqb (little (b ∷ bs)) 0 ≡ false
more_front b bs ne = ne_eqb (b + 256 * little bs) 0 (λ e. ne (omega arith))

pub zero_all : (bs : List ℕ) → list_all (λ b. eqb b 0) bs ≡ eqb (little bs) 0
zero_all [] = refl
zero_all (b ∷ bs) = go (zero_all bs) (eqb b 0) refl
  where
    go : list_all (λ b. eqb b 0) bs ≡ eqb (little bs) 0 → (t : Bool) → eqb b 0 ≡ t → (t && list_all (λ b. eqb b 0) bs) ≡ eqb (little (b ∷ bs)) 0
    go rest true e = rest ∙ sym (zero_front b bs (eqb-true _ _ e))
    go rest false e = sym (more_front b bs (λ z. let t : eqb b 0 ≡ true = eq-eqb _ _ z in absurd (grind arith)))
