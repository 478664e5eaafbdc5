-- A piece on, in the rows of a page.
use Rattle.std.proofs.Common.{◌≡◌, ℕ, suc, ◌+◌, ◌-◌, ◌<◌, ◌≤◌, Bool, List, [], ◌∷◌, ◌++◌, length, take, drop, sym, ap, ◌∙◌, arith, length-append, length-drop}
use Rattle.std.proofs.lemmas.List.{append_assoc, take-append-drop, take_at, drop_at, length-take-le}

pub take_past : {X : Type 0} (p q : List X) (k : ℕ) → take (length p + k) (p ++ q) ≡ p ++ take k q
take_past [] q k = let z : 0 + k ≡ k = omega arith in ap (λ n. take n q) z
take_past {X} (x ∷ p) q k = let e : suc (length p) + k ≡ suc (length p + k) = omega arith in ap (λ n. take n (x ∷ (p ++ q))) e ∙ ap {B = List X} (λ t. x ∷ t) (take_past p q k)

module _ (F xs ys : List Bool) (done limit : ℕ) (is : xs ++ ys ≡ drop done F) (some : done ≤ length F) (most : done + length xs ≤ limit) where
  whole : F ≡ (take done F ++ xs) ++ ys
  whole = sym (append_assoc (take done F) xs ys ∙ ap (λ t. take done F ++ t) is ∙ take-append-drop done F)

  size : length (take done F ++ xs) ≡ done + length xs
  size = length-append (take done F) xs ∙ ap (λ n. n + length xs) (length-take-le done F some)

  pub more_taken : take (done + length xs) F ≡ take done F ++ xs
  more_taken = ap (take (done + length xs)) whole ∙ take_at (take done F ++ xs) ys (done + length xs) size

  pub more_dropped : ys ≡ drop (done + length xs) F
  more_dropped = sym (ap (drop (done + length xs)) whole ∙ drop_at (take done F ++ xs) ys (done + length xs) size)

  pub all_rows : take limit F ≡ take done F ++ (xs ++ take (limit - (done + length xs)) ys)
  all_rows =
      let d : limit ≡ length (take done F ++ xs) + (limit - (done + length xs)) = omega (arith, size) in
      ap (take limit) whole ∙ ap (λ n. take n ((take done F ++ xs) ++ ys)) d ∙ take_past (take done F ++ xs) ys (limit - (done + length xs)) ∙ append_assoc (take done F) xs (take (limit - (done + length xs)) ys)

pub not_ended : (F : List Bool) (done limit : ℕ) → [] ≡ drop done F → done < limit → limit ≤ length F → ⊥
not_ended F done limit e h l = let z : 0 ≡ length F - done = ap length e ∙ length-drop done F in omega arith

-- the measure of a loop over pieces
pub falls : (limit done k m m' : ℕ) → done < limit → (limit - done - k) + m' < (limit - done) + m → k ≤ limit - done → (limit - (done + k)) + m' < (limit - done) + m
falls limit done k m m' h l w = omega arith

-- the bits after some rows
pub bits_then : (old F now : List Bool) (done : ℕ) → done ≤ length F → now ≡ old ++ take done F → length now ≡ length old + done
bits_then old F now done h e = ap length e ∙ length-append old (take done F) ∙ ap (λ n. length old + n) (length-take-le done F h)
