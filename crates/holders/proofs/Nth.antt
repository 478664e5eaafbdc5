-- One value among those that there are.
use Rattle.std.proofs.Common.{◌≡◌, ℕ, zero, suc, ◌+◌, ◌-◌, ◌*◌, ◌<◌, Bool, true, false, cond, eqb, List, length, take, drop, is_some, Some, None, Option, sym, refl, ap, ◌∙◌, suc-mul, zero-mul, arith}
use Rattle.std.specs.List.{slice_get}
use Rattle.std.proofs.lemmas.List.{drop-drop}
use Rattle.holders.specs.Judge.{put, parts, counted, arrays_in, fixed}
use Rattle.holders.specs.Entries.{nth_in}

opened : (x : List ℕ) (o : Option (List (List ℕ))) → is_some (put x o) ≡ true → (is_some o ≡ true) × ((j : ℕ) → nth_in (put x o) (suc j) ≡ nth_in o j) × (nth_in (put x o) 0 ≡ Some x)
opened x (Some xs) h = (refl, λ j. refl, refl)
opened x None h = absurd (grind arith)

module _ (n i k : ℕ) (bs : List ℕ) (small : i < n) (fits : is_some (arrays_in (n - k) bs) ≡ true) where
  pub step_on : k < i → (v after : List ℕ) → Some (v, after) ≡ counted bs → (is_some (arrays_in (n - (k + 1)) after) ≡ true) × (nth_in (arrays_in (n - (k + 1)) after) (i - (k + 1)) ≡ nth_in (arrays_in (n - k) bs) (i - k))
  step_on l v after e =
      let m : n - k ≡ suc (n - (k + 1)) = omega arith in
      let j : i - k ≡ suc (i - (k + 1)) = omega arith in
      let a : arrays_in (n - k) bs ≡ put v (arrays_in (n - (k + 1)) after) = rw (m, sym e) refl in
      let o = opened v (arrays_in (n - (k + 1)) after) (ap is_some (sym a) ∙ fits) in
      (o.0, sym (ap (λ x. nth_in x (i - k)) a ∙ ap (nth_in (put v (arrays_in (n - (k + 1)) after))) j ∙ o.1 (i - (k + 1))))

nth_parts : (w n i : ℕ) (bs : List ℕ) → i < n → slice_get (parts w n bs) i ≡ Some (take w (drop (i * w) bs))
nth_parts w zero i bs h = absurd (omega arith)
nth_parts w (suc n) zero bs h = let z : 0 * w ≡ 0 = zero-mul w in rw z refl
nth_parts w (suc n) (suc i) bs h =
    let d : drop (i * w) (drop w bs) ≡ drop (w + i * w) bs = drop-drop (i * w) w bs in
    let s : w + i * w ≡ suc i * w = omega (arith, suc-mul i w) in
    nth_parts w n i (drop w bs) (omega arith) ∙ ap (λ x. Some (take w x)) (d ∙ ap (λ k. drop k bs) s)

-- an element of w bytes
pub part_there : (w n i : ℕ) (bs : List ℕ) → is_some (fixed w false n bs) ≡ true → i < n → Some (take w (drop (i * w) bs)) ≡ nth_in (fixed w false n bs) i
part_there w n i bs h l = go (eqb (length bs) (n * w)) h
  where
    go : (t : Bool) → is_some (cond t (Some (parts w n bs)) None) ≡ true → Some (take w (drop (i * w) bs)) ≡ nth_in (cond t (Some (parts w n bs)) None) i
    go true s = sym (nth_parts w n i bs l)
    go false s = absurd (grind arith)
