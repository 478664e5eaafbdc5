-- Values that stand after their lengths.
use Rattle.std.proofs.Common.{◌≡◌, ℕ, suc, ◌+◌, ◌-◌, ◌<◌, List, is_some, Some, None, Option, sym, refl, arith}
use Rattle.holders.specs.Judge.{put, counted, arrays_in}

pub some_put : {A : Type 0} (x : A) (o : Option (List A)) → is_some (put x o) ≡ is_some o
some_put x (Some xs) = refl
some_put x None = refl

module _ (n i : ℕ) (bs : List ℕ) (small : i < n) where
  more : n - i ≡ suc (n - (i + 1))
  more = omega arith

  pub arrays_more : (v after : List ℕ) → Some (v, after) ≡ counted bs → is_some (arrays_in (n - i) bs) ≡ is_some (arrays_in (n - (i + 1)) after)
  arrays_more v after e = rw (more, sym e) (some_put v (arrays_in (n - (i + 1)) after))
