-- A bitmap as a column of flags.
use Rattle.std.proofs.Common.{◌≡◌, ℕ, ◌+◌, Bool, false, cond, leb, List, ◌++◌, length, Result, Ok, Err, is_ok, OnOk, OnErr, refl, ap, ◌∙◌}
use Rattle.std.proofs.lemmas.List.{length-map}
use Rattle.bitmap.specs.Appends.{Appends}
use Rattle.bitmap.specs.Bitmaps.{bits, capacity}
use Rattle.bitmap.specs.declared.mutable.MutableBitmap.{MutableBitmap}
use Rattle.bitmap.proofs.Laws.{length_bits}
use Rattle.values.specs.Values.{Value, fits, joined, flag, weights}
use Rattle.sinks.specs.Fixed.{of_rows, flags}
use Rattle.sinks.specs.Fits.{weights_free}
use Rattle.sinks.proofs.Rows.{grown}

pub length_flags : (n : ℕ) (bytes : List ℕ) → length (flags (bits n bytes)) ≡ n
length_flags n bytes = length-map (bits n bytes) flag ∙ length_bits n bytes

pub weights_flags : (bs : List Bool) → weights (flags bs) ≡ 0
weights_flags bs = weights_free flag (λ _. refl) bs

-- what an append to a bitmap says, as what a sink says
module _ {E : Type 0} (r : Result (Unit {0}) E) (old new : MutableBitmap) (xs : List Bool) (appended : OnOk r (Appends old new xs)) (kept : OnErr r (new ≡ old)) where
  abbrev was : List Bool
  was = bits old.used old.buffer.now

  left : bits new.used new.buffer.now ≡ cond (is_ok r) (was ++ xs) was
  left = elim r as (λ q. OnOk q (Appends old new xs) → OnErr q (new ≡ old) → bits new.used new.buffer.now ≡ cond (is_ok q) (was ++ xs) was) [
    | Ok _ ↦ λ a _. a.items
    | Err _ ↦ λ _ k. ap (λ b. bits b.used b.buffer.now) k
  ] appended kept

  abbrev room : ℕ
  room = capacity (length old.buffer.now)

  pub flags_grown : (k : ℕ) (vs : List Value) → length xs ≡ k → flags xs ≡ vs → is_ok r ≡ leb (old.used + k) room → (is_ok r ≡ fits (of_rows room (flag false)) (flags was ++ vs)) × (flags (bits new.used new.buffer.now) ≡ joined (of_rows room (flag false)) (flags was) vs)
  flags_grown k vs l v a = grown flag (λ _. refl) room old.used k (flag false) was xs (bits new.used new.buffer.now) vs (is_ok r) (length_bits old.used old.buffer.now) l v a left
