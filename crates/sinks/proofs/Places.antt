-- Bits by their number, in a bitmap of n bits.
use Rattle.std.proofs.Common.{◌≡◌, ℕ, zero, suc, Bool, true, cond, ltb, List, [], ◌∷◌, map, slice_get, Some, None, unwrap_or, sym, refl, ap, ◌∙◌, ⊎_elim, zero-add}
use Rattle.std.specs.List.{range_with_len}
use Rattle.std.specs.Option.{option_map}
use Rattle.std.proofs.lemmas.List.FromFn.{get_or-map-range_with_len, length-map-range_with_len}
use Rattle.std.proofs.lemmas.Option.{slice_get-get_or, slice_get_past}
use Rattle.std.proofs.lemmas.Bool.{cases_lt, lt-ltb, le-ltb}
use Rattle.values.specs.Values.{bit_at, flag, a_flag, seen_at}
use Rattle.sinks.specs.Fixed.{flags}
use Rattle.sinks.proofs.Rows.{seen_listed}

bit_is : (bs : List Bool) (i : ℕ) → unwrap_or (slice_get bs i) true ≡ bit_at bs i
bit_is [] i = refl
bit_is (b ∷ bs) zero = refl
bit_is (b ∷ bs) (suc i) = bit_is bs i

module _ (f : ℕ → Bool) (n i : ℕ) where
  bit_listed : cond (ltb i n) (Some (f i)) None ≡ slice_get (map f (range_with_len 0 n)) i
  bit_listed = ⊎_elim
      (λ h. ap (λ t. cond t (Some (f i)) None) (lt-ltb i n h)
      ∙ ap Some (sym (get_or-map-range_with_len f 0 n i i (f i) h (zero-add i)))
      ∙ sym (slice_get-get_or (map f (range_with_len 0 n)) i (f i) (rw (length-map-range_with_len f 0 n) h)))
      (λ h. ap (λ t. cond t (Some (f i)) None) (le-ltb i n h) ∙ sym (slice_get_past (map f (range_with_len 0 n)) i (rw (length-map-range_with_len f 0 n) h)))
      (cases_lt i n)

  -- at or past the end a bit is 1
  pub bit_read : unwrap_or (cond (ltb i n) (Some (f i)) None) true ≡ bit_at (map f (range_with_len 0 n)) i
  bit_read = ap (λ o. unwrap_or o true) bit_listed ∙ bit_is (map f (range_with_len 0 n)) i

  -- a flag is seen as its bit
  pub seen_bit : option_map a_flag (cond (ltb i n) (Some (f i)) None) ≡ seen_at 0 (flags (map f (range_with_len 0 n))) i
  seen_bit = ap (option_map a_flag) bit_listed ∙ seen_listed flag a_flag (λ _ _. refl) 0 (map f (range_with_len 0 n)) i
