-- What a sink holds fits in it: the proofs that the sinks' ghost members are.
use Rattle.std.specs.Prelude.{◌≡◌, ℕ, zero, suc, ◌+◌, ◌-◌, ◌≤◌, true, false, List, [], ◌∷◌, map, length, take, drop, ℤ, pos, slice_index_or, refl}
use Rattle.std.proofs.Common.{ap, ◌∙◌, zero-add, add-zero, arith}
use Rattle.std.specs.List.{range_with_len}
use Rattle.std.proofs.lemmas.List.FromFn.{length-map-range_with_len}
use Rattle.std.proofs.lemmas.List.{length-map, length-take, length-drop, length-take-le}
use Rattle.std.proofs.lemmas.Bool.{le-leb}
use Rattle.bitmap.specs.Bitmaps.{bit_at, bits}
use Rattle.values.specs.Values.{Value, Room, fits, number, flag, bytes, weight, weights}
use Rattle.sinks.specs.Fixed.{of_rows, numbers, flags}
use Rattle.sinks.specs.Offsets.{place, mark, row, strings, Rising, row_room, byte_room, of_offsets}

-- few enough rows and bytes fit
pub fits_from : (r : Room) (vs : List Value) → length vs ≤ r.rows → weights vs ≤ r.bytes → fits r vs ≡ true
fits_from r vs h k = rw (le-leb (length vs) r.rows h, le-leb (weights vs) r.bytes k)

-- values that take no bytes
module _ {X : Type 0} (g : X → Value) (free : (x : X) → weight (g x) ≡ 0) where
  pub weights_free : (xs : List X) → weights (map g xs) ≡ 0
  weights_free [] = refl
  weights_free (x ∷ xs) = ap (λ w. w + weights (map g xs)) (free x) ∙ zero-add (weights (map g xs)) ∙ weights_free xs

  rows_fit : (n : ℕ) (b : Value) (xs : List X) → length xs ≤ n → fits (of_rows n b) (map g xs) ≡ true
  rows_fit n b xs h = fits_from (of_rows n b) (map g xs) (simp length-map h) (omega (arith, weights_free xs))

pub numbers_fit : {X : Type 0} (f : X → ℤ) (m : List X) (u : ℕ) → u ≤ length m → fits (of_rows (length m) (number (pos 0))) (numbers f (take u m)) ≡ true
numbers_fit f m u h = rows_fit (λ x. number (f x)) (λ _. refl) (length m) (number (pos 0)) (take u m) (rw (length-take-le u m h) h)

pub flags_fit : (n u : ℕ) (text : List ℕ) → u ≤ n → fits (of_rows n (flag false)) (flags (bits u text)) ≡ true
flags_fit n u text h = rows_fit flag (λ _. refl) n (flag false) (bits u text) (rw (length-map-range_with_len (bit_at text) 0 u) h)

-- rows of bytes
module _ (offsets : List ℤ) (text : List ℕ) where
  pub length_row : (i : ℕ) → mark offsets i ≤ mark offsets (i + 1) → mark offsets (i + 1) ≤ length text → length (row offsets text i) ≡ mark offsets (i + 1) - mark offsets i
  length_row i h k = length-take _ (drop (mark offsets i) text) ∙ simp length-drop (omega arith)

  -- rows a to e - 1 have the bytes from offsets[a] up to offsets[e]
  pub spans : (n a e : ℕ) → a + n ≡ e → Rising e offsets → mark offsets e ≤ length text → mark offsets a + weights (map (λ i. bytes (row offsets text i)) (range_with_len a n)) ≡ mark offsets e
  spans zero a e q r h = add-zero (mark offsets a) ∙ ap (mark offsets) (omega arith)
  spans (suc n) a e q r h =
      let rest = spans n (a + 1) e (omega arith) r h in
      let up = r a (omega arith) in
      let this = length_row a up (omega arith) in
      omega arith

  pub strings_fit : (n u : ℕ) → n ≤ row_room (length offsets) → u ≤ byte_room (length text) → slice_index_or offsets 0 (pos 0) ≡ pos 0 → slice_index_or offsets n (pos 0) ≡ pos u → Rising n offsets → fits (of_offsets (length offsets) (length text)) (strings n offsets text) ≡ true
  strings_fit n u h k first last r =
      let z : mark offsets 0 ≡ 0 = ap place first in
      let e : mark offsets n ≡ u = ap place last in
      let all = spans n 0 n (zero-add n) r (omega arith) in
      fits_from (of_offsets (length offsets) (length text)) (strings n offsets text) (simp length-map-range_with_len h) (omega arith)
