-- Lists of values, and what appends to them say.
use Rattle.std.proofs.Common.{◌≡◌, ℕ, zero, suc, ◌+◌, ◌<◌, ◌≤◌, Bool, true, false, cond, leb, List, [], ◌∷◌, ◌++◌, map, length, get_or, slice_get, take, replicate, ℤ, pos, Bor, Option, Some, None, sym, refl, ap, ◌∙◌, add-zero, add_assoc, zero-add, arith, length-append}
use Rattle.std.specs.Option.{option_map, option_copied}
use Rattle.std.specs.Slice.{IsItemAt}
use Rattle.std.proofs.lemmas.Option.{slice_get-get_or, slice_get_past}
use Rattle.std.proofs.lemmas.List.{map-append, length-map, length-take-le}
use Rattle.values.specs.Values.{Value, fits, joined, weight, weights, number, bytes, Seen, seen_as, seen_at}
use Rattle.sinks.specs.Fixed.{of_rows, numbers}
use Rattle.sinks.specs.Fits.{weights_free}

pub weights_append : (xs ys : List Value) → weights (xs ++ ys) ≡ weights xs + weights ys
weights_append [] ys = sym (zero-add (weights ys))
weights_append (x ∷ xs) ys = ap (λ n. weight x + n) (weights_append xs ys) ∙ sym (add_assoc (weight x) (weights xs) (weights ys))

pub map_replicate : {X Y : Type 0} (f : X → Y) (n : ℕ) (x : X) → map f (replicate n x) ≡ replicate n (f x)
map_replicate f zero x = refl
map_replicate f (suc n) x = ap (λ t. f x ∷ t) (map_replicate f n x)

-- nulls take no bytes
pub weights_blank : (n : ℕ) → weights (replicate n (bytes [])) ≡ 0
weights_blank zero = refl
weights_blank (suc n) = zero-add (weights (replicate n (bytes []))) ∙ weights_blank n

-- value i is seen at the bytes after those of the values before it
pub seen_within : (p : ℕ) (vs : List Value) (i : ℕ) (d : Value) → i < length vs → seen_at p vs i ≡ Some (seen_as (p + weights (take i vs)) (get_or vs i d))
seen_within p [] i d h = absurd (omega arith)
seen_within p (v ∷ vs) zero d h = ap (λ t. Some (seen_as t v)) (sym (add-zero p))
seen_within p (v ∷ vs) (suc i) d h = seen_within (p + weight v) vs i d (omega arith) ∙ ap (λ t. Some (seen_as t (get_or vs i d))) (add_assoc p (weight v) (weights (take i vs)))

-- a look at element i of a slice, copied
pub get_copied : {X : Type 0} (xs : List X) (i : ℕ) (r : Option (Bor X)) → IsItemAt xs i r → option_copied r ≡ slice_get xs i
get_copied xs i None h = sym (slice_get_past xs i h.3)
get_copied xs i (Some x) h = ap Some h.1 ∙ sym (slice_get-get_or xs i x.now h.3.0)

-- values that take no bytes are seen as themselves
pub seen_listed : {X : Type 0} (g : X → Value) (h : X → Seen) → ((p : ℕ) (x : X) → h x ≡ seen_as p (g x)) → (p : ℕ) (xs : List X) (i : ℕ) → option_map h (slice_get xs i) ≡ seen_at p (map g xs) i
seen_listed g h same p [] i = refl
seen_listed g h same p (x ∷ xs) zero = ap Some (same p x)
seen_listed g h same p (x ∷ xs) (suc i) = seen_listed g h same (p + weight (g x)) xs i

pub seen_past : (p : ℕ) (vs : List Value) (i : ℕ) → length vs ≤ i → seen_at p vs i ≡ None
seen_past p [] i h = refl
seen_past p (v ∷ vs) zero h = absurd (omega arith)
seen_past p (v ∷ vs) (suc i) h = seen_past (p + weight v) vs i (omega arith)

-- values that take no bytes: what an append of k to the u that are there says, as what a sink says
module _ {X : Type 0} (g : X → Value) (free : (x : X) → weight (g x) ≡ 0) (n u k : ℕ) (b : Value) (xs ys zs : List X) (vs : List Value) (ok : Bool) where
  both : (a : Bool) → cond a (leb 0 0) false ≡ a
  both true = refl
  both false = refl

  fits_rows : fits (of_rows n b) (map g xs ++ map g ys) ≡ leb (length xs + length ys) n
  fits_rows =
      ap (fits (of_rows n b)) (sym (map-append g xs ys))
      ∙ ap (λ t. cond (leb t n) (leb (weights (map g (xs ++ ys))) 0) false) (length-map (xs ++ ys) g ∙ length-append xs ys)
      ∙ ap (λ t. cond (leb (length xs + length ys) n) (leb t 0) false) (weights_free g free (xs ++ ys))
      ∙ both (leb (length xs + length ys) n)

  spread : (a : Bool) → map g (cond a (xs ++ ys) xs) ≡ cond a (map g xs ++ map g ys) (map g xs)
  spread true = map-append g xs ys
  spread false = refl

  pub grown : length xs ≡ u → length ys ≡ k → map g ys ≡ vs → ok ≡ leb (u + k) n → zs ≡ cond ok (xs ++ ys) xs → (ok ≡ fits (of_rows n b) (map g xs ++ vs)) × (map g zs ≡ joined (of_rows n b) (map g xs) vs)
  grown lu lk v a e =
      let f : ok ≡ fits (of_rows n b) (map g xs ++ vs) = a ∙ ap (λ t. leb (t + k) n) (sym lu) ∙ ap (λ t. leb (length xs + t) n) (sym lk) ∙ sym fits_rows ∙ ap (λ t. fits (of_rows n b) (map g xs ++ t)) v in
      (f, ap (map g) e ∙ spread ok ∙ ap (λ t. cond ok (map g xs ++ t) (map g xs)) v ∙ ap (λ t. cond t (map g xs ++ vs) (map g xs)) f)

pub weights_numbers : {X : Type 0} (f : X → ℤ) (xs : List X) → weights (numbers f xs) ≡ 0
weights_numbers f xs = weights_free (λ x. number (f x)) (λ _. refl) xs

-- the same of numbers in the first u places of a memory
pub numbers_grown : {X : Type 0} (f : X → ℤ) (m : List X) (u k : ℕ) (ys zs : List X) (vs : List Value) (ok : Bool) → u ≤ length m → length ys ≡ k → numbers f ys ≡ vs → ok ≡ leb (u + k) (length m) → zs ≡ cond ok (take u m ++ ys) (take u m) → (ok ≡ fits (of_rows (length m) (number (pos 0))) (numbers f (take u m) ++ vs)) × (numbers f zs ≡ joined (of_rows (length m) (number (pos 0))) (numbers f (take u m)) vs)
numbers_grown f m u k ys zs vs ok h = grown (λ x. number (f x)) (λ _. refl) (length m) u k (number (pos 0)) (take u m) ys zs vs ok (length-take-le u m h)

-- n more elements z, which stand for 0
pub zeros : {X : Type 0} (f : X → ℤ) (n : ℕ) (z : X) → f z ≡ pos 0 → numbers f (replicate n z) ≡ replicate n (number (pos 0))
zeros f n z e = map_replicate (λ x. number (f x)) n z ∙ ap (λ t. replicate n (number t)) e
